-- What is left to read of an address, octet by octet.
use Rattle.std.proofs.Common.{◌≡◌, ℕ, ◌+◌, ◌-◌, ◌*◌, ◌<◌, ◌≤◌, zero, suc, Bool, true, false, List, [], ◌∷◌, length, get_or, drop, drop-cons, add-one, Option, Some, None, refl, ap, ◌∙◌, arith}
use Rattle.std.proofs.lemmas.Bool.Decides.{nat_tests}
use Rattle.std.proofs.lemmas.List.{drop_all}
use Rattle.std.proofs.lemmas.List.Splits.{slice_split-cons_no, slice_split-cons_yes}
use Rattle.std.specs.List.{slice_split, onto_first}
use Rattle.flow_types.specs.Octet.{octet_with}
use Rattle.flow_types.specs.Text.{address_of_octets, address_value, is_dot, number_value, with_octet}

-- the address of these octets before it and of the parts, where this number of dots is left; the first part follows the digits so far
unfoldable pub parts_say : ℕ → Option ℕ → Option ℕ → List (List ℕ) → Option ℕ
parts_say dots upper octet [] = None
parts_say zero upper octet (part ∷ []) = with_octet upper (octet_with octet part)
parts_say zero upper octet (part ∷ next ∷ parts) = None
parts_say (suc dots) upper octet (part ∷ parts) = parts_say dots (with_octet upper (octet_with octet part)) None parts

nothing : (octet : Option ℕ) → with_octet octet None ≡ None
nothing None = refl
nothing (Some upper) = refl

-- without octets before it there is none
no_upper : (dots : ℕ) (octet : Option ℕ) (parts : List (List ℕ)) → parts_say dots None octet parts ≡ None
unfolding parts_say
no_upper dots octet [] = refl
no_upper zero octet (part ∷ []) = refl
no_upper zero octet (part ∷ next ∷ parts) = refl
no_upper (suc dots) octet (part ∷ parts) = no_upper dots None parts

-- nor with a part that is no octet
no_octet : (dots : ℕ) (upper octet : Option ℕ) (part : List ℕ) (parts : List (List ℕ)) → octet_with octet part ≡ None → parts_say dots upper octet (part ∷ parts) ≡ None
unfolding parts_say
no_octet zero upper octet part [] h = rw h (nothing upper)
no_octet zero upper octet part (next ∷ parts) h = refl
no_octet (suc dots) upper octet part parts h = rw (h, nothing upper) (no_upper dots None parts)

-- a part with other digits before it that says the same
same_octet : (dots : ℕ) (upper octet other : Option ℕ) (part rest : List ℕ) (parts : List (List ℕ)) → octet_with octet part ≡ octet_with other rest
    → parts_say dots upper octet (part ∷ parts) ≡ parts_say dots upper other (rest ∷ parts)
unfolding parts_say
same_octet zero upper octet other part rest [] h = rw h refl
same_octet zero upper octet other part rest (next ∷ parts) h = refl
same_octet (suc dots) upper octet other part rest parts h = rw h refl

-- no octet stands before the first
first_octet : (octet : Option ℕ) → with_octet (Some 0) octet ≡ octet
first_octet None = refl
first_octet (Some n) = ap Some (omega arith)

from_parts : (parts : List (List ℕ)) → parts_say 3 (Some 0) None parts ≡ address_of_octets parts
unfolding parts_say octet_with
from_parts [] = refl
from_parts (a ∷ []) = refl
from_parts (a ∷ b ∷ []) = refl
from_parts (a ∷ b ∷ c ∷ []) = refl
from_parts (a ∷ b ∷ c ∷ d ∷ []) = rw (first_octet (number_value 255 a)) refl
from_parts (a ∷ b ∷ c ∷ d ∷ e ∷ parts) = refl

-- what the text says after this
unfoldable pub text_says : ℕ → ℕ → Option ℕ → List ℕ → Option ℕ
text_says dots upper octet text = parts_say dots (Some upper) octet (slice_split is_dot text)

pub from_the_start : (text : List ℕ) → text_says 3 0 None text ≡ address_value text
unfolding text_says address_value
from_the_start text = from_parts (slice_split is_dot text)

-- at the end
text_ends : (upper : ℕ) (octet : Option ℕ) → text_says 0 upper octet [] ≡ with_octet (Some upper) (octet_with octet [])
unfolding text_says parts_say
text_ends upper octet = refl

text_ends_early : (dots upper : ℕ) (octet : Option ℕ) → text_says (suc dots) upper octet [] ≡ None
unfolding text_says parts_say
text_ends_early dots upper octet = refl

-- a text has a part
parted : (text : List ℕ) → (part : List ℕ) × (parts : List (List ℕ)) × (slice_split is_dot text ≡ part ∷ parts)
parted [] = ([], [], refl)
parted (c ∷ cs) = by (is_dot c) refl (parted cs)
  where
    by : (b : Bool) → is_dot c ≡ b → ((part : List ℕ) × (parts : List (List ℕ)) × (slice_split is_dot cs ≡ part ∷ parts))
        → (part : List ℕ) × (parts : List (List ℕ)) × (slice_split is_dot (c ∷ cs) ≡ part ∷ parts)
    by true h rest = ([], slice_split is_dot cs, slice_split-cons_yes is_dot c cs h)
    by false h (part, parts, is) = (c ∷ part, parts, slice_split-cons_no is_dot c cs h ∙ ap (onto_first c) is)

-- at a dot
at_dot : (dots upper : ℕ) (octet : Option ℕ) (c : ℕ) (cs : List ℕ) → is_dot c ≡ true
    → parts_say (suc dots) (Some upper) octet (slice_split is_dot (c ∷ cs)) ≡ parts_say dots (with_octet (Some upper) (octet_with octet [])) None (slice_split is_dot cs)
unfolding parts_say
at_dot dots upper octet c cs h = rw (slice_split-cons_yes is_dot c cs h) refl

at_dot_too_many : (upper : ℕ) (octet : Option ℕ) (c : ℕ) (cs : List ℕ) → is_dot c ≡ true → parts_say 0 (Some upper) octet (slice_split is_dot (c ∷ cs)) ≡ None
unfolding parts_say
at_dot_too_many upper octet c cs h = by (parted cs)
  where
    by : ((part : List ℕ) × (parts : List (List ℕ)) × (slice_split is_dot cs ≡ part ∷ parts)) → parts_say 0 (Some upper) octet (slice_split is_dot (c ∷ cs)) ≡ None
    by (part, parts, is) = rw (slice_split-cons_yes is_dot c cs h, is) refl

eq_dot : (c : ℕ) → c ≡ 46 → is_dot c ≡ true
eq_dot c h = grind (arith, nat_tests)

no_eq_dot : (c : ℕ) → ¬ (c ≡ 46) → is_dot c ≡ false
no_eq_dot c h = grind (arith, nat_tests)

an_octet : (n : ℕ) → n ≤ 255 → octet_with (Some n) [] ≡ Some n
unfolding octet_with
an_octet n h = grind (arith, nat_tests)

without_digits : octet_with None [] ≡ None
unfolding octet_with number_value
without_digits = refl

module _ (dots upper : ℕ) (octet : Option ℕ) (i : ℕ) (text : List ℕ) where
  module _ (within : i < length text) where
    from_here : text_says dots upper octet (drop i text) ≡ text_says dots upper octet (get_or text i 0 ∷ drop (suc i) text)
    from_here = ap (text_says dots upper octet) (drop-cons text i 0 within)

    -- another character than a dot
    pub digit_read : ¬ (get_or text i 0 ≡ 46) → (more : ℕ) → ((cs : List ℕ) → octet_with octet (get_or text i 0 ∷ cs) ≡ octet_with (Some more) cs)
        → text_says dots upper octet (drop i text) ≡ text_says dots upper (Some more) (drop (i + 1) text)
    unfolding text_says
    digit_read h more same = rw add-one (from_here ∙ rw (slice_split-cons_no is_dot (get_or text i 0) (drop (suc i) text) (no_eq_dot _ h)) (by (parted (drop (suc i) text))))
      where
        by : ((part : List ℕ) × (parts : List (List ℕ)) × (slice_split is_dot (drop (suc i) text) ≡ part ∷ parts))
            → parts_say dots (Some upper) octet (onto_first (get_or text i 0) (slice_split is_dot (drop (suc i) text))) ≡ parts_say dots (Some upper) (Some more) (slice_split is_dot (drop (suc i) text))
        by (part, parts, is) = rw is (same_octet dots (Some upper) octet (Some more) (get_or text i 0 ∷ part) part parts (same part))

    -- one that makes no octet
    pub digit_refused : ¬ (get_or text i 0 ≡ 46) → ((cs : List ℕ) → octet_with octet (get_or text i 0 ∷ cs) ≡ None) → text_says dots upper octet (drop i text) ≡ None
    unfolding text_says
    digit_refused h refused = from_here ∙ rw (slice_split-cons_no is_dot (get_or text i 0) (drop (suc i) text) (no_eq_dot _ h)) (by (parted (drop (suc i) text)))
      where
        by : ((part : List ℕ) × (parts : List (List ℕ)) × (slice_split is_dot (drop (suc i) text) ≡ part ∷ parts))
            → parts_say dots (Some upper) octet (onto_first (get_or text i 0) (slice_split is_dot (drop (suc i) text))) ≡ None
        by (part, parts, is) = rw is (no_octet dots (Some upper) octet (get_or text i 0 ∷ part) parts (refused part))

  -- the end of the text, where dots are left
  pub ends_early : length text ≤ i → 0 < dots → text_says dots upper octet (drop i text) ≡ None
  ends_early past some = rw (drop_all i text past) (by dots some)
    where
      by : (n : ℕ) → 0 < n → text_says n upper octet [] ≡ None
      by zero h = absurd (omega arith)
      by (suc n) h = text_ends_early n upper octet

module _ (upper i : ℕ) (text : List ℕ) where
  -- a dot after an octet
  pub dot_read : (dots n : ℕ) → i < length text → get_or text i 0 ≡ 46 → 0 < dots → n ≤ 255
      → text_says dots upper (Some n) (drop i text) ≡ text_says (dots - 1) (upper * 256 + n) None (drop (i + 1) text)
  unfolding text_says
  dot_read zero n within h some small = absurd (omega arith)
  dot_read (suc dots) n within h some small =
      let fewer : suc dots - 1 ≡ dots = omega arith in
      rw (add-one, fewer)
      (from_here (suc dots) upper (Some n) i text within ∙ at_dot dots upper (Some n) (get_or text i 0) (drop (suc i) text) (eq_dot _ h)
      ∙ rw (an_octet n small) refl)

  -- a dot too many, and one without an octet before it
  pub dot_refused : (dots : ℕ) (octet : Option ℕ) → i < length text → get_or text i 0 ≡ 46 → dots ≡ 0 → text_says dots upper octet (drop i text) ≡ None
  unfolding text_says
  dot_refused dots octet within h none = rw none (from_here 0 upper octet i text within ∙ at_dot_too_many upper octet (get_or text i 0) (drop (suc i) text) (eq_dot _ h))

  pub dot_alone : (dots : ℕ) → i < length text → get_or text i 0 ≡ 46 → text_says dots upper None (drop i text) ≡ None
  unfolding text_says
  dot_alone dots within h =
      from_here dots upper None i text within
      ∙ rw (slice_split-cons_yes is_dot (get_or text i 0) (drop (suc i) text) (eq_dot _ h)) (no_octet dots (Some upper) None [] (slice_split is_dot (drop (suc i) text)) without_digits)

  -- the end of the text after the last dot
  pub octet_ends : (dots n : ℕ) → length text ≤ i → dots ≡ 0 → n ≤ 255 → text_says dots upper (Some n) (drop i text) ≡ Some (upper * 256 + n)
  octet_ends dots n past none small = rw (none, drop_all i text past) (text_ends upper (Some n) ∙ rw (an_octet n small) refl)

  pub ends_at_dot : (dots : ℕ) → length text ≤ i → dots ≡ 0 → text_says dots upper None (drop i text) ≡ None
  ends_at_dot dots past none = rw (none, drop_all i text past) (text_ends upper None ∙ rw without_digits refl)

-- how great the octets before can be where this number of dots is left
unfoldable pub bound : ℕ → ℕ
bound zero = 16777216
bound (suc zero) = 65536
bound (suc (suc zero)) = 256
bound (suc (suc (suc dots))) = 1

pub bounded : (dots upper : ℕ) → upper < bound dots → upper < 16777216
unfolding bound
bounded zero upper h = h
bounded (suc zero) upper h = omega arith
bounded (suc (suc zero)) upper h = omega arith
bounded (suc (suc (suc dots))) upper h = omega arith

pub bounded_more : (dots upper n : ℕ) → upper < bound dots → 0 < dots → dots ≤ 3 → n ≤ 255 → upper * 256 + n < bound (dots - 1)
unfolding bound
bounded_more zero upper n h some few small = absurd (omega arith)
bounded_more (suc zero) upper n h some few small = omega arith
bounded_more (suc (suc zero)) upper n h some few small = omega arith
bounded_more (suc (suc (suc zero))) upper n h some few small = omega arith
bounded_more (suc (suc (suc (suc dots)))) upper n h some few small = absurd (omega arith)

pub at_first : 0 < bound 3
unfolding bound
at_first = omega arith
