-- Records of a group in a list that grows, and beginnings of lists.
use Rattle.std.proofs.Common.{◌≡◌, ℕ, ◌+◌, ◌≤◌, ◌≢◌, ◌⊎◌, inl, inr, Bool, true, false, ◌&&◌, List, [], ◌∷◌, ◌++◌, length, get_or, if◌then◌else◌, eqb, eq-eqb, ne_eqb, refl, sym, ap, suc, ◌∙◌, arith, length-append, append-nil}
use mathlib.Core.List.{IsPrefix}
use mathlib.Core.Logic.{dite}
use native.Mathlib.Decide.{ℕ_discrete}
use lib.ListN.{get_or-append}
use lib.Seq.{get_or-append_seam}
use Rattle.group_search.specs.declared.published.Publication.{Publication}
use Rattle.group_search.specs.declared.record.GroupRecord.{GroupRecord}
use Rattle.group_search.specs.Home.{Home, is_home}
use Rattle.group_search.specs.Image.{Image}
use Rattle.group_search.specs.Published.{published_group, records_of, count, opening_record, record_at}

-- two groups are the same or not
pub one_home : (at other : Home) → at.block ≡ other.block → at.group ≡ other.group → at ≡ other
one_home at other b g = λ i. record { block = b i; group = g i }

pub same_home_or : (at other : Home) → (at ≡ other) ⊎ (at ≢ other)
same_home_or at other = dite (ℕ_discrete at.block other.block)
    (λ b. dite (ℕ_discrete at.group other.group) (λ g. inl (one_home at other b g)) (λ apart. inr (λ e. apart (ap (λ (h : Home). h.group) e))))
    (λ apart. inr (λ e. apart (ap (λ (h : Home). h.block) e)))

is_same : (at : Home) → is_home at at ≡ true
is_same at = (λ i. eq-eqb at.block at.block refl i && eqb at.group at.group) ∙ eq-eqb at.group at.group refl

pub is_home-same : (at other : Home) → at ≡ other → is_home at other ≡ true
is_home-same at other e = ap (λ (h : Home). is_home h other) e ∙ is_same other

and_false : (b : Bool) → (b && false) ≡ false
and_false true = refl
and_false false = refl

pub is_home-else : (at other : Home) → at ≢ other → is_home at other ≡ false
is_home-else at other apart = dite (ℕ_discrete at.block other.block)
    (λ b. ap (λ (t : Bool). eqb at.block other.block && t) (ne_eqb at.group other.group (λ g. apart (one_home at other b g))) ∙ and_false (eqb at.block other.block))
    (λ n. ap (λ (t : Bool). t && eqb at.group other.group) (ne_eqb at.block other.block n))

by_case : (b : Bool) (x : GroupRecord) (xs ys : List GroupRecord) → (if b then x ∷ (xs ++ ys) else (xs ++ ys)) ≡ (if b then x ∷ xs else xs) ++ ys
by_case true x xs ys = refl
by_case false x xs ys = refl

pub records_of-append : (ps qs : List Publication) (at : Home) → records_of (ps ++ qs) at ≡ records_of ps at ++ records_of qs at
records_of-append [] qs at = refl
records_of-append (p ∷ ps) qs at =
    ap (λ (l : List GroupRecord). if is_home (published_group p) at then p.content ∷ l else l) (records_of-append ps qs at) ∙ by_case (is_home (published_group p) at) p.content (records_of ps at) (records_of qs at)

module _ (ps : List Publication) (p : Publication) (at : Home) where
  pub records_here : published_group p ≡ at → records_of (ps ++ p ∷ []) at ≡ records_of ps at ++ p.content ∷ []
  records_here e = records_of-append ps (p ∷ []) at ∙ ap (λ (b : Bool). records_of ps at ++ (if b then p.content ∷ [] else [])) (is_home-same (published_group p) at e)

  pub records_else : published_group p ≢ at → records_of (ps ++ p ∷ []) at ≡ records_of ps at
  records_else n = records_of-append ps (p ∷ []) at ∙ (ap (λ (b : Bool). records_of ps at ++ (if b then p.content ∷ [] else [])) (is_home-else (published_group p) at n) ∙ append-nil (records_of ps at))

  pub count_here : published_group p ≡ at → count (ps ++ p ∷ []) at ≡ count ps at + 1
  count_here e = ap length (records_here e) ∙ length-append (records_of ps at) (p.content ∷ [])

  pub count_else : published_group p ≢ at → count (ps ++ p ∷ []) at ≡ count ps at
  count_else n = ap length (records_else n)

  -- the record just published is its group's latest
  pub latest_here : (images : List Image) → published_group p ≡ at → record_at images (ps ++ p ∷ []) at (count (ps ++ p ∷ []) at) ≡ p.content
  latest_here images e = let f : GroupRecord = opening_record images at in
      let n : count (ps ++ p ∷ []) at ≡ length (f ∷ records_of ps at) = count_here e ∙ omega arith in
      ap (λ (l : List GroupRecord). get_or (f ∷ l) (count (ps ++ p ∷ []) at) f) (records_here e)
      ∙ (ap (λ (k : ℕ). get_or (f ∷ (records_of ps at ++ p.content ∷ [])) k f) n ∙ get_or-append_seam (f ∷ records_of ps at) p.content [] f)

  pub latest_else : (images : List Image) → published_group p ≢ at → record_at images (ps ++ p ∷ []) at (count (ps ++ p ∷ []) at) ≡ record_at images ps at (count ps at)
  latest_else images n = let f : GroupRecord = opening_record images at in ap (λ (l : List GroupRecord). get_or (f ∷ l) (length l) f) (records_else n)

-- a version that the beginning has is the same in the whole
pub record_at-kept : (images : List Image) (short long : List Publication) (at : Home) (version : ℕ) → IsPrefix short long → version ≤ count short at → record_at images long at version ≡ record_at images short at version
record_at-kept images short long at version s le = let f : GroupRecord = opening_record images at in
    let l : records_of long at ≡ records_of short at ++ records_of s.0 at = ap (λ (ps : List Publication). records_of ps at) (sym s.1) ∙ records_of-append short s.0 at in
    ap (λ (l : List GroupRecord). get_or (f ∷ l) version f) l ∙ get_or-append (f ∷ records_of short at) (records_of s.0 at) f version (omega arith)

one_more : (b : Bool) (x : GroupRecord) (xs : List GroupRecord) (n : ℕ) → length xs ≤ n → length (if b then x ∷ xs else xs) ≤ suc n
one_more true x xs n le = omega arith
one_more false x xs n le = omega arith

pub count_within : (ps : List Publication) (at : Home) → count ps at ≤ length ps
count_within [] at = omega arith
count_within (p ∷ ps) at = one_more (is_home (published_group p) at) p.content (records_of ps at) (length ps) (count_within ps at)
