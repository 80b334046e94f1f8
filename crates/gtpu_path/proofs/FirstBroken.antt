-- The first broken rule.
use Rattle.std.proofs.Common.{◌≡◌, ◌⊎◌, inl, inr, Bool, true, false, if◌then◌else◌, List, [], ◌∷◌, ◌++◌, Option, None, Some, Err, refl, ap, ◌∙◌}
use Rattle.std.specs.Prelude.{◌↔◌, IsOk, IsErrOf, IfOk}
use Rattle.std.proofs.lemmas.List.Elements.{All-cons, All-head, All-nil, All-tail}
use Rattle.gtpu_path.specs.Rules.{Rule, rule, first_broken, unless_refused, AreMet, IsFirstBroken}

-- a rule is met
abbrev IsMet : {Refusal : Type 0} → Rule Refusal → Type 0
IsMet rule = rule.is_broken ≡ false

-- nothing is refused where this rule is met and no later one is broken
passed : {Refusal : Type 0} (is_broken : Bool) (why : Refusal) (later : Option Refusal)
    → (if is_broken then Some why else later) ≡ None → (is_broken ≡ false) × (later ≡ None)
passed true why later h = absurd cc
passed false why later h = (refl, h)

-- what is refused for is this rule, or a later one where this rule is met
stops : {Refusal : Type 0} (is_broken : Bool) (why : Refusal) (later : Option Refusal) (found : Refusal)
    → (if is_broken then Some why else later) ≡ Some found
    → ((is_broken ≡ true) × (Some why ≡ Some found)) ⊎ ((is_broken ≡ false) × (later ≡ Some found))
stops true why later found h = inl (refl, h)
stops false why later found h = inr (refl, h)

-- the rule that is broken and refuses so
abbrev why_or : {Refusal : Type 0} → Refusal → Option Refusal → Refusal
why_or other None = other
why_or other (Some why) = why

broken_rule : {Refusal : Type 0} (found : Rule Refusal) (why : Refusal) → found.is_broken ≡ true → Some found.why ≡ Some why → found ≡ rule true why
broken_rule found why broken same =
    let is_why : found.why ≡ why = ap (why_or why) same in
    ap (λ (b : Bool). rule b found.why) broken ∙ ap (rule true) is_why

pub none_broken : {Refusal : Type 0} (rules : List (Rule Refusal)) → first_broken rules ≡ None → AreMet rules
none_broken [] h = All-nil IsMet
none_broken (first ∷ rules) h =
    let parts = passed first.is_broken first.why (first_broken rules) h in
    All-cons IsMet first rules parts.0 (none_broken rules parts.1)

pub all_met : {Refusal : Type 0} (rules : List (Rule Refusal)) → AreMet rules → first_broken rules ≡ None
all_met [] h = refl
all_met (first ∷ rules) h = rw (All-head IsMet first rules h) (all_met rules (All-tail IsMet first rules h))

pub first_is : {Refusal : Type 0} (rules : List (Rule Refusal)) (why : Refusal) → first_broken rules ≡ Some why → IsFirstBroken rules why
first_is [] why h = absurd cc
first_is (first ∷ rules) why h =
    elim (stops first.is_broken first.why (first_broken rules) why h) [
      | inl here ↦ record {
        before = [];
        after = rules;
        split = ap (λ r. r ∷ rules) (broken_rule first why here.0 here.1);
        none_before = All-nil IsMet;
      }
      | inr later ↦
          let found = first_is rules why later.1 in
          record {
            before = first ∷ found.before;
            after = found.after;
            split = ap (◌∷◌ first) found.split;
            none_before = All-cons IsMet first found.before later.0 found.none_before;
          }
    ]

first_after : {Refusal : Type 0} (before after : List (Rule Refusal)) (why : Refusal) → AreMet before
    → first_broken (before ++ rule true why ∷ after) ≡ Some why
first_after [] after why h = refl
first_after (first ∷ before) after why h =
    rw (All-head IsMet first before h) (first_after before after why (All-tail IsMet first before h))

pub is_first : {Refusal : Type 0} (rules : List (Rule Refusal)) (why : Refusal) → IsFirstBroken rules why → first_broken rules ≡ Some why
is_first rules why found = ap first_broken found.split ∙ first_after found.before found.after why found.none_before

-- ---- what is read, or refused

none_where_ok : {Read Refusal : Type 0} (refused : Option Refusal) (read : Read) → IsOk (unless_refused refused read) → refused ≡ None
none_where_ok None read h = refl
none_where_ok (Some why) read h = absurd cc

some_where_err : {Read Refusal : Type 0} (refused : Option Refusal) (read : Read) (why : Refusal)
    → unless_refused refused read ≡ Err why → refused ≡ Some why
some_where_err None read why h = absurd cc
some_where_err (Some found) read why h = cc h

pub taken_exactly : {Read Refusal : Type 0} (rules : List (Rule Refusal)) (read : Read)
    → IsOk (unless_refused (first_broken rules) read) ↔ AreMet rules
taken_exactly rules read = (
  λ ok. none_broken rules (none_where_ok (first_broken rules) read ok),
  λ met. rw (all_met rules met) refl,
)

pub refused_exactly : {Read Refusal : Type 0} (rules : List (Rule Refusal)) (read : Read) (why : Refusal)
    → IsErrOf (unless_refused (first_broken rules) read) why ↔ IsFirstBroken rules why
refused_exactly rules read why = (
  λ err. first_is rules why (some_where_err (first_broken rules) read why err),
  λ found. rw (is_first rules why found) refl,
)

pub read_as : {Read Refusal : Type 0} (refused : Option Refusal) (read : Read) → IfOk (unless_refused refused read) (λ found. found ≡ read)
read_as None read = refl
read_as (Some why) read = tt

-- what follows of the rules holds of what is read
pub where_met : {Read Refusal : Type 0} (rules : List (Rule Refusal)) (read : Read) (P : Read → Type 0)
    → (AreMet rules → P read) → IfOk (unless_refused (first_broken rules) read) P
where_met rules read P holds = under (first_broken rules) read P (λ none. holds (none_broken rules none))
  where
    under : {Read Refusal : Type 0} (refused : Option Refusal) (read : Read) (P : Read → Type 0)
        → (refused ≡ None → P read) → IfOk (unless_refused refused read) P
    under None read P holds = holds refl
    under (Some why) read P holds = tt
