-- What stays where one owner is linked after the other.
use Rattle.std.proofs.Common.{◌≡◌, ◌≢◌, ◌∙◌, ◌+◌, ◌<◌, ℕ, List, [], ◌∷◌, Some, refl, sym, subst, arith, ⊎_elim}
use Rattle.std.specs.List.{slice_get}
use Rattle.std.proofs.lemmas.Bool.{cases_eq}
use Rattle.std.proofs.lemmas.Option.{same_Some}
use Rattle.flow_types.specs.declared.record.Flow.{Flow}
use Rattle.turn_relay.specs.Each.{AllFrom, Each, Every}
use Rattle.turn_relay.specs.Finish.{IsQuietAt}
use Rattle.turn_relay.specs.Linking.{AreFresh, HasMoreEnds, KeepsOthers, KeepsTurns}
use Rattle.turn_relay.specs.OwnerState.{OwnerState}
use Rattle.turn_relay.specs.PartState.{ApplierState, PartState}
use Rattle.turn_relay.proofs.Phases.{others_fresh}
use Rattle.turn_relay.proofs.Runs.{each_length, each_self, each_trans}
use Rattle.cluster_storm.specs.Ending.{KeepsBefore}
use Rattle.cluster_storm.specs.Opening.{CanBeLinked, KeepsTables}
use Rattle.cluster_storm.proofs.Finishings.{before_all, each_weaker, first_is, others_numbered, quiet_on}

-- ---- the same tables and FIBs

tables_self : (applier : ApplierState) → KeepsTables applier applier
tables_self applier = record { node = refl; parts = λ place now there. (now, there, record { table = refl; fib = refl }) }

tables_trans : (first between last : ApplierState) → KeepsTables first between → KeepsTables between last → KeepsTables first last
tables_trans first between last a b = record {
  node = b.node ∙ a.node;
  parts = λ place now there.
      let (middle, middle_there, on) = b.parts place now there in
      let (was, was_there, before) = a.parts place middle middle_there in
      (was, was_there, record { table = on.table ∙ before.table; fib = on.fib ∙ before.fib });
}

module _ (number : ℕ) where
  tables_one : (before after : ApplierState) → KeepsOthers number before after → KeepsTables before after
  tables_one before after (same_node, changes) = record { node = same_node; parts = at }
    where
      at : (place : ℕ) (now : PartState) → slice_get after.parts place ≡ Some now → (was : PartState) × (slice_get before.parts place ≡ Some was) × KeepsTurns was now
      at place now there =
          ⊎_elim
          (λ (same : place ≡ number).
          let is : changes.changed ≡ now = same_Some changes.changed now (sym changes.then ∙ subst (λ (p : ℕ). slice_get after.parts p ≡ Some now) same there) in
          (changes.element, subst (λ (p : ℕ). slice_get before.parts p ≡ Some changes.element) (sym same) changes.there, subst (KeepsTurns changes.element) is changes.holds))
          (λ (away : place ≢ number). (now, sym (changes.others place away) ∙ there, record { table = refl; fib = refl }))
          (cases_eq place number)

  before_one : (before after : ApplierState) → KeepsOthers number before after → KeepsBefore number before after
  before_one before after (same_node, changes) = (same_node, λ place low. changes.others place (λ same. absurd (omega (arith, low, same))))

-- ---- the owners after it

module _ (flows : List Flow) (number : ℕ) where
  still_fresh : (owner : OwnerState) → owner.number ≢ number → (first : ℕ) (before after : List ApplierState) → Each (KeepsOthers number) before after
      → AreFresh flows owner first before → AreFresh flows owner first after
  still_fresh owner away first [] [] did fresh = tt
  still_fresh owner away first [] (y ∷ ys) did fresh = absurd did
  still_fresh owner away first (x ∷ xs) [] did fresh = absurd did
  still_fresh owner away first (x ∷ xs) (y ∷ ys) did fresh =
      (others_fresh flows owner number away first x y fresh.0 did.0, still_fresh owner away (first + 1) xs ys did.1 fresh.1)

  module _ (before after : List ApplierState) (did : Each (KeepsOthers number) before after) where
    can_one : (owner : OwnerState) → owner.number ≢ number → CanBeLinked flows before owner → CanBeLinked flows after owner
    can_one owner away can = record {
      unlinked = can.unlinked;
      new = can.new;
      some = can.some;
      nodes = each_length (KeepsOthers number) before after did ∙ can.nodes;
      fresh = still_fresh owner away 0 before after did can.fresh;
    }

    pub still_can : (from : ℕ) (owners : List OwnerState) → number < from → AllFrom (λ (n : ℕ) (owner : OwnerState). owner.number ≡ n) from owners
        → Every (CanBeLinked flows before) owners → Every (CanBeLinked flows after) owners
    still_can from [] low numbered can = tt
    still_can from (owner ∷ owners) low numbered can = (
      can_one owner (λ same. let at = numbered.0 in absurd (omega (arith, low, same, at))) can.0,
      still_can (from + 1) owners (omega (arith, low)) numbered.1 can.1,
    )

-- ---- one after the other

pub tables_all : (appliers : List ApplierState) → Each KeepsTables appliers appliers
tables_all appliers = each_self KeepsTables tables_self appliers

-- where an owner is the first of these, and then the others are linked
module _ (flows : List Flow) (first : ℕ) (owners : List OwnerState) (owner : OwnerState) (others : List OwnerState) (split : owners ≡ owner ∷ others)
    (numbered : AllFrom (λ (n : ℕ) (o : OwnerState). o.number ≡ n) first owners) (before : List ApplierState) (can : Every (CanBeLinked flows before) owners) where
  pub first_can : CanBeLinked flows before owner
  first_can = let both : Every (CanBeLinked flows before) (owner ∷ others) = subst (Every (CanBeLinked flows before)) split can in both.0

  pub rest_numbered : AllFrom (λ (n : ℕ) (o : OwnerState). o.number ≡ n) (first + 1) others
  rest_numbered = others_numbered first owners owner others split numbered

  number_is : owner.number ≡ first
  number_is = first_is first owners owner others split numbered

  module _ (between : List ApplierState) (did : Each (KeepsOthers owner.number) before between) where
    pub others_can : Every (CanBeLinked flows between) others
    others_can =
        let both : Every (CanBeLinked flows before) (owner ∷ others) = subst (Every (CanBeLinked flows before)) split can in
        let is = number_is in
        still_can flows owner.number before between did (first + 1) others (omega (arith, is)) rest_numbered both.1

    pub tables_on : (after : List ApplierState) → Each KeepsTables between after → Each KeepsTables before after
    tables_on after more =
        each_trans KeepsTables tables_trans before between after (each_weaker (KeepsOthers owner.number) KeepsTables (tables_one owner.number) before between did) more

    pub before_on : (after : List ApplierState) → Each (KeepsBefore (first + 1)) between after → Each (KeepsBefore first) before after
    before_on after more =
        each_trans (KeepsBefore first) (λ x y z p q. (q.0 ∙ p.0, λ place low. q.1 place low ∙ p.1 place low)) before between after
        (subst (λ (n : ℕ). Each (KeepsBefore n) before between) number_is (each_weaker (KeepsOthers owner.number) (KeepsBefore owner.number) (before_one owner.number) before between did))
        (each_weaker (KeepsBefore (first + 1)) (KeepsBefore first) (λ x y p. (p.0, λ place low. p.1 place (omega (arith, low)))) between after more)

    -- the first owner's parts stay quiet after the others
    pub quiet_all : (linked : OwnerState) → HasMoreEnds owner linked → (linked_others : List OwnerState) (after : List ApplierState) → Every (IsQuietAt flows linked) between
        → Each (KeepsBefore (first + 1)) between after → Every (λ (o : OwnerState). Every (IsQuietAt flows o) after) linked_others
        → Every (λ (o : OwnerState). Every (IsQuietAt flows o) after) (linked ∷ linked_others)
    quiet_all linked more linked_others after rests keeps rest =
        let same : linked.number ≡ owner.number = (λ i. (more.after_is i).number) in
        (quiet_on flows linked first (same ∙ number_is) between after rests keeps, rest)

pub ruleset linkings = (tables_all, before_all, tables_on, before_on)
