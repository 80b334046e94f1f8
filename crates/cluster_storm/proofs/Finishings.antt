-- What stays where one owner's links are emptied after the other's.
use Rattle.std.proofs.Common.{◌≡◌, ◌≢◌, ◌∙◌, ◌+◌, ◌<◌, ◌⊎◌, ℕ, Bool, List, [], ◌∷◌, Some, refl, sym, subst, arith, inl, inr, ⊎_elim}
use Rattle.std.specs.List.{slice_get}
use Rattle.std.proofs.lemmas.Bool.{cases_eq}
use Rattle.std.proofs.lemmas.Option.{same_Some}
use Rattle.flow_types.specs.declared.record.Flow.{Flow}
use Rattle.turn_relay.specs.Each.{AllFrom, Each, Every, HasAt}
use Rattle.turn_relay.specs.Finish.{Finishes, IsQuiet, IsQuietAt}
use Rattle.turn_relay.specs.Follow.{IsSamePart}
use Rattle.turn_relay.specs.OwnerState.{OwnerState}
use Rattle.turn_relay.specs.PartState.{ApplierState, PartState}
use Rattle.turn_relay.proofs.Phases.{others_quiet, others_ready, passed_on}
use Rattle.turn_relay.proofs.Runs.{each_self, each_trans, same_self, same_trans}
use Rattle.cluster_storm.specs.Ending.{Awaits, KeepsBefore, KeepsParts}

pub each_weaker : {A : Type 0} (R Q : A → A → Type 0) → ((x y : A) → R x y → Q x y) → (xs ys : List A) → Each R xs ys → Each Q xs ys
each_weaker R Q weaker [] [] each = tt
each_weaker R Q weaker [] (y ∷ ys) each = absurd each
each_weaker R Q weaker (x ∷ xs) [] each = absurd each
each_weaker R Q weaker (x ∷ xs) (y ∷ ys) each = (weaker x y each.0, each_weaker R Q weaker xs ys each.1)

-- ---- the same parts

parts_self : (applier : ApplierState) → KeepsParts applier applier
parts_self applier = record { node = refl; parts = λ place now there. (now, there, same_self now) }

parts_trans : (first between last : ApplierState) → KeepsParts first between → KeepsParts between last → KeepsParts first last
parts_trans first between last a b = record {
  node = b.node ∙ a.node;
  parts = λ place now there.
      let (middle, middle_there, on) = b.parts place now there in
      let (was, was_there, before) = a.parts place middle middle_there in
      (was, was_there, same_trans was middle now before on);
}

module _ (number : ℕ) where
  parts_one : (before after : ApplierState) → Finishes number before after → KeepsParts before after
  parts_one before after (same_node, changes) = record { node = same_node; parts = at }
    where
      at : (place : ℕ) (now : PartState) → slice_get after.parts place ≡ Some now → (was : PartState) × (slice_get before.parts place ≡ Some was) × IsSamePart was now
      at place now there =
          ⊎_elim
          (λ (same : place ≡ number).
          let is : changes.changed ≡ now = same_Some changes.changed now (sym changes.then ∙ subst (λ (p : ℕ). slice_get after.parts p ≡ Some now) same there) in
          (changes.element, subst (λ (p : ℕ). slice_get before.parts p ≡ Some changes.element) (sym same) changes.there, subst (IsSamePart changes.element) is changes.holds.same))
          (λ (away : place ≢ number). (now, sym (changes.others place away) ∙ there, same_self now))
          (cases_eq place number)

  before_one : (before after : ApplierState) → Finishes number before after → KeepsBefore number before after
  before_one before after (same_node, changes) = (same_node, λ place low. changes.others place (λ same. absurd (omega (arith, low, same))))

  module _ (before after : List ApplierState) where
    pub keeps_parts : (after ≡ before) ⊎ Each (Finishes number) before after → Each KeepsParts before after
    keeps_parts (inl same) = subst (Each KeepsParts before) (sym same) (each_self KeepsParts parts_self before)
    keeps_parts (inr each) = each_weaker (Finishes number) KeepsParts parts_one before after each

    pub keeps_before : (after ≡ before) ⊎ Each (Finishes number) before after → Each (KeepsBefore number) before after
    keeps_before (inl same) = subst (Each (KeepsBefore number) before) (sym same) (each_self (KeepsBefore number) (λ applier. (refl, λ place low. refl)) before)
    keeps_before (inr each) = each_weaker (Finishes number) (KeepsBefore number) before_one before after each

-- ---- the owners after it

module _ (flows : List Flow) (working : List Bool) (number : ℕ) (before after : List ApplierState) where
  awaits_one : (owner : OwnerState) → owner.number ≢ number → (after ≡ before) ⊎ Each (Finishes number) before after → Awaits flows working before owner → Awaits flows working after owner
  awaits_one owner away (inl same) awaits = subst (λ (all : List ApplierState). Awaits flows working all owner) (sym same) awaits
  awaits_one owner away (inr each) awaits = record {
    stands = awaits.stands;
    sent = awaits.sent;
    ready = λ is. others_ready flows owner number away before after (awaits.ready is) each;
    rests = λ is. others_quiet flows owner number away before after (awaits.rests is) each;
  }

  pub still_await : (from : ℕ) (owners : List OwnerState) → number < from → AllFrom (λ (n : ℕ) (owner : OwnerState). owner.number ≡ n) from owners
      → (after ≡ before) ⊎ Each (Finishes number) before after → Every (Awaits flows working before) owners → Every (Awaits flows working after) owners
  still_await from [] low numbered did awaits = tt
  still_await from (owner ∷ owners) low numbered did awaits = (
    awaits_one owner (λ same. let at = numbered.0 in absurd (omega (arith, low, same, at))) did awaits.0,
    still_await (from + 1) owners (omega (arith, low)) numbered.1 did awaits.1,
  )

-- ---- one after the other

pub parts_all : (appliers : List ApplierState) → Each KeepsParts appliers appliers
parts_all appliers = each_self KeepsParts parts_self appliers

pub before_all : (number : ℕ) (appliers : List ApplierState) → Each (KeepsBefore number) appliers appliers
before_all number appliers = each_self (KeepsBefore number) (λ applier. (refl, λ place low. refl)) appliers

module _ (number first : ℕ) (is : number ≡ first) (before between : List ApplierState) (did : (between ≡ before) ⊎ Each (Finishes number) before between) where
  pub first_before : Each (KeepsBefore first) before between
  first_before = subst (λ (n : ℕ). Each (KeepsBefore n) before between) is (keeps_before number before between did)

  pub others_await : (flows : List Flow) (working : List Bool) (owners : List OwnerState) (owner : OwnerState) (others : List OwnerState) → owners ≡ owner ∷ others
      → AllFrom (λ (n : ℕ) (owner : OwnerState). owner.number ≡ n) (first + 1) others → Every (Awaits flows working before) owners → Every (Awaits flows working between) others
  others_await flows working owners owner others split numbered awaits =
      still_await flows working number before between (first + 1) others (omega (arith, is)) numbered did (subst (Every (Awaits flows working before)) split awaits).1

  pub parts_on : (after : List ApplierState) → Each KeepsParts between after → Each KeepsParts before after
  parts_on after more = each_trans KeepsParts parts_trans before between after (keeps_parts number before between did) more

  pub before_on : (after : List ApplierState) → Each (KeepsBefore (first + 1)) between after → Each (KeepsBefore first) before after
  before_on after more =
      each_trans (KeepsBefore first) (λ x y z p q. (q.0 ∙ p.0, λ place low. q.1 place low ∙ p.1 place low)) before between after first_before
      (each_weaker (KeepsBefore (first + 1)) (KeepsBefore first) (λ x y p. (p.0, λ place low. p.1 place (omega (arith, low)))) between after more)

-- the first owner's parts stay quiet after the others
pub quiet_on : (flows : List Flow) (owner : OwnerState) (first : ℕ) → owner.number ≡ first → (between after : List ApplierState) → Every (IsQuietAt flows owner) between
    → Each (KeepsBefore (first + 1)) between after → Every (IsQuietAt flows owner) after
quiet_on flows owner first is between after rests keeps =
    passed_on (IsQuietAt flows owner) (KeepsBefore (first + 1)) (IsQuietAt flows owner)
    (λ applier then at did.
    subst (λ (node : ℕ). HasAt owner.number (IsQuiet flows node owner) then.parts) (sym did.0)
    (record { element = at.element; there = did.1 owner.number (omega (arith, is)) ∙ at.there; holds = at.holds }))
    between after rests keeps

module _ (flows : List Flow) (owners : List OwnerState) (owner : OwnerState) (others : List OwnerState) (first : ℕ) (split : owners ≡ owner ∷ others) (is : owner.number ≡ first) where
  pub quiet_all : (between after : List ApplierState) → Every (IsQuietAt flows owner) between → Each (KeepsBefore (first + 1)) between after
      → Every (λ (o : OwnerState). Every (IsQuietAt flows o) after) others → Every (λ (o : OwnerState). Every (IsQuietAt flows o) after) owners
  quiet_all between after rests keeps more =
      subst (Every (λ (o : OwnerState). Every (IsQuietAt flows o) after)) (sym split) (quiet_on flows owner first is between after rests keeps, more)

-- the owners' numbers
module _ (first : ℕ) (owners : List OwnerState) (owner : OwnerState) (others : List OwnerState) (split : owners ≡ owner ∷ others)
    (numbered : AllFrom (λ (n : ℕ) (o : OwnerState). o.number ≡ n) first owners) where
  both : AllFrom (λ (n : ℕ) (o : OwnerState). o.number ≡ n) first (owner ∷ others)
  both = subst (AllFrom (λ (n : ℕ) (o : OwnerState). o.number ≡ n) first) split numbered

  pub first_is : owner.number ≡ first
  first_is = both.0

  pub others_numbered : AllFrom (λ (n : ℕ) (o : OwnerState). o.number ≡ n) (first + 1) others
  others_numbered = both.1

pub ruleset finishings = (parts_all, before_all, keeps_parts, first_before)
