-- What a phase leaves of the owners and the appliers that were at rest before it.
use Rattle.std.proofs.Common.{◌≡◌, ◌≢◌, ◌∙◌, ℕ, Bool, false, List, [], ◌∷◌, Some, refl, sym, ap, subst}
use Rattle.std.specs.List.{slice_get}
use Rattle.flow_types.specs.declared.record.Flow.{Flow}
use Rattle.flow_types.specs.Size.{Size}
use Rattle.replica_shard.specs.Seats.{shard_at}
use Rattle.replica_shard.specs.Shard.{shard_after}
use Rattle.replica_shard.specs.Store.{shard_state_of}
use Rattle.partial_fib.specs.Fib.{fib_after}
use Rattle.partial_fib.specs.Store.{state_of}
use Rattle.turn_relay.specs.Each.{ChangesAt, Each, Every, HasAt}
use Rattle.turn_relay.specs.Finish.{Finishes, IsAtRest, IsAtRestAt, IsPartOf, IsQuiet, IsQuietAt, IsReady, IsReadyAt}
use Rattle.turn_relay.specs.Follow.{ApplierDid, GoesOn, PartDid, works}
use Rattle.turn_relay.specs.Linking.{IsFresh, IsFreshAt, KeepsOthers, KeepsTurns}
use Rattle.turn_relay.specs.OwnerState.{HasLinks, IsSameLink, IsSameOwner, OwnerState}
use Rattle.turn_relay.specs.PartState.{ApplierState, PartState}
use Rattle.turn_relay.proofs.Resting.{part_stays}
use Rattle.turn_relay.proofs.Runs.{each_at}

-- it holds of each element, where what holds of the one before is passed on to the one after
pub passed_on : {A B : Type 0} (P : A → Type 0) (R : A → B → Type 0) (Q : B → Type 0) → ((x : A) (y : B) → P x → R x y → Q y) → (xs : List A) (ys : List B)
    → Every P xs → Each R xs ys → Every Q ys
passed_on P R Q on [] [] all each = tt
passed_on P R Q on [] (y ∷ ys) all each = absurd each
passed_on P R Q on (x ∷ xs) [] all each = absurd each
passed_on P R Q on (x ∷ xs) (y ∷ ys) all each = (on x y all.0 each.0, passed_on P R Q on xs ys all.1 each.1)

-- ---- an owner that worked

module _ (flows : List Flow) (before after : OwnerState) (same : IsSameOwner before after) (links : HasLinks before) (working : List Bool) where
  ready_part : (node : ℕ) (part now : PartState) → IsQuiet flows node before part → PartDid working part now → IsReady flows node after now
  ready_part node part now rests did =
      let linked = (rests.settled links).linked in
      let end : HasAt node (IsSameLink linked.end) after.ends = each_at IsSameLink before.ends after.ends same.links node linked.end linked.there in
      let of : IsPartOf before.size node before.number flows now = part_stays before.size node before.number flows part now rests.of did.on.same in
      record {
        of = record {
          sized = of.sized ∙ sym same.size;
          numbered = of.numbered ∙ sym same.number;
          table = subst (λ (o : Size × ℕ). shard_state_of (shard_at now.table.shard []) ≡ shard_after o.0 o.1 flows []) (λ i. (sym same.size i, sym same.number i)) of.table;
          fib = subst (λ (o : Size × ℕ). state_of now.fib.opening ≡ fib_after o.0 node o.1 flows []) (λ i. (sym same.size i, sym same.number i)) of.fib;
        };
        linked = record {
          end = end.element;
          there = end.there;
          size = did.on.same.size ∙ linked.size ∙ sym same.size;
          link = did.on.same.link ∙ linked.link ∙ ap (λ line. Some line) (sym end.holds.0);
        };
        follows = did.on.follows rests.follows;
      }

  ready_one : (applier now : ApplierState) → IsQuietAt flows before applier → ApplierDid working applier now → IsReadyAt flows after now
  ready_one applier now rests (same_node, each) =
      let part : HasAt before.number (PartDid working rests.element) now.parts = each_at (PartDid working) applier.parts now.parts each before.number rests.element rests.there in
      subst (λ (n : ℕ). HasAt n (IsReady flows now.node after) now.parts) (sym same.number)
      (record {
        element = part.element;
        there = part.there;
        holds = subst (λ (node : ℕ). IsReady flows node after part.element) (sym same_node) (ready_part applier.node rests.element part.element rests.holds part.holds);
      })

  -- its parts, which were quiet, are ready for the last messages
  pub are_ready : (appliers now : List ApplierState) → Every (IsQuietAt flows before) appliers → Each (ApplierDid working) appliers now → Every (IsReadyAt flows after) now
  are_ready appliers now rests each = passed_on (IsQuietAt flows before) (ApplierDid working) (IsReadyAt flows after) ready_one appliers now rests each

-- ---- an owner that didn't

module _ (flows : List Flow) (owner : OwnerState) (working : List Bool) (idle : works working owner.number ≡ false) where
  same_part : (number : ℕ) (applier now : ApplierState) (part : PartState) → number ≡ owner.number → slice_get applier.parts number ≡ Some part → part.owner ≡ number
      → ApplierDid working applier now → slice_get now.parts number ≡ Some part
  same_part number applier now part is there numbered (same_node, each) =
      let did : HasAt number (PartDid working part) now.parts = each_at (PartDid working) applier.parts now.parts each number part there in
      let same : did.element ≡ part = did.holds.rests (ap (works working) (numbered ∙ is) ∙ idle) in
      did.there ∙ ap (λ (p : PartState). Some p) same

  quiet_one : (applier now : ApplierState) → IsQuietAt flows owner applier → ApplierDid working applier now → IsQuietAt flows owner now
  quiet_one applier now rests did = record {
    element = rests.element;
    there = same_part owner.number applier now rests.element refl rests.there rests.holds.of.numbered did;
    holds = subst (λ (node : ℕ). IsQuiet flows node owner rests.element) (sym did.0) rests.holds;
  }

  -- its parts stay quiet
  pub still_quiet : (appliers now : List ApplierState) → Every (IsQuietAt flows owner) appliers → Each (ApplierDid working) appliers now → Every (IsQuietAt flows owner) now
  still_quiet appliers now rests each = passed_on (IsQuietAt flows owner) (ApplierDid working) (IsQuietAt flows owner) quiet_one appliers now rests each

  -- and are not linked, where they were not
  pub still_fresh : (node : ℕ) (applier now : ApplierState) → IsFreshAt flows owner node applier → ApplierDid working applier now → IsFreshAt flows owner node now
  still_fresh node applier now fresh did = record {
    numbered = did.0 ∙ fresh.numbered;
    part = record {
      element = fresh.part.element;
      there = same_part owner.number applier now fresh.part.element refl fresh.part.there fresh.part.holds.of.numbered did;
      holds = fresh.part.holds;
    };
  }

-- ---- another owner's parts

-- what stands at another place stays
pub stays_at : {A : Type 0} (P : A → Type 0) (R : A → A → Type 0) (place other : ℕ) (before after : List A) → place ≢ other → HasAt place P before → ChangesAt other R before after → HasAt place P after
stays_at P R place other before after away has changes = record { element = has.element; there = changes.others place away ∙ has.there; holds = has.holds }

-- so it is with the parts of an owner at all nodes, where at each node only another owner's part is changed
pub others_stay : (Q : (node : ℕ) → PartState → Type 0) (R : PartState → PartState → Type 0) (number other : ℕ) → number ≢ other → (appliers now : List ApplierState)
    → Every (λ (applier : ApplierState). HasAt number (Q applier.node) applier.parts) appliers
    → Each (λ (applier then : ApplierState). (then.node ≡ applier.node) × ChangesAt other R applier.parts then.parts) appliers now
    → Every (λ (applier : ApplierState). HasAt number (Q applier.node) applier.parts) now
others_stay Q R number other away appliers now holds each =
    passed_on (λ (applier : ApplierState). HasAt number (Q applier.node) applier.parts)
    (λ (applier then : ApplierState). (then.node ≡ applier.node) × ChangesAt other R applier.parts then.parts)
    (λ (applier : ApplierState). HasAt number (Q applier.node) applier.parts)
    (λ applier then at did. subst (λ (node : ℕ). HasAt number (Q node) then.parts) (sym did.0) (stays_at (Q applier.node) R number other applier.parts then.parts away at did.1))
    appliers now holds each

module _ (flows : List Flow) (owner : OwnerState) (other : ℕ) (away : owner.number ≢ other) where
  -- where another owner's links are emptied, or it is linked, the owner's parts stay as they are
  pub others_quiet : (appliers now : List ApplierState) → Every (IsQuietAt flows owner) appliers → Each (Finishes other) appliers now → Every (IsQuietAt flows owner) now
  others_quiet appliers now rests each = others_stay (λ (node : ℕ). IsQuiet flows node owner) GoesOn owner.number other away appliers now rests each

  pub others_ready : (appliers now : List ApplierState) → Every (IsReadyAt flows owner) appliers → Each (Finishes other) appliers now → Every (IsReadyAt flows owner) now
  others_ready appliers now ready each = others_stay (λ (node : ℕ). IsReady flows node owner) GoesOn owner.number other away appliers now ready each

  pub others_rest_linked : (appliers now : List ApplierState) → Every (IsAtRestAt flows owner) appliers → Each (KeepsOthers other) appliers now → Every (IsAtRestAt flows owner) now
  others_rest_linked appliers now rests each = others_stay (λ (node : ℕ). IsAtRest flows node owner) KeepsTurns owner.number other away appliers now rests each

  pub others_quiet_linked : (appliers now : List ApplierState) → Every (IsQuietAt flows owner) appliers → Each (KeepsOthers other) appliers now → Every (IsQuietAt flows owner) now
  others_quiet_linked appliers now rests each = others_stay (λ (node : ℕ). IsQuiet flows node owner) KeepsTurns owner.number other away appliers now rests each

  pub others_fresh : (node : ℕ) (applier now : ApplierState) → IsFreshAt flows owner node applier → KeepsOthers other applier now → IsFreshAt flows owner node now
  others_fresh node applier now fresh did = record {
    numbered = did.0 ∙ fresh.numbered;
    part = stays_at (IsFresh owner.size flows node owner.number) _ owner.number other applier.parts now.parts away fresh.part did.1;
  }

-- ---- an owner whose links are empty

-- what rests is quiet
quiet_part : (flows : List Flow) (owner : OwnerState) (node : ℕ) (part : PartState) → IsAtRest flows node owner part → IsQuiet flows node owner part
quiet_part flows owner node part rests = record { of = rests.of; settled = λ _. rests.settled; follows = rests.follows; clear = rests.clear; current = rests.current }

pub are_quiet : (flows : List Flow) (owner : OwnerState) (appliers : List ApplierState) → Every (IsAtRestAt flows owner) appliers → Every (IsQuietAt flows owner) appliers
are_quiet flows owner [] rests = tt
are_quiet flows owner (applier ∷ appliers) rests = (
  record { element = rests.0.element; there = rests.0.there; holds = quiet_part flows owner applier.node rests.0.element rests.0.holds },
  are_quiet flows owner appliers rests.1,
)
