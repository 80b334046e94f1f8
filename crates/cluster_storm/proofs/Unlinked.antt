-- An owner that isn't linked.
use Rattle.std.proofs.Common.{ℕ, ◌+◌, List, [], ◌∷◌, refl, sym, subst}
use Rattle.flow_types.specs.declared.record.Flow.{Flow}
use Rattle.turn_relay.specs.Each.{Each, Every}
use Rattle.turn_relay.specs.Finish.{IsQuietAt}
use Rattle.turn_relay.specs.Linking.{AreFresh, IsUnsent, KeepsOthers}
use Rattle.turn_relay.specs.OwnerState.{HasSentAll, OwnerState}
use Rattle.turn_relay.specs.PartState.{ApplierState}
use Rattle.turn_relay.proofs.Linked.{all_unsent, more_none, quiet_nodes}
use Rattle.turn_relay.proofs.Phases.{are_quiet}
use Rattle.cluster_storm.specs.Opening.{CanBeLinked}

same_parts : (flows : List Flow) (owner : OwnerState) (first : ℕ) (appliers : List ApplierState) → AreFresh flows owner first appliers → Each (KeepsOthers owner.number) appliers appliers
same_parts flows owner first [] fresh = tt
same_parts flows owner first (applier ∷ appliers) fresh =
    let part = fresh.0.part in (
      (refl, record { element = part.element; there = part.there; changed = part.element; then = part.there; others = λ other away. refl; holds = record { table = refl; fib = refl } }),
      same_parts flows owner (first + 1) appliers fresh.1,
    )

module _ (flows : List Flow) (appliers : List ApplierState) (owner : OwnerState) (can : CanBeLinked flows appliers owner) where
  pub others_same : Each (KeepsOthers owner.number) appliers appliers
  others_same = same_parts flows owner 0 appliers can.fresh

  pub none_sent : HasSentAll flows owner
  none_sent = all_unsent flows owner owner can.new (more_none owner) (subst (Every IsUnsent) (sym can.unlinked) tt)

  pub quiet_so : Every (IsQuietAt flows owner) appliers
  quiet_so = quiet_nodes flows owner can.new can.unlinked can.some 0 appliers can.fresh

pub ruleset unlinked = (more_none, others_same, none_sent, quiet_so, are_quiet)
