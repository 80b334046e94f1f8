-- The owners of the senders so far, and the senders that are left.
use Rattle.std.proofs.Common.{◌≡◌, ◌++◌, length, map}
use Rattle.std.specs.Vec.Iter.{into_iter_items, into_iter_len}
use Rattle.turn_relay.specs.Each.{AllFrom}
use Rattle.turn_relay.specs.OwnerState.{OwnerState}
use Rattle.cluster_storm.specs.Opening.{IsUnlinked}
use Rattle.cluster_storm.proofs.making.owners_of.Given as goal

abbrev pub invariant-senders : goal.invariant-senders
invariant-senders l = record {
  whole : l.yielded ++ into_iter_items l.sender-iterator ≡ l.fn.senders.items;
  left : into_iter_len l.sender-iterator ≡ length (into_iter_items l.sender-iterator);
  of : map (λ (owner : OwnerState). owner.sender) l.owners.items ≡ l.yielded;
  unlinked : AllFrom (IsUnlinked l.shape) 0 l.owners.items;
}
