-- The owners so far.
use Rattle.std.proofs.Common.{◌≡◌, ◌<◌, [], ℕ, length, get_or}
use Rattle.turn_log.specs.Sender.{IsSenderOf, SenderState, changes_in}
use Rattle.cluster_open.proofs.opening.owners.Given as goal

abbrev pub invariant-numbers : goal.invariant-numbers
invariant-numbers l = record {
  count : length l.owners.items ≡ l.number;
  each : (i : ℕ) (d : SenderState) → i < length l.owners.items → (changes_in (get_or l.owners.items i d) ≡ []) × IsSenderOf l.shape i l.flows (get_or l.owners.items i d);
}
