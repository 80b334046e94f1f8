use Rattle.std.proofs.Common.{◌≡◌, ◌+◌, ◌≤◌}
use Rattle.embed_cluster.proofs.tell_after.Given as goal

abbrev pub invariant-replies : goal.invariant-replies
invariant-replies g l = (l.port ≡ 1000 + l.reply-index) × (l.reply-index ≤ 3)
