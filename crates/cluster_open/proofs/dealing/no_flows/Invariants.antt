use Rattle.std.proofs.Common.{◌≡◌, [], replicate}
use Rattle.cluster_open.proofs.dealing.no_flows.Given as goal

abbrev pub invariant-empty : goal.invariant-empty
invariant-empty l = l.dealt.items ≡ replicate l.counter []
