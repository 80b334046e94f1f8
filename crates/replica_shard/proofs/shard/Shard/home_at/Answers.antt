use Rattle.std.proofs.Common.{ap}
use Rattle.group_search.specs.Home.{Home}
use Rattle.replica_shard.proofs.shard.Shard.home_at.Goals as goal

pub returns-clause-home : goal.returns-clause-home
returns-clause-home c list = λ i. record { block = c.args.at.block; group = ap (λ (h : Home). h.group) (c.cell-group.ensures.cell list) i }
