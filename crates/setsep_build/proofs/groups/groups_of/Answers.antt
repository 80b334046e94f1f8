use Rattle.std.proofs.Common.{arith}
use Rattle.std.proofs.lemmas.List.FromFn.{fill_by_all}
use Rattle.block_layout.specs.Limits.{bucket_count}
use Rattle.group_search.specs.Home.{group_of}
use Rattle.setsep_build.specs.Placing.{groups_of}
use Rattle.setsep_build.proofs.groups.groups_of.Goals as goal

pub returns-clause-value : goal.returns-clause-value
unfolding groups_of
returns-clause-value c = fill_by_all (group_of c.args.choices.now) c.buckets.group-items bucket_count 0 (omega arith) (λ k within. c.buckets.invariant.each k (omega arith))
