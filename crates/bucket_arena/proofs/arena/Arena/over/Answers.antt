use Rattle.std.proofs.Common.{refl}
use Rattle.bucket_arena.proofs.Changes.{empty_chains, empty_lists}
use Rattle.bucket_arena.proofs.arena.Arena.over.Goals as goal

pub invariant_of-result : goal.invariant_of-result
invariant_of-result g c = empty_chains c.args.row c.requires.bare c.requires.few 256 refl

pub returns-clause-buckets : goal.returns-clause-buckets
returns-clause-buckets g c = empty_lists c.args.row 256
