use Rattle.std.proofs.Common.{◌<◌, length, sym, ◌∙◌, ap, arith}
use Rattle.bucket_arena.specs.Arena.{bucket_of}
use Rattle.bucket_arena.proofs.Standing.{list_length}
use Rattle.bucket_arena.proofs.arena.Arena.len.Goals as goal

pub returns-clause-len : goal.returns-clause-len
returns-clause-len g c =
    let lb : c.args.bucket < length c.self.inside.chains = omega (arith, c.self.invariant.chain_each, c.ranges.bucket.fits) in
    sym (list_length c.self.inside.row c.self.inside.chains c.self.inside.free c.self.inside.made c.self.invariant c.args.bucket lb) ∙ ap (λ v. length (bucket_of v c.args.bucket)) c.self.view_is
