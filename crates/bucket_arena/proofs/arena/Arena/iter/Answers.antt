use Rattle.std.proofs.Common.{◌<◌, length, sym, ◌∙◌, ap, arith}
use Rattle.bucket_arena.specs.Arena.{bucket_of}
use Rattle.bucket_arena.proofs.Standing.{whole, list_at}
use Rattle.bucket_arena.proofs.arena.Arena.iter.Goals as goal

pub invariant_of-result : goal.invariant_of-result
invariant_of-result g c =
    let lb : c.args.bucket < length c.self.inside.chains = omega (arith, c.self.invariant.chain_each, c.ranges.bucket.fits) in
    (whole c.self.inside.row c.self.inside.chains c.self.inside.free c.self.inside.made c.self.invariant c.args.bucket lb).written

pub returns : goal.returns
returns g c =
    let lb : c.args.bucket < length c.self.inside.chains = omega (arith, c.self.invariant.chain_each, c.ranges.bucket.fits) in
    sym (list_at c.self.inside.row c.self.inside.chains c.self.inside.free c.self.inside.made c.self.invariant c.args.bucket lb) ∙ ap (λ v. bucket_of v c.args.bucket) c.self.view_is
