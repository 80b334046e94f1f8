use Rattle.std.proofs.Common.{◌<◌, length, get_or, sym, ◌∙◌, ap, arith}
use Rattle.std.specs.Prelude.{slice_get}
use Rattle.bucket_arena.specs.Arena.{bucket_of}
use Rattle.bucket_arena.specs.Chains.{cell_at, numbers, no_cells}
use Rattle.bucket_arena.proofs.Appending.{long}
use Rattle.bucket_arena.proofs.Links.{item_there}
use Rattle.bucket_arena.proofs.Standing.{whole, list_at, list_length}
use Rattle.bucket_arena.proofs.arena.Arena.at.Goals as goal

pub number_at-number-requires-clause-place : goal.number_at-number-requires-clause-place
number_at-number-requires-clause-place g c =
    let lb : c.args.bucket < length c.self.inside.chains = omega (arith, c.self.invariant.chain_each, c.ranges.bucket.fits) in
    omega (arith, list_length c.self.inside.row c.self.inside.chains c.self.inside.free c.self.inside.made c.self.invariant c.args.bucket lb, ap (λ v. length (bucket_of v c.args.bucket)) c.self.view_is, c.requires)

pub number_at-number-requires-clause-whole : goal.number_at-number-requires-clause-whole
number_at-number-requires-clause-whole g c =
    let lb : c.args.bucket < length c.self.inside.chains = omega (arith, c.self.invariant.chain_each, c.ranges.bucket.fits) in
    whole c.self.inside.row c.self.inside.chains c.self.inside.free c.self.inside.made c.self.invariant c.args.bucket lb

pub returns : goal.returns
returns g c =
    let lb : c.args.bucket < length c.self.inside.chains = omega (arith, c.self.invariant.chain_each, c.ranges.bucket.fits) in
    let cells = c.self.inside.row in let chain = get_or c.self.inside.chains c.args.bucket no_cells in
    let lp : c.args.place < chain.len = omega (arith, list_length c.self.inside.row c.self.inside.chains c.self.inside.free c.self.inside.made c.self.invariant c.args.bucket lb, ap (λ v. length (bucket_of v c.args.bucket)) c.self.view_is, c.requires) in
    let l : c.args.place < length (numbers (cell_at cells) chain) = omega (arith, long cells chain, lp) in
    ap (λ v. slice_get (bucket_of v c.args.bucket) c.args.place) (sym c.self.view_is) ∙ ap (λ xs. slice_get xs c.args.place) (list_at c.self.inside.row c.self.inside.chains c.self.inside.free c.self.inside.made c.self.invariant c.args.bucket lb)
    ∙ item_there (cell_at cells) (numbers (cell_at cells) chain) (whole c.self.inside.row c.self.inside.chains c.self.inside.free c.self.inside.made c.self.invariant c.args.bucket lb).written c.args.place l c.read.result (ap (cell_at cells) (sym c.number_at-number.ensures.number) ∙ c.read.ensures)
