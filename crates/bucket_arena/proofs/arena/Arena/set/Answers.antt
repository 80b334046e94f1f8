use Rattle.std.proofs.Common.{◌<◌, length, get_or, set, sym, ◌∙◌, ap, arith}
use Rattle.bucket_arena.specs.Arena.{Buckets, bucket_of, item_count, lists_of}
use Rattle.bucket_arena.specs.Chains.{cell_at, items, no_cells}
use Rattle.bucket_arena.proofs.Standing.{whole, list_at, list_length}
use Rattle.bucket_arena.proofs.Changes.{written_over, count_over, lists_over}
use Rattle.bucket_arena.proofs.arena.Arena.set.Goals as goal

pub replace-requires-clause-whole : goal.replace-requires-clause-whole
replace-requires-clause-whole g c =
    let lb : c.args.bucket < length c.self.inside.chains = omega (arith, c.self.invariant.chain_each, c.ranges.bucket.fits) in
    whole c.self.inside.row c.self.inside.chains c.self.inside.free c.self.inside.made c.self.invariant c.args.bucket lb

pub replace-requires-clause-place : goal.replace-requires-clause-place
replace-requires-clause-place g c =
    let lb : c.args.bucket < length c.self.inside.chains = omega (arith, c.self.invariant.chain_each, c.ranges.bucket.fits) in
    omega (arith, list_length c.self.inside.row c.self.inside.chains c.self.inside.free c.self.inside.made c.self.invariant c.args.bucket lb, ap (λ v. length (bucket_of v c.args.bucket)) c.self.view_is, c.requires)

pub invariant_of-self : goal.invariant_of-self
invariant_of-self g c =
    let lb : c.args.bucket < length c.self.inside.chains = omega (arith, c.self.invariant.chain_each, c.ranges.bucket.fits) in
    written_over c.self.inside.row c.replace.new.row c.self.inside.chains c.self.inside.free c.self.inside.made c.self.invariant c.args.bucket lb c.replace.ensures.numbers c.replace.ensures.others c.replace.ensures.written c.replace.ensures.room

pub returns-clause-written : goal.returns-clause-written
returns-clause-written g c =
    let lb : c.args.bucket < length c.self.inside.chains = omega (arith, c.self.invariant.chain_each, c.ranges.bucket.fits) in
    let cells = c.self.inside.row in let chain = get_or c.self.inside.chains c.args.bucket no_cells in
    lists_over c.self.inside.row c.replace.new.row c.self.inside.chains c.self.inside.free c.self.inside.made c.self.invariant c.args.bucket lb c.replace.ensures.numbers c.replace.ensures.others c.replace.ensures.written c.replace.ensures.room
    (set (items (cell_at cells) chain) c.args.place c.args.item) c.replace.ensures.items
    ∙ ap (λ xs. set (lists_of cells c.self.inside.chains) c.args.bucket (set xs c.args.place c.args.item)) (sym (list_at c.self.inside.row c.self.inside.chains c.self.inside.free c.self.inside.made c.self.invariant c.args.bucket lb))
    ∙ ap (λ (v : Buckets g.row.T.Denot). set v.buckets c.args.bucket (set (bucket_of v c.args.bucket) c.args.place c.args.item)) c.self.view_is

pub returns-clause-count : goal.returns-clause-count
returns-clause-count g c =
    let lb : c.args.bucket < length c.self.inside.chains = omega (arith, c.self.invariant.chain_each, c.ranges.bucket.fits) in
    count_over c.self.inside.row c.replace.new.row c.self.inside.chains c.self.inside.free c.self.inside.made c.self.invariant c.args.bucket lb c.replace.ensures.numbers c.replace.ensures.others c.replace.ensures.written c.replace.ensures.room
    ∙ ap (λ (v : Buckets g.row.T.Denot). item_count v) c.self.view_is
