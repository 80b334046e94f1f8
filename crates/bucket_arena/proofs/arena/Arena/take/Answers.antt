use Rattle.std.proofs.Common.{◌<◌, ◌-◌, length, get_or, set, sym, ◌∙◌, ap, arith}
use Rattle.std.specs.Prelude.{slice_get, remove}
use Rattle.bucket_arena.specs.Arena.{Buckets, bucket_of, item_count, lists_of}
use Rattle.bucket_arena.specs.Chains.{cell_at, items, no_cells}
use Rattle.bucket_arena.proofs.Standing.{whole, list_at, list_length}
use Rattle.bucket_arena.proofs.Changes.{number_written, number_not_free, taken_out, count_taken, lists_taken}
use Rattle.bucket_arena.proofs.arena.Arena.take.Goals as goal

pub move_up-item-requires-clause-whole : goal.move_up-item-requires-clause-whole
move_up-item-requires-clause-whole g c =
    let lb : c.args.bucket < length c.self.inside.chains = omega (arith, c.self.invariant.chain_each, c.ranges.bucket.fits) in
    whole c.self.inside.row c.self.inside.chains c.self.inside.free c.self.inside.made c.self.invariant c.args.bucket lb

pub move_up-item-requires-clause-place : goal.move_up-item-requires-clause-place
move_up-item-requires-clause-place g c =
    let lb : c.args.bucket < length c.self.inside.chains = omega (arith, c.self.invariant.chain_each, c.ranges.bucket.fits) in
    omega (arith, list_length c.self.inside.row c.self.inside.chains c.self.inside.free c.self.inside.made c.self.invariant c.args.bucket lb, ap (λ v. length (bucket_of v c.args.bucket)) c.self.view_is, c.requires)

pub release-freed-requires-clause-written : goal.release-freed-requires-clause-written
release-freed-requires-clause-written g c =
    let lb : c.args.bucket < length c.self.inside.chains = omega (arith, c.self.invariant.chain_each, c.ranges.bucket.fits) in
    let lp : c.args.place < (get_or c.self.inside.chains c.args.bucket no_cells).len = omega (arith, list_length c.self.inside.row c.self.inside.chains c.self.inside.free c.self.inside.made c.self.invariant c.args.bucket lb, ap (λ v. length (bucket_of v c.args.bucket)) c.self.view_is, c.requires) in
    let some : 0 < (get_or c.self.inside.chains c.args.bucket no_cells).len = omega (arith, lp) in
    let cut = c.without_last-shrunk.ensures.numbers ∙ ap (λ ns. remove ns ((get_or c.self.inside.chains c.args.bucket no_cells).len - 1)) c.move_up-item.ensures.numbers in
    c.move_up-item.ensures.written _ (number_written c.self.inside.row c.self.inside.row c.self.inside.chains c.self.inside.free c.self.inside.made c.self.invariant c.args.bucket lb some c.without_last-shrunk.result no_cells c.move_up-item.new.row cut c.move_up-item.ensures.others)

pub release-freed-requires-clause-apart : goal.release-freed-requires-clause-apart
release-freed-requires-clause-apart g c =
    let lb : c.args.bucket < length c.self.inside.chains = omega (arith, c.self.invariant.chain_each, c.ranges.bucket.fits) in
    let lp : c.args.place < (get_or c.self.inside.chains c.args.bucket no_cells).len = omega (arith, list_length c.self.inside.row c.self.inside.chains c.self.inside.free c.self.inside.made c.self.invariant c.args.bucket lb, ap (λ v. length (bucket_of v c.args.bucket)) c.self.view_is, c.requires) in
    let some : 0 < (get_or c.self.inside.chains c.args.bucket no_cells).len = omega (arith, lp) in
    let cut = c.without_last-shrunk.ensures.numbers ∙ ap (λ ns. remove ns ((get_or c.self.inside.chains c.args.bucket no_cells).len - 1)) c.move_up-item.ensures.numbers in
    number_not_free c.self.inside.row c.self.inside.row c.self.inside.chains c.self.inside.free c.self.inside.made c.self.invariant c.args.bucket lb some c.without_last-shrunk.result no_cells c.move_up-item.new.row cut c.move_up-item.ensures.others

pub invariant_of-self : goal.invariant_of-self
invariant_of-self g c =
    let lb : c.args.bucket < length c.self.inside.chains = omega (arith, c.self.invariant.chain_each, c.ranges.bucket.fits) in
    let lp : c.args.place < (get_or c.self.inside.chains c.args.bucket no_cells).len = omega (arith, list_length c.self.inside.row c.self.inside.chains c.self.inside.free c.self.inside.made c.self.invariant c.args.bucket lb, ap (λ v. length (bucket_of v c.args.bucket)) c.self.view_is, c.requires) in
    let some : 0 < (get_or c.self.inside.chains c.args.bucket no_cells).len = omega (arith, lp) in
    let cut = c.without_last-shrunk.ensures.numbers ∙ ap (λ ns. remove ns ((get_or c.self.inside.chains c.args.bucket no_cells).len - 1)) c.move_up-item.ensures.numbers in
    taken_out c.self.inside.row c.release-freed.new.row c.self.inside.chains c.self.inside.free c.self.inside.made c.self.invariant c.args.bucket lb some c.without_last-shrunk.result c.release-freed.result c.move_up-item.new.row cut c.move_up-item.ensures.others c.without_last-shrunk.ensures.whole c.without_last-shrunk.ensures.len c.move_up-item.ensures.written c.move_up-item.ensures.room c.release-freed.ensures.numbers c.release-freed.ensures.len c.release-freed.ensures.others c.release-freed.ensures.written c.release-freed.ensures.room

pub returns-clause-taken : goal.returns-clause-taken
returns-clause-taken g c =
    let lb : c.args.bucket < length c.self.inside.chains = omega (arith, c.self.invariant.chain_each, c.ranges.bucket.fits) in
    ap (λ v. slice_get (bucket_of v c.args.bucket) c.args.place) (sym c.self.view_is)
    ∙ ap (λ xs. slice_get xs c.args.place) (list_at c.self.inside.row c.self.inside.chains c.self.inside.free c.self.inside.made c.self.invariant c.args.bucket lb) ∙ c.move_up-item.ensures.item

pub returns-clause-rest : goal.returns-clause-rest
returns-clause-rest g c =
    let lb : c.args.bucket < length c.self.inside.chains = omega (arith, c.self.invariant.chain_each, c.ranges.bucket.fits) in
    let lp : c.args.place < (get_or c.self.inside.chains c.args.bucket no_cells).len = omega (arith, list_length c.self.inside.row c.self.inside.chains c.self.inside.free c.self.inside.made c.self.invariant c.args.bucket lb, ap (λ v. length (bucket_of v c.args.bucket)) c.self.view_is, c.requires) in
    let some : 0 < (get_or c.self.inside.chains c.args.bucket no_cells).len = omega (arith, lp) in
    let cut = c.without_last-shrunk.ensures.numbers ∙ ap (λ ns. remove ns ((get_or c.self.inside.chains c.args.bucket no_cells).len - 1)) c.move_up-item.ensures.numbers in
    let cells = c.self.inside.row in let chain = get_or c.self.inside.chains c.args.bucket no_cells in
    lists_taken c.self.inside.row c.release-freed.new.row c.self.inside.chains c.self.inside.free c.self.inside.made c.self.invariant c.args.bucket lb some c.without_last-shrunk.result c.release-freed.result c.move_up-item.new.row cut c.move_up-item.ensures.others c.without_last-shrunk.ensures.whole c.without_last-shrunk.ensures.len c.move_up-item.ensures.written c.move_up-item.ensures.room c.release-freed.ensures.numbers c.release-freed.ensures.len c.release-freed.ensures.others c.release-freed.ensures.written c.release-freed.ensures.room
    (remove (items (cell_at cells) chain) c.args.place) (c.without_last-shrunk.ensures.items ∙ c.move_up-item.ensures.items)
    ∙ ap (λ xs. set (lists_of cells c.self.inside.chains) c.args.bucket (remove xs c.args.place)) (sym (list_at c.self.inside.row c.self.inside.chains c.self.inside.free c.self.inside.made c.self.invariant c.args.bucket lb))
    ∙ ap (λ (v : Buckets g.row.T.Denot). set v.buckets c.args.bucket (remove (bucket_of v c.args.bucket) c.args.place)) c.self.view_is

pub returns-clause-count : goal.returns-clause-count
returns-clause-count g c =
    let lb : c.args.bucket < length c.self.inside.chains = omega (arith, c.self.invariant.chain_each, c.ranges.bucket.fits) in
    let lp : c.args.place < (get_or c.self.inside.chains c.args.bucket no_cells).len = omega (arith, list_length c.self.inside.row c.self.inside.chains c.self.inside.free c.self.inside.made c.self.invariant c.args.bucket lb, ap (λ v. length (bucket_of v c.args.bucket)) c.self.view_is, c.requires) in
    let some : 0 < (get_or c.self.inside.chains c.args.bucket no_cells).len = omega (arith, lp) in
    let cut = c.without_last-shrunk.ensures.numbers ∙ ap (λ ns. remove ns ((get_or c.self.inside.chains c.args.bucket no_cells).len - 1)) c.move_up-item.ensures.numbers in
    count_taken c.self.inside.row c.release-freed.new.row c.self.inside.chains c.self.inside.free c.self.inside.made c.self.invariant c.args.bucket lb some c.without_last-shrunk.result c.release-freed.result c.move_up-item.new.row cut c.move_up-item.ensures.others c.without_last-shrunk.ensures.whole c.without_last-shrunk.ensures.len c.move_up-item.ensures.written c.move_up-item.ensures.room c.release-freed.ensures.numbers c.release-freed.ensures.len c.release-freed.ensures.others c.release-freed.ensures.written c.release-freed.ensures.room
    ∙ ap (λ (v : Buckets g.row.T.Denot). item_count v) c.self.view_is
