use Rattle.std.proofs.Common.{◌<◌, ◌+◌, ◌-◌, ◌++◌, ◌∷◌, [], length, get_or, set, sym, ◌∙◌, ap, arith}
use Rattle.bucket_arena.specs.Arena.{Buckets, bucket_of, item_count, lists_of}
use Rattle.bucket_arena.specs.Chains.{cell_at, items, no_cells}
use Rattle.bucket_arena.proofs.Standing.{whole, list_at, free_written}
use Rattle.bucket_arena.proofs.Changes.{number_out, number_in_room, pushed, count_pushed, lists_pushed}
use Rattle.bucket_arena.proofs.arena.Arena.push.Goals as goal

pub next_free-number-requires-clause-whole : goal.next_free-number-requires-clause-whole
next_free-number-requires-clause-whole g c = free_written c.self.inside.row c.self.inside.chains c.self.inside.free c.self.inside.made c.self.invariant

pub append-grown-requires-clause-whole : goal.append-grown-requires-clause-whole
append-grown-requires-clause-whole g c =
    let lb : c.args.bucket < length c.self.inside.chains = omega (arith, c.self.invariant.chain_each, c.ranges.bucket.fits) in
    whole c.self.inside.row c.self.inside.chains c.self.inside.free c.self.inside.made c.self.invariant c.args.bucket lb

pub append-grown-requires-clause-apart : goal.append-grown-requires-clause-apart
append-grown-requires-clause-apart g c =
    let lb : c.args.bucket < length c.self.inside.chains = omega (arith, c.self.invariant.chain_each, c.ranges.bucket.fits) in
    let spare : 0 < c.self.inside.free.len + (length c.self.inside.row - c.self.inside.made) = omega (arith, ap (λ (v : Buckets g.row.T.Denot). v.spare) c.self.view_is, c.requires) in
    number_out c.self.inside.row c.self.inside.row c.self.inside.chains c.self.inside.free c.self.inside.made c.self.invariant c.args.bucket lb c.next_free-number.new.free no_cells c.next_free-number.new.made c.next_free-number.result spare c.next_free-number.ensures c.args.bucket lb

pub append-grown-requires-clause-room : goal.append-grown-requires-clause-room
append-grown-requires-clause-room g c =
    let lb : c.args.bucket < length c.self.inside.chains = omega (arith, c.self.invariant.chain_each, c.ranges.bucket.fits) in
    let spare : 0 < c.self.inside.free.len + (length c.self.inside.row - c.self.inside.made) = omega (arith, ap (λ (v : Buckets g.row.T.Denot). v.spare) c.self.view_is, c.requires) in
    number_in_room c.self.inside.row c.self.inside.row c.self.inside.chains c.self.inside.free c.self.inside.made c.self.invariant c.args.bucket lb c.next_free-number.new.free no_cells c.next_free-number.new.made c.next_free-number.result spare c.next_free-number.ensures

pub invariant_of-self : goal.invariant_of-self
invariant_of-self g c =
    let lb : c.args.bucket < length c.self.inside.chains = omega (arith, c.self.invariant.chain_each, c.ranges.bucket.fits) in
    let spare : 0 < c.self.inside.free.len + (length c.self.inside.row - c.self.inside.made) = omega (arith, ap (λ (v : Buckets g.row.T.Denot). v.spare) c.self.view_is, c.requires) in
    pushed c.self.inside.row c.append-grown.new.row c.self.inside.chains c.self.inside.free c.self.inside.made c.self.invariant c.args.bucket lb c.next_free-number.new.free c.append-grown.result c.next_free-number.new.made c.next_free-number.result spare c.next_free-number.ensures c.append-grown.ensures.numbers c.append-grown.ensures.whole c.append-grown.ensures.len c.append-grown.ensures.others c.append-grown.ensures.written c.append-grown.ensures.room

pub returns-clause-last : goal.returns-clause-last
returns-clause-last g c =
    let lb : c.args.bucket < length c.self.inside.chains = omega (arith, c.self.invariant.chain_each, c.ranges.bucket.fits) in
    let spare : 0 < c.self.inside.free.len + (length c.self.inside.row - c.self.inside.made) = omega (arith, ap (λ (v : Buckets g.row.T.Denot). v.spare) c.self.view_is, c.requires) in
    let cells = c.self.inside.row in let chain = get_or c.self.inside.chains c.args.bucket no_cells in
    lists_pushed c.self.inside.row c.append-grown.new.row c.self.inside.chains c.self.inside.free c.self.inside.made c.self.invariant c.args.bucket lb c.next_free-number.new.free c.append-grown.result c.next_free-number.new.made c.next_free-number.result spare c.next_free-number.ensures c.append-grown.ensures.numbers c.append-grown.ensures.whole c.append-grown.ensures.len c.append-grown.ensures.others c.append-grown.ensures.written c.append-grown.ensures.room
    (items (cell_at cells) chain ++ c.args.item ∷ []) c.append-grown.ensures.items
    ∙ ap (λ xs. set (lists_of cells c.self.inside.chains) c.args.bucket (xs ++ c.args.item ∷ [])) (sym (list_at c.self.inside.row c.self.inside.chains c.self.inside.free c.self.inside.made c.self.invariant c.args.bucket lb))
    ∙ ap (λ (v : Buckets g.row.T.Denot). set v.buckets c.args.bucket (bucket_of v c.args.bucket ++ c.args.item ∷ [])) c.self.view_is

pub returns-clause-count : goal.returns-clause-count
returns-clause-count g c =
    let lb : c.args.bucket < length c.self.inside.chains = omega (arith, c.self.invariant.chain_each, c.ranges.bucket.fits) in
    let spare : 0 < c.self.inside.free.len + (length c.self.inside.row - c.self.inside.made) = omega (arith, ap (λ (v : Buckets g.row.T.Denot). v.spare) c.self.view_is, c.requires) in
    count_pushed c.self.inside.row c.append-grown.new.row c.self.inside.chains c.self.inside.free c.self.inside.made c.self.invariant c.args.bucket lb c.next_free-number.new.free c.append-grown.result c.next_free-number.new.made c.next_free-number.result spare c.next_free-number.ensures c.append-grown.ensures.numbers c.append-grown.ensures.whole c.append-grown.ensures.len c.append-grown.ensures.others c.append-grown.ensures.written c.append-grown.ensures.room
    ∙ ap (λ (v : Buckets g.row.T.Denot). item_count v + 1) c.self.view_is
