use Rattle.std.proofs.Common.{ℕ, ◌≡◌, ◌∙◌, ◌++◌, ◌∷◌, [], List, map, get_or, ap, arith}
use Rattle.std.proofs.lemmas.List.{map-append}
use Rattle.flow_types.specs.declared.record.Flow.{Flow}
use Rattle.group_search.specs.Image.{Image}
use Rattle.rib_owner.specs.Stock.{part_in}
use Rattle.rib_owner.proofs.Counted.{none_at_all}
use Rattle.rib_owner.proofs.Filled.{opened_block, opened_more}
use Rattle.rib_owner.proofs.Buckets.{in_bucket}
use Rattle.rib_owner.proofs.EmptyBlock.{empty_map}
use Rattle.rib_owner.proofs.GroupMaps.{map_each}
use Rattle.rib_owner.proofs.opening.empty_blocks.Goals as goal

pub dealt-preserved : goal.dealt-preserved
dealt-preserved c =
    let image : Image = c.index-images-from.result in
    let items : map part_in c.push.new.self.items ≡ map part_in c.dealt.blocks.items ++ part_in c.in_ok-open.field-0 ∷ [] =
    ap (map part_in) c.in_ok-push.ensures.items ∙ map-append part_in c.dealt.blocks.items (c.in_ok-open.field-0 ∷ []) in
    let image_is : c.index-images-from.result ≡ get_or c.args.images.now c.dealt.block c.index-images-from.result =
    c.index-images-from.is ∙ ap (λ (i : ℕ). get_or c.args.images.now i c.index-images-from.result) c.from.ensures in
    let none : (x : ℕ) → in_bucket c.in_ok-open.field-0.arena.buckets x ≡ [] =
    λ x. ap (λ (ls : List (List Flow)). in_bucket ls x) c.in_ok-open.ensures.buckets ∙ none_at_all 256 x in
    rw (items, c.nodes-nodes.ensures.value)
    (opened_more c.args.shape c.args.number c.args.flows.now (omega arith) c.requires.node c.dealt.block (map part_in c.dealt.blocks.items) (part_in c.in_ok-open.field-0) c.dealt.invariant (omega arith)
    (opened_block c.args.shape c.args.flows.now c.args.images.now c.requires.built c.dealt.block (omega arith) c.index-images-from.result (part_in c.in_ok-open.field-0) image_is
    c.in_ok-open.ensures.choices (map_each c.in_ok-open.field-0.choices c.in_ok-open.field-0.arena.buckets) (empty_map c.in_ok-open.field-0.choices c.in_ok-open.field-0.arena.buckets none)
    c.in_ok-open.ensures.numbers c.in_ok-open.ensures.rows))
