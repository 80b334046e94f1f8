use Rattle.std.proofs.Common.{◌≡◌, ℕ, ◌+◌, List, [], ◌∷◌, ◌++◌, take, sym, ap, ◌∙◌, subst}
use Rattle.std.proofs.lemmas.List.{take_more}
use Rattle.group_search.specs.Image.{Image}
use Rattle.group_cell.specs.Laying.{AreLaid}
use Rattle.group_cell.proofs.Laid.{one_more_block}
use Rattle.group_cell.proofs.table.laying.lay.Goals as goal

pub laid-preserved : goal.laid-preserved
laid-preserved c = let l = c.lay_block-block.ensures in let image : Image = c.image-item.result in let n : ℕ = c.laid.image-index in
    let t : take (n + 1) c.args.images.now ≡ take n c.args.images.now ++ image ∷ [] = take_more c.args.images.now n image c.laid-test.true ∙ ap (λ (x : Image). take n c.args.images.now ++ x ∷ []) (sym c.image-item.is) in
    subst (λ (x : List ℕ × List (List ℕ) × List Image). AreLaid x.0 x.1 x.2) (λ i. (sym c.in_ok-extend_from_slice.ensures.items i, sym c.in_ok-push.ensures.items i, sym t i))
    (one_more_block c.laid.words.items c.laid.owners.items c.lay_block-block.result.words c.lay_block-block.result.owners (take n c.args.images.now) image c.laid.invariant l.width l)
