-- The image that is read is that of the next block.
use Rattle.std.proofs.Common.{◌≡◌, ◌∙◌, [], ◌∷◌, ◌++◌, Some, ap, rules}
use Rattle.std.specs.List.{slice_get}
use Rattle.std.proofs.lemmas.Option.{slice_get_read}
use Rattle.replica_shard.proofs.Dealt.{next_block, one_more}
use Rattle.replica_shard.proofs.shard.plan.owners_images.Goals as goal

pub dealt-preserved : goal.dealt-preserved
dealt-preserved c =
    let image = c.in_ok-clone.field-0 in
    let same : image ≡ c.index-images-from.result = c.in_ok-clone.ensures.cases in
    let read : slice_get c.args.images.now c.dealt.block ≡ Some c.index-images-from.result = slice_get_read c.args.images.now c.blocks-count.result c.dealt.block c.index-images-from.result (search rules) (search rules) (search rules) in
    let pushed : c.push.new.self.items ≡ c.dealt.own.items ++ image ∷ [] = search rules in
    rw pushed (record {
      block = next_block _ _ _ c.dealt.own.items image c.dealt.invariant.block;
      first = one_more _ _ _ _ c.dealt.own.items image c.dealt.invariant.first c.dealt.invariant.block (read ∙ ap Some (let e : c.index-images-from.result ≡ image = cc in e));
    })
