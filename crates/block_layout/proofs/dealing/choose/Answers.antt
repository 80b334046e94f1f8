use Rattle.std.proofs.Common.{arith, ap, sym, ◌∙◌, ◌≡◌, ◌%◌, map, fold, refl}
use Rattle.block_layout.specs.Dealing.{deal, none_dealt, choices_of, order_of}
use Rattle.block_layout.specs.declared.dealing.Dealt.{Dealt}
use Rattle.block_layout.proofs.Ranks.{buckets_of_ranks, none_loaded, left_more, none_left}
use Rattle.block_layout.proofs.dealing.choose.Goals as goal

pub ranks-init : goal.ranks-init
ranks-init c = rw c.none-dealt.ensures (record { bounded = none_loaded; left = refl })

pub ranks-preserved : goal.ranks-preserved
ranks-preserved c = record {
  bounded = λ k d few. omega (arith, c.deal.ensures.bounded _ c.ranks.invariant.bounded k d few);
  left =
      rw (c.deal.ensures.dealt, c.bucket_of.ensures)
      (left_more c.args.sizes.now c.ranks_in_order.result c.ranks.rank-index c.ranks.dealt (omega arith)
      ∙ c.ranks.invariant.left);
}

pub returns : goal.returns
unfolding choices_of
returns c =
    let sizes = c.args.sizes.now in
    let all_dealt : c.ranks.dealt ≡ fold (deal sizes) none_dealt (map (λ r. r % 256) c.ranks_in_order.result) =
    sym (none_left sizes c.ranks_in_order.result c.ranks.rank-index c.ranks.dealt (omega arith)) ∙ c.ranks.invariant.left in
    let in_order : map (λ r. r % 256) c.ranks_in_order.result ≡ order_of sizes =
    ap (map (λ r. r % 256)) c.ranks_in_order.ensures ∙ buckets_of_ranks sizes in
    ap (λ (dealt : Dealt). dealt.choices) all_dealt ∙ ap (λ order. (fold (deal sizes) none_dealt order).choices) in_order
