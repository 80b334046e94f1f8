use Rattle.std.proofs.Common.{◌≡◌, ◌*◌, ◌%◌, ◌^◌, ◌≤◌, map, fold, drop}
use Rattle.std.specs.List.{All}
use Rattle.block_layout.specs.Dealing.{deal, none_dealt}
use Rattle.block_layout.proofs.dealing.choose.Given as goal

abbrev pub invariant-ranks : goal.invariant-ranks
invariant-ranks l = record {
  bounded : All (λ load. load ≤ l.rank-index * 2 ^ 16) l.dealt.loads;
  left : fold (deal l.sizes) l.dealt (map (λ rank. rank % 256) (drop l.rank-index l.rank-items))
      ≡ fold (deal l.sizes) none_dealt (map (λ rank. rank % 256) l.rank-items);
}
