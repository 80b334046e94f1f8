use Rattle.std.proofs.Common.{◌≡◌, ℕ, ◌+◌, ◌*◌, ◌<◌, ◌++◌, get_or, take}
use Rattle.std.specs.List.{flat_map}
use Rattle.arrayvec.specs.ArrayVec.{array_vec_len}
use Rattle.delta_codec.specs.Spelling.{pair_octets}
use Rattle.group_search.specs.declared.entry.Pair.{Pair}
use Rattle.group_search.specs.Words.{IsPair}
use Rattle.delta_codec.proofs.encoding.put_pairs.Given as goal

-- the octets of the pairs passed so far, whose numbers are within their fields
abbrev pub invariant-pairs : goal.invariant-pairs
invariant-pairs g l =
    (l.octets.items ≡ l.fn.octets.items ++ flat_map pair_octets (take l.pair-index l.pairs))
    × (array_vec_len l.octets ≡ array_vec_len l.fn.octets + 3 * l.pair-index)
    × ((k : ℕ) (d : Pair) → k < l.pair-index → IsPair (get_or l.pairs k d))
