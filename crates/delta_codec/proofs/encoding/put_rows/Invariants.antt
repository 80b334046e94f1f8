use Rattle.std.proofs.Common.{◌≡◌, ℕ, ◌+◌, ◌*◌, ◌<◌, ◌++◌, get_or, take}
use Rattle.std.specs.List.{flat_map}
use Rattle.arrayvec.specs.ArrayVec.{array_vec_len}
use Rattle.delta_codec.specs.Spelling.{row_octets}
use Rattle.group_search.specs.declared.rows.Row.{Row}
use Rattle.flow_types.specs.Key.{IsKeyValue}
use Rattle.delta_codec.proofs.encoding.put_rows.Given as goal

-- the octets of the rows passed so far, whose numbers are within their fields
abbrev pub invariant-rows : goal.invariant-rows
invariant-rows g l =
    (l.octets.items ≡ l.fn.octets.items ++ flat_map row_octets (take l.row-index l.rows))
    × (array_vec_len l.octets ≡ array_vec_len l.fn.octets + 14 * l.row-index)
    × ((k : ℕ) (d : Row) → k < l.row-index → IsKeyValue (get_or l.rows k d).key)
