-- An octet of an address, read digit by digit.
use Rattle.std.specs.Prelude.{ℕ, ◌==◌, if◌then◌else◌, List, [], ◌∷◌, Option, Some, None}
use Rattle.std.specs.Str.{all_ascii_digits}
use Rattle.std.specs.Str.Parse.{digits_value_after}
use Rattle.flow_types.specs.Text.{number_value, up_to}

-- the octet whose digits so far have this value, where there are any, and whose other digits are the text: after a 0 comes
-- none
unfoldable pub octet_with : Option ℕ → List ℕ → Option ℕ
octet_with None text = number_value 255 text
octet_with (Some so_far) [] = up_to 255 so_far
octet_with (Some so_far) (c ∷ cs) =
    if so_far == 0 then None
    else if all_ascii_digits (c ∷ cs) then up_to 255 (digits_value_after 10 so_far (c ∷ cs))
    else None
