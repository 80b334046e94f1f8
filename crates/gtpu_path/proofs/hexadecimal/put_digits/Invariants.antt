use Rattle.std.proofs.Common.{◌≡◌, ◌*◌, take, drop}
use Rattle.hex.specs.Hex.{decode_pairs}
use Rattle.hex.proofs.Pairs.{prepend}
use Rattle.gtpu_path.proofs.hexadecimal.put_digits.Given as goal

-- the octets so far, before those of the rest of the text
abbrev pub invariant-places : goal.invariant-places
invariant-places l =
    decode_pairs 0 l.text ≡ prepend (take l.place l.octets) (decode_pairs (2 * l.place) (drop (2 * l.place) l.text))
