use Rattle.std.proofs.Common.{◌≡◌, ◌%◌, ◌*◌, ◌+◌, length, slice_index, ◌∙◌, arith}
use Rattle.hex.proofs.HexLemmas.{decode_of-even}
use Rattle.hex.proofs.Pairs.{decode_done, decode_step}
use Rattle.gtpu_path.proofs.Digits.{pair_of_values}
use Rattle.gtpu_path.proofs.hexadecimal.put_digits.Goals as goal

pub places-preserved : goal.places-preserved
places-preserved c =
    decode_step _ _ c.places.place _ (omega arith) (omega arith)
    (pair_of_values (slice_index c.args.text.now (2 * c.places.place)) (slice_index c.args.text.now (2 * c.places.place + 1)) (2 * c.places.place) _ _
    (c.value-high.ensures (omega arith)) (c.value-low.ensures (omega arith)))
    c.places.invariant

pub returns : goal.returns
returns c all =
    let even : length c.args.text.now % 2 ≡ 0 = omega arith in
    decode_of-even c.args.text.now even ∙ decode_done _ c.places.octets c.places.place (omega arith) (omega arith) c.places.invariant
