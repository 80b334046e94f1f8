use Rattle.std.proofs.Common.{sym, arith}
use Rattle.delta_codec.proofs.Loops.{pairs_more}
use Rattle.delta_codec.proofs.content.read_pairs.Goals as goal

pub pairs-preserved : goal.pairs-preserved
pairs-preserved c =
    pairs_more c.args.bytes.now c.args.at c.value_bits-bits.result c.pairs.bit c.pairs.pairs c.pairs.place c.pairs.invariant (omega arith) c.in_ok-pairs.field-0 (omega arith)
    c.in_ok-pairs.ensures.stands c.in_ok-pairs.ensures.sized (sym c.in_ok-pairs.ensures.fault)
