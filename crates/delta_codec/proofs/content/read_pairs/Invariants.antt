use Rattle.delta_codec.proofs.Loops.{ReadPairs}
use Rattle.delta_codec.proofs.content.read_pairs.Given as goal

-- the pairs of the bits passed so far are read
abbrev pub invariant-pairs : goal.invariant-pairs
invariant-pairs l = ReadPairs l.bytes l.at l.bits l.bit l.pairs l.place
