use Rattle.delta_codec.proofs.Loops.{ReadRows}
use Rattle.delta_codec.proofs.content.gather_rows.Given as goal

-- the first rows are read
abbrev pub invariant-rows : goal.invariant-rows
invariant-rows l = ReadRows l.shape.nodes l.bytes l.at l.count l.counter l.rows.items l.before l.place
