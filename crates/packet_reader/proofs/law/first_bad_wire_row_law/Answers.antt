use Rattle.packet_reader.proofs.FirstBadFacts.{script-law}
use Rattle.packet_reader.specs.Wire.{wire_events_in}
use Rattle.packet_reader.proofs.law.first_bad_wire_row_law.Goals as goal

pub returns : goal.returns
returns c shape = script-law (wire_events_in shape)
