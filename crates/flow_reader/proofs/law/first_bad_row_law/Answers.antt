use Rattle.flow_reader.proofs.FirstBadFacts.{opening-law}
use Rattle.flow_reader.proofs.law.first_bad_row_law.Goals as goal

pub returns : goal.returns
returns c = opening-law
