use Rattle.flow_reader.proofs.FlowFacts.{opening_fits}
use Rattle.flow_reader.proofs.law.openings_fit.Goals as goal

pub returns : goal.returns
returns c = opening_fits
