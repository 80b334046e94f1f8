-- The law.
use Rattle.cluster_open.proofs.OneRun.{text_tells}
use Rattle.cluster_open.proofs.law.one_text_one_run.Goals as goal

pub returns : goal.returns
returns c = text_tells
