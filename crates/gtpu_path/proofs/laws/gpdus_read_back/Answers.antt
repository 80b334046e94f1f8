use Rattle.gtpu_path.proofs.Gpdus.{carried_written, written_reads}
use Rattle.gtpu_path.proofs.laws.gpdus_read_back.Goals as goal

pub returns-clause-teid : goal.returns-clause-teid
returns-clause-teid c = written_reads

pub returns-clause-packet : goal.returns-clause-packet
returns-clause-packet c = carried_written
