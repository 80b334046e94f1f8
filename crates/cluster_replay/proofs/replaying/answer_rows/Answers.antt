use Rattle.cluster_open.specs.Limits.{named_fault}
use Rattle.cluster_replay.specs.Outcome.{replay_replies}
use Rattle.cluster_replay.proofs.RunFacts.{named_of_fault}
use Rattle.cluster_replay.proofs.replaying.answer_rows.Goals as goal

pub returns-in-Err-clause-answers : goal.returns-in-Err-clause-answers
returns-in-Err-clause-answers g c = named_of_fault replay_replies c.args.bytes.now (named_fault c.in-Err.fault) c.in-Err.ensures.refused
