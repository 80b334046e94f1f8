use Rattle.partial_fib.proofs.MapAnswers.{records_answer}
use Rattle.partial_fib.proofs.laws.records_answer.Goals as goal

pub returns : goal.returns
returns c = records_answer
