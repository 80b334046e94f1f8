use Rattle.group_history.proofs.OneCase.{one_case}
use Rattle.group_history.proofs.laws.one_case_holds.Goals as goal

pub returns : goal.returns
returns c = one_case
