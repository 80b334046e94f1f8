use Rattle.group_search.proofs.FirstPastLimit.{names_the_first}
use Rattle.group_search.proofs.routing.past_limit_names_the_first.Goals as goal

pub returns : goal.returns
returns c = names_the_first
