use Rattle.group_search.proofs.EachFlow.{gives_each_handler}
use Rattle.group_search.proofs.routing.records_give_each_handler.Goals as goal

pub returns : goal.returns
returns c = gives_each_handler
