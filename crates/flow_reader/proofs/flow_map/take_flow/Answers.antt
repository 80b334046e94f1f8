use Rattle.std.proofs.Common.{sym, arith, ◌∙◌}
use Rattle.flow_reader.proofs.FlowMapFacts.{is_there}
use Rattle.flow_reader.proofs.KeyFacts.{has_key-true}
use Rattle.flow_reader.proofs.flow_map.take_flow.Goals as goal

pub returns-then-not-branch-clause-refused : goal.returns-then-not-branch-clause-refused
returns-then-not-branch-clause-refused c =
    (c.len-place.ensures, omega arith, has_key-true c.args.flow.key c.args.known.now (is_there _ (sym c.if-not-branch.true ∙ c.in_ok-add.ensures.new_key)))
