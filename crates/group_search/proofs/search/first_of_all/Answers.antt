use Rattle.std.proofs.Common.{◌∙◌, sym}
use Rattle.group_search.proofs.Turns.{found_in_turn, next_turn, no_more_turns}
use Rattle.group_search.proofs.search.first_of_all.Goals as goal

pub returns-then-is_some : goal.returns-then-is_some
returns-then-is_some c =
    found_in_turn c.args.ones.now c.args.zeros.now c.turns.turn c.first_in_turn-found.result c.turns-test.true c.turns.invariant c.first_in_turn-found.ensures
    (sym c.is_some.ensures ∙ c.if-is_some.true)

pub turns-preserved : goal.turns-preserved
turns-preserved c =
    next_turn c.args.ones.now c.args.zeros.now c.turns.turn c.first_in_turn-found.result c.turns-test.true c.turns.invariant c.first_in_turn-found.ensures
    (sym c.is_some.ensures ∙ c.if-is_some.false)

pub returns : goal.returns
returns c = no_more_turns c.args.ones.now c.args.zeros.now c.turns.turn c.turns-test.false c.turns.invariant
