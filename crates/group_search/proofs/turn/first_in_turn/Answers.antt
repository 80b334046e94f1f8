use Rattle.std.proofs.Common.{arith}
use Rattle.group_search.proofs.LaneMasks.{free_of_both}
use Rattle.group_search.proofs.Turns.{none_free_here, some_free_here, lane_below}
use Rattle.group_search.proofs.turn.first_in_turn.Goals as goal

pub returns-then-free-eq0 : goal.returns-then-free-eq0
returns-then-free-eq0 c =
    none_free_here c.args.ones.now c.args.zeros.now c.args.first c.free_lanes-free.result
    (free_of_both c.all_places-arrays.result c.args.first c.free_lanes-free.result c.args.ones.now c.args.zeros.now c.all_places-arrays.ensures c.free_lanes-free.ensures) c.if-free-eq0.true

pub overflow_cast-result : goal.overflow_cast-result
overflow_cast-result c =
    let below = lane_below c.args.ones.now c.args.zeros.now c.args.first c.free_lanes-free.result
    (free_of_both c.all_places-arrays.result c.args.first c.free_lanes-free.result c.args.ones.now c.args.zeros.now c.all_places-arrays.ensures c.free_lanes-free.ensures) (omega arith) in
    record { fits = omega (arith, below, c.requires) }

pub bounds-arrays-lane : goal.bounds-arrays-lane
bounds-arrays-lane c =
    lane_below c.args.ones.now c.args.zeros.now c.args.first c.free_lanes-free.result
    (free_of_both c.all_places-arrays.result c.args.first c.free_lanes-free.result c.args.ones.now c.args.zeros.now c.all_places-arrays.ensures c.free_lanes-free.ensures) (omega arith)

pub returns : goal.returns
returns c =
    some_free_here c.args.ones.now c.args.zeros.now c.args.first c.free_lanes-free.result
    (free_of_both c.all_places-arrays.result c.args.first c.free_lanes-free.result c.args.ones.now c.args.zeros.now c.all_places-arrays.ensures c.free_lanes-free.ensures)
    c.all_places-arrays.result c.all_places-arrays.ensures (omega arith)
