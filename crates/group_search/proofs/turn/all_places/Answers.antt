use Rattle.group_search.proofs.LaneMasks.{none_so_far, one_more, all_masks}
use Rattle.group_search.proofs.turn.all_places.Goals as goal

pub lines-init : goal.lines-init
lines-init c = none_so_far c.args.first c.args.lines.now

pub lines-preserved : goal.lines-preserved
lines-preserved c =
    one_more c.lines.places c.places-places.result c.args.first c.lines.line-index c.line-item.result c.line-item.result c.args.lines.now c.lines-test.true c.line-item.is
    c.places-places.ensures c.lines.invariant

pub returns : goal.returns
returns c = all_masks c.lines.places c.args.first c.lines.line-index c.args.lines.now c.lines-test.false c.lines.invariant
