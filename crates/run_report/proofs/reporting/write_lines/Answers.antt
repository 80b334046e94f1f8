use Rattle.std.proofs.Common.{arith}
use Rattle.run_report.proofs.LineByLine.{as_many, of_event_at, packets-few, text_more, text_end}
use Rattle.run_report.proofs.reporting.write_lines.Goals as goal

pub bounds-replies-index : goal.bounds-replies-index
bounds-replies-index c = omega (arith, as_many c.args.script.now c.args.replies.now c.requires)

pub write_line-requires : goal.write_line-requires
write_line-requires c = of_event_at c.args.script.now c.args.replies.now c.events.index _ _ c.requires c.events-test.true

pub events-preserved : goal.events-preserved
events-preserved c =
    let same = as_many c.args.script.now c.args.replies.now c.requires in
    record {
      few = rw c.packets_with-packets.ensures (packets-few _ _ _ c.events.invariant.few);
      so_far =
          rw c.packets_with-packets.ensures
          (text_more c.args.script.now c.args.replies.now c.events.index c.events.packets _ _ c.events.invariant.so_far _ _ _ c.events-test.true same c.in_ok-write_line.ensures);
    }

pub returns : goal.returns
returns c = text_end c.args.script.now c.args.replies.now c.events.index c.events.packets _ _ c.events.invariant.so_far c.events-test.false
