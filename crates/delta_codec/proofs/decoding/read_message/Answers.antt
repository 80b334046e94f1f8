use Rattle.std.proofs.Common.{sym}
use Rattle.delta_codec.specs.Short.{message_of}
use Rattle.delta_codec.proofs.Starts.{begun_sound, with_rows}
use Rattle.delta_codec.proofs.decoding.read_message.Goals as goal

pub returns-in-Short-Table-default-clause-fault : goal.returns-in-Short-Table-default-clause-fault
returns-in-Short-Table-default-clause-fault c =
    let starts = rw (c.in-Short-Table-default.is) at c.in_ok-table.ensures.starts in
    sym (begun_sound c.args.shape c.args.bytes.now (message_of c.in-Short-Table-default.field-0) c.in-Short-Table-default.used starts.0 starts.1)

pub returns-in-Short-Fib-default-clause-fault : goal.returns-in-Short-Fib-default-clause-fault
returns-in-Short-Fib-default-clause-fault c =
    let starts = rw (c.in-Short-Fib-default.is) at c.in_ok-table.ensures.starts in
    sym (begun_sound c.args.shape c.args.bytes.now (message_of c.in-Short-Fib-default.field-0) c.in-Short-Fib-default.used starts.0 starts.1)

pub returns-in_ok-rows-in-Rows-clause-spelled : goal.returns-in_ok-rows-in-Rows-clause-spelled
returns-in_ok-rows-in-Rows-clause-spelled c =
    let starts = rw (c.in-Rows.is) at c.in_ok-table.ensures.starts in
    let read = c.in_ok-rows-in-Rows.ensures in
    rw (c.from.ensures)
    (with_rows c.args.shape c.args.bytes.now c.in-Rows.head c.in-Rows.count c.in_ok-rows-in-Rows.used c.in_ok-rows-in-Rows.rows starts read.stands read.counted read.fits read.end)
