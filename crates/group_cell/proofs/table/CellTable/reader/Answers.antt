use Rattle.std.proofs.Common.{arith}
use Rattle.group_cell.proofs.Meeting.{splits_writer}
use Rattle.group_cell.proofs.table.CellTable.reader.Goals as goal

pub split_seat-requires : goal.split_seat-requires
split_seat-requires c = let wide = c.args.self.now.wide in let some = c.args.self.now.has_a_block in (c.requires.one_table, omega arith, splits_writer _ _ _ c.args.writer.now.writes.writes)
