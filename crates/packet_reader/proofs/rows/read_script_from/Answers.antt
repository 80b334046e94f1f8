use Rattle.csv_rows.specs.Reading.{rows_left}
use Rattle.packet_reader.proofs.Forms.{read_are_formed}
use Rattle.packet_reader.proofs.rows.read_script_from.Goals as goal

pub returns-clause-formed : goal.returns-clause-formed
returns-clause-formed c = read_are_formed c.args.mode c.args.shape (rows_left c.args.reader.now) c.read_rows.result c.read_rows.ensures.script
