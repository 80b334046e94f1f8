use Rattle.delta_codec.proofs.Decoded.{bad_exactly, only_one, short_exactly}
use Rattle.delta_codec.proofs.decoding.decode.Goals as goal

pub returns-clause-only : goal.returns-clause-only
returns-clause-only c =
    only_one c.args.shape c.args.bytes.now c.read_message.result c.read_message.ensures.spelled c.read_message.ensures.sized c.read_message.ensures.fault

pub returns-clause-bad : goal.returns-clause-bad
returns-clause-bad c = bad_exactly c.args.shape c.args.bytes.now c.read_message.result c.read_message.ensures.fault

pub returns-clause-short : goal.returns-clause-short
returns-clause-short c = short_exactly c.args.shape c.args.bytes.now c.read_message.result c.read_message.ensures.fault
