use Rattle.delta_codec.proofs.Prefixes.{one_message}
use Rattle.delta_codec.proofs.laws.spellings_have_one_message.Goals as goal

pub returns : goal.returns
returns c = one_message c.args.shape
