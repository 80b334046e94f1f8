use Rattle.delta_codec.proofs.Prefixes.{none_begins}
use Rattle.delta_codec.proofs.laws.no_spelling_begins_another.Goals as goal

pub returns : goal.returns
returns c = none_begins c.args.shape
