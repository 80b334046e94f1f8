use Rattle.std.proofs.lemmas.Result.{on_ok_weaker}
use Rattle.grind_rows.proofs.Lengths.{number_within}
use Rattle.grind_rows.proofs.fields.append_number.Goals as goal

pub returns-clause-within : goal.returns-clause-within
returns-clause-within c = on_ok_weaker _ (number_within _ _ c.args.number c.ranges.number.fits) c.write_count.ensures
