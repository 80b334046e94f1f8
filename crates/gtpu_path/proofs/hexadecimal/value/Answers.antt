use Rattle.std.proofs.Common.{arith, refl, slice_index}
use Rattle.gtpu_path.specs.declared.hexadecimal.TheConstants.{VALUES}
use Rattle.gtpu_path.proofs.Values.{value_of_entry}
use Rattle.gtpu_path.proofs.hexadecimal.value.Goals as goal

pub returns : goal.returns
returns c small = value_of_entry c.args.digit (slice_index VALUES c.args.digit) (omega arith) refl small
