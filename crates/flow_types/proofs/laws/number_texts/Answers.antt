use Rattle.std.proofs.Common.{ap, ◌∙◌}
use Rattle.flow_types.specs.Text.{number_value}
use Rattle.flow_types.proofs.Numerals.{read_is_decimal, decimal_is_read}
use Rattle.flow_types.proofs.laws.number_texts.Goals as goal

pub returns : goal.returns
returns c max n text small = (
  λ read. let is_read = read_is_decimal max n text read in (is_read.bounded, is_read.decimal small),
  λ written. ap (number_value max) written.1 ∙ decimal_is_read max n small written.0,
)
