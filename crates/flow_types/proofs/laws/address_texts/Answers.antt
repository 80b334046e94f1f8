use Rattle.std.proofs.Common.{ap, ◌∙◌}
use Rattle.flow_types.specs.Text.{address_value}
use Rattle.flow_types.proofs.Addresses.{read_is_written, written_is_read}
use Rattle.flow_types.proofs.laws.address_texts.Goals as goal

pub returns : goal.returns
returns c address text small =
    (λ read. read_is_written address text read, λ written. ap address_value written ∙ written_is_read address small)
