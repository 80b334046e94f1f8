use Rattle.flow_types.proofs.Addresses.{read_has_32_bits}
use Rattle.flow_types.proofs.laws.addresses_have_32_bits.Goals as goal

pub returns : goal.returns
returns c = read_has_32_bits
