use Rattle.std.proofs.Common.{ap, sym, ◌∙◌, arith}
use Rattle.delta_codec.specs.Fields.{number_of}
use Rattle.flow_types.specs.Key.{IsKeyValue}
use Rattle.delta_codec.proofs.Keys.{octets-number}
use Rattle.delta_codec.proofs.reading.take_key.Goals as goal

pub returns-clause-value : goal.returns-clause-value
returns-clause-value c =
    let key : IsKeyValue c.from_bytes.result = record { source = omega arith; destination = omega arith; source_port = omega arith; destination_port = omega arith; protocol = omega arith } in
    sym (octets-number c.from_bytes.result key) ∙ ap number_of (c.from_bytes.ensures ∙ c.in_ok-octets.ensures.found.0)
