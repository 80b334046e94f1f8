-- A key's octets are those of its number.
use Rattle.std.proofs.Common.{◌≡◌, length, refl, ap, ◌∙◌, arith}
use Rattle.flow_types.specs.declared.key.FlowKey.{FlowKey}
use Rattle.flow_types.specs.Key.{number, octets, IsKeyValue}
use Rattle.flow_types.proofs.Octets.{octets_are, field_octets}
use Rattle.delta_codec.specs.Fields.{number_of}

pub octets-long : (key : FlowKey) → length (octets key) ≡ 13
unfolding octets
octets-long key = refl

fields-number : (key : FlowKey) → IsKeyValue key → number_of (field_octets key) ≡ number key
unfolding number_of
fields-number key h = omega (arith, h.source, h.destination, h.source_port, h.destination_port, h.protocol)

pub octets-number : (key : FlowKey) → IsKeyValue key → number_of (octets key) ≡ number key
octets-number key h = ap number_of (octets_are key h) ∙ fields-number key h
