use Rattle.std.proofs.Common.{◌≡◌, ◌<◌, ◌≤◌, drop}
use Rattle.flow_types.specs.Text.{address_value}
use Rattle.flow_types.proofs.Dotted.{bound, text_says}
use Rattle.flow_types.proofs.address.read_address.Given as goal

-- what is left of the text says, after the octets so far, what the whole text says
abbrev pub invariant-octets : goal.invariant-octets
invariant-octets l = record {
  said : text_says l.dots_left l.upper l.octet (drop l.c-index l.text) ≡ address_value l.text;
  bounded : l.upper < bound l.dots_left;
  few : l.dots_left ≤ 3;
}
