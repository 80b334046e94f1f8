use Rattle.std.proofs.Common.{◌≡◌, drop}
use Rattle.flow_types.proofs.Reading.{number_after}
use Rattle.flow_types.proofs.numeral.digits_up_to.Given as goal

abbrev pub invariant-digits : goal.invariant-digits
invariant-digits l = number_after l.max l.value (drop l.c-index l.text) ≡ number_after l.max 0 l.text
