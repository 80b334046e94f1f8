use Rattle.std.proofs.Common.{◌≡◌, arith}
use Rattle.std.proofs.lemmas.Result.{IfOk-at_ok}
use Rattle.std.specs.String.{string_bytes}
use Rattle.hex.specs.Hex.{encode_lower}
use Rattle.gtpu_path.specs.Octets.{AreOctets}
use Rattle.gtpu_path.proofs.Digits.{written_is_read}
use Rattle.gtpu_path.proofs.hexadecimal.write_hex.Goals as goal

pub returns-clause-reads : goal.returns-clause-reads
returns-clause-reads c =
    let octets : AreOctets c.args.octets.now = λ place. let f = c.type_inv.octets place in omega arith in
    let text : string_bytes c.in_ok-text.text ≡ encode_lower c.args.octets.now = IfOk-at_ok _ c.in_ok-text.was c.encode.ensures in
    rw (c.into_bytes.ensures.value, text) (written_is_read c.args.octets.now octets)
