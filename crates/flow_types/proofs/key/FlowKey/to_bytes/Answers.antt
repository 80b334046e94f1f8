use Rattle.std.proofs.Common.{sym, arith}
use Rattle.flow_types.specs.Key.{IsKeyValue}
use Rattle.flow_types.proofs.Octets.{octets_are}
use Rattle.flow_types.proofs.key.FlowKey.to_bytes.Goals as goal

pub returns : goal.returns
returns c =
    let fits : IsKeyValue c.args.self.now = record {
      source = omega arith;
      destination = omega arith;
      source_port = omega arith;
      destination_port = omega arith;
      protocol = omega arith;
    } in
    rw (c.to_be_bytes.ensures, c.to_be_bytes-2.ensures, c.to_be_bytes-3.ensures, c.to_be_bytes-4.ensures, c.to_be_bytes-5.ensures)
    (sym (octets_are c.args.self.now fits))
