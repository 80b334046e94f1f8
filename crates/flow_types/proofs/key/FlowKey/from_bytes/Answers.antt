use Rattle.std.proofs.Common.{refl}
use Rattle.flow_types.proofs.Octets.{octets_back}
use Rattle.flow_types.proofs.key.FlowKey.from_bytes.Goals as goal

pub returns : goal.returns
returns c = octets_back _ c.args.bytes.now (record {
  source = c.from_be_bytes.ensures;
  destination = c.from_be_bytes-2.ensures;
  source_port = c.from_be_bytes-3.ensures;
  destination_port = c.from_be_bytes-4.ensures;
  protocol = refl;
}) c.told-bytes c.fits-bytes
