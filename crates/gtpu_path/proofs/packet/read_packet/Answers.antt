use Rattle.gtpu_path.specs.Packet.{head_in, packet_in, packet_rules}
use Rattle.gtpu_path.proofs.FirstBroken.{read_as, refused_exactly, taken_exactly, where_met}
use Rattle.gtpu_path.proofs.Headers.{ends_within}
use Rattle.gtpu_path.specs.Rules.{first_broken}
use Rattle.std.proofs.Common.{◌≤◌, length}
use Rattle.gtpu_path.proofs.packet.read_packet.Goals as goal

pub returns-clause-taken : goal.returns-clause-taken
unfolding packet_in
returns-clause-taken c = rw c.read_headers.ensures (taken_exactly (packet_rules c.args.octets.now) (head_in c.args.octets.now))

pub returns-clause-refused : goal.returns-clause-refused
unfolding packet_in
returns-clause-refused c why = rw c.read_headers.ensures (refused_exactly (packet_rules c.args.octets.now) (head_in c.args.octets.now) why)

pub returns-clause-head : goal.returns-clause-head
unfolding packet_in
returns-clause-head c = rw c.read_headers.ensures (read_as (first_broken (packet_rules c.args.octets.now)) (head_in c.args.octets.now))

pub returns-clause-within : goal.returns-clause-within
unfolding packet_in
returns-clause-within c = rw c.read_headers.ensures (where_met (packet_rules c.args.octets.now) (head_in c.args.octets.now) (λ head. head.total ≤ length c.args.octets.now) (ends_within c.args.octets.now))
