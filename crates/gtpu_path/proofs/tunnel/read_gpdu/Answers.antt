use Rattle.std.proofs.Common.{◌≡◌, ◌≤◌, ℕ, length, arith}
use Rattle.gtpu_path.specs.Octets.{AreOctets}
use Rattle.gtpu_path.specs.Rules.{first_broken}
use Rattle.gtpu_path.specs.Tunnel.{carried_in, gpdu_octets, gpdu_rules, teid_in, tunnel_in}
use Rattle.gtpu_path.proofs.FirstBroken.{read_as, refused_exactly, taken_exactly, where_met}
use Rattle.gtpu_path.proofs.Gpdus.{carries_few, met_again, met_long}
use Rattle.gtpu_path.proofs.tunnel.read_gpdu.Goals as goal

pub returns-clause-taken : goal.returns-clause-taken
unfolding tunnel_in
returns-clause-taken c = rw c.read_header.ensures (taken_exactly (gpdu_rules c.args.octets.now) (teid_in c.args.octets.now))

pub returns-clause-refused : goal.returns-clause-refused
unfolding tunnel_in
returns-clause-refused c why = rw c.read_header.ensures (refused_exactly (gpdu_rules c.args.octets.now) (teid_in c.args.octets.now) why)

pub returns-clause-teid : goal.returns-clause-teid
unfolding tunnel_in
returns-clause-teid c = rw c.read_header.ensures (read_as (first_broken (gpdu_rules c.args.octets.now)) (teid_in c.args.octets.now))

pub returns-clause-spelled : goal.returns-clause-spelled
unfolding tunnel_in
returns-clause-spelled c =
    let octets : AreOctets c.args.octets.now = λ place. let f = c.type_inv.octets place in omega arith in
    rw c.read_header.ensures (where_met (gpdu_rules c.args.octets.now) (teid_in c.args.octets.now)
    (λ teid. c.args.octets.now ≡ gpdu_octets teid (carried_in c.args.octets.now)) (met_again c.args.octets.now octets))

pub returns-clause-few : goal.returns-clause-few
unfolding tunnel_in
returns-clause-few c =
    let octets : AreOctets c.args.octets.now = λ place. let f = c.type_inv.octets place in omega arith in
    rw c.read_header.ensures (where_met (gpdu_rules c.args.octets.now) (teid_in c.args.octets.now)
    (λ (_ : ℕ). length (carried_in c.args.octets.now) ≤ 65535) (carries_few c.args.octets.now octets))

pub returns-clause-long : goal.returns-clause-long
unfolding tunnel_in
returns-clause-long c =
    rw c.read_header.ensures (where_met (gpdu_rules c.args.octets.now) (teid_in c.args.octets.now)
    (λ (_ : ℕ). 8 ≤ length c.args.octets.now) (met_long c.args.octets.now))
