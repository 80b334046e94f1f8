use Rattle.std.proofs.Common.{◌≡◌, ◌+◌, Ok, length}
use Rattle.std.proofs.lemmas.Result.{IfOk-weaker}
use Rattle.gtpu_path.specs.Tunnel.{carried_in, gpdu_octets, tunnel_in}
use Rattle.gtpu_path.proofs.Gpdus.{carried_written, long_written, written_reads}
use Rattle.gtpu_path.proofs.tunnel.gpdu.Goals as goal

pub returns-clause-reads : goal.returns-clause-reads
returns-clause-reads c =
    IfOk-weaker c.spell_gpdu.result (λ octets. octets ≡ gpdu_octets c.args.teid c.args.packet.now) (λ octets. tunnel_in octets ≡ Ok c.args.teid)
    (λ octets spelled. rw spelled (written_reads c.args.teid c.args.packet.now c.ranges.teid.fits c.requires)) c.spell_gpdu.ensures

pub returns-clause-carries : goal.returns-clause-carries
returns-clause-carries c =
    IfOk-weaker c.spell_gpdu.result (λ octets. octets ≡ gpdu_octets c.args.teid c.args.packet.now) (λ octets. carried_in octets ≡ c.args.packet.now)
    (λ octets spelled. rw spelled (carried_written c.args.teid c.args.packet.now)) c.spell_gpdu.ensures

pub returns-clause-long : goal.returns-clause-long
returns-clause-long c =
    IfOk-weaker c.spell_gpdu.result (λ octets. octets ≡ gpdu_octets c.args.teid c.args.packet.now) (λ octets. length octets ≡ 8 + length c.args.packet.now)
    (λ octets spelled. rw spelled (long_written c.args.teid c.args.packet.now)) c.spell_gpdu.ensures
