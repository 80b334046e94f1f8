use Rattle.std.proofs.Common.{◌∙◌, ap, arith, length}
use Rattle.std.proofs.lemmas.List.{length-replicate}
use Rattle.cluster_storm.proofs.Dealt.{begins, ends, goes-on}
use Rattle.cluster_storm.proofs.dealing.working_owners.Goals as goal

pub events-preserved : goal.events-preserved
events-preserved c = (
  c.mark.ensures.many,
  goes-on c.args.shape c.args.events.now c.events.event-index c.events-test.true _ c.events.working.items c.mark.new.working.items c.events.invariant.1 c.mark.ensures.marked,
)

pub events-init : goal.events-init
events-init c = (
  ap length c.in_ok-working.ensures ∙ length-replicate c.nodes.result _ ∙ c.nodes.ensures.value,
  begins c.args.shape c.args.events.now c.nodes.result c.in_ok-working.working.items c.in_ok-working.ensures,
)

pub returns : goal.returns
returns c = record {
  many = c.events.invariant.0;
  others = ends c.args.shape c.args.events.now c.events.event-index (let past = c.events-test.false in omega (arith, past)) c.events.working.items c.events.invariant.1;
}
