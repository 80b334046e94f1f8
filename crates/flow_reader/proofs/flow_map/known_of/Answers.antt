use Rattle.std.proofs.lemmas.List.Elements.{All-push}
use Rattle.flow_types.specs.Key.{IsKeyValue}
use Rattle.flow_types.specs.declared.record.Flow.{Flow}
use Rattle.flow_reader.proofs.FlowMapFacts.{goes_on, one_more}
use Rattle.flow_reader.proofs.flow_map.known_of.Goals as goal

pub flows-preserved : goal.flows-preserved
flows-preserved c =
    let next = c.in_ok-take_flow.ensures.next in
    let added = c.in_ok-take_flow.ensures.added in
    let so_far = goes_on c.args.flows.now c.flows.known c.take_flow.new.known c.flows.flow-index _ c.flows-test.true c.flows.invariant.so_far added in
    rw added (record {
      sound = one_more c.args.shape c.flows.known _ c.flows.invariant.sound c.flows.invariant.values next;
      values = All-push (λ (flow : Flow). IsKeyValue flow.key) c.flows.known _ c.flows.invariant.values next.values;
      so_far = rw added at so_far;
    })
