use Rattle.turn_log.proofs.Growing.{opened}
use Rattle.turn_log.proofs.sender.Sender.open.Goals as goal

pub invariant_of-sender : goal.invariant_of-sender
invariant_of-sender c = record {
  flows = c.args.flows.now;
  stands = opened c.args.shape c.args.number c.args.flows.now c.in_ok-open.field-0 c.new.result.items c.new-2.result.items c.read_shape.ensures c.requires.node
      (record { distinct = c.requires.distinct; handled = c.requires.handled; keyed = c.read_keys.ensures })
      c.in_ok-open.ensures.stands c.in_ok-open.ensures.size c.in_ok-open.ensures.number c.in_ok-open.ensures.journal c.new-2.ensures.items;
}

pub returns-clause-stands : goal.returns-clause-stands
returns-clause-stands c =
    opened c.args.shape c.args.number c.args.flows.now c.in_ok-open.field-0 c.new.result.items c.new-2.result.items c.read_shape.ensures c.requires.node
    (record { distinct = c.requires.distinct; handled = c.requires.handled; keyed = c.read_keys.ensures })
    c.in_ok-open.ensures.stands c.in_ok-open.ensures.size c.in_ok-open.ensures.number c.in_ok-open.ensures.journal c.new-2.ensures.items
