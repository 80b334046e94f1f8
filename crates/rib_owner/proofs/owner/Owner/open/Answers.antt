use Rattle.std.proofs.Common.{ap, length, arith}
use Rattle.rib_owner.proofs.Filled.{owner_of, rib_of}
use Rattle.rib_owner.proofs.owner.Owner.open.Goals as goal

pub invariant_of-result : goal.invariant_of-result
invariant_of-result c = record {
  owner = owner_of c.args.shape c.args.number c.args.flows.now (omega arith) c.requires.node c.args.images.now c.requires.built c.requires.distinct _ c.in_ok-blocks.ensures;
  turns = omega (arith, ap length c.new.ensures.changes);
}

pub returns-clause-stands : goal.returns-clause-stands
returns-clause-stands c =
    rib_of c.args.shape c.args.number c.args.flows.now (omega arith) c.requires.node c.args.images.now c.requires.built c.requires.distinct _ c.in_ok-blocks.ensures
    c.new.result c.new.ensures.changes
