use Rattle.std.proofs.Common.{◌≡◌, ◌<◌, ◌≤◌, ℕ, length, sym, subst, arith}
use Rattle.packet_reader.specs.declared.event.Part.TheVariants.{Fib}
use Rattle.flow_types.specs.Size.{owners_in}
use Rattle.run_model.specs.State.{journal_of}
use Rattle.cluster_replay.specs.Cluster.{RunState}
use Rattle.cluster_replay.specs.Turn.{with_turn}
use Rattle.cluster_replay.proofs.BroughtUp.{AreRaised, all_raised, none_raised, one_more_told}
use Rattle.cluster_replay.proofs.cluster.Cluster.tell_fibs.Goals as goal

pub nodes-init : goal.nodes-init
nodes-init c = record { told = none_raised c.args.self.now (with_turn Fib c.args.owner c.args.turn); within = omega arith }

pub carry_fib-requires-clause-node : goal.carry_fib-requires-clause-node
carry_fib-requires-clause-node c =
    subst (λ (r : RunState). c.nodes.node < r.cluster.opened.size.nodes) (sym c.nodes.invariant.told.others) (omega (arith, c.nodes-test.true, c.node_count-node-end.ensures.count))

pub carry_fib-requires-clause-owner : goal.carry_fib-requires-clause-owner
carry_fib-requires-clause-owner c = subst (λ (r : RunState). c.args.owner < owners_in r.cluster.opened.size) (sym c.nodes.invariant.told.others) c.requires.owner

pub carry_fib-requires-clause-sent : goal.carry_fib-requires-clause-sent
carry_fib-requires-clause-sent c = subst (λ (r : RunState). c.args.turn ≤ length (journal_of r.cluster.journals c.args.owner)) (sym c.nodes.invariant.told.others) c.requires.sent

pub nodes-preserved : goal.nodes-preserved
nodes-preserved c =
    let run = c.args.self.now in
    let sized = c.node_count-node-end.ensures.sized in
    let low : c.nodes.node < length run.cluster.nodes = omega (arith, c.nodes-test.true, c.node_count-node-end.ensures.count, sized.nodes_many) in
    record {
      told =
          one_more_told run Fib c.args.owner c.args.turn c.requires.sent (λ node there. c.requires.next node (omega (arith, there, sized.nodes_many)))
          c.nodes.node c.nodes.self c.nodes.invariant.told low c.carry_fib.new.self c.in_ok-carry_fib.ensures.taken;
      within = omega (arith, low, sized.nodes_many);
    }

pub returns : goal.returns
returns c =
    let run = c.args.self.now in
    let sized = c.node_count-node-end.ensures.sized in
    let all : c.nodes.node ≡ length run.cluster.nodes = omega (arith, c.nodes.invariant.within, c.nodes-test.false, c.node_count-node-end.ensures.count, sized.nodes_many) in
    record { told = all_raised run (with_turn Fib c.args.owner c.args.turn) c.nodes.self (subst (λ (n : ℕ). AreRaised run (with_turn Fib c.args.owner c.args.turn) n c.nodes.self) all c.nodes.invariant.told); stays = tt }
