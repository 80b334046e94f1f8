use Rattle.std.proofs.Common.{◌≡◌, ◌∙◌, ◌+◌, ◌<◌, ◌≤◌, ℕ, length, sym, ap, subst, arith}
use Rattle.run_model.specs.Carrying.{turns_taken}
use Rattle.flow_types.specs.Size.{owners_in}
use Rattle.run_model.specs.State.{journal_of}
use Rattle.cluster_replay.specs.Cluster.{RunState}
use Rattle.cluster_replay.specs.Turn.{with_turns}
use Rattle.cluster_replay.proofs.BroughtUp.{first_turns, next_turns, then_taken}
use Rattle.cluster_replay.proofs.cluster.Cluster.bring_up.Goals as goal

pub turns-init : goal.turns-init
turns-init c = record {
  at = first_turns c.args.self.now c.least_taken-taken.ensures.sized c.args.part c.args.owner c.requires c.least_taken-taken.result c.least_taken-taken.ensures.taken;
  within = omega (arith, c.least_taken-taken.ensures.sent, c.sent_turns-sent.ensures);
}

pub tell-requires-clause-owner : goal.tell-requires-clause-owner
tell-requires-clause-owner c = subst (λ (r : RunState). c.args.owner < owners_in r.cluster.opened.size) (sym c.turns.invariant.at) c.requires

pub tell-requires-clause-sent : goal.tell-requires-clause-sent
tell-requires-clause-sent c =
    subst (λ (r : RunState). c.turns.turn + 1 ≤ length (journal_of r.cluster.journals c.args.owner)) (sym c.turns.invariant.at) (omega (arith, c.turns-test.true, c.sent_turns-sent.ensures))

pub tell-requires-clause-next : goal.tell-requires-clause-next
tell-requires-clause-next c =
    subst (λ (r : RunState). (node : ℕ) → node < r.cluster.opened.size.nodes → c.turns.turn + 1 ≤ turns_taken c.args.part r.cluster.nodes node c.args.owner + 1) (sym c.turns.invariant.at)
    (λ node low.
    let enough = then_taken c.args.self.now c.least_taken-taken.ensures.sized c.args.part c.args.owner c.requires c.turns.turn node low in
    omega (arith, enough))

pub turns-preserved : goal.turns-preserved
turns-preserved c = record {
  at =
      c.in_ok-tell.ensures.told ∙ ap (with_turns c.args.part c.args.owner (c.turns.turn + 1)) c.turns.invariant.at
      ∙ next_turns c.args.self.now c.least_taken-taken.ensures.sized c.args.part c.args.owner c.requires c.turns.turn;
  within = omega (arith, c.turns-test.true);
}

pub returns : goal.returns
returns c =
    record {
      told =
          c.turns.invariant.at
          ∙ ap (λ (turn : ℕ). with_turns c.args.part c.args.owner turn c.args.self.now)
          (let all : c.turns.turn ≡ length (journal_of c.args.self.now.cluster.journals c.args.owner) = omega (arith, c.turns.invariant.within, c.turns-test.false, c.sent_turns-sent.ensures) in all);
      stays = tt;
    }
