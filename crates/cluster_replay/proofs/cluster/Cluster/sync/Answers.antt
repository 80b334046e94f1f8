use Rattle.std.proofs.Common.{◌≡◌, ◌∙◌, ◌<◌, ℕ, length, sym, ap, subst, arith}
use Rattle.packet_reader.specs.declared.event.Part.TheVariants.{Fib}
use Rattle.flow_types.specs.Size.{owners_in}
use Rattle.run_model.specs.State.{journal_of}
use Rattle.cluster_replay.specs.Cluster.{RunState}
use Rattle.cluster_replay.specs.Turn.{with_turns}
use Rattle.cluster_replay.proofs.BroughtUp.{AreBroughtUp, all_brought_up, none_yet, one_more_owner}
use Rattle.cluster_replay.proofs.cluster.Cluster.sync.Goals as goal

pub owners-init : goal.owners-init
owners-init c = record { told = none_yet c.args.self.now; within = omega arith }

pub bring_up-requires : goal.bring_up-requires
bring_up-requires c =
    subst (λ (r : RunState). c.owners.owner < owners_in r.cluster.opened.size) (sym c.owners.invariant.told.others) (omega (arith, c.owners-test.true, c.owner_count-owner-end.ensures.count))

pub bring_up-requires-in-owners : goal.bring_up-requires-in-owners
bring_up-requires-in-owners c =
    subst (λ (r : RunState). c.owners.owner < owners_in r.cluster.opened.size) (sym c.in_ok-bring_up.ensures.told)
    (subst (λ (r : RunState). c.owners.owner < owners_in r.cluster.opened.size) (sym c.owners.invariant.told.others) (omega (arith, c.owners-test.true, c.owner_count-owner-end.ensures.count)))

pub owners-preserved : goal.owners-preserved
owners-preserved c =
    let run = c.args.self.now in
    let has : c.owners.owner < owners_in run.cluster.opened.size = omega (arith, c.owners-test.true, c.owner_count-owner-end.ensures.count) in
    record {
      told =
          one_more_owner run c.owner_count-owner-end.ensures.sized c.owners.owner has c.owners.self c.owners.invariant.told c.bring_up-in-owners.new.self
          (c.in_ok-bring_up-2.ensures.told ∙ ap (λ (r : RunState). with_turns Fib c.owners.owner (length (journal_of r.cluster.journals c.owners.owner)) r) c.in_ok-bring_up.ensures.told);
      within = omega (arith, has);
    }

pub returns : goal.returns
returns c =
    let run = c.args.self.now in
    let all : c.owners.owner ≡ owners_in run.cluster.opened.size = omega (arith, c.owners.invariant.within, c.owners-test.false, c.owner_count-owner-end.ensures.count) in
    record { told = all_brought_up run c.owner_count-owner-end.ensures.sized c.owners.self (subst (λ (n : ℕ). AreBroughtUp run n c.owners.self) all c.owners.invariant.told); stays = tt }
