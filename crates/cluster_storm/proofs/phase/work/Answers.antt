-- The phase's workers, one step after the other.
use Rattle.std.proofs.Common.{◌∙◌, ap, refl}
use Rattle.storm_model.specs.Merging.{queues_of}
use Rattle.cluster_storm.proofs.Phased.{can-merge-so, lanes-in-phase, lanes-read, owners-await, owners-can-work, owners-in-phase, owners-numbered, worked-so}
use Rattle.cluster_storm.proofs.phase.work.Goals as goal

pub run-requires-clause-lanes : goal.run-requires-clause-lanes
run-requires-clause-lanes g c κs within = lanes-in-phase _ c.requires.rests _ _ _ c.requires.rows c.requires.few_packets c.requires.few_updates

pub run-requires-clause-owners : goal.run-requires-clause-owners
run-requires-clause-owners g c κs within = owners-in-phase _ c.requires.rests _ _ _ c.requires.rows c.requires.few_packets c.requires.few_updates

pub run-requires-clause-can : goal.run-requires-clause-can
run-requires-clause-can g c κs within = owners-can-work _ c.requires.rests _ _ _ c.requires.rows c.requires.few_packets c.requires.few_updates _

pub finish_all-requires-clause-numbered : goal.finish_all-requires-clause-numbered
finish_all-requires-clause-numbered g c =
    owners-numbered _ c.requires.rests _ c.args.phase.now.first_packet c.requires.rows c.requires.one _ c.requires.working c.requires.linked _ _ c.run.ensures.owners (c.if-not-have_all_worked.ensures refl).0 c.in_ok-by_owner.ensures.left

pub finish_all-requires-clause-awaits : goal.finish_all-requires-clause-awaits
finish_all-requires-clause-awaits g c =
    owners-await _ c.requires.rests _ c.args.phase.now.first_packet c.requires.rows c.requires.one _ c.requires.working c.requires.linked _ _ c.run.ensures.owners (c.if-not-have_all_worked.ensures refl).0 c.in_ok-by_owner.ensures.left _ c.run.ensures.appliers

pub meet-requires-clause-reads : goal.meet-requires-clause-reads
meet-requires-clause-reads g c =
    lanes-read _ c.requires.rests _ c.args.phase.now.first_packet c.requires.rows c.requires.one _ c.requires.working c.requires.linked _ _ c.run.ensures.owners (c.if-not-have_all_worked.ensures refl).0 c.in_ok-by_owner.ensures.left _ c.run.ensures.appliers
    _ c.finish_all.ensures.parts _ _ c.run.ensures.lanes (c.if-not-have_all_worked.ensures refl).1 c.in_ok-by_lane.ensures.left

pub merge-requires-clause-can : goal.merge-requires-clause-can
merge-requires-clause-can g c =
    can-merge-so _ c.requires.rests _ c.args.phase.now.first_packet c.requires.rows c.requires.one _ c.requires.working c.requires.linked _ _ c.run.ensures.owners (c.if-not-have_all_worked.ensures refl).0 c.in_ok-by_owner.ensures.left _ c.run.ensures.appliers
    _ c.finish_all.ensures.parts _ _ c.run.ensures.lanes (c.if-not-have_all_worked.ensures refl).1 c.in_ok-by_lane.ensures.left (c.if-not-finish_all.ensures.quiet refl) _ c.meet.ensures.met
    (queues_of c.as_mut_slice.result.now) (queues_of c.as_mut_slice-2.result.now)
    (λ n. ap (λ q. queues_of q n) c.as_mut_slice.ensures.value ∙ c.in_ok-by_owner.ensures.queues n)
    (λ n. ap (λ q. queues_of q n) c.as_mut_slice-2.ensures.value ∙ c.in_ok-by_lane.ensures.queues n)

pub returns : goal.returns
returns g c = record {
  worked = rw (c.finish_all.ensures.kept, c.meet.ensures.kept)
      (worked-so _ c.requires.rests _ c.args.phase.now.first_packet c.requires.rows c.requires.one _ c.requires.working c.requires.linked _ _ c.run.ensures.owners (c.if-not-have_all_worked.ensures refl).0 c.in_ok-by_owner.ensures.left _ c.run.ensures.appliers
      _ c.finish_all.ensures.parts _ _ c.run.ensures.lanes (c.if-not-have_all_worked.ensures refl).1 c.in_ok-by_lane.ensures.left (c.if-not-finish_all.ensures.quiet refl) _ c.meet.ensures.met
      (queues_of c.as_mut_slice.result.now) (queues_of c.as_mut_slice-2.result.now)
      (λ n. ap (λ q. queues_of q n) c.as_mut_slice.ensures.value ∙ c.in_ok-by_owner.ensures.queues n)
      (λ n. ap (λ q. queues_of q n) c.as_mut_slice-2.ensures.value ∙ c.in_ok-by_lane.ensures.queues n)
      _ _ c.in_ok-merge.ensures);
}
