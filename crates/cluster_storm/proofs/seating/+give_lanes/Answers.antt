use Rattle.std.proofs.Common.{Global, Vec, rules, sym, subst, ap, ◌∙◌, ◌∷◌, List, length, replicate}
use Rattle.std.proofs.lemmas.Result.{on_ok_weaker}
use Rattle.partial_fib.specs.Ends.{reader_told}
use Rattle.storm_lane.specs.declared.readers.OwnerReaders.{OwnerReaders}
use Rattle.turn_relay.specs.Each.{Each, Every, HasAt}
use Rattle.turn_relay.specs.PartState.{PartState}
use Rattle.cluster_storm.specs.Seating.{AwaitsPart, TakesPart}
use Rattle.cluster_storm.proofs.Seats.{rest-of-equal}
use Rattle.cluster_storm.proofs.seating.+give_lanes.Goals as goal

pub give_lane-requires-clause-told : goal.give_lane-requires-clause-told
give_lane-requires-clause-told t c =
    (rest-of-equal (reader_told c.args.part.now.fib) c.args.fibs.now.items c.pop.new.self.items c.in-Some-pop.fib c.in-Some.others.now c.in-Some.lane.now c.args.lanes.now
    c.requires.told c.in-Some.ensures.cases.0 c.in-Some-pop.ensures.items).1

pub give_lanes-requires : goal.give_lanes-requires
give_lanes-requires t c = (
  search rules,
  (
    (rest-of-equal (reader_told c.args.part.now.fib) c.args.fibs.now.items c.pop.new.self.items c.in-Some-pop.fib c.in-Some.others.now c.in-Some.lane.now c.args.lanes.now
        c.requires.told c.in-Some.ensures.cases.0 c.in-Some-pop.ensures.items).0
        ∙ ap (λ (p : PartState). replicate (length c.in-Some.others.now) (reader_told p.fib)) (sym c.in_ok-give_lane.ensures.kept),
    subst (λ (p : PartState). Every (λ (lane : Vec OwnerReaders Global). HasAt c.args.owner (AwaitsPart p) lane.items) c.in-Some.others.now) (sym c.in_ok-give_lane.ensures.kept)
        (subst (Every (λ (lane : Vec OwnerReaders Global). HasAt c.args.owner (AwaitsPart c.args.part.now) lane.items)) c.in-Some.ensures.cases.0 c.requires.awaits).1,
  ),
)

pub returns-clause-given : goal.returns-clause-given
returns-clause-given t c =
    on_ok_weaker c.give_lanes.result
    (λ given.
    subst (λ (all : List (Vec OwnerReaders Global)). Each (λ before after. TakesPart c.args.owner c.args.part.now before.items after.items) all (c.give_lane.new.lane ∷ c.give_lanes.new.lanes))
    (sym c.in-Some.ensures.cases.0) (
      c.in_ok-give_lane.ensures.given,
      subst (λ (p : PartState). Each (λ before after. TakesPart c.args.owner p before.items after.items) c.in-Some.others.now c.give_lanes.new.lanes) c.in_ok-give_lane.ensures.kept given,
    ))
    c.give_lanes.ensures.given
