use Rattle.std.proofs.Common.{rules}
use Rattle.cluster_storm.proofs.Finishings.{before_on, first_is, others_await, others_numbered, parts_on, quiet_all}
use Rattle.cluster_storm.proofs.finishing.+finish_all.Goals as goal

pub finish_all-requires : goal.finish_all-requires
finish_all-requires g t c κs within =
    let split = c.in-Some.ensures.cases.0 in
    let is = first_is c.args.first c.args.owners.now c.in-Some.owner.now c.in-Some.others.now split c.requires.numbered in
    let numbered = others_numbered c.args.first c.args.owners.now c.in-Some.owner.now c.in-Some.others.now split c.requires.numbered in
    let awaits = others_await
    c.in-Some.owner.now.number c.args.first is c.args.appliers.now c.finish_one.new.appliers c.finish_one.ensures.finishes
    c.args.flows.now c.args.working.now c.args.owners.now c.in-Some.owner.now c.in-Some.others.now split numbered c.requires.awaits in
    (search rules, (within.0, (within.1, (search rules, (numbered, awaits)))))

pub returns-clause-parts : goal.returns-clause-parts
returns-clause-parts g t c =
    let is = first_is c.args.first c.args.owners.now c.in-Some.owner.now c.in-Some.others.now c.in-Some.ensures.cases.0 c.requires.numbered in
    parts_on
    c.in-Some.owner.now.number c.args.first is c.args.appliers.now c.finish_one.new.appliers c.finish_one.ensures.finishes
    c.finish_all.new.appliers c.finish_all.ensures.parts

pub returns-clause-before : goal.returns-clause-before
returns-clause-before g t c =
    let is = first_is c.args.first c.args.owners.now c.in-Some.owner.now c.in-Some.others.now c.in-Some.ensures.cases.0 c.requires.numbered in
    before_on
    c.in-Some.owner.now.number c.args.first is c.args.appliers.now c.finish_one.new.appliers c.finish_one.ensures.finishes
    c.finish_all.new.appliers c.finish_all.ensures.before

pub returns-clause-quiet : goal.returns-clause-quiet
returns-clause-quiet g t c up_to_date =
    let split = c.in-Some.ensures.cases.0 in
    let is = first_is c.args.first c.args.owners.now c.in-Some.owner.now c.in-Some.others.now split c.requires.numbered in
    quiet_all
    c.args.flows.now c.args.owners.now c.in-Some.owner.now c.in-Some.others.now c.args.first split is c.finish_one.new.appliers c.finish_all.new.appliers
    (c.finish_one.ensures.quiet (search rules)) c.finish_all.ensures.before (c.finish_all.ensures.quiet up_to_date)
