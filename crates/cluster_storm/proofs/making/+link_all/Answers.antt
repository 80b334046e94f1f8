use Rattle.std.proofs.Common.{Ok, Err, rules}
use Rattle.std.specs.Prelude.{OnOk, Result}
use Rattle.std.proofs.lemmas.Result.{on_ok_weaker}
use Rattle.cluster_storm.proofs.Linkings.{before_on, others_can, quiet_all, rest_numbered, tables_on}
use Rattle.cluster_storm.proofs.making.+link_all.Goals as goal

on_ok_both : {A E P P' Q : Type 0} (result : Result A E) → (P → P' → Q) → OnOk result P → OnOk result P' → OnOk result Q
on_ok_both (Ok done) so is is' = so is is'
on_ok_both (Err why) so is is' = tt

pub link_all-requires : goal.link_all-requires
link_all-requires t c =
    let split = c.in-Some.ensures.cases.0 in
    let flows = c.args.flows.now in
    let numbered = rest_numbered flows c.args.first c.args.owners.now c.in-Some.owner.now c.in-Some.others.now split c.requires.numbered c.args.appliers.now c.requires.can in
    let can = others_can flows c.args.first c.args.owners.now c.in-Some.owner.now c.in-Some.others.now split c.requires.numbered c.args.appliers.now c.requires.can c.link_one.new.appliers c.in_ok-link_one.ensures.others in
    (search rules, (search rules, (numbered, can)))

pub returns-clause-parts : goal.returns-clause-parts
returns-clause-parts t c =
    let split = c.in-Some.ensures.cases.0 in
    on_ok_weaker c.link_all.result
    (tables_on c.args.flows.now c.args.first c.args.owners.now c.in-Some.owner.now c.in-Some.others.now split c.requires.numbered c.args.appliers.now c.requires.can c.link_one.new.appliers c.in_ok-link_one.ensures.others c.link_all.new.appliers)
    c.link_all.ensures.parts

pub returns-clause-before : goal.returns-clause-before
returns-clause-before t c =
    let split = c.in-Some.ensures.cases.0 in
    on_ok_weaker c.link_all.result
    (before_on c.args.flows.now c.args.first c.args.owners.now c.in-Some.owner.now c.in-Some.others.now split c.requires.numbered c.args.appliers.now c.requires.can c.link_one.new.appliers c.in_ok-link_one.ensures.others c.link_all.new.appliers)
    c.link_all.ensures.before

pub returns-clause-quiet : goal.returns-clause-quiet
returns-clause-quiet t c =
    let split = c.in-Some.ensures.cases.0 in
    on_ok_both c.link_all.result
    (λ keeps rest.
    quiet_all c.args.flows.now c.args.first c.args.owners.now c.in-Some.owner.now c.in-Some.others.now split c.requires.numbered c.args.appliers.now c.requires.can c.link_one.new.appliers c.in_ok-link_one.ensures.others
    c.link_one.new.owner c.in_ok-link_one.ensures.more _ c.link_all.new.appliers c.in_ok-link_one.ensures.quiet keeps rest)
    c.link_all.ensures.before c.link_all.ensures.quiet
