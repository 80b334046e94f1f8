use Rattle.std.proofs.Common.{subst, sym}
use Rattle.std.specs.Prelude.{Ok, Err, IfOk, OnOk, Result}
use Rattle.cluster_storm.specs.Dealing.{WorkAlone}
use Rattle.cluster_storm.proofs.Numbered.{every_weaker}
use Rattle.cluster_storm.proofs.Made.{can_be_linked, linked_for, made_at_rest, no_journals_yet, owners_numbered}
use Rattle.cluster_storm.proofs.making.join.Goals as goal

when_ok : {A E P : Type 0} (result : Result A E) → P → OnOk result P
when_ok (Ok done) is = is
when_ok (Err why) is = tt

if_ok : {A E : Type 0} {P : A → Type 0} (result : Result A E) → ((made : A) → P made) → IfOk result P
if_ok (Ok made) is = is made
if_ok (Err why) is = tt

pub link_all-requires-clause-numbered : goal.link_all-requires-clause-numbered
link_all-requires-clause-numbered c = owners_numbered c.args.shape c.args.flows.now c.args.owners.now c.requires.owners c.args.appliers.now c.requires.nodes

pub link_all-requires-clause-can : goal.link_all-requires-clause-can
link_all-requires-clause-can c = can_be_linked c.args.shape c.args.flows.now c.args.owners.now c.requires.owners c.args.appliers.now c.requires.nodes

pub lanes_of-requires-clause-whole : goal.lanes_of-requires-clause-whole
lanes_of-requires-clause-whole c = every_weaker _ _ (λ own reads. reads.whole) c.args.readers.items c.requires.readers

pub returns-clause-rests : goal.returns-clause-rests
returns-clause-rests c =
    let did = c.in_ok-link_all.ensures in
    made_at_rest c.args.shape c.args.flows.now c.args.owners.now c.requires.owners c.args.appliers.now c.requires.nodes c.link_all.new.owners c.link_all.new.appliers did.more did.sent did.parts did.quiet
    (λ own. own.items) c.requires.can c.args.readers.items c.requires.readers c.args.lanes c.requires.some c.requires.lanes (λ made. made.items) c.lanes_of.result c.lanes_of.ensures.of c.lanes_of.ensures.numbered

pub returns-clause-linked : goal.returns-clause-linked
returns-clause-linked c =
    let did = c.in_ok-link_all.ensures in
    if_ok c.lanes_of.result (λ made.
    linked_for c.args.shape c.args.flows.now c.args.owners.now c.requires.owners c.args.appliers.now c.requires.nodes c.link_all.new.owners c.link_all.new.appliers did.more did.sent did.parts did.quiet
    c.args.script.now c.as_slice.result.now (subst (WorkAlone c.args.shape c.args.script.now) (sym c.as_slice.ensures.value) c.in_ok-changing.ensures) did.linked made.items)

pub returns-clause-new : goal.returns-clause-new
returns-clause-new c =
    let did = c.in_ok-link_all.ensures in
    when_ok c.lanes_of.result
    (no_journals_yet c.args.shape c.args.flows.now c.args.owners.now c.requires.owners c.args.appliers.now c.requires.nodes c.link_all.new.owners c.link_all.new.appliers did.more did.sent did.parts did.quiet)
