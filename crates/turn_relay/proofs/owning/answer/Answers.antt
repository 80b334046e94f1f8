use Rattle.std.proofs.Common.{◌++◌, drop, length, subst, take}
use Rattle.turn_relay.specs.OwnerState.{OwnerState}
use Rattle.turn_relay.specs.OwnWork.{AnswersOne}
use Rattle.turn_relay.proofs.OwnerRuns.{answers_none, answers_some, is_owner, same_owner}
use Rattle.turn_relay.proofs.owning.answer.Goals as goal

pub returns-in_default-clause-same : goal.returns-in_default-clause-same
returns-in_default-clause-same g c = same_owner c.args.owner.now

pub returns-in_default-clause-answers : goal.returns-in_default-clause-answers
returns-in_default-clause-answers g c =
    let i = c.owner.inside in
    let before : OwnerState = record { size = i.shape; number = i.number; sender = i.sender; ends = i.ends.items; replies = i.replies.items; failed = i.failed } in
    subst (λ (o : OwnerState). AnswersOne c.args.flows.now c.args.event.now o o) c.owner.view_is (answers_none c.args.flows.now c.args.event.now before (c.in_default.ensures {u = tt}).asks)

pub accept-said-requires-clause-ends : goal.accept-said-requires-clause-ends
accept-said-requires-clause-ends g c =
    let i = c.owner.inside in
    rw c.as_mut_slice.ensures.value (c.owner.invariant.few, c.owner.invariant.ends_sized)

pub invariant_of-owner : goal.invariant_of-owner
invariant_of-owner g c =
    let i = c.owner.inside in
    let before : OwnerState = record { size = i.shape; number = i.number; sender = i.sender; ends = i.ends.items; replies = i.replies.items; failed = i.failed } in
    is_owner before c.owner.invariant c.args.flows.now c.accept-said.new.sender c.accept-said.ensures.stands c.as_mut_slice.result.now c.accept-said.new.ends
    c.as_mut_slice.ensures.value c.accept-said.ensures.links i.ends.len c.as_mut_slice.ensures.len

pub invariant_of-owner-in_err-push : goal.invariant_of-owner-in_err-push
invariant_of-owner-in_err-push g c =
    let i = c.owner.inside in
    let before : OwnerState = record { size = i.shape; number = i.number; sender = i.sender; ends = i.ends.items; replies = i.replies.items; failed = i.failed } in
    is_owner before c.owner.invariant c.args.flows.now c.accept-said.new.sender c.accept-said.ensures.stands c.as_mut_slice.result.now c.accept-said.new.ends
    c.as_mut_slice.ensures.value c.accept-said.ensures.links i.ends.len c.as_mut_slice.ensures.len

pub invariant_of-owner-2 : goal.invariant_of-owner-2
invariant_of-owner-2 g c =
    let i = c.owner.inside in
    let before : OwnerState = record { size = i.shape; number = i.number; sender = i.sender; ends = i.ends.items; replies = i.replies.items; failed = i.failed } in
    is_owner before c.owner.invariant c.args.flows.now c.accept-said.new.sender c.accept-said.ensures.stands c.as_mut_slice.result.now c.accept-said.new.ends
    c.as_mut_slice.ensures.value c.accept-said.ensures.links i.ends.len c.as_mut_slice.ensures.len

pub returns-clause-answers : goal.returns-clause-answers
returns-clause-answers g c =
    let i = c.owner.inside in
    let before : OwnerState = record { size = i.shape; number = i.number; sender = i.sender; ends = i.ends.items; replies = i.replies.items; failed = i.failed } in
    let after : OwnerState = record {
      size = i.shape;
      number = i.number;
      sender = c.accept-said.new.sender;
      ends = take i.ends.len (c.accept-said.new.ends ++ drop (length c.accept-said.new.ends) i.ends.items);
      replies = c.push.new.self.items;
      failed = i.failed;
    } in
    subst (λ (o : OwnerState). AnswersOne c.args.flows.now c.args.event.now o after) c.owner.view_is
    (answers_some before c.owner.invariant c.args.flows.now c.accept-said.new.sender c.accept-said.ensures.stands c.as_mut_slice.result.now c.accept-said.new.ends
    c.as_mut_slice.ensures.value c.accept-said.ensures.links i.ends.len c.as_mut_slice.ensures.len c.push.new.self.items i.failed c.args.event.now c.in-Some.asked c.in_ok-said.field-0
    c.in-Some.ensures.asks c.in_ok-said.ensures.reply c.in_ok-said.ensures.grown c.in_ok-said.ensures.sent c.in_ok-push.ensures.items)
