use Rattle.std.proofs.Common.{◌≡◌, ◌∙◌, ◌<◌, ℕ, List, [], ◌∷◌, ◌++◌, IsOk, Ok, Err, refl, sym, ap, subst, arith, rules}
use Rattle.std.specs.Prelude.{IfSome}
use Rattle.std.proofs.lemmas.Bool.{cond-true}
use mathlib.Core.List.{IsPrefix}
use Rattle.group_search.specs.Owned.{IsOwned}
use Rattle.group_history.specs.Acceptance.{updated_key}
use Rattle.rib_owner.specs.Turn.{AnswersUpdate, node_entered}
use Rattle.rib_owner.proofs.Accepting.{err_is}
use Rattle.rib_owner.specs.Rib.{IsRibOf, Rib}
use Rattle.rib_owner.specs.declared.turn.Turn.{Turn}
use Rattle.flow_types.specs.Key.{IsKeyValue}
use Rattle.turn_log.specs.declared.sent.SentTurn.{SentTurn}
use Rattle.turn_log.specs.Sender.{AnswersSender, IsSenderOf, SenderState, changes_in}
use Rattle.turn_log.proofs.Accepting.{accepted_content, accepted_head, accepted_stands, answers, refuses, rib_here, stands_here, stands_there}
use Rattle.turn_log.proofs.sender.Sender.accept.Goals as goal

pub returns-in_err-decision-clause-answer : goal.returns-in_err-decision-clause-answer
returns-in_err-decision-clause-answer c =
    let state : SenderState = record { rib = c.self.inside.owner; octets = c.self.inside.octets.items; sent = c.self.inside.turns.items } in
    let flows = c.args.flows.now in
    let is_state : IsSenderOf state.rib.size state.rib.number flows state =
    subst (λ (s : SenderState). IsSenderOf s.rib.size s.rib.number flows s) (sym c.self.view_is) c.requires.stands in
    rw (err_is c.from_residual.result c.in_err-decision.field-0.0 c.from_residual.ensures.1)
    (subst (λ (s : SenderState). AnswersSender s.rib.size flows (changes_in s) c.args.update c.judge.new.self.journal.changes (Err c.in_err-decision.field-0.0)) c.self.view_is
    (refuses state.rib.size state.rib.number flows state is_state c.args.update c.in_err-decision.field-0.0 (c.in_err-decision.ensures.answer flows (rib_here state.rib.size state.rib.number flows state is_state))
    c.judge.new.self.journal.changes))

pub put_turn-sent-requires-clause-head : goal.put_turn-sent-requires-clause-head
put_turn-sent-requires-clause-head c =
    let state : SenderState = record { rib = c.self.inside.owner; octets = c.self.inside.octets.items; sent = c.self.inside.turns.items } in
    let owns : IsOwned c.self.inside.owner.size c.self.inside.owner.number (updated_key c.args.update) =
    subst (λ (s : SenderState). IsOwned s.rib.size s.rib.number (updated_key c.args.update)) (sym c.self.view_is) c.requires.owns in
    let node : IfSome (node_entered c.args.update) (λ (n : ℕ). n < c.self.inside.owner.size.nodes) =
    subst (λ (s : SenderState). IfSome (node_entered c.args.update) (λ (n : ℕ). n < s.rib.size.nodes)) (sym c.self.view_is) c.requires.node in
    let key : IsKeyValue c.in_ok-turn.turn.change.key = search rules in
    let answer : AnswersUpdate c.self.inside.owner.size c.self.invariant.flows c.self.inside.owner.journal.changes c.args.update (Ok c.in_ok-turn.turn) =
    subst (λ (t : Turn). AnswersUpdate c.self.inside.owner.size c.self.invariant.flows c.self.inside.owner.journal.changes c.args.update (Ok t)) (sym c.in_ok-turn.ensures.turn)
    (c.in_ok-decision.ensures.answer c.self.invariant.flows (rib_here c.self.inside.shape c.self.inside.number c.self.invariant.flows state c.self.invariant.stands)) in
    accepted_head c.self.inside.shape c.self.inside.number c.self.invariant.flows state c.self.invariant.stands c.args.update c.in_ok-turn.turn answer owns node key

pub put_turn-sent-requires-clause-content : goal.put_turn-sent-requires-clause-content
put_turn-sent-requires-clause-content c =
    let state : SenderState = record { rib = c.self.inside.owner; octets = c.self.inside.octets.items; sent = c.self.inside.turns.items } in
    let owns : IsOwned c.self.inside.owner.size c.self.inside.owner.number (updated_key c.args.update) =
    subst (λ (s : SenderState). IsOwned s.rib.size s.rib.number (updated_key c.args.update)) (sym c.self.view_is) c.requires.owns in
    let node : IfSome (node_entered c.args.update) (λ (n : ℕ). n < c.self.inside.owner.size.nodes) =
    subst (λ (s : SenderState). IfSome (node_entered c.args.update) (λ (n : ℕ). n < s.rib.size.nodes)) (sym c.self.view_is) c.requires.node in
    let key : IsKeyValue c.in_ok-turn.turn.change.key = search rules in
    let answer : AnswersUpdate c.self.inside.owner.size c.self.invariant.flows c.self.inside.owner.journal.changes c.args.update (Ok c.in_ok-turn.turn) =
    subst (λ (t : Turn). AnswersUpdate c.self.inside.owner.size c.self.invariant.flows c.self.inside.owner.journal.changes c.args.update (Ok t)) (sym c.in_ok-turn.ensures.turn)
    (c.in_ok-decision.ensures.answer c.self.invariant.flows (rib_here c.self.inside.shape c.self.inside.number c.self.invariant.flows state c.self.invariant.stands)) in
    (accepted_content c.self.inside.shape c.self.inside.number c.self.invariant.flows state c.self.invariant.stands c.args.update c.in_ok-turn.turn answer owns node key).fits

pub put_turn-sent-requires-clause-record : goal.put_turn-sent-requires-clause-record
put_turn-sent-requires-clause-record c =
    let state : SenderState = record { rib = c.self.inside.owner; octets = c.self.inside.octets.items; sent = c.self.inside.turns.items } in
    let owns : IsOwned c.self.inside.owner.size c.self.inside.owner.number (updated_key c.args.update) =
    subst (λ (s : SenderState). IsOwned s.rib.size s.rib.number (updated_key c.args.update)) (sym c.self.view_is) c.requires.owns in
    let node : IfSome (node_entered c.args.update) (λ (n : ℕ). n < c.self.inside.owner.size.nodes) =
    subst (λ (s : SenderState). IfSome (node_entered c.args.update) (λ (n : ℕ). n < s.rib.size.nodes)) (sym c.self.view_is) c.requires.node in
    let key : IsKeyValue c.in_ok-turn.turn.change.key = search rules in
    let answer : AnswersUpdate c.self.inside.owner.size c.self.invariant.flows c.self.inside.owner.journal.changes c.args.update (Ok c.in_ok-turn.turn) =
    subst (λ (t : Turn). AnswersUpdate c.self.inside.owner.size c.self.invariant.flows c.self.inside.owner.journal.changes c.args.update (Ok t)) (sym c.in_ok-turn.ensures.turn)
    (c.in_ok-decision.ensures.answer c.self.invariant.flows (rib_here c.self.inside.shape c.self.inside.number c.self.invariant.flows state c.self.invariant.stands)) in
    (accepted_content c.self.inside.shape c.self.inside.number c.self.invariant.flows state c.self.invariant.stands c.args.update c.in_ok-turn.turn answer owns node key).sized

pub invariant_of-self-2 : goal.invariant_of-self-2
invariant_of-self-2 c =
    let state : SenderState = record { rib = c.self.inside.owner; octets = c.self.inside.octets.items; sent = c.self.inside.turns.items } in
    let owns : IsOwned c.self.inside.owner.size c.self.inside.owner.number (updated_key c.args.update) =
    subst (λ (s : SenderState). IsOwned s.rib.size s.rib.number (updated_key c.args.update)) (sym c.self.view_is) c.requires.owns in
    let node : IfSome (node_entered c.args.update) (λ (n : ℕ). n < c.self.inside.owner.size.nodes) =
    subst (λ (s : SenderState). IfSome (node_entered c.args.update) (λ (n : ℕ). n < s.rib.size.nodes)) (sym c.self.view_is) c.requires.node in
    let key : IsKeyValue c.in_ok-turn.turn.change.key = search rules in
    let answer : AnswersUpdate c.self.inside.owner.size c.self.invariant.flows c.self.inside.owner.journal.changes c.args.update (Ok c.in_ok-turn.turn) =
    subst (λ (t : Turn). AnswersUpdate c.self.inside.owner.size c.self.invariant.flows c.self.inside.owner.journal.changes c.args.update (Ok t)) (sym c.in_ok-turn.ensures.turn)
    (c.in_ok-decision.ensures.answer c.self.invariant.flows (rib_here c.self.inside.shape c.self.inside.number c.self.invariant.flows state c.self.invariant.stands)) in
    let new : SenderState = record { rib = c.commit.new.self; octets = c.put_turn-sent.new.octets.items; sent = c.push.new.self.items } in
    let pushed : IsOk c.push.result = c.push.ensures.succeeds (omega (arith, c.in_ok-reserve-2.ensures.ok)) in
    let sent_are : c.push.new.self.items ≡ c.self.inside.turns.items ++ c.put_turn-sent.result ∷ [] =
    c.push.ensures.items ∙ cond-true _ _ _ pushed ∙ ap (λ (ts : List SentTurn). ts ++ c.put_turn-sent.result ∷ []) c.reserve-2.ensures.items in
    let more : IsPrefix c.self.inside.octets.items c.put_turn-sent.new.octets.items =
    subst (λ (o : List ℕ). IsPrefix o c.put_turn-sent.new.octets.items) c.reserve.ensures.items c.put_turn-sent.ensures.appended in
    record {
      flows = c.self.invariant.flows;
      stands = accepted_stands c.self.inside.shape c.self.inside.number c.self.invariant.flows state c.self.invariant.stands c.args.update c.in_ok-turn.turn answer owns node key
          c.put_turn-sent.new.octets.items c.put_turn-sent.result c.put_turn-sent.ensures.table c.put_turn-sent.ensures.fib new refl more sent_are
          (subst (λ (r : Rib). IsRibOf r.size c.self.invariant.flows r → IsRibOf r.size c.self.invariant.flows c.commit.new.self) c.in_ok-decision.ensures.same (c.in_ok-turn.ensures.stands c.self.invariant.flows) (rib_here c.self.inside.shape c.self.inside.number c.self.invariant.flows state c.self.invariant.stands)) (c.in_ok-turn.ensures.size ∙ ap (λ (r : Rib). r.size) c.in_ok-decision.ensures.same) (c.in_ok-turn.ensures.number ∙ ap (λ (r : Rib). r.number) c.in_ok-decision.ensures.same)
          (c.in_ok-turn.ensures.journal ∙ ap (λ (r : Rib). r.journal.changes ++ c.in_ok-turn.turn.change ∷ []) c.in_ok-decision.ensures.same);
    }

pub returns-clause-answer : goal.returns-clause-answer
returns-clause-answer c =
    let state : SenderState = record { rib = c.self.inside.owner; octets = c.self.inside.octets.items; sent = c.self.inside.turns.items } in
    let flows = c.args.flows.now in
    let is_state : IsSenderOf state.rib.size state.rib.number flows state =
    subst (λ (s : SenderState). IsSenderOf s.rib.size s.rib.number flows s) (sym c.self.view_is) c.requires.stands in
    subst (λ (s : SenderState). AnswersSender s.rib.size flows (changes_in s) c.args.update c.commit.new.self.journal.changes (Ok c.in_ok-turn.turn.number)) c.self.view_is
    (answers state.rib.size state.rib.number flows state is_state c.args.update c.in_ok-turn.turn (subst (λ (t : Turn). AnswersUpdate state.rib.size flows (changes_in state) c.args.update (Ok t)) (sym c.in_ok-turn.ensures.turn)
    (c.in_ok-decision.ensures.answer flows (rib_here state.rib.size state.rib.number flows state is_state)))
    c.commit.new.self.journal.changes (c.in_ok-turn.ensures.journal ∙ ap (λ (r : Rib). r.journal.changes ++ c.in_ok-turn.turn.change ∷ []) c.in_ok-decision.ensures.same))

pub returns-clause-stands : goal.returns-clause-stands
returns-clause-stands c =
    let state : SenderState = record { rib = c.self.inside.owner; octets = c.self.inside.octets.items; sent = c.self.inside.turns.items } in
    let owns : IsOwned c.self.inside.owner.size c.self.inside.owner.number (updated_key c.args.update) =
    subst (λ (s : SenderState). IsOwned s.rib.size s.rib.number (updated_key c.args.update)) (sym c.self.view_is) c.requires.owns in
    let node : IfSome (node_entered c.args.update) (λ (n : ℕ). n < c.self.inside.owner.size.nodes) =
    subst (λ (s : SenderState). IfSome (node_entered c.args.update) (λ (n : ℕ). n < s.rib.size.nodes)) (sym c.self.view_is) c.requires.node in
    let key : IsKeyValue c.in_ok-turn.turn.change.key = search rules in
    let flows = c.args.flows.now in
    let is_state : IsSenderOf state.rib.size state.rib.number flows state =
    subst (λ (s : SenderState). IsSenderOf s.rib.size s.rib.number flows s) (sym c.self.view_is) c.requires.stands in
    let is_here : IsSenderOf c.self.inside.shape c.self.inside.number flows state =
    stands_here c.self.inside.shape c.self.inside.number c.self.invariant.flows state c.self.invariant.stands state.rib.size state.rib.number flows is_state in
    let answer : AnswersUpdate c.self.inside.owner.size flows c.self.inside.owner.journal.changes c.args.update (Ok c.in_ok-turn.turn) =
    subst (λ (t : Turn). AnswersUpdate c.self.inside.owner.size flows c.self.inside.owner.journal.changes c.args.update (Ok t)) (sym c.in_ok-turn.ensures.turn)
    (c.in_ok-decision.ensures.answer flows (rib_here c.self.inside.shape c.self.inside.number flows state is_here)) in
    let new : SenderState = record { rib = c.commit.new.self; octets = c.put_turn-sent.new.octets.items; sent = c.push.new.self.items } in
    let pushed : IsOk c.push.result = c.push.ensures.succeeds (omega (arith, c.in_ok-reserve-2.ensures.ok)) in
    let sent_are : c.push.new.self.items ≡ c.self.inside.turns.items ++ c.put_turn-sent.result ∷ [] =
    c.push.ensures.items ∙ cond-true _ _ _ pushed ∙ ap (λ (ts : List SentTurn). ts ++ c.put_turn-sent.result ∷ []) c.reserve-2.ensures.items in
    let more : IsPrefix c.self.inside.octets.items c.put_turn-sent.new.octets.items =
    subst (λ (o : List ℕ). IsPrefix o c.put_turn-sent.new.octets.items) c.reserve.ensures.items c.put_turn-sent.ensures.appended in
    subst (λ (s : SenderState). IsSenderOf s.rib.size s.rib.number flows new) c.self.view_is
    (stands_there c.self.inside.shape c.self.inside.number c.self.invariant.flows state c.self.invariant.stands state.rib.size state.rib.number flows is_state new
    (accepted_stands c.self.inside.shape c.self.inside.number flows state is_here c.args.update c.in_ok-turn.turn answer owns node key
    c.put_turn-sent.new.octets.items c.put_turn-sent.result c.put_turn-sent.ensures.table c.put_turn-sent.ensures.fib new refl more sent_are
    (subst (λ (r : Rib). IsRibOf r.size flows r → IsRibOf r.size flows c.commit.new.self) c.in_ok-decision.ensures.same (c.in_ok-turn.ensures.stands flows) (rib_here c.self.inside.shape c.self.inside.number flows state is_here)) (c.in_ok-turn.ensures.size ∙ ap (λ (r : Rib). r.size) c.in_ok-decision.ensures.same) (c.in_ok-turn.ensures.number ∙ ap (λ (r : Rib). r.number) c.in_ok-decision.ensures.same)
    (c.in_ok-turn.ensures.journal ∙ ap (λ (r : Rib). r.journal.changes ++ c.in_ok-turn.turn.change ∷ []) c.in_ok-decision.ensures.same)))
