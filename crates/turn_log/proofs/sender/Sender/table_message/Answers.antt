use Rattle.std.proofs.Common.{◌≡◌, ◌∙◌, ◌-◌, ◌≤◌, length, get_or, refl, sym, ap, subst, arith}
use Rattle.flow_types.specs.Size.{Size}
use Rattle.delta_codec.specs.declared.message.Message.TheVariants.{Table}
use Rattle.delta_codec.specs.declared.message.TableMessage.{TableMessage}
use Rattle.delta_codec.specs.Messages.{IsTableMessageOf, TableMessageFits}
use Rattle.turn_log.specs.Sender.{SenderState, changes_in}
use Rattle.turn_log.proofs.Reading.{sent_there, spelled_in}
use Rattle.turn_log.proofs.sender.Sender.table_message.Goals as goal

pub table_at-requires : goal.table_at-requires
table_at-requires c =
    let last : c.args.turn ≤ length c.self.inside.owner.journal.changes = omega (arith, c.requires.last, ap (λ (s : SenderState). length (changes_in s)) c.self.view_is) in
    let state : SenderState = record { rib = c.self.inside.owner; octets = c.self.inside.octets.items; sent = c.self.inside.turns.items } in
    let sent = sent_there c.self.inside.shape c.self.inside.number c.self.invariant.flows state c.self.invariant.stands c.args.turn c.index-sent.result.now c.requires.first last
    c.index-sent.ensures in (
      sent.table.message,
      spelled_in c.self.inside.shape c.self.inside.shape c.self.inside.octets.items c.as_slice.result.now c.index-sent.result.now.table c.index-sent.result.now.table (Table sent.table.message) refl
          (sym c.as_slice.ensures.value) refl sent.table.spelled,
    )

pub returns-clause-fits : goal.returns-clause-fits
returns-clause-fits c =
    let last : c.args.turn ≤ length c.self.inside.owner.journal.changes = omega (arith, c.requires.last, ap (λ (s : SenderState). length (changes_in s)) c.self.view_is) in
    let state : SenderState = record { rib = c.self.inside.owner; octets = c.self.inside.octets.items; sent = c.self.inside.turns.items } in
    let sent = sent_there c.self.inside.shape c.self.inside.number c.self.invariant.flows state c.self.invariant.stands c.args.turn c.index-sent.result.now c.requires.first last
    c.index-sent.ensures in
    let read : c.table_at.result ≡ sent.table.message =
    c.table_at.ensures sent.table.message
    (spelled_in c.self.inside.shape c.self.inside.shape c.self.inside.octets.items c.as_slice.result.now c.index-sent.result.now.table c.index-sent.result.now.table (Table sent.table.message) refl
    (sym c.as_slice.ensures.value) refl sent.table.spelled) in
    let sizes : c.self.inside.shape ≡ c.args.self.now.rib.size = sym c.self.invariant.stands.sized ∙ ap (λ (s : SenderState). s.rib.size) c.self.view_is in
    subst (λ (m : TableMessage). TableMessageFits c.args.self.now.rib.size m) (sym read)
    (subst (λ (s : Size). TableMessageFits s sent.table.message) sizes sent.table.spelled.begins.spells.fits)

pub returns-clause-of_turn : goal.returns-clause-of_turn
returns-clause-of_turn c size number flows is =
    let there : c.index-sent.result.now ≡ get_or c.args.self.now.sent (c.args.turn - 1) c.index-sent.result.now =
    c.index-sent.ensures ∙ ap (λ (s : SenderState). get_or s.sent (c.args.turn - 1) c.index-sent.result.now) c.self.view_is in
    let sent = sent_there size number flows c.args.self.now is c.args.turn c.index-sent.result.now c.requires.first c.requires.last there in
    let sizes : size ≡ c.self.inside.shape =
    sym is.sized ∙ sym (ap (λ (s : SenderState). s.rib.size) c.self.view_is) ∙ c.self.invariant.stands.sized in
    let octets : c.args.self.now.octets ≡ c.as_slice.result.now = sym (ap (λ (s : SenderState). s.octets) c.self.view_is) ∙ sym c.as_slice.ensures.value in
    let read : c.table_at.result ≡ sent.table.message =
    c.table_at.ensures sent.table.message
    (spelled_in size c.self.inside.shape c.args.self.now.octets c.as_slice.result.now c.index-sent.result.now.table c.index-sent.result.now.table (Table sent.table.message) sizes octets refl sent.table.spelled) in
    subst (λ (m : TableMessage). IsTableMessageOf size number flows (changes_in c.args.self.now) c.args.turn m) (sym read) sent.table.of_turn
