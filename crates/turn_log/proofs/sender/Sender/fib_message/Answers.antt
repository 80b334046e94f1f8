use Rattle.std.proofs.Common.{◌≡◌, ◌∙◌, ◌-◌, ◌<◌, ◌≤◌, length, get_or, refl, sym, ap, subst, arith}
use Rattle.flow_types.specs.Size.{Size}
use Rattle.delta_codec.specs.declared.message.Message.TheVariants.{Fib}
use Rattle.delta_codec.specs.declared.message.FibMessage.{FibMessage}
use Rattle.delta_codec.specs.Messages.{FibMessageFits, IsFibMessageOf}
use Rattle.turn_log.specs.Sender.{SenderState, changes_in}
use Rattle.turn_log.specs.Sent.{fib_place}
use Rattle.turn_log.proofs.Reading.{sent_there, spelled_in}
use Rattle.turn_log.proofs.sender.Sender.fib_message.Goals as goal

pub fib_at-requires : goal.fib_at-requires
fib_at-requires c =
    let last : c.args.turn ≤ length c.self.inside.owner.journal.changes = omega (arith, c.requires.last, ap (λ (s : SenderState). length (changes_in s)) c.self.view_is) in
    let state : SenderState = record { rib = c.self.inside.owner; octets = c.self.inside.octets.items; sent = c.self.inside.turns.items } in
    let turn = sent_there c.self.inside.shape c.self.inside.number c.self.invariant.flows state c.self.invariant.stands c.args.turn c.index.result.now c.requires.first last
    c.index.ensures in
    let low : c.args.node < c.self.inside.shape.nodes =
    omega (arith, c.requires.node, ap (λ (s : SenderState). s.rib.size.nodes) c.self.view_is, ap (λ (s : Size). s.nodes) c.self.invariant.stands.sized) in
    let sent = turn.fib c.args.node low in (
      sent.message,
      spelled_in c.self.inside.shape c.self.inside.shape c.self.inside.octets.items c.as_slice.result.now (fib_place c.args.node c.index.result.now) c.fib.result (Fib sent.message) refl
          (sym c.as_slice.ensures.value) (sym c.fib.ensures) sent.spelled,
    )

pub returns-clause-fits : goal.returns-clause-fits
returns-clause-fits c =
    let last : c.args.turn ≤ length c.self.inside.owner.journal.changes = omega (arith, c.requires.last, ap (λ (s : SenderState). length (changes_in s)) c.self.view_is) in
    let state : SenderState = record { rib = c.self.inside.owner; octets = c.self.inside.octets.items; sent = c.self.inside.turns.items } in
    let turn = sent_there c.self.inside.shape c.self.inside.number c.self.invariant.flows state c.self.invariant.stands c.args.turn c.index.result.now c.requires.first last
    c.index.ensures in
    let low : c.args.node < c.self.inside.shape.nodes =
    omega (arith, c.requires.node, ap (λ (s : SenderState). s.rib.size.nodes) c.self.view_is, ap (λ (s : Size). s.nodes) c.self.invariant.stands.sized) in
    let sent = turn.fib c.args.node low in
    let read : c.fib_at.result ≡ sent.message =
    c.fib_at.ensures sent.message
    (spelled_in c.self.inside.shape c.self.inside.shape c.self.inside.octets.items c.as_slice.result.now (fib_place c.args.node c.index.result.now) c.fib.result (Fib sent.message) refl
    (sym c.as_slice.ensures.value) (sym c.fib.ensures) sent.spelled) in
    let sizes : c.self.inside.shape ≡ c.args.self.now.rib.size = sym c.self.invariant.stands.sized ∙ ap (λ (s : SenderState). s.rib.size) c.self.view_is in
    subst (λ (m : FibMessage). FibMessageFits c.args.self.now.rib.size m) (sym read)
    (subst (λ (s : Size). FibMessageFits s sent.message) sizes sent.spelled.begins.spells.fits)

pub returns-clause-of_turn : goal.returns-clause-of_turn
returns-clause-of_turn c size number flows is =
    let there : c.index.result.now ≡ get_or c.args.self.now.sent (c.args.turn - 1) c.index.result.now =
    c.index.ensures ∙ ap (λ (s : SenderState). get_or s.sent (c.args.turn - 1) c.index.result.now) c.self.view_is in
    let turn = sent_there size number flows c.args.self.now is c.args.turn c.index.result.now c.requires.first c.requires.last there in
    let low : c.args.node < size.nodes = omega (arith, c.requires.node, ap (λ (s : Size). s.nodes) is.sized) in
    let sent = turn.fib c.args.node low in
    let sizes : size ≡ c.self.inside.shape =
    sym is.sized ∙ sym (ap (λ (s : SenderState). s.rib.size) c.self.view_is) ∙ c.self.invariant.stands.sized in
    let octets : c.args.self.now.octets ≡ c.as_slice.result.now = sym (ap (λ (s : SenderState). s.octets) c.self.view_is) ∙ sym c.as_slice.ensures.value in
    let read : c.fib_at.result ≡ sent.message =
    c.fib_at.ensures sent.message
    (spelled_in size c.self.inside.shape c.args.self.now.octets c.as_slice.result.now (fib_place c.args.node c.index.result.now) c.fib.result (Fib sent.message) sizes octets (sym c.fib.ensures) sent.spelled) in
    subst (λ (m : FibMessage). IsFibMessageOf size c.args.node number flows (changes_in c.args.self.now) c.args.turn m) (sym read) sent.of_turn
