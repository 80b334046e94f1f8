-- The messages of a turn, read from where they begin.
use Rattle.std.proofs.Common.{◌≡◌, ◌∙◌, ◌+◌, ◌-◌, ◌<◌, ◌≤◌, ℕ, List, length, get_or, Some, sym, ap, subst, arith}
use Rattle.std.specs.List.{slice_get}
use Rattle.std.proofs.lemmas.Option.{slice_get-get_or}
use Rattle.flow_types.specs.declared.record.Flow.{Flow}
use Rattle.flow_types.specs.Size.{Size}
use Rattle.delta_codec.specs.declared.message.Message.{Message}
use Rattle.turn_log.specs.declared.sent.SentTurn.{SentTurn}
use Rattle.turn_log.specs.Sender.{IsSenderOf, SenderState, changes_in}
use Rattle.turn_log.specs.Sent.{IsSentTurn, IsSpelledAt}

-- where the messages of a turn begin
pub sent_there : (size : Size) (owner : ℕ) (flows : List Flow) (sender : SenderState) → IsSenderOf size owner flows sender → (turn : ℕ) (sent : SentTurn) → 1 ≤ turn
    → turn ≤ length (changes_in sender) → sent ≡ get_or sender.sent (turn - 1) sent → IsSentTurn size owner flows (changes_in sender) sender.octets turn sent
sent_there size owner flows sender is turn sent first last read =
    let low : turn - 1 < length sender.sent = omega (arith, is.one_each) in
    let there : slice_get sender.sent (turn - 1) ≡ Some sent = slice_get-get_or sender.sent (turn - 1) sent low ∙ ap (λ (s : SentTurn). Some s) (sym read) in
    let numbered : turn - 1 + 1 ≡ turn = omega arith in
    subst (λ (n : ℕ). IsSentTurn size owner flows (changes_in sender) sender.octets n sent) numbered (is.sent (turn - 1) sent there)

-- a message that begins at a place begins there under other names of the shape, the octets and the place
pub spelled_in : (size other : Size) (octets same : List ℕ) (at there : ℕ) (message : Message) → size ≡ other → octets ≡ same → at ≡ there → IsSpelledAt size octets at message
    → IsSpelledAt other same there message
spelled_in size other octets same at there message sizes both places is =
    subst (λ (s : Size). IsSpelledAt s same there message) sizes
    (subst (λ (o : List ℕ). IsSpelledAt size o there message) both (subst (λ (n : ℕ). IsSpelledAt size octets n message) places is))
