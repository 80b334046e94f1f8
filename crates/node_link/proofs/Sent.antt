-- What a push makes of the end that sends.
use Rattle.std.proofs.Common.{◌≡◌, ◌∙◌, ℕ, [], ◌∷◌, ◌++◌, Some, ap, subst}
use Rattle.std.specs.Global.{Global}
use Rattle.smallvec.specs.SmallVec.{SmallVec}
use Rattle.crossbeam_queue.specs.SegTies.{SegId}
use Rattle.flow_types.specs.Size.{Size}
use Rattle.delta_codec.specs.declared.message.Message.{Message}
use Rattle.delta_codec.specs.Laws.{SpellOneMessage}
use Rattle.node_link.specs.declared.rule.Log.{Log}
use Rattle.node_link.specs.Ends.{End, Port, sender_end}
use Rattle.node_link.specs.Letter.{IsLetter}
use Rattle.node_link.specs.Moves.{HasSent}

-- the letter's message is the one that was sent
pub one_more : (queue : SegId Global) (port new : Port) (end : End) (size : Size) (letter : SmallVec ℕ) (message : Message) → sender_end queue (Some port) ≡ end
    → end.size ≡ size → SpellOneMessage size → IsLetter size letter message → HasSent port.me.view.client letter new.me.view.client
    → new.me.view.client.sent ≡ end.messages ++ message ∷ []
one_more queue port new end size letter message was sized only is sent =
    let shaped : port.me.view.client.shape ≡ size = ap (λ (e : End). e.size) was ∙ sized in
    let theirs : IsLetter size letter sent.message = subst (λ (s : Size). IsLetter s letter sent.message) shaped sent.letter_of in
    let same : sent.message ≡ message = only letter.items sent.message message theirs.sized is.sized theirs.spells is.spells in
    ap (λ (log : Log). log.sent) sent.sent ∙ (λ i. (was i).messages ++ same i ∷ [])
