-- What an accepted update leaves of a sender, whose shape and number are those of its owner.
use Rattle.std.proofs.Common.{◌≡◌, ◌∙◌, ◌<◌, ℕ, List, [], ◌∷◌, ◌++◌, Ok, Err, sym, ap, subst}
use Rattle.std.specs.Prelude.{IfSome, Result}
use mathlib.Core.List.{IsPrefix}
use Rattle.flow_types.specs.declared.record.Flow.{Flow}
use Rattle.flow_types.specs.Size.{Size}
use Rattle.group_search.specs.Owned.{IsOwned}
use Rattle.group_history.specs.declared.change.Change.{Change}
use Rattle.group_history.specs.declared.refused.UpdateRefused.{UpdateRefused}
use Rattle.rib_owner.specs.declared.turn.Turn.{Turn}
use Rattle.group_history.specs.declared.update.Update.{Update}
use Rattle.group_history.specs.Acceptance.{updated_key}
use Rattle.rib_owner.specs.Rib.{IsRibOf}
use Rattle.rib_owner.specs.Turn.{AnswersUpdate, node_entered}
use Rattle.delta_codec.specs.declared.message.Message.TheVariants.{Fib, Table}
use Rattle.delta_codec.specs.Fits.{HeadFits}
use Rattle.flow_types.specs.Key.{IsKeyValue}
use Rattle.turn_log.specs.declared.sent.SentTurn.{SentTurn}
use Rattle.turn_log.specs.Sender.{AnswersSender, IsSenderOf, SenderState, changes_in}
use Rattle.turn_log.specs.Sent.{IsSpelledAt, fib_place}
use Rattle.turn_log.specs.Turn.{fib_with, head_of, op_in, table_with}
use Rattle.turn_log.proofs.Contents.{IsSendable}
use Rattle.turn_log.proofs.Growing.{goes_on, turn_content, turn_head}

renamed : (size other : Size) (number num : ℕ) (flows : List Flow) (sender : SenderState) → size ≡ other → number ≡ num → IsSenderOf size number flows sender
    → IsSenderOf other num flows sender
renamed size other number num flows sender sizes numbers is =
    subst (λ (n : ℕ). IsSenderOf other n flows sender) numbers (subst (λ (s : Size). IsSenderOf s number flows sender) sizes is)

-- it stands with the shape and the number that are seen of it
pub as_seen : (size : Size) (number : ℕ) (flows : List Flow) (sender : SenderState) → IsSenderOf size number flows sender
    → IsSenderOf sender.rib.size sender.rib.number flows sender
as_seen size number flows sender is = renamed size sender.rib.size number sender.rib.number flows sender (sym is.sized) (sym is.numbered) is

-- what is said with the shape and the number that were seen is said with those that are known
module _ (size : Size) (number : ℕ) (flows : List Flow) (old new : SenderState) (is : IsSenderOf size number flows old) where
  pub stands_known : IsSenderOf old.rib.size old.rib.number flows new → IsSenderOf size number flows new
  stands_known stands = renamed old.rib.size size old.rib.number number flows new is.sized is.numbered stands

  pub answers_known : (update : Update) (answer : Result ℕ UpdateRefused) → AnswersSender old.rib.size flows (changes_in old) update (changes_in new) answer
      → AnswersSender size flows (changes_in old) update (changes_in new) answer
  answers_known update answer answers = subst (λ (s : Size). AnswersSender s flows (changes_in old) update (changes_in new) answer) is.sized answers

-- a sender stands with its owner's shape and number alone
module _ (shape : Size) (num : ℕ) (others : List Flow) (old : SenderState) (stands : IsSenderOf shape num others old) (size : Size) (number : ℕ) (flows : List Flow)
    (is : IsSenderOf size number flows old) where
  pub stands_here : IsSenderOf shape num flows old
  stands_here = renamed size shape number num flows old (sym is.sized ∙ stands.sized) (sym is.numbered ∙ stands.numbered) is

  pub stands_there : (new : SenderState) → IsSenderOf shape num flows new → IsSenderOf size number flows new
  stands_there new here = renamed shape size num number flows new (sym stands.sized ∙ is.sized) (sym stands.numbered ∙ is.numbered) here

module _ (size : Size) (number : ℕ) (flows : List Flow) (old : SenderState) (is : IsSenderOf size number flows old) where
  -- its owner stands
  pub rib_here : IsRibOf old.rib.size flows old.rib
  rib_here = subst (λ (s : Size). IsRibOf s flows old.rib) (sym is.sized) is.rib

  module _ (update : Update) (turn : Turn) (answer : AnswersUpdate old.rib.size flows (changes_in old) update (Ok turn)) where
    here : AnswersUpdate size flows (changes_in old) update (Ok turn)
    here = subst (λ (s : Size). AnswersUpdate s flows (changes_in old) update (Ok turn)) is.sized answer

    -- it tells the turn's number
    pub answers : (after : List Change) → after ≡ changes_in old ++ turn.change ∷ [] → AnswersSender size flows (changes_in old) update after (Ok turn.number)
    answers after after_is = (here.0, here.1.number, after_is ∙ ap (λ (c : Change). changes_in old ++ c ∷ []) here.1.change)

    module _ (owns : IsOwned old.rib.size old.rib.number (updated_key update)) (node : IfSome (node_entered update) (λ (n : ℕ). n < old.rib.size.nodes))
        (key : IsKeyValue turn.change.key) where
      owns_here : IsOwned size number (updated_key update)
      owns_here = subst (λ (s : Size). IsOwned s number (updated_key update)) is.sized (owns ∙ is.numbered)

      node_here : IfSome (node_entered update) (λ (n : ℕ). n < size.nodes)
      node_here = subst (λ (s : Size). IfSome (node_entered update) (λ (n : ℕ). n < s.nodes)) is.sized node

      pub accepted_head : HeadFits size number turn.number turn.change.block turn.change.group
      accepted_head = turn_head size number flows old is update turn here.0 here.1 owns_here node_here key

      pub accepted_content : IsSendable size turn.content
      accepted_content = turn_content size number flows old is update turn here.0 here.1 owns_here node_here key

      pub accepted_stands : (octets : List ℕ) (sent : SentTurn) → IsSpelledAt size octets sent.table (Table (table_with (head_of number turn) turn.content))
          → ((of : ℕ) → IsSpelledAt size octets (fib_place of sent) (Fib (fib_with (head_of number turn) (op_in of turn)))) → (new : SenderState) → new.octets ≡ octets
          → IsPrefix old.octets octets → new.sent ≡ old.sent ++ sent ∷ [] → IsRibOf old.rib.size flows new.rib → new.rib.size ≡ old.rib.size → new.rib.number ≡ old.rib.number
          → changes_in new ≡ changes_in old ++ turn.change ∷ [] → IsSenderOf size number flows new
      accepted_stands octets sent table fib new octets_are more sent_are rib size_is number_is changes_are =
          goes_on size number flows old is update turn here.0 here.1 owns_here node_here key octets sent table fib new octets_are more sent_are
          (subst (λ (s : Size). IsRibOf s flows new.rib) is.sized rib) (size_is ∙ is.sized) (number_is ∙ is.numbered) changes_are

-- or why the update is refused
pub refuses : (size : Size) (number : ℕ) (flows : List Flow) (old : SenderState) → IsSenderOf size number flows old → (update : Update) (refused : UpdateRefused)
    → AnswersUpdate old.rib.size flows (changes_in old) update (Err refused) → (after : List Change) → AnswersSender size flows (changes_in old) update after (Err refused)
refuses size number flows old is update refused answer after = subst (λ (s : Size). AnswersUpdate s flows (changes_in old) update (Err refused)) is.sized answer
