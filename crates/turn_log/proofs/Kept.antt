-- What holds of an owner's changes, and of the messages of its turns, when one more change follows.
use Rattle.std.proofs.Common.{◌≡◌, ◌∙◌, ◌<◌, ◌≤◌, ℕ, List, [], ◌∷◌, ◌++◌, length, take, Option, Some, ⊎_elim, refl, sym, ap, subst, arith}
use Rattle.std.specs.List.{slice_get}
use Rattle.std.proofs.lemmas.Bool.{cases_lt}
use Rattle.std.proofs.lemmas.List.{length_push, take-append-le, take_at}
use Rattle.std.proofs.lemmas.Option.{slice_get_past}
use mathlib.Core.List.{IsPrefix}
use Rattle.flow_types.specs.declared.record.Flow.{Flow}
use Rattle.flow_types.specs.Size.{Size}
use Rattle.flow_types.proofs.Elements.{pushed_before, pushed_last}
use Rattle.group_history.specs.declared.change.Change.{Change}
use Rattle.delta_codec.specs.declared.message.FibMessage.{FibMessage}
use Rattle.delta_codec.specs.declared.message.Message.TheVariants.{Table, Fib}
use Rattle.delta_codec.specs.declared.message.TableMessage.{TableMessage}
use Rattle.delta_codec.specs.Messages.{IsTableMessage, IsTableMessageOf, message_after, IsFibMessageOf}
use Rattle.turn_log.specs.declared.sent.SentTurn.{SentTurn}
use Rattle.turn_log.specs.Room.{HasRows, HaveRows}
use Rattle.turn_log.specs.Sent.{IsSentTurn, fib_place}
use Rattle.turn_log.proofs.Spelled.{spelled_on}

-- an element that is there has a place in the list
pub within_of : {X : Type 0} (xs : List X) (i : ℕ) (x : X) → slice_get xs i ≡ Some x → i < length xs
within_of xs i x there =
    ⊎_elim
    (λ (within : i < length xs). within)
    (λ (past : length xs ≤ i). let none = slice_get_past xs i past in absurd cc)
    (cases_lt i (length xs))

-- an element of a list with one more is one of the list, or the one more
pub of_pushed : {X : Type 0} (xs : List X) (last : X) (P : ℕ → X → Type 0) → ((i : ℕ) (x : X) → slice_get xs i ≡ Some x → P i x) → P (length xs) last
    → (i : ℕ) (x : X) → slice_get (xs ++ last ∷ []) i ≡ Some x → P i x
of_pushed {X} xs last P before own i x there =
    ⊎_elim
    (λ (low : i < length xs). before i x (sym (pushed_before xs last i low) ∙ there))
    (λ (high : length xs ≤ i).
    let long = within_of (xs ++ last ∷ []) i x there in
    let at_end : length xs ≡ i = omega (arith, length_push xs last) in
    let same : last ≡ x = some_same (sym (pushed_last xs last i (sym at_end)) ∙ there) in
    subst (λ (y : X). P i y) same (subst (λ (n : ℕ). P n last) at_end own))
    (cases_lt i (length xs))
  where
    some_same : {a b : X} → ◌≡◌ {A = Option X} (Some a) (Some b) → a ≡ b
    some_same e = cc

module _ (size : Size) (owner : ℕ) (flows : List Flow) (changes : List Change) (last : Change) where
  taken_before : (before : ℕ) (change : Change) → slice_get changes before ≡ Some change → take before (changes ++ last ∷ []) ≡ take before changes
  taken_before before change there =
      let within = within_of changes before change there in
      take-append-le before changes (last ∷ []) (omega arith)

  there_before : (before : ℕ) (change : Change) → slice_get changes before ≡ Some change → slice_get (changes ++ last ∷ []) before ≡ Some change
  there_before before change there = pushed_before changes last before (within_of changes before change there) ∙ there

  table_kept : (turn : ℕ) (message : TableMessage) → IsTableMessageOf size owner flows changes turn message
      → IsTableMessageOf size owner flows (changes ++ last ∷ []) turn message
  table_kept turn message is = record {
    before = is.before;
    change = is.change;
    numbered = is.numbered;
    there = there_before is.before is.change is.there;
    says = subst (λ (cs : List Change). IsTableMessage size owner flows cs is.change message) (sym (taken_before is.before is.change is.there)) is.says;
  }

  fib_kept : (node turn : ℕ) (message : FibMessage) → IsFibMessageOf size node owner flows changes turn message
      → IsFibMessageOf size node owner flows (changes ++ last ∷ []) turn message
  fib_kept node turn message is = record {
    before = is.before;
    change = is.change;
    numbered = is.numbered;
    there = there_before is.before is.change is.there;
    says = is.says ∙ ap (λ (cs : List Change). message_after size node owner flows cs is.change) (sym (taken_before is.before is.change is.there));
  }

  -- a turn's messages are still there
  pub sent_kept : (octets new : List ℕ) (turn : ℕ) (sent : SentTurn) → IsPrefix octets new → IsSentTurn size owner flows changes octets turn sent
      → IsSentTurn size owner flows (changes ++ last ∷ []) new turn sent
  sent_kept octets new turn sent more is = record {
    table = record {
      message = is.table.message;
      of_turn = table_kept turn is.table.message is.table.of_turn;
      spelled = spelled_on size octets new sent.table (Table is.table.message) more is.table.spelled;
    };
    fib = λ node low.
        let has = is.fib node low in
        record {
          message = has.message;
          of_turn = fib_kept node turn has.message has.of_turn;
          spelled = spelled_on size octets new (fib_place node sent) (Fib has.message) more has.spelled;
        };
  }

  -- no change asked for more rows than were free
  pub rows_kept : HaveRows size flows changes → HasRows size flows changes last → HaveRows size flows (changes ++ last ∷ [])
  rows_kept rows own =
      of_pushed changes last (λ (before : ℕ) (change : Change). HasRows size flows (take before (changes ++ last ∷ [])) change)
      (λ (before : ℕ) (change : Change) (there : slice_get changes before ≡ Some change).
      subst (λ (cs : List Change). HasRows size flows cs change) (sym (taken_before before change there)) (rows before change there))
      (subst (λ (cs : List Change). HasRows size flows cs last) (sym (take_at changes (last ∷ []) (length changes) refl)) own)
