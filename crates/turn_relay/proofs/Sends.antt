-- One more turn is sent.
use Rattle.std.proofs.Common.{◌≡◌, ◌∙◌, ℕ, zero, suc, ◌+◌, ◌<◌, List, [], ◌∷◌, ◌++◌, length, Some, Ok, Err, sym, ap, subst, arith, length-append}
use Rattle.std.specs.List.{slice_get}
use Rattle.std.specs.Prelude.{OnOk, Result}
use Rattle.std.proofs.lemmas.List.{take-append-le}
use Rattle.std.proofs.lemmas.Option.{slice_get_within}
use Rattle.flow_types.specs.declared.record.Flow.{Flow}
use Rattle.flow_types.specs.Size.{Size}
use Rattle.group_history.specs.declared.change.Change.{Change}
use Rattle.delta_codec.specs.declared.message.FibMessage.{FibMessage}
use Rattle.delta_codec.specs.declared.message.Message.TheVariants.{Table}
use Rattle.delta_codec.specs.declared.message.TableMessage.{TableMessage}
use Rattle.delta_codec.specs.Messages.{IsTableMessage, IsTableMessageOf, message_after, IsFibMessageOf}
use Rattle.group_history.specs.declared.update.Update.{Update}
use Rattle.group_history.specs.Acceptance.{change_of}
use Rattle.turn_log.specs.Sender.{AnswersSender, IsSenderOf, SenderState, changes_in}
use Rattle.node_link.specs.Ends.{End}
use Rattle.turn_relay.specs.Each.{AllFrom}
use Rattle.turn_relay.specs.Sent.{AreAllSent, AreSent, TellsEach, TellsTurn, fibs_in, tables_in}
use Rattle.turn_relay.proofs.Messages.{fibs_skip, fibs_snoc, tables_skip, tables_snoc}

-- an element stays where it is, whatever comes behind
pub stays : {A : Type 0} (xs more : List A) (i : ℕ) (x : A) → slice_get xs i ≡ Some x → slice_get (xs ++ more) i ≡ Some x
stays [] more i x there = absurd (cc there)
stays (y ∷ ys) more zero x there = there
stays (y ∷ ys) more (suc i) x there = stays ys more i x there

-- an element of a list with one more is one of the list or the last
last_or : {A : Type 0} (P : ℕ → A → Type 0) (xs : List A) (y : A) → ((i : ℕ) (x : A) → slice_get xs i ≡ Some x → P i x) → P (length xs) y
    → (i : ℕ) (x : A) → slice_get (xs ++ y ∷ []) i ≡ Some x → P i x
last_or P [] y all last zero x there = let same : y ≡ x = cc there in subst (λ z. P 0 z) same last
last_or P [] y all last (suc i) x there = absurd (cc there)
last_or P (first ∷ xs) y all last zero x there = all zero x there
last_or P (first ∷ xs) y all last (suc i) x there = last_or (λ k z. P (suc k) z) xs y (λ k z is. all (suc k) z is) last i x there

module _ (size : Size) (owner : ℕ) (flows : List Flow) (changes more : List Change) where
  -- the message of a turn is its message, whatever is accepted later
  table_stays : (turn : ℕ) (message : TableMessage) → IsTableMessageOf size owner flows changes turn message → IsTableMessageOf size owner flows (changes ++ more) turn message
  table_stays turn message is =
      let low : is.before < length changes = slice_get_within changes is.before is.change is.there in record {
        before = is.before;
        change = is.change;
        numbered = is.numbered;
        there = stays changes more is.before is.change is.there;
        says = subst (λ (before : List Change). IsTableMessage size owner flows before is.change message) (sym (take-append-le is.before changes more (omega (arith, low)))) is.says;
      }

  fib_stays : (node turn : ℕ) (message : FibMessage) → IsFibMessageOf size node owner flows changes turn message → IsFibMessageOf size node owner flows (changes ++ more) turn message
  fib_stays node turn message is =
      let low : is.before < length changes = slice_get_within changes is.before is.change is.there in record {
        before = is.before;
        change = is.change;
        numbered = is.numbered;
        there = stays changes more is.before is.change is.there;
        says = is.says ∙ ap (λ (before : List Change). message_after size node owner flows before is.change) (sym (take-append-le is.before changes more (omega (arith, low))));
      }

module _ (size : Size) (owner : ℕ) (flows : List Flow) (sender : SenderState) (is : IsSenderOf size owner flows sender) (changes : List Change) (change : Change)
    (grown : changes_in sender ≡ changes ++ change ∷ []) where
  abbrev now : List Change
  now = changes ++ change ∷ []

  module _ (node : ℕ) (before after : End) (sent : AreSent size owner node flows changes (length changes) before.messages)
      (told : TellsTurn sender (length changes + 1) node before after) where
    tables_now : tables_in after.messages ≡ tables_in before.messages ++ told.table ∷ []
    tables_now =
        ap tables_in told.whole ∙ tables_skip (before.messages ++ Table told.table ∷ []) told.fib ∙ tables_snoc before.messages told.table

    fibs_now : fibs_in after.messages ≡ fibs_in before.messages ++ told.fib ∷ []
    fibs_now =
        ap fibs_in told.whole ∙ fibs_snoc (before.messages ++ Table told.table ∷ []) told.fib
        ∙ ap (λ (messages : List FibMessage). messages ++ told.fib ∷ []) (fibs_skip before.messages told.table)

    table_here : IsTableMessageOf size owner flows now (length (tables_in before.messages) + 1) told.table
    table_here =
        subst (λ (turn : ℕ). IsTableMessageOf size owner flows now (turn + 1) told.table) (sym sent.all_tables)
        (subst (λ (all : List Change). IsTableMessageOf size owner flows all (length changes + 1) told.table) grown (told.of_table size owner flows is))

    fib_here : IsFibMessageOf size node owner flows now (length (fibs_in before.messages) + 1) told.fib
    fib_here =
        subst (λ (turn : ℕ). IsFibMessageOf size node owner flows now (turn + 1) told.fib) (sym sent.all_fibs)
        (subst (λ (all : List Change). IsFibMessageOf size node owner flows all (length changes + 1) told.fib) grown (told.of_fib size owner flows is))

    sent_on : AreSent size owner node flows now (length now) after.messages
    sent_on = record {
      tables = λ i message there.
          last_or (λ (k : ℕ) (m : TableMessage). IsTableMessageOf size owner flows now (k + 1) m) (tables_in before.messages) told.table
          (λ k m is_there. table_stays size owner flows changes (change ∷ []) (k + 1) m (sent.tables k m is_there)) table_here i message
          (subst (λ (all : List TableMessage). slice_get all i ≡ Some message) tables_now there);
      fibs = λ i message there.
          last_or (λ (k : ℕ) (m : FibMessage). IsFibMessageOf size node owner flows now (k + 1) m) (fibs_in before.messages) told.fib
          (λ k m is_there. fib_stays size owner flows changes (change ∷ []) node (k + 1) m (sent.fibs k m is_there)) fib_here i message
          (subst (λ (all : List FibMessage). slice_get all i ≡ Some message) fibs_now there);
      all_tables = omega (arith, ap length tables_now, length-append (tables_in before.messages) (told.table ∷ []), sent.all_tables, length-append changes (change ∷ []));
      all_fibs = omega (arith, ap length fibs_now, length-append (fibs_in before.messages) (told.fib ∷ []), sent.all_fibs, length-append changes (change ∷ []));
    }

  all_on : (node : ℕ) (ends after : List End) → AllFrom (λ (n : ℕ) (end : End). AreSent size owner n flows changes (length changes) end.messages) node ends
      → TellsEach sender (length changes + 1) node ends after → AllFrom (λ (n : ℕ) (end : End). AreSent size owner n flows now (length now) end.messages) node after
  all_on node [] [] sent told = tt
  all_on node [] (y ∷ ys) sent told = absurd told
  all_on node (x ∷ xs) [] sent told = absurd told
  all_on node (x ∷ xs) (y ∷ ys) sent told = (sent_on node x y sent.0 told.0, all_on (node + 1) xs ys sent.1 told.1)

-- an update is accepted, and its turn told to each node
pub sends_on : (size : Size) (owner : ℕ) (flows : List Flow) (old new : SenderState) (asked : Update) (turn : ℕ) (ends after : List End) → IsSenderOf size owner flows new
    → AnswersSender size flows (changes_in old) asked (changes_in new) (Ok turn) → TellsEach new turn 0 ends after
    → AreAllSent size owner flows (changes_in old) ends → AreAllSent size owner flows (changes_in new) after
sends_on size owner flows old new asked turn ends after is answers told sent =
    subst (λ (changes : List Change). AreAllSent size owner flows changes after) (sym answers.2)
    (all_on size owner flows new is (changes_in old) (change_of size flows asked) answers.2 0 ends after sent (subst (λ (t : ℕ). TellsEach new t 0 ends after) answers.1 told))

-- nothing is accepted, and nothing sent
pub nothing_sent : {A E : Type 0} (size : Size) (owner : ℕ) (flows : List Flow) (old new : SenderState) (ends : List End) → new ≡ old
    → (result : Result A E) → OnOk result (AreAllSent size owner flows (changes_in old) ends → AreAllSent size owner flows (changes_in new) ends)
nothing_sent size owner flows old new ends same (Ok answer) = λ sent. subst (λ (s : SenderState). AreAllSent size owner flows (changes_in s) ends) (sym same) sent
nothing_sent size owner flows old new ends same (Err why) = tt

pub ruleset sending = (sends_on, nothing_sent)
