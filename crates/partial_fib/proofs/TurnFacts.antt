-- A node's FIB from turn to turn.
use Rattle.std.proofs.Common.{ℕ, zero, suc, ◌≡◌, ◌∙◌, ◌+◌, ◌%◌, ◌==◌, Bool, true, false, cond, List, [], ◌∷◌, ◌++◌, length, take, Option, Some, None, refl, sym, ap, length-append}
use Rattle.std.specs.Prelude.{fold, option_map}
use Rattle.std.proofs.lemmas.Bool.{cond-true, cond-false, eq-eqb, eqb-true}
use Rattle.std.proofs.lemmas.List.{append-nil, append_assoc}
use Rattle.std.proofs.lemmas.List.Elements.{All-head, All-tail}
use Rattle.flow_types.specs.declared.key.FlowKey.{FlowKey}
use Rattle.flow_types.specs.declared.record.Flow.{Flow}
use Rattle.flow_types.specs.declared.record.Record.{Record}
use Rattle.flow_types.specs.Key.{key_of, number}
use Rattle.flow_types.specs.Map.{flow_at}
use Rattle.flow_types.specs.Size.{Size}
use Rattle.group_search.specs.Home.{Home, home, opening}
use Rattle.group_history.specs.declared.change.Change.{Change}
use Rattle.group_history.specs.Change.{changed_group, concerns, flow_to}
use Rattle.group_history.specs.History.{now}
use Rattle.group_history.specs.Journal.{change_count}
use Rattle.group_history.proofs.Versions.{count_other, count_own, flow_at-step, now_other, now_own}
use Rattle.delta_codec.specs.Op.{op_for, op_of_loss, op_of_move, was_handled}
use Rattle.group_history.specs.Routes.{handled_record}
use Rattle.partial_fib.specs.Fib.{FibState, fib_after, record_after, with_op, with_turn}
use Rattle.delta_codec.specs.Messages.{message_after, messages_after}
use Rattle.delta_codec.specs.Journals.{IsJournalOf, IsOwnChange}
use Rattle.flow_types.proofs.KeyNumbers.{key_of-number, number-key_of}

-- ---- what a change means for the records of a node

module _ (records : ℕ → Option Record) (node : ℕ) (key : FlowKey) (n : ℕ) where
  stays : (asked : Bool) → (n == number key) ≡ asked → records (number key) ≡ None → records n ≡ cond asked None (records n)
  stays true e none = ap records (eqb-true n (number key) e) ∙ none
  stays false e none = refl

  loss : (before : Option Flow) → records (number key) ≡ handled_record node before
      → with_op records (op_of_loss key (was_handled node before)) n ≡ cond (n == number key) None (records n)
  loss None is = stays _ refl is
  loss (Some flow) is = by (flow.node == node) refl
    where
      by : (had : Bool) → (flow.node == node) ≡ had → with_op records (op_of_loss key (flow.node == node)) n ≡ cond (n == number key) None (records n)
      by true e = rw e refl
      by false e = rw e (stays _ refl (is ∙ cond-false (flow.node == node) (Some flow.info) None e))

  move : (to : Option (ℕ × Record)) (before : Option Flow) → records (number key) ≡ handled_record node before
      → with_op records (op_of_move node key to (was_handled node before)) n ≡ cond (n == number key) (handled_record node (option_map (flow_to key) to)) (records n)
  move None before is = loss before is
  move (Some to) before is = by (to.0 == node) refl
    where
      by : (own : Bool) → (to.0 == node) ≡ own
          → with_op records (op_of_move node key (Some to) (was_handled node before)) n ≡ cond (n == number key) (handled_record node (Some (flow_to key to))) (records n)
      by true e = rw e refl
      by false e = rw e (loss before is)

-- ---- one more turn

module _ (size : Size) (node owner : ℕ) (flows : List Flow) (before : List Change) (change : Change) (own : IsOwnChange size owner flows change) where
  abbrev after : List Change
  after = before ++ change ∷ []

  abbrev map_before : Home → List Flow
  map_before at = now (opening size.blocks flows at) before at

  -- a group's map has at other keys what it had
  kept_flow : (n : ℕ) (at : Home) (of_group : Bool) → (n == number change.key) ≡ false → concerns at change ≡ of_group
      → flow_at (key_of n) (now (opening size.blocks flows at) after at) ≡ flow_at (key_of n) (map_before at)
  kept_flow n at true e is =
      ap (flow_at (key_of n)) (now_own at (opening size.blocks flows at) before change is)
      ∙ flow_at-step (key_of n) (map_before at) change
      ∙ cond-false _ (option_map (flow_to change.key) change.to) (flow_at (key_of n) (map_before at)) (ap (λ (m : ℕ). m == number change.key) (number-key_of n) ∙ e)
  kept_flow n at false e is = ap (flow_at (key_of n)) (now_other at (opening size.blocks flows at) before change is)

  concerned : concerns (changed_group change) change ≡ true
  concerned = rw (eq-eqb change.block change.block refl, eq-eqb change.group change.group refl) refl

  -- and at the change's key what the change says
  new_flow : flow_at change.key (now (opening size.blocks flows (changed_group change)) after (changed_group change)) ≡ option_map (flow_to change.key) change.to
  new_flow =
      ap (flow_at change.key) (now_own (changed_group change) (opening size.blocks flows (changed_group change)) before change concerned)
      ∙ flow_at-step change.key (map_before (changed_group change)) change
      ∙ cond-true _ (option_map (flow_to change.key) change.to) (flow_at change.key (map_before (changed_group change))) (eq-eqb (number change.key) (number change.key) refl)

  -- the record of the change's key, by the map of its group
  at_key : (changes : List Change) → record_after size node owner flows changes (number change.key)
      ≡ handled_record node (flow_at change.key (now (opening size.blocks flows (changed_group change)) changes (changed_group change)))
  unfolding record_after
  at_key changes =
      ap (λ (key : FlowKey). record_at key (home size.blocks flows key)) (key_of-number change.key own.key)
      ∙ ap (record_at change.key) own.at_home
      ∙ cond-true _ (handled_record node (flow_at change.key (now (opening size.blocks flows (changed_group change)) changes (changed_group change)))) None (eq-eqb _ _ own.owned)
    where
      record_at : FlowKey → Home → Option Record
      record_at key at = cond (at.block % size.nodes == owner) (handled_record node (flow_at key (now (opening size.blocks flows at) changes at))) None

  at_others : (n : ℕ) → (n == number change.key) ≡ false → record_after size node owner flows before n ≡ record_after size node owner flows after n
  unfolding record_after
  at_others n e =
      ap (λ (flow : Option Flow). cond ((home size.blocks flows (key_of n)).block % size.nodes == owner) (handled_record node flow) None)
      (sym (kept_flow n (home size.blocks flows (key_of n)) _ e refl))

  records_go_on : (n : ℕ) (here : Bool) → (n == number change.key) ≡ here
      → cond here (handled_record node (option_map (flow_to change.key) change.to)) (record_after size node owner flows before n) ≡ record_after size node owner flows after n
  records_go_on n true e =
      sym (ap (record_after size node owner flows after) (eqb-true n (number change.key) e) ∙ at_key after ∙ ap (handled_record node) new_flow)
  records_go_on n false e = at_others n e

  new_records : (n : ℕ) → with_op (record_after size node owner flows before) (message_after size node owner flows before change).op n ≡ record_after size node owner flows after n
  unfolding op_for
  new_records n =
      move (record_after size node owner flows before) node change.key n change.to (flow_at change.key (map_before (changed_group change))) (at_key before)
      ∙ records_go_on n _ refl

  new_version : (at : Home) (here : Bool) → concerns at change ≡ here
      → cond here (change_count at before + 1) (change_count at before) ≡ change_count at after
  new_version at true e = sym (count_own at before change e)
  new_version at false e = sym (count_other at before change e)

  counted : length before + 1 ≡ length after
  counted = sym (length-append before (change ∷ []))

  pub goes_on : with_turn (fib_after size node owner flows before) (message_after size node owner flows before change) ≡ fib_after size node owner flows (before ++ change ∷ [])
  goes_on = λ i. record {
    size = size;
    node = node;
    owner = owner;
    records = λ n. new_records n i;
    versions = λ at. new_version at (concerns at change) refl i;
    taken = counted i;
  }

-- ---- many turns

module _ (size : Size) (node owner : ℕ) (flows : List Flow) where
  none_more : (before : List Change) → fib_after size node owner flows before ≡ fib_after size node owner flows (before ++ [])
  none_more before = ap (fib_after size node owner flows) (sym (append-nil before))

  turns_go_on : (before later : List Change) (turns : ℕ) → IsJournalOf size owner flows later
      → fold with_turn (fib_after size node owner flows before) (take turns (messages_after size node owner flows before later))
      ≡ fib_after size node owner flows (before ++ take turns later)
  unfolding messages_after
  turns_go_on before [] zero own = none_more before
  turns_go_on before [] (suc turns) own = none_more before
  turns_go_on before (change ∷ later) zero own = none_more before
  turns_go_on before (change ∷ later) (suc turns) own =
      ap (λ (fib : FibState). fold with_turn fib (take turns (messages_after size node owner flows (before ++ change ∷ []) later)))
      (goes_on size node owner flows before change (All-head (IsOwnChange size owner flows) change later own))
      ∙ turns_go_on (before ++ change ∷ []) later turns (All-tail (IsOwnChange size owner flows) change later own)
      ∙ ap (fib_after size node owner flows) (append_assoc before (change ∷ []) (take turns later))

  pub turns_make : (changes : List Change) (turns : ℕ) → IsJournalOf size owner flows changes
      → fold with_turn (fib_after size node owner flows []) (take turns (messages_after size node owner flows [] changes)) ≡ fib_after size node owner flows (take turns changes)
  turns_make changes turns own = turns_go_on [] changes turns own
