-- What holds of a sender from its first turn on.
use Rattle.std.proofs.Common.{◌≡◌, ◌≢◌, ◌∙◌, ◌+◌, ◌%◌, ◌<◌, ◌≤◌, ℕ, Bool, true, false, cond, List, [], ◌∷◌, ◌++◌, length, take, Option, Some, None, ⊎_elim, refl, sym, ap, subst, arith}
use Rattle.std.specs.Prelude.{All, IfSome}
use Rattle.std.specs.List.{slice_get}
use Rattle.std.proofs.lemmas.Bool.{cases_lt, eq-eqb}
use Rattle.std.proofs.lemmas.List.{length_push, take_at}
use Rattle.std.proofs.lemmas.List.Elements.{All-filter, All-nil, All-push}
use Rattle.std.proofs.lemmas.List.Kept.{AllPairs-filter}
use mathlib.Core.List.{IsPrefix}
use Rattle.flow_types.specs.declared.key.FlowKey.{FlowKey}
use Rattle.flow_types.specs.declared.record.Flow.{Flow}
use Rattle.flow_types.specs.declared.record.Record.{Record}
use Rattle.flow_types.specs.Key.{number, IsKeyValue}
use Rattle.flow_types.specs.Map.{flow_at, put, without}
use Rattle.flow_types.specs.Size.{IsShape, Size, value_bits}
use Rattle.flow_types.proofs.Elements.{pushed_last}
use Rattle.flow_types.specs.Limits.{most_turns}
use Rattle.hash_family.specs.Hash.{place}
use Rattle.block_layout.specs.Candidate.{candidate}
use Rattle.group_search.specs.Build.{rows_needed}
use Rattle.group_search.specs.Canon.{is_separable}
use Rattle.group_search.specs.Home.{Home, home, is_home, opening}
use Rattle.group_search.specs.Owned.{IsOwned}
use Rattle.group_search.specs.Records.{content_of, entries}
use Rattle.group_history.specs.declared.change.Change.{Change}
use Rattle.group_history.specs.Change.{changed_group, concerns, flow_to, step, with_at}
use Rattle.group_history.specs.History.{changed, now, map_now}
use Rattle.group_history.specs.Journal.{concerning}
use Rattle.group_history.proofs.Versions.{distinct-step, now_other, now_own}
use Rattle.rib_owner.specs.declared.turn.FibPlan.{FibPlan}
use Rattle.rib_owner.specs.declared.turn.Turn.{Turn}
use Rattle.group_history.specs.declared.update.Update.{Update}
use Rattle.group_history.specs.declared.update.Update.TheVariants.{Set, Del}
use Rattle.group_history.specs.Acceptance.{Grounds, IsAccepted, change_of, grounds, grounds_in, refusal, updated_key, wanted}
use Rattle.rib_owner.specs.Rib.{IsRibOf, Rib}
use Rattle.rib_owner.specs.Turn.{IsTurn, node_entered}
use Rattle.group_history.proofs.OneCase.{one_case}
use Rattle.group_search.proofs.NeededRows.{length-entries}
use Rattle.delta_codec.specs.declared.message.Message.TheVariants.{Fib, Table}
use Rattle.delta_codec.specs.Fits.{HeadFits}
use Rattle.delta_codec.specs.Messages.{IsTableMessage, message_after}
use Rattle.delta_codec.specs.Journals.{IsJournalOf, IsOwnChange}
use Rattle.delta_codec.specs.Op.{op_for, op_of_move, was_handled}
use Rattle.turn_log.specs.declared.sent.SentTurn.{SentTurn}
use Rattle.turn_log.specs.Room.{HasRows, HaveRows}
use Rattle.turn_log.specs.Sender.{IsGroupMap, IsSenderOf, SenderState, changes_in}
use Rattle.turn_log.specs.Sent.{IsSentTurn, IsSpelledAt, fib_place}
use Rattle.turn_log.specs.Turn.{fib_with, head_of, leaves, op_in, table_with}
use Rattle.turn_log.proofs.Contents.{IsSendable, sendable}
use Rattle.turn_log.proofs.Kept.{of_pushed, rows_kept, sent_kept}
use Rattle.turn_log.proofs.Plans.{op_of_update}

-- ---- the maps of groups

all_with_at : (P : Flow → Type 0) (flows : List Flow) (key : FlowKey) (to : Option (ℕ × Record)) → All P flows
    → IfSome to (λ (t : ℕ × Record). P (flow_to key t)) → All P (with_at key to flows)
unfolding put without
all_with_at P flows key (Some to) all own = All-push P (without key flows) (flow_to key to) (All-filter _ P flows all) own
all_with_at P flows key None all own = All-filter _ P flows all

-- what holds of each flow of a map, and of the one that a change puts there, holds of each after the change
all_step : (P : Flow → Type 0) (flows : List Flow) (change : Change) → All P flows → IfSome change.to (λ (t : ℕ × Record). P (flow_to change.key t)) → All P (step flows change)
unfolding step
all_step P flows change all own = all_with_at P flows change.key change.to all own

if_some : {A : Type 0} (P : A → Type 0) (o : Option A) → ((a : A) → P a) → IfSome o P
if_some P None each = tt
if_some P (Some a) each = each a

pub map_step : (nodes : ℕ) (flows : List Flow) (change : Change) → IsGroupMap nodes flows → IfSome change.to (λ (t : ℕ × Record). t.0 < nodes) → IsKeyValue change.key
    → IsGroupMap nodes (step flows change)
map_step nodes flows change is node key = record {
  distinct = distinct-step flows change is.distinct;
  handled = all_step (λ (flow : Flow). flow.node < nodes) flows change is.handled node;
  keyed = all_step (λ (flow : Flow). IsKeyValue flow.key) flows change is.keyed (if_some (λ (t : ℕ × Record). IsKeyValue change.key) change.to (λ (t : ℕ × Record). key));
}

map_opened : (size : Size) (flows : List Flow) → IsGroupMap size.nodes flows → (at : Home) → IsGroupMap size.nodes (map_now size flows [] at)
unfolding map_now now changed concerning opening
map_opened size flows is at = record {
  distinct = AllPairs-filter (λ (a : Flow) (b : Flow). number a.key ≢ number b.key) (λ (flow : Flow). is_home (home size.blocks flows flow.key) at) flows is.distinct;
  handled = All-filter (λ (flow : Flow). is_home (home size.blocks flows flow.key) at) (λ (flow : Flow). flow.node < size.nodes) flows is.handled;
  keyed = All-filter (λ (flow : Flow). is_home (home size.blocks flows flow.key) at) (λ (flow : Flow). IsKeyValue flow.key) flows is.keyed;
}

maps_more : (size : Size) (flows : List Flow) (changes : List Change) (change : Change) → ((at : Home) → IsGroupMap size.nodes (map_now size flows changes at))
    → IfSome change.to (λ (t : ℕ × Record). t.0 < size.nodes) → IsKeyValue change.key
    → (at : Home) (own : Bool) → concerns at change ≡ own → IsGroupMap size.nodes (map_now size flows (changes ++ change ∷ []) at)
unfolding map_now
maps_more size flows changes change maps node key at true own =
    rw (now_own at (opening size.blocks flows at) changes change own) (map_step size.nodes (now (opening size.blocks flows at) changes at) change (maps at) node key)
maps_more size flows changes change maps node key at false other =
    rw (now_other at (opening size.blocks flows at) changes change other) (maps at)

-- ---- before the first turn

pub opened : (size : Size) (number : ℕ) (flows : List Flow) (rib : Rib) (octets : List ℕ) (sent : List SentTurn) → IsShape size.nodes size.blocks → number < size.nodes → IsGroupMap size.nodes flows
    → IsRibOf size flows rib → rib.size ≡ size → rib.number ≡ number → rib.journal.changes ≡ []
    → sent ≡ [] → IsSenderOf size number flows (record { rib = rib; octets = octets; sent = sent })
opened size number flows rib octets sent shape node map is size_is number_is none none_sent = record {
  rib = is;
  sized = size_is;
  numbered = number_is;
  shape = shape;
  node = node;
  few = omega (arith, ap length none);
  own = subst (IsJournalOf size number flows) (sym none) (All-nil (IsOwnChange size number flows));
  rows = subst (HaveRows size flows) (sym none) (λ before change there. absurd cc);
  maps = subst (λ (cs : List Change). (at : Home) → IsGroupMap size.nodes (map_now size flows cs at)) (sym none) (map_opened size flows map);
  one_each = ap length none_sent ∙ sym (ap length none);
  sent = λ before turn there. let no_turn = ap (λ (ts : List SentTurn). slice_get ts before) none_sent in absurd cc;
}

-- ---- one more turn

place_low : (size : Size) (key : FlowKey) → IsShape size.nodes size.blocks → (place size.blocks key).block < size.blocks
unfolding place
place_low size key shape = omega (arith, shape.enough_blocks)

rows-case : (on : Grounds) (update : Update) → IsAccepted update on → (served : Bool) → on.served ≡ served → cond served 0 on.needed ≤ on.free
rows-case on update is true e = omega arith
rows-case on update is false e =
    ⊎_elim
    (λ (more : on.free < on.needed). absurd (is.rows (record { not_served = e; more = more })))
    (λ (few : on.needed ≤ on.free). few)
    (cases_lt on.free on.needed)

module _ (size : Size) (owner : ℕ) (flows : List Flow) (old : SenderState) (is : IsSenderOf size owner flows old) (update : Update) (turn : Turn)
    (accepted : refusal update (grounds size flows (changes_in old) update) ≡ None) (is_turn : IsTurn size flows (changes_in old) update turn)
    (owns : IsOwned size owner (updated_key update)) (node : IfSome (node_entered update) (λ (n : ℕ). n < size.nodes)) (key : IsKeyValue turn.change.key) where
  abbrev before : List Change
  before = changes_in old

  abbrev at : Home
  at = home size.blocks flows (updated_key update)

  group_is : changed_group turn.change ≡ at
  group_is = ap changed_group is_turn.change

  is_accepted : IsAccepted update (grounds size flows before update)
  is_accepted = (one_case update (grounds size flows before update) None).1 (sym accepted)

  left : length before ≢ most_turns
  unfolding grounds grounds_in
  left = is_accepted.not_spent

  block_is : turn.change.block ≡ (place size.blocks (updated_key update)).block
  unfolding home
  block_is = ap (λ (c : Change). c.block) is_turn.change

  group_low : turn.change.group < 64
  unfolding home candidate
  group_low = omega (arith, ap (λ (c : Change). c.group) is_turn.change)

  owned : turn.change.block % size.nodes ≡ owner
  owned = ap (λ (b : ℕ). b % size.nodes) block_is ∙ owns

  pub turn_head : HeadFits size owner turn.number turn.change.block turn.change.group
  turn_head = record {
    owner_is_node = is.node;
    first_turn = omega (arith, is_turn.number);
    last_turn = omega (arith, is_turn.number, is.few, left);
    in_table = omega (arith, block_is, place_low size (updated_key update) is.shape);
    owned = owned;
    in_block = group_low;
  }

  entered : (u : Update) → IfSome (node_entered u) (λ (n : ℕ). n < size.nodes) → IfSome (wanted u) (λ (t : ℕ × Record). t.0 < size.nodes)
  entered (Set flow) low = low
  entered (Del removed) low = tt

  to_is : turn.change.to ≡ wanted update
  to_is = ap (λ (c : Change). c.to) is_turn.change

  goes_to_node : IfSome turn.change.to (λ (t : ℕ × Record). t.0 < size.nodes)
  goes_to_node = subst (λ (o : Option (ℕ × Record)). IfSome o (λ (t : ℕ × Record). t.0 < size.nodes)) (sym to_is) (entered update node)

  pub turn_content : IsSendable size turn.content
  turn_content =
      sendable size (step (map_now size flows before at) turn.change) (map_step size.nodes (map_now size flows before at) turn.change (is.maps at) goes_to_node key)
      turn.content is_turn.content

  own_change : IsOwnChange size owner flows turn.change
  own_change = record {
    key = key;
    at_home = ap (home size.blocks flows) (ap (λ (c : Change). c.key) is_turn.change) ∙ sym group_is;
    owned = owned;
  }

  rows_of_update : HasRows size flows before (change_of size flows update)
  unfolding grounds grounds_in rows_needed
  rows_of_update =
      let after = step (map_now size flows before at) (change_of size flows update) in
      rw (length-entries after) (rows-case (grounds size flows before update) update is_accepted (is_separable (value_bits size.nodes) (entries after)) refl)

  own_rows : HasRows size flows before turn.change
  own_rows = subst (HasRows size flows before) (sym is_turn.change) rows_of_update

  -- ---- its messages

  concerned : concerns (changed_group turn.change) turn.change ≡ true
  concerned = rw (eq-eqb turn.change.block turn.change.block refl, eq-eqb turn.change.group turn.change.group refl) refl

  map_is : now (opening size.blocks flows (changed_group turn.change)) before (changed_group turn.change) ≡ map_now size flows before at
  unfolding map_now
  map_is = ap (λ (h : Home). now (opening size.blocks flows h) before h) group_is

  taken : take (length before) (before ++ turn.change ∷ []) ≡ before
  taken = take_at before (turn.change ∷ []) (length before) refl

  says_table : IsTableMessage size owner flows before turn.change (table_with (head_of owner turn) turn.content)
  says_table = record {
    of_owner = refl;
    next = is_turn.number;
    of_block = refl;
    of_group = refl;
    canonical = ap (content_of size.nodes) (now_own (changed_group turn.change) (opening size.blocks flows (changed_group turn.change)) before turn.change concerned)
        ∙ ap (λ (m : List Flow). content_of size.nodes (step m turn.change)) map_is ∙ is_turn.content;
  }

  op_is : (of : ℕ) → op_in of turn ≡ op_for of turn.change (now (opening size.blocks flows (changed_group turn.change)) before (changed_group turn.change))
  unfolding op_for
  op_is of =
      ap (λ (o : Option (ℕ × Record)). op_of_move of turn.change.key o (leaves of turn.fib.drop)) to_is
      ∙ ap (λ (p : FibPlan). op_of_move of turn.change.key (wanted update) (leaves of p.drop)) is_turn.plan
      ∙ op_of_update of turn.change.key update (flow_at (updated_key update) (map_now size flows before at))
      ∙ ap (λ (o : Option (ℕ × Record)). op_of_move of turn.change.key o (was_handled of (flow_at (updated_key update) (map_now size flows before at)))) (sym to_is)
      ∙ ap (λ (k : FlowKey). op_of_move of turn.change.key turn.change.to (was_handled of (flow_at k (map_now size flows before at)))) (sym (ap (λ (c : Change). c.key) is_turn.change))
      ∙ ap (λ (m : List Flow). op_of_move of turn.change.key turn.change.to (was_handled of (flow_at turn.change.key m))) (sym map_is)

  says_fib : (of : ℕ) → fib_with (head_of owner turn) (op_in of turn) ≡ message_after size of owner flows before turn.change
  says_fib of = λ i. record { owner = owner; turn = is_turn.number i; block = turn.change.block; group = turn.change.group; op = op_is of i }

  module _ (octets : List ℕ) (sent : SentTurn) (table : IsSpelledAt size octets sent.table (Table (table_with (head_of owner turn) turn.content)))
      (fib : (of : ℕ) → IsSpelledAt size octets (fib_place of sent) (Fib (fib_with (head_of owner turn) (op_in of turn)))) where
    last_sent : IsSentTurn size owner flows (before ++ turn.change ∷ []) octets (length before + 1) sent
    last_sent = record {
      table = record {
        message = table_with (head_of owner turn) turn.content;
        of_turn = record {
          before = length before;
          change = turn.change;
          numbered = refl;
          there = pushed_last before turn.change (length before) refl;
          says = subst (λ (cs : List Change). IsTableMessage size owner flows cs turn.change (table_with (head_of owner turn) turn.content)) (sym taken) says_table;
        };
        spelled = table;
      };
      fib = λ of low. record {
        message = fib_with (head_of owner turn) (op_in of turn);
        of_turn = record {
          before = length before;
          change = turn.change;
          numbered = refl;
          there = pushed_last before turn.change (length before) refl;
          says = says_fib of ∙ ap (λ (cs : List Change). message_after size of owner flows cs turn.change) (sym taken);
        };
        spelled = fib of;
      };
    }

    -- with its messages behind the others the sender stands as before
    pub goes_on : (new : SenderState) → new.octets ≡ octets → IsPrefix old.octets octets → new.sent ≡ old.sent ++ sent ∷ [] → IsRibOf size flows new.rib
        → new.rib.size ≡ size → new.rib.number ≡ owner → changes_in new ≡ changes_in old ++ turn.change ∷ [] → IsSenderOf size owner flows new
    goes_on new octets_are more sent_are rib size_is number_is changes_are =
        let long : length (changes_in new) ≡ length before + 1 = ap length changes_are ∙ length_push before turn.change in
        record {
          rib = rib;
          sized = size_is;
          numbered = number_is;
          shape = is.shape;
          node = is.node;
          few = omega (arith, is.few, left);
          own = subst (IsJournalOf size owner flows) (sym changes_are) (All-push (IsOwnChange size owner flows) before turn.change is.own own_change);
          rows = subst (HaveRows size flows) (sym changes_are) (rows_kept size owner flows before turn.change is.rows own_rows);
          maps = λ h.
              subst (λ (cs : List Change). IsGroupMap size.nodes (map_now size flows cs h)) (sym changes_are)
              (maps_more size flows before turn.change is.maps goes_to_node key h (concerns h turn.change) refl);
          one_each = ap length sent_are ∙ length_push old.sent sent ∙ ap (λ (n : ℕ). n + 1) is.one_each ∙ sym long;
          sent = λ i t there.
              subst (λ (cs : List Change). IsSentTurn size owner flows cs new.octets (i + 1) t) (sym changes_are)
              (subst (λ (o : List ℕ). IsSentTurn size owner flows (before ++ turn.change ∷ []) o (i + 1) t) (sym octets_are)
              (of_pushed old.sent sent (λ (j : ℕ) (s : SentTurn). IsSentTurn size owner flows (before ++ turn.change ∷ []) octets (j + 1) s)
              (λ (j : ℕ) (s : SentTurn) (here : slice_get old.sent j ≡ Some s). sent_kept size owner flows before turn.change old.octets octets (j + 1) s more (is.sent j s here))
              (subst (λ (n : ℕ). IsSentTurn size owner flows (before ++ turn.change ∷ []) octets (n + 1) sent) (sym is.one_each) last_sent)
              i t (ap (λ (ts : List SentTurn). slice_get ts i) (sym sent_are) ∙ there)));
        }
