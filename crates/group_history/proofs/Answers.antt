-- What a node answers by a map, and that the keys of a map stay in range.
use Rattle.std.proofs.Common.{◌≡◌, ◌∙◌, ◌==◌, ℕ, Bool, true, false, cond, List, [], ◌∷◌, Option, Some, None, refl, sym, subst}
use Rattle.std.specs.Prelude.{All, Contains}
use Rattle.std.proofs.lemmas.Bool.{eqb-false, eqb-true}
use Rattle.std.proofs.lemmas.List.Elements.{All-contains, All-filter, All-head, All-push, All-tail}
use Rattle.flow_types.specs.declared.key.FlowKey.{FlowKey}
use Rattle.flow_types.specs.declared.record.Flow.{Flow}
use Rattle.flow_types.specs.declared.record.Record.{Record}
use Rattle.flow_types.specs.Key.{number, IsKeyValue}
use Rattle.flow_types.specs.Map.{AreDistinct, Knows, flow_at, put, without, HaveKeyValues}
use Rattle.flow_types.proofs.KeyedFlows.{found_of_stands, found_stands}
use Rattle.group_history.specs.declared.change.Change.{Change}
use Rattle.group_history.specs.Change.{flow_to, step, with_at}
use Rattle.group_history.specs.History.{changed}
use Rattle.group_history.specs.Routes.{Answer, handled_record}
use Rattle.flow_types.proofs.KeyNumbers.{key_is, key_of-number}

-- keys in range that have one number are the same
same_of_number : (a b : FlowKey) → IsKeyValue a → IsKeyValue b → number a ≡ number b → a ≡ b
same_of_number a b fits also same = key_is a (number b) fits same ∙ key_of-number b also

module _ (flows : List Flow) (distinct : AreDistinct flows) (values : HaveKeyValues flows) (node : ℕ) (key : FlowKey) (value : IsKeyValue key) where
  abbrev flow_with : Record → Flow
  flow_with info = record { key = key; node = node; info = info }

  -- the flow that is found at the key, if it is at the node, is known there
  known : (flow : Flow) → flow_at key flows ≡ Some flow → flow.node ≡ node → Knows flows key node flow.info
  known flow found here =
      let stands = found_stands key flow flows found in
      let same : flow.key ≡ key = same_of_number flow.key key (All-contains (λ (f : Flow). IsKeyValue f.key) flows flow values stands.0) value stands.1 in
      subst (Contains flows) (λ i. record { key = same i; node = here i; info = flow.info }) stands.0

  -- a flow that is known at the node is the one that is found
  found : (info : Record) → Knows flows key node info → flow_at key flows ≡ Some (flow_with info)
  found info knows = found_of_stands key (flow_with info) flows distinct knows refl

  answers-by : (there : Option Flow) → flow_at key flows ≡ there → Answer flows node key (handled_record node there)
  answers-by None none = λ info knows. let there = found info knows in cc
  answers-by (Some flow) there = by (flow.node == node) refl
    where
      by : (own : Bool) → (flow.node == node) ≡ own → Answer flows node key (cond own (Some flow.info) None)
      by true e = known flow there (eqb-true flow.node node e)
      by false e = λ info knows.
          let is : Some flow ≡ Some (flow_with info) = sym there ∙ found info knows in
          let here : flow.node ≡ node = cc in
          eqb-false flow.node node e here

  -- the record that the node has of what the map has at the key is the node's answer by the map
  pub map_answers : Answer flows node key (handled_record node (flow_at key flows))
  map_answers = answers-by (flow_at key flows) refl

-- ---- keys stay in range

values-with_at : (key : FlowKey) (to : Option (ℕ × Record)) (flows : List Flow) → IsKeyValue key → HaveKeyValues flows → HaveKeyValues (with_at key to flows)
unfolding put without
values-with_at key (Some to) flows value values =
    All-push (λ (flow : Flow). IsKeyValue flow.key) (without key flows) (flow_to key to)
    (All-filter _ (λ (flow : Flow). IsKeyValue flow.key) flows values) value
values-with_at key None flows value values = All-filter _ (λ (flow : Flow). IsKeyValue flow.key) flows values

pub values-step : (flows : List Flow) (change : Change) → IsKeyValue change.key → HaveKeyValues flows → HaveKeyValues (step flows change)
unfolding step
values-step flows change value values = values-with_at change.key change.to flows value values

abbrev pub has_value : Change → Type 0
has_value change = IsKeyValue change.key

pub values-changed : (flows : List Flow) (changes : List Change) → All has_value changes → HaveKeyValues flows → HaveKeyValues (changed flows changes)
unfolding changed
values-changed flows [] keys values = values
values-changed flows (change ∷ changes) keys values =
    values-changed (step flows change) changes (All-tail has_value change changes keys) (values-step flows change (All-head has_value change changes keys) values)
