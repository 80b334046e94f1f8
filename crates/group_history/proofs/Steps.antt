-- How many keys a map has after a change.
use Rattle.std.proofs.Common.{ℕ, ◌≡◌, ◌+◌, ◌≤◌, true, List, [], ◌∷◌, length, Option, Some, None, is_some, refl, arith, length-append}
use Rattle.std.proofs.lemmas.List.Sorted.{length_permutation}
use Rattle.std.proofs.lemmas.List.Sums.{count_by-le-length, length-filter}
use Rattle.flow_types.specs.declared.key.FlowKey.{FlowKey}
use Rattle.flow_types.specs.declared.record.Flow.{Flow}
use Rattle.flow_types.specs.declared.record.Record.{Record}
use Rattle.flow_types.specs.Map.{AreDistinct, flow_at, put, without}
use Rattle.flow_types.proofs.KeyedFlows.{is_other, without_found}
use Rattle.group_history.specs.declared.change.Change.{Change}
use Rattle.group_history.specs.Change.{flow_to, step, with_at}

fewer : (key : FlowKey) (flows : List Flow) → length (without key flows) ≤ length flows
unfolding without
fewer key flows = rw (length-filter (is_other key) flows) (count_by-le-length (is_other key) flows)

one_fewer-case : (key : FlowKey) (flows : List Flow) (found : Option Flow) → flow_at key flows ≡ found → is_some found ≡ true → AreDistinct flows
    → length (without key flows) + 1 ≡ length flows
one_fewer-case key flows (Some flow) is there distinct =
    let same = length_permutation flows (flow ∷ without key flows) (without_found key flow flows distinct is) in omega arith
one_fewer-case key flows None is there distinct = cc

one_fewer : (key : FlowKey) (flows : List Flow) → is_some (flow_at key flows) ≡ true → AreDistinct flows → length (without key flows) + 1 ≡ length flows
one_fewer key flows there distinct = one_fewer-case key flows (flow_at key flows) refl there distinct

length-put : (new : Flow) (flows : List Flow) → length (put new flows) ≡ length (without new.key flows) + 1
unfolding put
length-put new flows = length-append (without new.key flows) (new ∷ [])

with_most : (key : FlowKey) (to : Option (ℕ × Record)) (flows : List Flow) → length (with_at key to flows) ≤ length flows + 1
with_most key (Some to) flows = omega (arith, length-put (flow_to key to) flows, fewer key flows)
with_most key None flows = omega (arith, fewer key flows)

-- a change adds at most one key
pub step_most : (flows : List Flow) (change : Change) → length (step flows change) ≤ length flows + 1
unfolding step
step_most flows change = with_most change.key change.to flows

with_known : (key : FlowKey) (to : Option (ℕ × Record)) (flows : List Flow) → is_some (flow_at key flows) ≡ true → AreDistinct flows → length (with_at key to flows) ≤ length flows
with_known key (Some to) flows there distinct = omega (arith, length-put (flow_to key to) flows, one_fewer key flows there distinct)
with_known key None flows there distinct = fewer key flows

-- a change of a key that is there adds none
pub step_known : (flows : List Flow) (change : Change) → is_some (flow_at change.key flows) ≡ true → AreDistinct flows → length (step flows change) ≤ length flows
unfolding step
step_known flows change there distinct = with_known change.key change.to flows there distinct

with_removed : (key : FlowKey) (to : Option (ℕ × Record)) (flows : List Flow) → to ≡ None → length (with_at key to flows) ≤ length flows
with_removed key (Some to) flows none = cc
with_removed key None flows none = fewer key flows

-- a change that removes a key adds none
pub step_removed : (flows : List Flow) (change : Change) → change.to ≡ None → length (step flows change) ≤ length flows
unfolding step
step_removed flows change none = with_removed change.key change.to flows none
