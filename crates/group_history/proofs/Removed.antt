-- A map without a key needs no more rows than before.
use Rattle.std.proofs.Common.{ℕ, ◌≡◌, ◌≤◌, Bool, true, false, cond, List, length, Option, None, refl, ap, arith}
use Rattle.std.specs.Prelude.{filter}
use Rattle.std.specs.List.{list_all}
use Rattle.std.proofs.lemmas.List.Elements.{All-filter, All-map}
use Rattle.std.proofs.lemmas.List.Sums.{AllPass-from_list_all, list_all-from_AllPass}
use Rattle.flow_types.specs.declared.key.FlowKey.{FlowKey}
use Rattle.flow_types.specs.declared.record.Flow.{Flow}
use Rattle.flow_types.specs.declared.record.Record.{Record}
use Rattle.flow_types.specs.Map.{without}
use Rattle.flow_types.proofs.KeyedFlows.{is_other}
use Rattle.group_search.specs.declared.entry.Entry.{Entry}
use Rattle.group_search.specs.Build.{rows_needed}
use Rattle.group_search.specs.Canon.{is_separable}
use Rattle.group_search.specs.Records.{entries, entry_of}
use Rattle.group_search.specs.Serving.{IsSeparable, reads}
use Rattle.group_search.proofs.Chosen.{separable_is}
use Rattle.group_search.proofs.Mapped.{all_mapped}
use Rattle.group_history.specs.declared.change.Change.{Change}
use Rattle.group_history.specs.Change.{step, with_at}
use Rattle.group_search.proofs.NeededRows.{length-entries}

passes_without : (p : Entry → Bool) (key : FlowKey) (flows : List Flow) → list_all p (entries flows) ≡ true → list_all p (entries (without key flows)) ≡ true
unfolding without
passes_without p key flows all =
    list_all-from_AllPass p (entries (filter (is_other key) flows))
    (All-map (λ (e : Entry). p e ≡ true) entry_of (filter (is_other key) flows)
    (All-filter (is_other key) (λ (f : Flow). p (entry_of f) ≡ true) flows
    (all_mapped (λ (e : Entry). p e ≡ true) entry_of flows (AllPass-from_list_all p (entries flows) all))))

-- what serves a map serves it without a key
separable_without : (bits : ℕ) (key : FlowKey) (flows : List Flow) → is_separable bits (entries flows) ≡ true → is_separable bits (entries (without key flows)) ≡ true
separable_without bits key flows served =
    let before : IsSeparable bits (entries flows) = (separable_is bits (entries flows) (is_separable bits (entries flows)) refl).0 served in
    (separable_is bits (entries (without key flows)) (is_separable bits (entries (without key flows))) refl).1
    (λ bit low. let by = before bit low in (by.0, by.1, by.2, passes_without (reads by.0 by.1 bit) key flows by.3))

fewer-case : (before after : Bool) (m n : ℕ) → (before ≡ true → after ≡ true) → n ≤ m → cond after 0 n ≤ cond before 0 m
fewer-case true true m n served less = omega arith
fewer-case true false m n served less = cc (served refl)
fewer-case false true m n served less = omega arith
fewer-case false false m n served less = less

pub fewer_rows : (bits : ℕ) (key : FlowKey) (flows : List Flow) → length (without key flows) ≤ length flows
    → rows_needed bits (entries (without key flows)) ≤ rows_needed bits (entries flows)
unfolding rows_needed
fewer_rows bits key flows less =
    fewer-case (is_separable bits (entries flows)) (is_separable bits (entries (without key flows))) (length (entries flows)) (length (entries (without key flows)))
    (separable_without bits key flows) (omega (arith, length-entries flows, length-entries (without key flows)))

pub removed : (flows : List Flow) (change : Change) → change.to ≡ None → step flows change ≡ without change.key flows
unfolding step
removed flows change none = ap (λ (to : Option (ℕ × Record)). with_at change.key to flows) none
