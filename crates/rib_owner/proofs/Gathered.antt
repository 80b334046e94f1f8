-- The entries of a map after a change.
use Rattle.std.proofs.Common.{ℕ, ◌≡◌, ◌≢◌, ◌∙◌, List, [], ◌∷◌, ◌++◌, Option, Some, None, refl, sym, ap}
use Rattle.std.proofs.lemmas.List.{map-append}
use Rattle.flow_types.specs.declared.key.FlowKey.{FlowKey}
use Rattle.flow_types.specs.declared.record.Flow.{Flow}
use Rattle.flow_types.specs.Key.{number}
use Rattle.flow_types.specs.declared.record.Record.{Record}
use Rattle.flow_types.specs.Map.{AreDistinct, put, without}
use Rattle.group_search.specs.declared.entry.Entry.{Entry}
use Rattle.group_search.specs.Records.{entries, entry_of}
use Rattle.flow_types.specs.Map.{HaveDistinctKeys}
use Rattle.group_search.specs.Rows.{entry_key}
use Rattle.group_search.proofs.Mapped.{all_pairs_mapped}
use Rattle.group_history.specs.declared.change.Change.{Change}
use Rattle.group_history.specs.Change.{flow_to, step, with_at}
use Rattle.hash_family.specs.Hash.{pair}

-- what is read past the end of a list of flows
abbrev pub nobody : Flow
nobody = record {
  key = record { source = 0; destination = 0; source_port = 0; destination_port = 0; protocol = 0 };
  node = 0;
  info = record { teid = 0; base = 0 };
}

-- ---- the change's own key

pub gathered_set : (flows : List Flow) (change : Change) (to : ℕ × Record) → change.to ≡ Some to
    → entries (without change.key flows) ++ (record { pair = pair change.key; key = change.key; node = to.0 }) ∷ [] ≡ entries (step flows change)
unfolding step put
gathered_set flows change to is =
    sym (map-append entry_of (without change.key flows) (flow_to change.key to ∷ []))
    ∙ sym (ap (λ (t : Option (ℕ × Record)). entries (with_at change.key t flows)) is)

removed-case : (key : FlowKey) (to : Option (ℕ × Record)) (flows : List Flow) → ((x : ℕ × Record) → to ≡ Some x → ⊥) → entries (without key flows) ≡ entries (with_at key to flows)
removed-case key None flows none = refl
removed-case key (Some to) flows none = absurd (none to refl)

pub gathered_removed : (flows : List Flow) (change : Change) → ((x : ℕ × Record) → change.to ≡ Some x → ⊥) → entries (without change.key flows) ≡ entries (step flows change)
unfolding step
gathered_removed flows change none = removed-case change.key change.to flows none

-- the entries of a map have distinct keys
pub distinct_entries : (flows : List Flow) → AreDistinct flows → HaveDistinctKeys entry_key (entries flows)
distinct_entries flows distinct = all_pairs_mapped (λ (a : Entry) (b : Entry). number a.key ≢ number b.key) entry_of nobody flows distinct
