-- What a node has of a key by a map is what it answers by the map.
use Rattle.std.proofs.Common.{◌≡◌, ◌≢◌, ◌∙◌, ◌%◌, ◌==◌, ℕ, cond, List, Option, None, sym, ap, subst}
use Rattle.std.proofs.lemmas.Bool.{cond-true, eq-eqb}
use Rattle.std.proofs.lemmas.List.Elements.{All-filter, All-weaker}
use Rattle.std.proofs.lemmas.List.Kept.{AllPairs-filter}
use Rattle.flow_types.specs.declared.key.FlowKey.{FlowKey}
use Rattle.flow_types.specs.declared.record.Flow.{Flow}
use Rattle.flow_types.specs.declared.record.Record.{Record}
use Rattle.flow_types.specs.Key.{number, IsKeyValue}
use Rattle.flow_types.specs.Map.{AreDistinct, flow_at, HaveKeyValues}
use Rattle.flow_types.specs.Size.{Size}
use Rattle.group_search.specs.Home.{Home, home, is_home, opening}
use Rattle.group_history.specs.declared.change.Change.{Change}
use Rattle.group_history.specs.Change.{concerns}
use Rattle.group_history.specs.History.{now}
use Rattle.group_history.specs.Journal.{concerning}
use Rattle.group_history.specs.Routes.{Answer, handled_record}
use Rattle.group_history.proofs.Versions.{distinct-now}
use Rattle.partial_fib.specs.Answering.{RecordsAnswer}
use Rattle.partial_fib.specs.Fib.{record_after}
use Rattle.delta_codec.specs.Journals.{IsJournalOf, IsOwnChange}
use Rattle.flow_types.proofs.KeyNumbers.{key_of-number}
use Rattle.group_history.proofs.Answers.{map_answers, values-changed, has_value}

module _ (size : Size) (node owner : ℕ) (flows : List Flow) (changes : List Change) (key : FlowKey) (value : IsKeyValue key)
    (owned : (home size.blocks flows key).block % size.nodes ≡ owner) where
  abbrev at_home : Home
  at_home = home size.blocks flows key

  abbrev map_there : List Flow
  map_there = now (opening size.blocks flows at_home) changes at_home

  -- it is the node's record of what the map of the key's group has there
  pub record_by_map : record_after size node owner flows changes (number key) ≡ handled_record node (flow_at key map_there)
  unfolding record_after
  record_by_map =
      ap (λ (k : FlowKey). record_at k (home size.blocks flows k)) (key_of-number key value)
      ∙ cond-true _ (handled_record node (flow_at key map_there)) None (eq-eqb _ _ owned)
    where
      record_at : FlowKey → Home → Option Record
      record_at k at = cond (at.block % size.nodes == owner) (handled_record node (flow_at k (now (opening size.blocks flows at) changes at))) None

  module _ (distinct : AreDistinct flows) (values : HaveKeyValues flows) (own : IsJournalOf size owner flows changes) where
    distinct-there : AreDistinct map_there
    unfolding opening
    distinct-there =
        distinct-now at_home (opening size.blocks flows at_home) changes
        (AllPairs-filter (λ (a : Flow) (b : Flow). number a.key ≢ number b.key) (λ (flow : Flow). is_home (home size.blocks flows flow.key) at_home) flows distinct)

    values-there : HaveKeyValues map_there
    unfolding now concerning opening
    values-there =
        values-changed (opening size.blocks flows at_home) (concerning at_home changes)
        (All-filter (concerns at_home) has_value changes (All-weaker (IsOwnChange size owner flows) has_value (λ change is. is.key) changes own))
        (All-filter (λ (flow : Flow). is_home (home size.blocks flows flow.key) at_home) (λ (flow : Flow). IsKeyValue flow.key) flows values)

    answered : Answer map_there node key (record_after size node owner flows changes (number key))
    answered = subst (Answer map_there node key) (sym record_by_map) (map_answers map_there distinct-there values-there node key value)

pub records_answer : RecordsAnswer
records_answer size node owner flows changes key distinct values own value owned =
    answered size node owner flows changes key value owned distinct values own
