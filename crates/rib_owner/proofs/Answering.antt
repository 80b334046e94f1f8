-- What an owner answers, by the flows with which it was opened and its journal.
use Rattle.std.proofs.Common.{ℕ, ◌≡◌, ◌≢◌, ◌∙◌, ◌+◌, ◌%◌, ◌<◌, List, length, Option, Some, None, refl, sym, ap, subst, arith}
use Rattle.std.specs.Prelude.{IsPermutation, option_map}
use Rattle.std.proofs.lemmas.List.Sorted.{IsPermutation-sym}
use Rattle.flow_types.specs.declared.key.FlowKey.{FlowKey}
use Rattle.flow_types.specs.declared.record.Flow.{Flow}
use Rattle.flow_types.specs.Map.{AreDistinct, flow_at}
use Rattle.flow_types.specs.Size.{Size, value_bits}
use Rattle.flow_types.specs.Limits.{most_turns}
use Rattle.hash_family.specs.Hash.{place}
use Rattle.group_search.specs.Canon.{canonical}
use Rattle.group_search.specs.Home.{Home, choices, group_of, home}
use Rattle.group_search.specs.Records.{content_of, entries}
use Rattle.group_history.specs.declared.change.Change.{Change}
use Rattle.group_history.specs.Change.{step}
use Rattle.group_history.specs.declared.refused.UpdateRefused.{UpdateRefused}
use Rattle.group_history.specs.declared.refused.UpdateRefused.TheVariants.{Spent}
use Rattle.rib_owner.specs.declared.turn.Turn.{Turn}
use Rattle.group_history.specs.declared.update.Update.{Update}
use Rattle.group_history.specs.Acceptance.{change_at, change_of, grounds, grounds_in, updated_key, maps_now, refusal, refusal_of_place, refusal_of_rows}
use Rattle.rib_owner.specs.Judging.{IsFor, refusal_in_rows}
use Rattle.rib_owner.specs.Part.{IsKeptPart}
use Rattle.group_search.specs.Owned.{IsOwned}
use Rattle.group_history.specs.History.{map_now}
use Rattle.rib_owner.specs.Rib.{IsPartOf, IsRibOf, Part, Rib, group_in, map_in, node_and_record, part_of}
use Rattle.rib_owner.specs.Turn.{IsTurn, plan_of}
use Rattle.group_history.proofs.Versions.{distinct-step}
use Rattle.rib_owner.proofs.AnyOrder.{at_permuted, canonical_alike, distinct_permuted, step_permuted}
use Rattle.group_history.proofs.Judged.{for_place, for_rows, spent}
use Rattle.rib_owner.proofs.Judged.{grounds_same, lifted, rows_alike}

-- a journal that is full leaves no turn
pub answer_spent : (size : Size) (flows : List Flow) (changes : List Change) (update : Update) → length changes ≡ most_turns
    → refusal update (grounds size flows changes update) ≡ Some (Spent most_turns)
unfolding grounds grounds_in
answer_spent size flows changes update last = spent update (grounds size flows changes update) last

module _ (size : Size) (flows : List Flow) (changes : List Change) (key : FlowKey) (block : ℕ) (part : Part)
    (block_is : block ≡ (place size.blocks key).block) (is : IsPartOf size flows changes block part) where
  home_at : ℕ → List ℕ → Home
  home_at b cs = record { block = b; group = group_of cs (place size.blocks key).bucket }

  -- a key's home is its block, and the group that the part has for its bucket
  pub home_is : home size.blocks flows key ≡ record { block = block; group = group_in part size.blocks key }
  unfolding home home_at
  home_is =
      ap (λ (b : ℕ). home_at b (choices size.blocks b flows)) (sym block_is)
      ∙ ap (home_at block) (sym is.choices)

  pub map_is : (group : ℕ) → group ≡ group_in part size.blocks key → group < 64 → IsPermutation (map_in part group) (map_now size flows changes (home size.blocks flows key))
  map_is group group_is low =
      subst (IsPermutation (map_in part group))
      (ap (λ (g : ℕ). map_now size flows changes (record { block = block; group = g })) group_is
      ∙ ap (map_now size flows changes) (sym home_is))
      (IsPermutation-sym (map_now size flows changes (record { block = block; group = group })) (map_in part group) (is.maps group low))

module _ (size : Size) (flows : List Flow) (changes : List Change) (update : Update) (block : ℕ) (part : Part) (group : ℕ)
    (block_is : block ≡ (place size.blocks (updated_key update)).block) (is : IsPartOf size flows changes block part)
    (group_is : group ≡ group_in part size.blocks (updated_key update)) (low : group < 64) (kept : IsKeptPart (value_bits size.nodes) part) where
  at_is : home size.blocks flows (updated_key update) ≡ record { block = block; group = group }
  at_is =
      home_is size flows changes (updated_key update) block part block_is is
      ∙ ap (λ (g : ℕ). let there : Home = record { block = block; group = g } in there) (sym group_is)

  pub change_is : change_at (record { block = block; group = group }) update ≡ change_of size flows update
  change_is = ap (λ (h : Home). change_at h update) (sym at_is)

  pub grounds_are : grounds size flows changes update ≡ grounds_in (value_bits size.nodes) (length changes) (record { block = block; group = group }) (map_in part) update
  unfolding grounds
  grounds_are =
      ap (λ (h : Home). grounds_in (value_bits size.nodes) (length changes) h (maps_now size flows changes h.block) update) at_is
      ∙ grounds_same (value_bits size.nodes) (length changes) (record { block = block; group = group })
      (maps_now size flows changes block) (map_in part) update low is.maps
      (distinct_permuted (map_in part group) (maps_now size flows changes block group)
      (IsPermutation-sym (maps_now size flows changes block group) (map_in part group) (is.maps group low)) (kept.distinct group))

  turns_are : (grounds size flows changes update).turns ≡ length changes
  unfolding grounds grounds_in
  turns_are = refl

  module _ (left : length changes ≢ most_turns) where
    not_last : (grounds size flows changes update).turns ≢ most_turns
    not_last last = left (sym turns_are ∙ last)

    pub answer_place : (refused : UpdateRefused)
        → IsFor (refusal_of_place update (grounds_in (value_bits size.nodes) (length changes) (record { block = block; group = group }) (map_in part) update)) refused
        → IsFor (refusal update (grounds size flows changes update)) refused
    answer_place refused for =
        lifted (refusal_of_place update (grounds_in (value_bits size.nodes) (length changes) (record { block = block; group = group }) (map_in part) update))
        (refusal update (grounds size flows changes update)) refused for
        (λ why. for_place update (grounds size flows changes update) not_last refused (ap (refusal_of_place update) grounds_are ∙ why))

    module _ (there : refusal_of_place update (grounds_in (value_bits size.nodes) (length changes) (record { block = block; group = group }) (map_in part) update) ≡ None) where
      rows_are : refusal update (grounds size flows changes update) ≡ refusal_in_rows (value_bits size.nodes) part (change_at (record { block = block; group = group }) update)
      rows_are =
          for_rows update (grounds size flows changes update) not_last (ap (refusal_of_place update) grounds_are ∙ there)
          ∙ ap refusal_of_rows grounds_are
          ∙ sym (rows_alike (value_bits size.nodes) (length changes) (record { block = block; group = group }) part update kept)

      pub answer_rows : (refused : UpdateRefused) → IsFor (refusal_in_rows (value_bits size.nodes) part (change_at (record { block = block; group = group }) update)) refused
          → IsFor (refusal update (grounds size flows changes update)) refused
      answer_rows refused for =
          lifted (refusal_in_rows (value_bits size.nodes) part (change_at (record { block = block; group = group }) update))
          (refusal update (grounds size flows changes update)) refused for (λ why. rows_are ∙ why)

      pub answer_accepted : refusal_in_rows (value_bits size.nodes) part (change_at (record { block = block; group = group }) update) ≡ None
          → refusal update (grounds size flows changes update) ≡ None
      answer_accepted none = rows_are ∙ none

  -- the next turn
  pub turn_is : (turn : Turn) → turn.number ≡ length changes + 1
      → turn.change ≡ change_at (record { block = block; group = group }) update
      → canonical (value_bits size.nodes) (entries (step (map_in part group) turn.change)) ≡ Some turn.content
      → turn.fib ≡ plan_of update (flow_at (updated_key update) (map_in part group))
      → IsTurn size flows changes update turn
  unfolding content_of
  turn_is turn number change content fib =
      let now : List Flow = map_now size flows changes (home size.blocks flows (updated_key update)) in
      let map = map_is size flows changes (updated_key update) block part block_is is group group_is low in
      record {
        number = number;
        change = change ∙ change_is;
        content = sym
            (canonical_alike (step (map_in part group) turn.change) (step now turn.change) (step_permuted (map_in part group) now map (kept.distinct group) turn.change)
            (distinct-step (map_in part group) turn.change (kept.distinct group)) (value_bits size.nodes))
            ∙ content;
        plan = fib ∙ ap (plan_of update) (at_permuted (map_in part group) now map (kept.distinct group) (updated_key update));
      }

-- what is found at a key is what its group's map has now
pub found_now : (rib : Rib) (flows : List Flow) (key : FlowKey) (block group : ℕ) (found : Option Flow) → IsRibOf rib.size flows rib → IsOwned rib.size rib.number key
    → block ≡ (place rib.size.blocks key).block → (place rib.size.blocks key).block < rib.size.blocks
    → group ≡ group_in (part_of rib block) rib.size.blocks key → group < 64 → AreDistinct (map_in (part_of rib block) group)
    → found ≡ flow_at key (map_in (part_of rib block) group)
    → option_map node_and_record found ≡ option_map node_and_record (flow_at key (map_now rib.size flows rib.journal.changes (home rib.size.blocks flows key)))
found_now rib flows key block group found is owned block_is below group_is low distinct found_is =
    let part = is.parts block (omega (arith, block_is)) (ap (λ (b : ℕ). b % rib.size.nodes) block_is ∙ owned) in
    ap (option_map node_and_record) found_is
    ∙ ap (option_map node_and_record)
    (at_permuted (map_in (part_of rib block) group) (map_now rib.size flows rib.journal.changes (home rib.size.blocks flows key))
    (map_is rib.size flows rib.journal.changes key block (part_of rib block) block_is part group group_is low) distinct key)
