-- A block stays within its limits when one of its groups gets the map of an accepted update.
use Rattle.std.proofs.Common.{ℕ, ◌≡◌, ◌≢◌, ◌∙◌, ◌+◌, ◌≤◌, ◌<◌, List, length, get_or, sym, ap, arith, ⊎_elim}
use Rattle.std.proofs.lemmas.Bool.{cases_eq}
use Rattle.std.proofs.lemmas.List.{length-set}
use Rattle.flow_types.specs.declared.record.Flow.{Flow}
use Rattle.flow_types.specs.Map.{AreDistinct}
use Rattle.group_search.specs.Build.{rows_needed}
use Rattle.group_search.specs.Records.{entries}
use Rattle.group_history.specs.Acceptance.{keys_in}
use Rattle.rib_owner.specs.Part.{IsKeptPart, rows_free}
use Rattle.rib_owner.specs.Rib.{Part, map_in}
use Rattle.rib_owner.proofs.Counted.{keys_with, map_beside, map_here, rows_apart, rows_beside, rows_here, rows_left_is, rows_with, with_map}

module _ (bits : ℕ) (part : Part) (group rows : ℕ) (map : List Flow) (low : group < 64) (kept : IsKeptPart bits part) where
  here : map_in (with_map part group map rows) group ≡ map
  here = map_here part group rows map low kept.one_map_each kept.one_number_each

  beside : (other : ℕ) → other ≢ group → map_in (with_map part group map rows) other ≡ map_in part other
  beside other ne = map_beside part group rows map low kept.one_map_each kept.one_number_each other ne

  pub kept_with : AreDistinct map → keys_in (map_in part) + length map ≤ 1536 + length (map_in part group) → rows ≡ rows_needed bits (entries map)
      → rows ≤ rows_free part group → IsKeptPart bits (with_map part group map rows)
  kept_with distinct few rows_is room = record {
    one_map_each = length-set part.maps group map ∙ kept.one_map_each;
    one_number_each = length-set part.rows group rows ∙ kept.one_number_each;
    distinct = λ other. ⊎_elim
        (λ (same : other ≡ group). rw (same, here) distinct)
        (λ (ne : other ≢ group). rw (beside other ne) (kept.distinct other))
        (cases_eq other group);
    few = omega (arith, keys_with part group rows map low kept.one_map_each kept.one_number_each);
    rows = λ other there. ⊎_elim
        (λ (same : other ≡ group).
        ap (λ (x : ℕ). get_or (with_map part group map rows).rows x 0) same ∙ rows_here part group rows map low kept.one_map_each kept.one_number_each ∙ rows_is
        ∙ ap (λ (m : List Flow). rows_needed bits (entries m)) (sym here) ∙ ap (λ (x : ℕ). rows_needed bits (entries (map_in (with_map part group map rows) x))) (sym same))
        (λ (ne : other ≢ group).
        rows_beside part group rows map low kept.one_map_each kept.one_number_each other ne ∙ kept.rows other there
        ∙ ap (λ (m : List Flow). rows_needed bits (entries m)) (sym (beside other ne)))
        (cases_eq other group);
    few_rows = omega (arith, rows_with part group rows map low kept.one_map_each kept.one_number_each, rows_apart part group low, rows_left_is part group, kept.few_rows);
  }
