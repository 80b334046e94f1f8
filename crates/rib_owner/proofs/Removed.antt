-- A map without a key needs no more rows than before.
use Rattle.std.proofs.Common.{ℕ, ◌≡◌, ◌∙◌, ◌≤◌, ◌<◌, Bool, true, false, cond, List, length, Some, None, refl, sym, ap, arith}
use Rattle.flow_types.specs.declared.key.FlowKey.{FlowKey}
use Rattle.flow_types.specs.declared.record.Flow.{Flow}
use Rattle.flow_types.specs.Map.{without}
use Rattle.group_search.specs.Build.{rows_needed}
use Rattle.group_search.specs.Records.{entries}
use Rattle.group_history.specs.declared.change.Change.{Change}
use Rattle.group_history.specs.Change.{step}
use Rattle.group_history.specs.declared.refused.UpdateRefused.TheVariants.{Absent, RowsFull}
use Rattle.group_history.specs.declared.update.Update.{Update}
use Rattle.group_history.specs.declared.update.Update.TheVariants.{Del}
use Rattle.group_history.specs.Acceptance.{Grounds, refusal_of_place}
use Rattle.rib_owner.specs.Judging.{refusal_in_rows}
use Rattle.rib_owner.specs.Part.{IsKeptPart, rows_free}
use Rattle.rib_owner.specs.Rib.{Part, map_in}
use Rattle.rib_owner.proofs.Counted.{rows_apart, rows_left_is}
use Rattle.rib_owner.proofs.Rows.{rows_allowed}
use Rattle.group_history.proofs.Steps.{step_removed}
use Rattle.group_history.proofs.Removed.{fewer_rows, removed}

-- a change that removes a key is never refused for rows
pub removed_fits : (bits : ℕ) (part : Part) (change : Change) → IsKeptPart bits part → change.group < 64 → change.to ≡ None → refusal_in_rows bits part change ≡ None
removed_fits bits part change kept low none =
    let flows : List Flow = map_in part change.group in
    let same : step (map_in part change.group) change ≡ without change.key (map_in part change.group) = removed (map_in part change.group) change none in
    let less : length (without change.key (map_in part change.group)) ≤ length (map_in part change.group) =
    omega (arith, ap length same, step_removed (map_in part change.group) change none) in
    let fewer = fewer_rows bits change.key (map_in part change.group) less in
    let needed : rows_needed bits (entries (step (map_in part change.group) change)) ≡ rows_needed bits (entries (without change.key (map_in part change.group))) =
    ap (λ (m : List Flow). rows_needed bits (entries m)) same in
    rows_allowed bits part change (rows_needed bits (entries (step (map_in part change.group) change))) (rows_free part change.group) refl refl
    (omega (arith, needed, fewer, kept.rows change.group low, rows_apart part change.group low, rows_left_is part change.group, kept.few_rows))

place-case : (known : Bool) (block needed free : ℕ) → cond known None (Some Absent) ≡ Some (RowsFull block needed free) → ⊥
place-case true block needed free is = cc
place-case false block needed free is = cc

-- the place of a key that is removed is never refused for rows
pub place_not_rows : (update : Update) (key : FlowKey) → update ≡ Del key → (on : Grounds) (block needed free : ℕ) → refusal_of_place update on ≡ Some (RowsFull block needed free) → ⊥
place_not_rows update key removes on block needed free is =
    place-case on.known block needed free (sym (ap (λ (u : Update). refusal_of_place u on) removes) ∙ is)
