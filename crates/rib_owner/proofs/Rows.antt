-- Whether a group's map has the rows that it needs.
use Rattle.std.proofs.Common.{ℕ, ◌≡◌, ◌∙◌, ◌-◌, ◌≤◌, ◌<◌, Bool, true, false, cond, List, length, get_or, Some, None, refl, ap, arith}
use Rattle.std.specs.Prelude.{nat_lt}
use Rattle.std.proofs.lemmas.Bool.{le-ltb, lt-ltb}
use Rattle.flow_types.specs.declared.record.Flow.{Flow}
use Rattle.group_search.specs.declared.entry.Entry.{Entry}
use Rattle.group_search.specs.Build.{rows_needed, rows_left}
use Rattle.group_search.specs.Canon.{is_separable}
use Rattle.group_search.specs.Records.{entries}
use Rattle.group_history.specs.declared.change.Change.{Change}
use Rattle.group_history.specs.Change.{step}
use Rattle.group_history.specs.declared.refused.UpdateRefused.TheVariants.{RowsFull}
use Rattle.group_history.specs.Acceptance.{free_beside}
use Rattle.rib_owner.specs.Judging.{refusal_in_rows}
use Rattle.rib_owner.specs.Part.{IsKeptPart, rows_free}
use Rattle.rib_owner.specs.Rib.{Part, map_in}
use Rattle.rib_owner.proofs.Counted.{rows_left_is}
use Rattle.group_search.proofs.Sums.{beside_below}
use Rattle.group_search.proofs.NeededRows.{length-entries}

needed_all-case : (served : Bool) (n : ℕ) → 0 < cond served 0 n → cond served 0 n ≡ n
needed_all-case true n some = absurd (omega arith)
needed_all-case false n some = refl

-- entries that need a row need one each
pub needed_all : (bits : ℕ) (es : List Entry) → 0 < rows_needed bits es → rows_needed bits es ≡ length es
unfolding rows_needed
needed_all bits es some = needed_all-case (is_separable bits es) (length es) some

module _ (bits : ℕ) (part : Part) (change : Change) where
  after : List Flow
  after = step (map_in part change.group) change

  pub rows_refused : (needed free : ℕ) → free ≡ rows_free part change.group → needed ≡ rows_needed bits (entries (step (map_in part change.group) change)) → free < needed
      → refusal_in_rows bits part change ≡ Some (RowsFull change.block needed free)
  unfolding refusal_in_rows
  rows_refused needed free free_is needed_is more =
      let all : needed ≡ length (step (map_in part change.group) change) =
      needed_is ∙ needed_all bits (entries (step (map_in part change.group) change)) (omega arith) ∙ length-entries (step (map_in part change.group) change) in
      let test : nat_lt (rows_free part change.group) (rows_needed bits (entries (step (map_in part change.group) change))) ≡ true = lt-ltb _ _ (omega arith) in
      rw (test, ← all, ← free_is) refl

  pub rows_allowed : (needed free : ℕ) → free ≡ rows_free part change.group → needed ≡ rows_needed bits (entries (step (map_in part change.group) change)) → needed ≤ free
      → refusal_in_rows bits part change ≡ None
  unfolding refusal_in_rows
  rows_allowed needed free free_is needed_is few =
      let test : nat_lt (rows_free part change.group) (rows_needed bits (entries (step (map_in part change.group) change))) ≡ false = le-ltb _ _ (omega arith) in
      rw test refl

-- the rows that are left beside a group are those that the other groups don't need
pub left_is_free : (bits : ℕ) (part : Part) (group : ℕ) → IsKeptPart bits part → rows_free part group ≡ free_beside bits (map_in part) group
unfolding rows_left
left_is_free bits part group kept =
    rows_left_is part group
    ∙ ap (λ (n : ℕ). 64 - n)
    (beside_below (λ (x : ℕ). get_or part.rows x 0) (λ (x : ℕ). rows_needed bits (entries (map_in part x))) group 64 0 (λ x low high. kept.rows x (omega arith)))
