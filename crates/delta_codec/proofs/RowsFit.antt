-- Rows that stand at a place are without a fault exactly where they fit.
use Rattle.std.proofs.Common.{◌≡◌, ℕ, ◌+◌, ◌<◌, ◌≤◌, true, List, [], ◌∷◌, length, Option, None, Some, refl, sym, ap, ◌∙◌, subst, arith}
use Rattle.std.specs.Prelude.{All, nat_lt}
use Rattle.std.specs.List.{flat_map}
use Rattle.std.proofs.lemmas.Bool.{ltb-true, lt-ltb}
use Rattle.std.proofs.lemmas.List.Elements.{All-nil, All-cons, All-head, All-tail, All-weaker}
use Rattle.group_search.specs.Limits.{fewest_rows, most_rows}
use Rattle.flow_types.specs.Key.{number, octets, IsKeyValue}
use Rattle.group_search.specs.declared.rows.Row.{Row}
use Rattle.group_search.specs.Rows.{AreRows, IsRising, key_number}
use Rattle.group_search.proofs.Rising.{rising_cons, rising_head, rising_tail}
use Rattle.delta_codec.specs.Fits.{RowsFit}
use Rattle.delta_codec.specs.Spelling.{Stand, row_octets}
use Rattle.delta_codec.specs.Fields.{field_fault, first_fault, is_above, key_number_at, key_field, row_node_field, byte_at, row_fields}
use Rattle.delta_codec.specs.declared.refused.BadField.TheVariants.{Order, Node}
use Rattle.delta_codec.proofs.Faults.{both_none, ruled_sound, ruled_met}
use Rattle.delta_codec.proofs.Keys.{octets-long}
use Rattle.delta_codec.proofs.Lengths.{row-long}
use Rattle.delta_codec.proofs.Standing.{Stand-first, Stand-second, octet_read, key_read}

-- the rows rise after a row with the key `before`, and their nodes are nodes
abbrev pub GoOn : (nodes : ℕ) (before : Option ℕ) → List Row → Type 0
GoOn nodes before [] = Unit {0}
GoOn nodes before (row ∷ rows) = (is_above before (number row.key) ≡ true) × (row.node < nodes) × GoOn nodes (Some (number row.key)) rows

abbrev AreSized : List Row → Type 0
AreSized rows = All (λ (row : Row). IsKeyValue row.key) rows

-- a row at a place
record RowRead (bytes : List ℕ) (at : ℕ) (row : Row) : Type 0 where
  key : key_number_at bytes at ≡ number row.key
  node : byte_at bytes (at + 13) ≡ row.node
  there : at + 14 ≤ length bytes

row_read : (bytes : List ℕ) (at : ℕ) (row : Row) → IsKeyValue row.key → Stand bytes at (row_octets row) → RowRead bytes at row
row_read bytes at row sized h = record {
  key = key_read bytes at row.key sized (Stand-first bytes at (octets row.key) (row.node ∷ []) h);
  node = octet_read bytes (at + 13) row.node (Stand-second bytes at (at + 13) (octets row.key) (row.node ∷ []) (omega (arith, octets-long row.key)) h);
  there = omega (arith, h.there, row-long row);
}

module _ (nodes : ℕ) (bytes : List ℕ) where
  pub rows_go_on : (rows : List Row) (before : Option ℕ) (at : ℕ) → AreSized rows → Stand bytes at (flat_map row_octets rows)
      → first_fault bytes (row_fields nodes bytes (length rows) before at) ≡ None → GoOn nodes before rows
  rows_go_on [] before at sized h sound = tt
  rows_go_on (row ∷ rows) before at sized h sound =
      let first = row_read bytes at row (All-head (λ (r : Row). IsKeyValue r.key) row rows sized) (Stand-first bytes at (row_octets row) (flat_map row_octets rows) h) in
      let rest = Stand-second bytes at (at + 14) (row_octets row) (flat_map row_octets rows) (omega (arith, row-long row)) h in
      let faults = both_none (field_fault bytes (key_field bytes before at)) _ sound in
      let later = both_none (field_fault bytes (row_node_field nodes bytes (at + 13))) _ faults.1 in
      let above = ruled_met bytes at 13 (is_above before (key_number_at bytes at)) Order faults.0 in
      let below = ltb-true _ _ (ruled_met bytes (at + 13) 1 (nat_lt (byte_at bytes (at + 13)) nodes) Node later.0) in
      let sound_rest : first_fault bytes (row_fields nodes bytes (length rows) (Some (number row.key)) (at + 14)) ≡ None =
      subst (λ (k : ℕ). first_fault bytes (row_fields nodes bytes (length rows) (Some k) (at + 14)) ≡ None) first.key later.1 in (
        subst (λ (k : ℕ). is_above before k ≡ true) first.key above,
        subst (λ (n : ℕ). n < nodes) first.node below,
        rows_go_on rows (Some (number row.key)) (at + 14) (All-tail (λ (r : Row). IsKeyValue r.key) row rows sized) rest sound_rest,
      )

  pub rows_sound : (rows : List Row) (before : Option ℕ) (at : ℕ) → AreSized rows → Stand bytes at (flat_map row_octets rows)
      → GoOn nodes before rows → first_fault bytes (row_fields nodes bytes (length rows) before at) ≡ None
  rows_sound [] before at sized h go_on = refl
  rows_sound (row ∷ rows) before at sized h go_on =
      let first = row_read bytes at row (All-head (λ (r : Row). IsKeyValue r.key) row rows sized) (Stand-first bytes at (row_octets row) (flat_map row_octets rows) h) in
      let rest = Stand-second bytes at (at + 14) (row_octets row) (flat_map row_octets rows) (omega (arith, row-long row)) h in
      let there = first.there in
      let above : is_above before (key_number_at bytes at) ≡ true = subst (λ (k : ℕ). is_above before k ≡ true) (sym first.key) go_on.0 in
      let below : byte_at bytes (at + 13) < nodes = subst (λ (n : ℕ). n < nodes) (sym first.node) go_on.1 in
      let key_sound = ruled_sound bytes at 13 (is_above before (key_number_at bytes at)) Order (omega arith) above in
      let node_sound = ruled_sound bytes (at + 13) 1 (nat_lt (byte_at bytes (at + 13)) nodes) Node (omega arith) (lt-ltb _ _ below) in
      let sound_rest : first_fault bytes (row_fields nodes bytes (length rows) (Some (key_number_at bytes at)) (at + 14)) ≡ None =
      subst (λ (k : ℕ). first_fault bytes (row_fields nodes bytes (length rows) (Some k) (at + 14)) ≡ None) (sym first.key)
      (rows_sound rows (Some (number row.key)) (at + 14) (All-tail (λ (r : Row). IsKeyValue r.key) row rows sized) rest go_on.2) in
      rw (key_sound, node_sound) sound_rest

-- ---- rows that go on are rising rows of nodes

pub go_on-rising : (nodes : ℕ) (before : Option ℕ) (rows : List Row) → GoOn nodes before rows → IsRising rows
go_on-rising nodes before [] h = λ k d low. absurd (omega arith)
go_on-rising nodes before (row ∷ []) h = λ k d low. absurd (omega arith)
go_on-rising nodes before (row ∷ next ∷ rows) h =
    let later = go_on-rising nodes (Some (number row.key)) (next ∷ rows) h.2 in
    let first : key_number row < key_number next = ltb-true _ _ h.2.0 in
    rising_cons row (next ∷ rows)
    (All-cons (λ r. key_number row < key_number r) next rows first
    (All-weaker (λ r. key_number next < key_number r) (λ r. key_number row < key_number r) (λ r above. omega arith) rows (rising_head next rows later)))
    later

pub go_on-nodes : (nodes : ℕ) (before : Option ℕ) (rows : List Row) → GoOn nodes before rows → All (λ (row : Row). row.node < nodes) rows
go_on-nodes nodes before [] h = All-nil _
go_on-nodes nodes before (row ∷ rows) h = All-cons (λ (r : Row). r.node < nodes) row rows h.1 (go_on-nodes nodes (Some (number row.key)) rows h.2)

-- ---- and the other way round

later_go_on : (nodes : ℕ) (row : Row) (rows : List Row) → IsRising (row ∷ rows) → All (λ (r : Row). r.node < nodes) rows → GoOn nodes (Some (number row.key)) rows
later_go_on nodes row [] rising below = tt
later_go_on nodes row (next ∷ rows) rising below =
    let above : key_number row < key_number next = All-head (λ r. key_number row < key_number r) next rows (rising_head row (next ∷ rows) rising) in (
      lt-ltb _ _ above,
      All-head (λ (r : Row). r.node < nodes) next rows below,
      later_go_on nodes next rows (rising_tail row (next ∷ rows) rising) (All-tail (λ (r : Row). r.node < nodes) next rows below),
    )

pub rising-go_on : (nodes : ℕ) (rows : List Row) → IsRising rows → All (λ (r : Row). r.node < nodes) rows → GoOn nodes None rows
rising-go_on nodes [] rising below = tt
rising-go_on nodes (row ∷ rows) rising below =
    (refl, All-head (λ (r : Row). r.node < nodes) row rows below, later_go_on nodes row rows rising (All-tail (λ (r : Row). r.node < nodes) row rows below))

-- ---- all rows of a record

pub gathered_fit : (nodes : ℕ) (bytes : List ℕ) (at count : ℕ) (rows : List Row) → length rows ≡ count → fewest_rows ≤ count → count ≤ most_rows → AreSized rows
    → Stand bytes at (flat_map row_octets rows) → None ≡ first_fault bytes (row_fields nodes bytes count None at) → RowsFit nodes rows
gathered_fit nodes bytes at count rows counted enough few sized h sound =
    let faults : first_fault bytes (row_fields nodes bytes (length rows) None at) ≡ None = ap (λ (n : ℕ). first_fault bytes (row_fields nodes bytes n None at)) counted ∙ sym sound in
    let go_on = rows_go_on nodes bytes rows None at sized h faults in
    record { enough = omega arith; few = omega arith; rising = go_on-rising nodes None rows go_on; are_nodes = go_on-nodes nodes None rows go_on }

pub fit-rows : (nodes : ℕ) (rows : List Row) → RowsFit nodes rows → AreRows rows
fit-rows nodes rows h = record { enough = h.enough; few = h.few; rising = h.rising }
