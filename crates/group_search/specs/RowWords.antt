-- A row of a fallback record as the two words of its place.
use Rattle.std.specs.Prelude.{ℕ, ◌≡◌, ◌+◌, ◌*◌, ◌/◌, ◌%◌, ◌^◌, ◌<◌, List, [], ◌∷◌}
use Rattle.flow_types.specs.declared.key.FlowKey.{FlowKey}
use Rattle.group_search.specs.declared.rows.Row.{Row}
use Rattle.group_search.specs.Rows.{key_number}

-- the low 64 bits of the key's number; above them its other 40 bits, then the node, then one more than the group
abbrev pub row_words : Row → (group : ℕ) → List ℕ
row_words row group = (key_number row % 2 ^ 64) ∷ (key_number row / 2 ^ 64 + row.node * 2 ^ 40 + (group + 1) * 2 ^ 48) ∷ []

-- each field of a key is below its width
pub record IsKey (key : FlowKey) : Type 0 where
  pub source : key.source < 2 ^ 32
  pub destination : key.destination < 2 ^ 32
  pub source_port : key.source_port < 2 ^ 16
  pub destination_port : key.destination_port < 2 ^ 16
  pub protocol : key.protocol < 2 ^ 8

-- the words are those of this row of this group, which is one of 64
pub record SpellsRow (group : ℕ) (row : Row) (words : List ℕ) : Type 0 where
  pub one_of_64 : group < 64
  pub key : IsKey row.key
  pub node : row.node < 2 ^ 8
  pub spelled : words ≡ row_words row group

-- two words are those of one row and one group at most
abbrev pub SpellsOneRow : Type 0
SpellsOneRow = (group other : ℕ) (row another : Row) (words : List ℕ) → SpellsRow group row words → SpellsRow other another words → (group ≡ other) × (row ≡ another)
