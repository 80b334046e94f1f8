-- What holds of canonical records, whoever made them.
use Rattle.std.specs.Prelude.{ℕ, ◌≡◌, ◌<◌, ◌≤◌, ◌^◌, List, Some, All, IsPermutation}
use Rattle.flow_types.specs.Map.{HaveDistinctKeys}
use Rattle.group_search.specs.Rows.{entry_key}
use Rattle.hash_family.specs.Hash.{pair}
use Rattle.group_search.specs.declared.entry.Entry.{Entry}
use Rattle.group_search.specs.declared.record.GroupRecord.{GroupRecord}
use Rattle.group_search.specs.Canon.{canonical}
use Rattle.group_search.specs.Decoding.{decode}

-- the entries of a group: distinct keys, each with its own hash pair, and nodes below `nodes`
pub record AreEntries (nodes : ℕ) (entries : List Entry) : Type 0 where
  pub distinct : HaveDistinctKeys entry_key entries
  pub hashed : All (λ (e : Entry). e.pair ≡ pair e.key) entries
  pub known : All (λ (e : Entry). e.node < nodes) entries

-- the canonical record gives the key of each entry its node
abbrev pub GivesEachNode : Type 0
GivesEachNode = (bits nodes : ℕ) (entries : List Entry) (content : GroupRecord) → nodes ≤ 2 ^ bits → AreEntries nodes entries
    → canonical bits entries ≡ Some content → All (λ (e : Entry). decode content nodes e.key ≡ Some e.node) entries

-- entries in another order have the same canonical record
abbrev pub IgnoresOrder : Type 0
IgnoresOrder = (bits : ℕ) (xs ys : List Entry) → HaveDistinctKeys entry_key xs → IsPermutation xs ys → canonical bits xs ≡ canonical bits ys
