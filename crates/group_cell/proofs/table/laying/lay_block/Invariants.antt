use Rattle.std.proofs.Common.{◌≡◌, ℕ, ◌+◌, ◌<◌, ◌≤◌, List, [], ◌∷◌, take, length}
use Rattle.std.specs.Prelude.{sum_by}
use Rattle.group_search.specs.Canon.{rows_in}
use Rattle.group_search.specs.Image.{Image}
use Rattle.group_search.specs.Published.{opening_record}
use Rattle.group_cell.specs.Laying.{IsBare, IsLaid, in_front}
use Rattle.group_cell.specs.Seating.{AreOwners, places_of}
use Rattle.group_cell.proofs.table.laying.lay_block.Given as goal
use Rattle.group_cell.specs.Layout.{block_words}

-- the groups below this one are laid, and the others have no places
pub record LaidBelow (image : Image) (group : ℕ) (words owners : List ℕ) : Type 0 where
  pub width : length words ≡ block_words
  pub all : group ≤ length image.records
  pub owners_of : AreOwners owners words 0
  pub laid : (h : ℕ) → h < group → IsLaid words owners (in_front h) (opening_record (image ∷ []) (in_front h))
  pub bare : (h : ℕ) → group ≤ h → h < 64 → IsBare words owners (in_front h)
  pub free : places_of 0 owners + sum_by rows_in (take group image.records) ≡ 64

abbrev pub invariant-groups : goal.invariant-groups
invariant-groups l = LaidBelow l.fn.image l.group l.words l.owners
