-- The changes of a journal that concern a group.
use Rattle.std.specs.Prelude.{ℕ, ◌+◌, if◌then◌else◌, List, length, filter}
use Rattle.group_search.specs.Home.{Home, is_home}
use Rattle.group_history.specs.declared.change.Change.{Change}
use Rattle.group_history.specs.Change.{concerns}

-- what a contract sees of a journal: its changes, the first one first, and how many more it takes without asking for memory
pub record Log : Type 0 where
  pub changes : List Change
  pub spare : ℕ

-- the changes of a group, in their order
unfoldable pub concerning : Home → List Change → List Change
concerning at changes = filter (concerns at) changes

-- how many changes are of a group: that is the group's version after them
unfoldable pub change_count : Home → List Change → ℕ
change_count at changes = length (concerning at changes)

-- the versions with the next one of this group
abbrev pub with_next_version : (Home → ℕ) → (changed : Home) → Home → ℕ
with_next_version versions changed asked = if is_home changed asked then versions asked + 1 else versions asked
