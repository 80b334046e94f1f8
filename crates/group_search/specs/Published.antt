-- Records that were published one after the other for the groups of a table: how many a group has, and which is its v-th.
use Rattle.std.specs.Prelude.{ℕ, List, [], ◌∷◌, length, slice_index_or, if◌then◌else◌}
use Rattle.group_search.specs.declared.published.Publication.{Publication}
use Rattle.group_search.specs.declared.record.GroupRecord.{GroupRecord}
use Rattle.group_search.specs.declared.record.GroupRecord.TheVariants.{Served}
use Rattle.group_search.specs.Home.{Home, is_home}
use Rattle.group_search.specs.Image.{Image}

-- the group that a record was published for
abbrev pub published_group : Publication → Home
published_group p = record { block = p.block; group = p.group }

-- the group's records, in the order in which they were published
abbrev pub records_of : List Publication → Home → List GroupRecord
records_of [] at = []
records_of (p ∷ ps) at = if is_home (published_group p) at then p.content ∷ records_of ps at else records_of ps at

-- how many records were published for the group: its version
abbrev pub count : List Publication → Home → ℕ
count ps at = length (records_of ps at)

-- the v-th record of the group, where the one that it was opened with is the 0th
abbrev pub last : (opening : GroupRecord) → List Publication → Home → ℕ → GroupRecord
last opening ps at version = slice_index_or (opening ∷ records_of ps at) version opening

-- the record that the group was opened with: its block's image has it
abbrev pub opening_record : List Image → Home → GroupRecord
opening_record images at = slice_index_or (slice_index_or images at.block (record { choices = []; records = [] })).records at.group (Served [])

-- the record of the group after a number of publications for it, in a table that was opened with these images
abbrev pub record_at : List Image → List Publication → Home → ℕ → GroupRecord
record_at images ps at version = last (opening_record images at) ps at version
