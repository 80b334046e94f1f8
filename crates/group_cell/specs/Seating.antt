-- What the contracts of the steps say of a seat, from its view.
use Rattle.std.specs.Prelude.{◌≡◌, ◌≢◌, ◌⊎◌, ℕ, ◌+◌, ◌*◌, ◌/◌, ◌^◌, ◌<◌, ◌≤◌, ◌==◌, List, [], ◌∷◌, length, map, Option, Some, None, MatchOption, slice_index, slice_index_or, count_by}
use mathlib.Core.List.{IsPrefix}
use Rattle.atomic_table.specs.declared.shared.Seat.{Seat}
use Rattle.flow_types.specs.declared.key.FlowKey.{FlowKey}
use Rattle.flow_types.specs.Key.{number}
use Rattle.group_search.specs.declared.record.GroupRecord.{GroupRecord}
use Rattle.group_search.specs.declared.record.GroupRecord.TheVariants.{Served, Fallback}
use Rattle.group_search.specs.declared.rows.Row.{Row}
use Rattle.group_search.specs.Canon.{rows_in}
use Rattle.group_search.specs.Decoding.{node_of}
use Rattle.group_search.specs.Home.{Home}
use Rattle.group_search.specs.Published.{count}
use Rattle.group_search.specs.Rows.{key_number}
use Rattle.group_search.specs.RowWords.{SpellsRow}
use Rattle.group_cell.specs.declared.view.Load.{Load}
use Rattle.group_cell.specs.declared.view.Sight.{Sight}
use Rattle.group_cell.specs.declared.view.WriterView.{WriterView}
use Rattle.group_cell.specs.declared.view.ReaderView.{ReaderView}
use Rattle.group_cell.specs.declared.view.View.{View}
use Rattle.group_cell.specs.declared.view.View.TheVariants.{Writer, Reader}
use Rattle.group_cell.specs.Opening.{Opened}
use Rattle.group_cell.specs.Layout.{block_words, row_words, data_words, data_numbers, address, data_word, high, high_word, low_word, tag}
use Rattle.group_cell.specs.Rule.{HasLoad, IsIn, latest}
use Rattle.group_cell.specs.Plays.{writer_view, reader_view, IsWriter, IsReader, begun_look, looking, load}

abbrev pub CellSeat : Type 0
CellSeat = Seat ℕ View

-- the seat can publish, and isn't in the midst of it
pub record IsWriterSeat (s : CellSeat) : Type 0 where
  pub writes : IsWriter s.me.0
  pub rests : (writer_view s.me.0).writing ≡ None
  pub bare : s.me.1 ≡ []

pub record IsReaderSeat (s : CellSeat) : Type 0 where
  pub reads : IsReader s.me.0
  pub bare : s.me.1 ≡ []

-- the seat's table has these words, and was opened with these images, of which one has the group
pub record IsAt (words : ℕ) (opening : Opened) (at : Home) : Type 0 where
  pub wide : words ≡ block_words * length opening.images
  pub inside : IsIn opening at

abbrev pub IsSameSeat : CellSeat → CellSeat → Type 0
IsSameSeat s t = (t.table_id ≡ s.table_id) × (t.id ≡ s.id)

-- the seat t is s with the writer's view w, or the reader's view r
pub record Writes (s t : CellSeat) (w : WriterView) : Type 0 where
  pub same : IsSameSeat s t
  pub me : t.me ≡ (Writer w, s.me.1)

pub record Reads (s t : CellSeat) (r : ReaderView) : Type 0 where
  pub same : IsSameSeat s t
  pub me : t.me ≡ (Reader r, s.me.1)

abbrev pub words_of_seat : CellSeat → List ℕ
words_of_seat s = (writer_view s.me.0).words

-- a record of the group is being written
pub record IsInWriting (s : CellSeat) (at : Home) : Type 0 where
  pub writes : IsWriter s.me.0
  pub writing : (writer_view s.me.0).writing ≡ Some (address at)

-- the writer's view changes in the words of the block's places alone
pub record Rewrites (block : ℕ) (s t : CellSeat) : Type 0 where
  pub same : IsSameSeat s t
  pub writes : IsWriter t.me.0
  pub view : record (writer_view t.me.0) { words = [] } ≡ record (writer_view s.me.0) { words = [] }
  pub wide : length (words_of_seat t) ≡ length (words_of_seat s)
  pub beside : (i : ℕ) → (i < block_words * block) ⊎ (block_words * block + row_words ≤ i) → slice_index (words_of_seat t) i ≡ slice_index (words_of_seat s) i
  pub bare : t.me.1 ≡ s.me.1

-- how many places have this tag
abbrev pub places_of : (owner : ℕ) → List ℕ → ℕ
places_of owner owners = count_by (λ x. x == owner) owners

-- what the writer's seat keeps of a block's places is what stands there
pub record AreOwners (owners words : List ℕ) (block : ℕ) : Type 0 where
  pub all : length owners ≡ 64
  pub wide : block_words * block + block_words ≤ length words
  pub tags : (k : ℕ) → k < 64 → slice_index owners k ≡ tag (high words block k)
  pub known : (k : ℕ) → k < 64 → slice_index owners k ≤ 64

-- what the writer's seat keeps of all places; a group has as many as its latest record has rows
pub record Tallies (owners : List (List ℕ)) (w : WriterView) : Type 0 where
  pub one_each : length owners ≡ length w.opening.images
  pub placed : (block : ℕ) → block < length w.opening.images → AreOwners (slice_index_or owners block []) w.words block
  pub counted : (at : Home) → IsIn w.opening at → places_of (at.group + 1) (slice_index_or owners at.block []) ≡ rows_in (latest w.opening w.published at)

abbrev pub last_look : CellSeat → Option Sight
last_look s = (reader_view s.me.0).last

abbrev pub look_in : Option Sight → Sight
look_in None = begun_look (record { block = 0; group = 0 }) 0
look_in (Some l) = l

-- the seat's last look, where it has one
abbrev pub the_look : CellSeat → Sight
the_look s = look_in (last_look s)

abbrev pub loads_of : CellSeat → List Load
loads_of s = (the_look s).loads

-- a load of each of a group's data words, which found these numbers
abbrev pub data_loads : Home → (found : List ℕ) → List Load
data_loads at found = map (λ (j : ℕ). load (data_word at j) (slice_index found j)) data_numbers

-- the seat is in a look, before its second load of the sequence word
pub record IsLooking (s : CellSeat) : Type 0 where
  pub reads : IsReader s.me.0
  pub last : last_look s ≡ Some (the_look s)
  pub goes_on : (the_look s).second ≡ None

-- a look has begun: the seat has seen the group's records up to the one that stands there or is being replaced
pub record HasBegun (s t : CellSeat) (at : Home) (found : ℕ) : Type 0 where
  pub same : IsSameSeat s t
  pub longer : IsPrefix (reader_view s.me.0).seen (reader_view t.me.0).seen
  pub counted : count (reader_view t.me.0).seen at ≡ found / 2
  pub small : found < 2 ^ 33
  pub me : t.me ≡ (Reader (looking at found (reader_view t.me.0).seen (reader_view s.me.0)), s.me.1)

abbrev pub forgotten : CellSeat → ReaderView
forgotten s = record (reader_view s.me.0) { last = None }

-- the same look goes on, and keeps what it has loaded
pub record GoesOn (s t : CellSeat) : Type 0 where
  pub same : IsSameSeat s t
  pub view : forgotten t ≡ forgotten s
  pub at : (the_look t).at ≡ (the_look s).at
  pub first : (the_look t).first ≡ (the_look s).first
  pub loads : (x : Load) → HasLoad (loads_of s) x → HasLoad (loads_of t) x
  pub bare : t.me.1 ≡ s.me.1

-- the place holds no row with the key
abbrev pub LacksKey : FlowKey → (low high : ℕ) → Type 0
LacksKey key low high = (group : ℕ) (row : Row) → SpellsRow group row (low ∷ high ∷ []) → key_number row ≢ number key

-- the place holds a row with the key and this node
abbrev pub GivesNode : FlowKey → (low high node : ℕ) → Type 0
GivesNode key low high node = (group : ℕ) × (row : Row) × SpellsRow group row (low ∷ high ∷ []) × (key_number row ≡ number key) × (row.node ≡ node)

-- what was found of the key in the group's places below k, by the loaded words
abbrev pub IsFound : List Load → Home → (k : ℕ) → FlowKey → Option ℕ → Type 0
IsFound loads at k key found = MatchOption found
    ((i : ℕ) → i < k → (h : ℕ) × HasLoad loads (load (high_word at.block i) h) × (tag h ≡ at.group + 1 → (l : ℕ) × HasLoad loads (load (low_word at.block i) l) × LacksKey key l h))
    (λ node. (i : ℕ) × (i < k) × (h : ℕ) × HasLoad loads (load (high_word at.block i) h) × (tag h ≡ at.group + 1) × (l : ℕ) × HasLoad loads (load (low_word at.block i) l) × GivesNode key l h node)

-- the same, by the words that stand there
abbrev pub StandsFound : List ℕ → Home → (k : ℕ) → FlowKey → Option ℕ → Type 0
StandsFound words at k key found = MatchOption found
    ((i : ℕ) → i < k → tag (high words at.block i) ≡ at.group + 1 → LacksKey key (slice_index words (low_word at.block i)) (high words at.block i))
    (λ node. (i : ℕ) × (i < k) × (tag (high words at.block i) ≡ at.group + 1) × GivesNode key (slice_index words (low_word at.block i)) (high words at.block i) node)

-- the node of the key is the one found, where the record keeps it in rows
abbrev pub RowsGive : GroupRecord → FlowKey → Option ℕ → Type 0
RowsGive (Served pairs) key found = Unit {0}
RowsGive (Fallback rows) key found = node_of key rows ≡ found

-- the writer's view changes in the group's data words alone
pub record WritesData (at : Home) (s t : CellSeat) : Type 0 where
  pub same : IsSameSeat s t
  pub writes : IsWriter t.me.0
  pub view : record (writer_view t.me.0) { words = [] } ≡ record (writer_view s.me.0) { words = [] }
  pub wide : length (words_of_seat t) ≡ length (words_of_seat s)
  pub beside : (i : ℕ) → (i < data_word at 0) ⊎ (data_word at data_words ≤ i) → slice_index (words_of_seat t) i ≡ slice_index (words_of_seat s) i
  pub bare : t.me.1 ≡ s.me.1
