-- The rule of one table: what its words and what its seats know have to do with what was published.
use Rattle.std.specs.Prelude.{◌≡◌, ◌≢◌, ◌⊎◌, ℕ, ◌+◌, ◌*◌, ◌%◌, ◌^◌, ◌<◌, ◌≤◌, List, [], length, slice_index, Some, IfSome}
use mathlib.Core.List.{IsPrefix}
use mathlib.Core.Option.{some}
use lib.ListN.{get_elem?}
use Rattle.atomic_table.specs.Table.{State}
use Rattle.flow_types.specs.Size.{value_bits}
use Rattle.group_search.specs.declared.published.Publication.{Publication}
use Rattle.group_search.specs.declared.record.GroupRecord.{GroupRecord}
use Rattle.group_search.specs.declared.record.GroupRecord.TheVariants.{Served, Fallback}
use Rattle.group_search.specs.declared.rows.Row.{Row}
use Rattle.group_search.specs.Home.{Home}
use Rattle.group_search.specs.Published.{count, record_at}
use Rattle.group_search.specs.Rows.{AreRows}
use Rattle.group_search.specs.RowWords.{SpellsRow}
use Rattle.group_search.specs.Words.{PacksTo, packed_of, words_of}
use Rattle.group_cell.specs.Opening.{Opened}
use Rattle.group_cell.specs.declared.view.Load.{Load}
use Rattle.group_cell.specs.declared.view.Sight.{Sight}
use Rattle.group_cell.specs.declared.view.WriterView.{WriterView}
use Rattle.group_cell.specs.declared.view.ReaderView.{ReaderView}
use Rattle.group_cell.specs.declared.view.View.{View}
use Rattle.group_cell.specs.declared.view.View.TheVariants.{Writer, Reader, Spent}
use Rattle.group_cell.specs.Layout.{block_words, data_words, home_of, low_word, high_word, data_word, high, place_words, sequence, datum, tag}
use Rattle.group_search.specs.Records.{HasNodes}

abbrev pub IsEven : ℕ → Type 0
IsEven n = n % 2 ≡ 0

-- the block is one of the table's, and the group one of the block's
pub record IsIn (opening : Opened) (at : Home) : Type 0 where
  pub block : at.block < length opening.images
  pub group : at.group < 64

-- how many nodes the table's cluster has
abbrev pub nodes_of : Opened → ℕ
nodes_of opening = opening.size.nodes

-- the group's record after all these publications
abbrev pub latest : Opened → List Publication → Home → GroupRecord
latest opening ps at = record_at opening.images ps at (count ps at)

-- the rows that stand in places
abbrev pub rows_placed : GroupRecord → List Row
rows_placed (Served pairs) = []
rows_placed (Fallback rows) = rows

abbrev pub IsSoundRecord : GroupRecord → Type 0
IsSoundRecord (Served pairs) = Unit {0}
IsSoundRecord (Fallback rows) = AreRows rows

-- the i-th of the rows
abbrev pub IsRow : List Row → (i : ℕ) → Row → Type 0
IsRow rows i row = get_elem? rows i ≡ some row

-- each row has one place, which holds its words, no two rows have the same, and no other place has the group's tag
pub record RowsStand (words : List ℕ) (at : Home) (rows : List Row) : Type 0 where
  pub place_of : (i : ℕ) → ℕ
  pub inside : (i : ℕ) (row : Row) → IsRow rows i row → place_of i < 64
  pub holds : (i : ℕ) (row : Row) → IsRow rows i row → SpellsRow at.group row (place_words words at.block (place_of i))
  pub apart : (i j : ℕ) (x y : Row) → IsRow rows i x → IsRow rows j y → place_of i ≡ place_of j → i ≡ j
  pub tagged : (k : ℕ) → k < 64 → tag (high words at.block k) ≡ at.group + 1 → (i : ℕ) × (row : Row) × IsRow rows i row × (place_of i ≡ k)

-- each place of these blocks is free or is one group's
abbrev pub AreTagged : List ℕ → (blocks : ℕ) → Type 0
AreTagged words blocks = (block k : ℕ) → block < blocks → k < 64 → tag (high words block k) ≤ 64

-- the record stands in the group's data words and places, and is one of a cluster of this many nodes
pub record Holds (nodes : ℕ) (words : List ℕ) (at : Home) (content : GroupRecord) : Type 0 where
  pub data_words : (j : ℕ) → j < data_words → datum words at j ≡ slice_index (words_of content) j
  pub packs : PacksTo (value_bits nodes) (packed_of content) (words_of content)
  pub rows : RowsStand words at (rows_placed content)
  pub sound : IsSoundRecord content
  pub in_cluster : HasNodes nodes content

-- the group isn't the one in writing
abbrev pub IsAtRest : WriterView → Home → Type 0
IsAtRest w at = IfSome w.writing (λ a. home_of a ≢ at)

-- what stands of a group at rest: its version, and its latest record
pub record Rests (w : WriterView) (at : Home) : Type 0 where
  pub version : sequence w.words at ≡ 2 * count w.published at
  pub holds : Holds (nodes_of w.opening) w.words at (latest w.opening w.published at)

abbrev pub AllIn : (List Publication → Type 0) → List (List Publication) → Type 0
AllIn P lists = (k : ℕ) (l : List Publication) → get_elem? lists k ≡ some l → P l

-- the words are those of the published records, but for the group in writing, whose sequence word is odd; no place is
-- lost, to whichever group it belongs
pub record Stands (w : WriterView) : Type 0 where
  pub wide : length w.words ≡ block_words * length w.opening.images
  pub few : length w.published < 2 ^ 32
  pub rest : (at : Home) → IsIn w.opening at → IsAtRest w at → Rests w at
  pub places : AreTagged w.words (length w.opening.images)
  pub in_writing : IfSome w.writing (λ a. IsIn w.opening (home_of a) × (sequence w.words (home_of a) ≡ 2 * count w.published (home_of a) + 1))
  pub heard : AllIn (λ l. IsPrefix l w.published) w.heard

-- what was loaded stands there, as far as the group's record is concerned: its data words, the tags of its places, and
-- the words of these places
pub record IsFresh (words : List ℕ) (at : Home) (x : Load) : Type 0 where
  pub data_words : (j : ℕ) → j < data_words → x.word ≡ data_word at j → x.found ≡ slice_index words x.word
  pub tags : (k : ℕ) → k < 64 → x.word ≡ high_word at.block k → (tag x.found ≡ at.group + 1) ⊎ (tag (slice_index words x.word) ≡ at.group + 1)
      → x.found ≡ slice_index words x.word
  pub rows : (k : ℕ) → k < 64 → x.word ≡ low_word at.block k → tag (high words at.block k) ≡ at.group + 1 → x.found ≡ slice_index words x.word

abbrev pub HasLoad : List Load → Load → Type 0
HasLoad loads x = (i : ℕ) × (get_elem? loads i ≡ some x)

abbrev pub AreFresh : List ℕ → Home → List Load → Type 0
AreFresh words at loads = (x : Load) → HasLoad loads x → IsFresh words at x

-- what was loaded is of words in which the record stands
pub record HasLoaded (nodes : ℕ) (loads : List Load) (at : Home) (content : GroupRecord) : Type 0 where
  pub words : List ℕ
  pub holds : Holds nodes words at content
  pub fresh : AreFresh words at loads

-- what a look tells while it goes on, and after it has ended with the even number with which it began
pub record Looks (w : WriterView) (r : ReaderView) (l : Sight) : Type 0 where
  pub inside : IsIn w.opening (home_of l.at)
  pub counted : IsEven l.first → 2 * count r.seen (home_of l.at) ≡ l.first
  pub late : l.first ≤ sequence w.words (home_of l.at)
  pub fresh : IsEven l.first → sequence w.words (home_of l.at) ≡ l.first → AreFresh w.words (home_of l.at) l.loads
  pub whole : IsEven l.first → l.second ≡ Some l.first → HasLoaded (nodes_of r.opening) l.loads (home_of l.at) (latest r.opening r.seen (home_of l.at))

-- a reader has seen a beginning of what was published
pub record Sees (w : WriterView) (r : ReaderView) : Type 0 where
  pub opening : r.opening ≡ w.opening
  pub seen : IsPrefix r.seen w.published
  pub heard : AllIn (λ l. IsPrefix l r.seen) r.heard
  pub look : IfSome r.last (Looks w r)

abbrev pub AgreesWith : WriterView → (writer seat : ℕ) → View → Type 0
AgreesWith w writer seat (Writer v) = (seat ≡ writer) × (v ≡ w)
AgreesWith w writer seat (Reader r) = Sees w r
AgreesWith w writer seat Spent = Unit {0}

-- there is one writer; the table's words are those of its view, and each reader sees a beginning of its list
pub record Kept {S : Type 0} (opening : Opened) (s : State S View) : Type 0 where
  pub writer : ℕ
  pub view : WriterView
  pub seat : get_elem? s.views writer ≡ some (Writer view)
  pub words : s.words ≡ view.words
  pub opened : view.opening ≡ opening
  pub stands : Stands view
  pub each_seat : (j : ℕ) (v : View) → get_elem? s.views j ≡ some v → AgreesWith view writer j v
