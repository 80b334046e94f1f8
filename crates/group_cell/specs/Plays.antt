-- What each step on a table tells its seat.
use Rattle.std.specs.Prelude.{◌≡◌, ℕ, ◌+◌, ◌/◌, ◌%◌, ◌^◌, ◌<◌, List, [], ◌∷◌, ◌++◌, length, slice_index, slice_set, Option, Some, None, if◌then◌else◌, ◌==◌, nat_lt}
use mathlib.Core.List.{IsPrefix}
use Rattle.atomic_table.specs.Table.{Me, Step}
use Rattle.group_search.specs.declared.published.Publication.{Publication}
use Rattle.group_search.specs.declared.record.GroupRecord.{GroupRecord}
use Rattle.group_search.specs.Home.{Home}
use Rattle.group_search.specs.Published.{count}
use Rattle.group_cell.specs.Opening.{Opened, unopened}
use Rattle.group_cell.specs.declared.view.Load.{Load}
use Rattle.group_cell.specs.declared.view.Sight.{Sight}
use Rattle.group_cell.specs.declared.view.WriterView.{WriterView}
use Rattle.group_cell.specs.declared.view.ReaderView.{ReaderView}
use Rattle.group_cell.specs.declared.view.View.{View}
use Rattle.group_cell.specs.declared.view.View.TheVariants.{Writer, Reader, Spent}
use Rattle.group_cell.specs.Layout.{address, home_of, home_of_word, sequence_word}
use Rattle.group_cell.specs.Rule.{nodes_of, latest, IsEven, Stands, HasLoaded}

abbrev pub first_writer : Opened → WriterView
first_writer opening = record { opening = opening; published = []; words = opening.words; writing = None; heard = [] }

abbrev pub first_view : Opened → View
first_view opening = Writer (first_writer opening)

abbrev pub new_reader : Opened → List Publication → ReaderView
new_reader opening seen = record { opening = opening; seen = seen; heard = []; looks = 0; last = None }

-- the writer begins to write a record of the group
abbrev pub begun : Home → (odd : ℕ) → WriterView → WriterView
begun at odd w = record w { words = slice_set w.words (sequence_word at) odd; writing = Some (address at) }

abbrev pub stored : (word new : ℕ) → WriterView → WriterView
stored word new w = record w { words = slice_set w.words word new }

abbrev pub publication : Home → GroupRecord → Publication
publication at content = record { block = at.block; group = at.group; content = content }

-- the record is published
abbrev pub ended : Home → GroupRecord → (even : ℕ) → WriterView → WriterView
ended at content even w = record w { words = slice_set w.words (sequence_word at) even; writing = None; published = w.published ++ publication at content ∷ [] }

-- a look that has begun; at an odd number it has also ended
abbrev pub begun_look : Home → (first : ℕ) → Sight
begun_look at first = record { at = address at; first = first; second = if first % 2 == 0 then None else Some first; loads = [] }

abbrev pub looking : Home → (first : ℕ) → List Publication → ReaderView → ReaderView
looking at first seen r = record r { seen = seen; looks = r.looks + 1; last = Some (begun_look at first) }

abbrev pub load : (word found : ℕ) → Load
load word found = record { word = word; found = found }

abbrev pub loaded_in : Load → Option Sight → Option Sight
loaded_in x None = None
loaded_in x (Some l) = Some record l { loads = l.loads ++ x ∷ [] }

abbrev pub loaded : Load → ReaderView → ReaderView
loaded x r = record r { last = loaded_in x r.last }

abbrev pub ended_in : ℕ → Option Sight → Option Sight
ended_in second None = None
ended_in second (Some l) = Some record l { second = Some second }

abbrev pub looked : (second : ℕ) → ReaderView → ReaderView
looked second r = record r { last = ended_in second r.last }

abbrev pub longer : List Publication → List Publication → List Publication
longer a b = if nat_lt (length a) (length b) then b else a

-- a seat is split: the new one is a reader that has seen as much
abbrev pub kept_by : View → View
kept_by (Writer w) = Writer w
kept_by (Reader r) = Reader (record r { last = None })
kept_by Spent = Spent

abbrev pub given_by : View → View
given_by (Writer w) = Reader (new_reader w.opening w.published)
given_by (Reader r) = Reader (new_reader r.opening r.seen)
given_by Spent = Spent

-- a reader's seat is joined into another
abbrev pub has_heard : List Publication → WriterView → WriterView
has_heard seen w = record w { heard = seen ∷ w.heard }

abbrev pub has_met : ReaderView → ReaderView → ReaderView
has_met b a = record a { seen = longer a.seen b.seen; heard = a.seen ∷ b.seen ∷ (a.heard ++ b.heard); last = None }

abbrev pub met_by : View → View → View
met_by (Writer w) (Reader b) = Writer (has_heard b.seen w)
met_by (Reader a) (Reader b) = Reader (has_met b a)
met_by a b = a

-- the view of the writer's seat, and that of a reader's
abbrev pub writer_view : View → WriterView
writer_view (Writer w) = w
writer_view _ = first_writer unopened

abbrev pub reader_view : View → ReaderView
reader_view (Reader r) = r
reader_view _ = new_reader unopened []

abbrev pub IsWriter : View → Type 0
IsWriter v = v ≡ Writer (writer_view v)

abbrev pub IsReader : View → Type 0
IsReader v = v ≡ Reader (reader_view v)

module _ {S : Type 0} where
  -- the writer loads a word of its view, and learns that its view stands
  abbrev pub Asks : Step S → Me S View → ℕ → Me S View → Type 0
  Asks st m n m' = (m' ≡ m) × (n ≡ slice_index (writer_view m.0).words st.word) × Stands (writer_view m.0)

  abbrev pub Begins : Step S → Me S View → ℕ → Me S View → Type 0
  Begins st m n m' = m' ≡ (Writer (begun (home_of_word st.word) st.first (writer_view m.0)), m.1)

  abbrev pub Stores : Step S → Me S View → ℕ → Me S View → Type 0
  Stores st m n m' = m' ≡ (Writer (stored st.word st.first (writer_view m.0)), m.1)

  -- the record is published; which one it is, a step alone can't say
  abbrev pub Ends : GroupRecord → Step S → Me S View → ℕ → Me S View → Type 0
  Ends content st m n m' = m' ≡ (Writer (ended (home_of_word st.word) content st.first (writer_view m.0)), m.1)

  -- a look begins: the reader sees what is published by then
  abbrev pub StartsLook : Step S → Me S View → ℕ → Me S View → Type 0
  StartsLook st m n m' = (seen : List Publication) × IsPrefix (reader_view m.0).seen seen × (count seen (home_of_word st.word) ≡ n / 2) × (n < 2 ^ 33)
      × (m' ≡ (Reader (looking (home_of_word st.word) n seen (reader_view m.0)), m.1))

  abbrev pub Loads : Step S → Me S View → ℕ → Me S View → Type 0
  Loads st m n m' = m' ≡ (Reader (loaded (load st.word n) (reader_view m.0)), m.1)

  -- a look ends: with the even number with which it began, it has loaded words of the record of that version
  abbrev pub EndsLook : Step S → Me S View → ℕ → Me S View → Type 0
  EndsLook st m n m' = (m' ≡ (Reader (looked n (reader_view m.0)), m.1))
      × ((l : Sight) → (reader_view m.0).last ≡ Some l → IsEven l.first → n ≡ l.first
      → let r = reader_view m.0 in HasLoaded (nodes_of r.opening) l.loads (home_of l.at) (latest r.opening r.seen (home_of l.at)))
