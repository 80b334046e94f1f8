-- What a contract sees of a table and its seats.
use Rattle.std.specs.Prelude.{◌≡◌, ◌≢◌, ◌⊎◌, ℕ, zero, suc, ◌+◌, ◌*◌, ◌%◌, ◌==◌, List, map, Option, Some, if◌then◌else◌}
use Rattle.flow_types.specs.declared.key.FlowKey.{FlowKey}
use Rattle.group_search.specs.declared.entry.Pair.{Pair}
use Rattle.group_search.specs.declared.published.Publication.{Publication}
use Rattle.group_search.specs.declared.record.GroupRecord.TheVariants.{Served}
use Rattle.group_search.specs.Canon.{rows_in}
use Rattle.group_search.specs.Decoding.{decode}
use Rattle.group_search.specs.Home.{Home}
use Rattle.group_search.specs.Published.{count, record_at}
use Rattle.group_cell.specs.declared.table.CellTable.{CellTable}
use Rattle.group_cell.specs.declared.table.WriterSeat.{WriterSeat}
use Rattle.group_cell.specs.declared.table.ReaderSeat.{ReaderSeat}
use Rattle.group_cell.specs.declared.view.Load.{Load}
use Rattle.group_cell.specs.Opening.{Opened}
use Rattle.group_cell.specs.Layout.{address, data_numbers, data_word}
use Rattle.group_cell.specs.Rule.{latest}
use Rattle.group_cell.specs.Plays.{writer_view, reader_view}
use Rattle.group_cell.specs.Seating.{last_look, loads_of}

abbrev pub the_group : (block group : ℕ) → Home
the_group block group = record { block = block; group = group }

-- what the table was opened with
abbrev pub opened_with : CellTable → Opened
opened_with table = table.table.shared.key.value

-- all that the writer has published, in order
abbrev pub published : WriterSeat → List Publication
published writer = (writer_view writer.seat.me.0).published

-- what the reader has seen of it
abbrev pub seen : ReaderSeat → List Publication
seen reader = (reader_view reader.seat.me.0).seen

-- how many looks the reader has begun, each with a load of a sequence word
abbrev pub looks : ReaderSeat → ℕ
looks reader = (reader_view reader.seat.me.0).looks

-- the seat is the table's
pub record IsWriterOf (table : CellTable) (writer : WriterSeat) : Type 0 where
  pub one_table : writer.seat.table_id ≡ table.table.shared.table_id
  pub one_opening : (writer_view writer.seat.me.0).opening ≡ opened_with table

pub record IsReaderOf (table : CellTable) (reader : ReaderSeat) : Type 0 where
  pub one_table : reader.seat.table_id ≡ table.table.shared.table_id
  pub one_opening : (reader_view reader.seat.me.0).opening ≡ opened_with table

-- the reader's last look was of the group, and its two loads of the sequence word found these numbers
pub record HasLooked (reader : ReaderSeat) (at : Home) (first second : ℕ) : Type 0 where
  pub loads : List Load
  pub last : last_look reader.seat ≡ Some (record { at = address at; first = first; second = Some second; loads = loads })

-- the node that the group's record of this version gives the key, after these publications
abbrev pub node_at_version : Opened → List Publication → Home → (version : ℕ) → FlowKey → Option ℕ
node_at_version opening ps at version key = decode (record_at opening.images ps at version) opening.size.nodes key

-- a look's answer: the group's version in the list that the reader has then seen, by the sequence word that this look
-- loaded, and the node that the record of that version gives the key
pub record FindsNode (opening : Opened) (reader : ReaderSeat) (at : Home) (key : FlowKey) (version : ℕ) (node : Option ℕ) : Type 0 where
  pub version_is : version ≡ count (seen reader) at
  pub node_is : node ≡ node_at_version opening (seen reader) at version key
  pub this_look : HasLooked reader at (2 * version) (2 * version)

-- the words that the reader's last look loaded between its two loads of the sequence word, in order
abbrev pub loaded_words : ReaderSeat → List ℕ
loaded_words reader = map (λ l. l.word) (loads_of reader.seat)

-- where the group's record of this version is a served one, the last look loaded the data words, and no place
abbrev pub LoadsDataAlone : Opened → ReaderSeat → Home → (version : ℕ) → Type 0
LoadsDataAlone opening reader at version = (pairs : List Pair) → record_at opening.images (seen reader) at version ≡ Served pairs
    → loaded_words reader ≡ map (data_word at) data_numbers

-- the group was in writing when this look began, or its sequence word was another when it ended
pub record Changes (reader : ReaderSeat) (at : Home) (first second : ℕ) : Type 0 where
  pub cause : ((first % 2 ≡ 1) × (second ≡ first)) ⊎ ((first % 2 ≡ 0) × (second ≢ first))
  pub this_look : HasLooked reader at first second

-- the sum of f over the numbers below n but one
abbrev pub sum_beside : (f : ℕ → ℕ) → (one n : ℕ) → ℕ
sum_beside f one zero = 0
sum_beside f one (suc n) = sum_beside f one n + (if n == one then 0 else f n)

-- how many rows the block's other groups have, after these publications
unfoldable pub rows_beside : Opened → List Publication → Home → ℕ
rows_beside opening ps at = sum_beside (λ (group : ℕ). rows_in (latest opening ps (the_group at.block group))) at.group 64
