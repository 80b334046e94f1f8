-- Between two phases a lane has seen just the turns of the owners' journals.
use Rattle.std.proofs.Common.{◌≡◌, ◌∙◌, ◌<◌, ◌≤◌, ◌⊎◌, ℕ, zero, suc, List, [], ◌∷◌, length, map, Option, Some, None, refl, sym, ap, subst, arith, ⊎_elim}
use Rattle.std.specs.List.{slice_get}
use Rattle.std.proofs.lemmas.Bool.{cases_lt}
use Rattle.std.proofs.lemmas.List.{get_or_past, length-map}
use Rattle.std.proofs.lemmas.List.FromFn.{get_or-map-range_with_len, length-map-range_with_len}
use Rattle.std.specs.Option.{option_map}
use Rattle.std.proofs.lemmas.Option.{same_Some, slice_get-map, slice_get_cases, slice_get_past}
use Rattle.flow_types.specs.declared.record.Flow.{Flow}
use Rattle.flow_types.specs.Size.{Size, owners_in}
use Rattle.replica_shard.specs.declared.shard.Shard.{Shard}
use Rattle.replica_shard.specs.Seats.{shard_at}
use Rattle.packet_path.specs.Seated.{Viewed}
use Rattle.partial_fib.specs.Ends.{ReaderState}
use Rattle.partial_fib.specs.Fib.{fib_after}
use Rattle.delta_codec.specs.Journals.{IsJournalOf}
use Rattle.partial_fib.specs.Store.{state_of}
use Rattle.run_model.specs.State.{journal_of}
use Rattle.storm_model.specs.Follows.{FibFollows, TableFollows}
use Rattle.storm_model.specs.Lists.{AreTurns}
use Rattle.storm_model.proofs.Follows.{are-turns}
use Rattle.storm_lane.specs.Lane.{AreWhole, LaneState, all_seats, lists_of, parts_of, shard_of, table_part, tables_of, turns_of}
use Rattle.storm_lane.specs.Readers.{ReadersState, Seats, seats_of, table_opened}
use Rattle.turn_relay.specs.OwnerState.{OwnerState, journal_in}
use Rattle.turn_relay.specs.PartState.{ApplierState, PartState}
use Rattle.turn_relay.specs.Each.{Every}
use Rattle.turn_relay.specs.Finish.{IsQuiet, IsQuietAt}
use Rattle.cluster_storm.specs.Rest.{AllRest, AreAppliers, AreOwners, HaveSeenAll, HasSeen, journal_of_owner, journals_in, part_at, part_in}

-- the element at a place of a list, and a list without a place has none
pub is-there : {A : Type 0} (xs : List A) (i : ℕ) → i < length xs → (x : A) × (slice_get xs i ≡ Some x)
is-there xs i low =
    ⊎_elim
    (λ found. (found.0, found.2))
    (λ past. let beyond = past.0 in absurd (omega (arith, beyond, low)))
    (slice_get_cases xs i).1

-- ---- journals

module _ (size : Size) (owners : List OwnerState) where
  pub journal-at : (owner : ℕ) → owner < size.nodes → journal_of (journals_in size owners) owner ≡ journal_of_owner (slice_get owners owner)
  journal-at owner low = get_or-map-range_with_len (λ (owner : ℕ). journal_of_owner (slice_get owners owner)) 0 size.nodes owner owner [] low (omega arith)

  pub journals-many : length (journals_in size owners) ≡ size.nodes
  journals-many = length-map-range_with_len (λ (owner : ℕ). journal_of_owner (slice_get owners owner)) 0 size.nodes

  pub journal-past : (owner : ℕ) → length owners ≤ owner → journal_of (journals_in size owners) owner ≡ []
  journal-past owner past =
      ⊎_elim
      (λ (low : owner < size.nodes). journal-at owner low ∙ ap journal_of_owner (slice_get_past owners owner past))
      (λ (beyond : size.nodes ≤ owner). get_or_past (journals_in size owners) owner [] (omega (arith, beyond, journals-many)))
      (cases_lt owner size.nodes)

  pub journal-there : (number : ℕ) (owner : OwnerState) → number < size.nodes → slice_get owners number ≡ Some owner → journal_of (journals_in size owners) number ≡ journal_in owner
  journal-there number owner low there = journal-at number low ∙ ap journal_of_owner there

-- ---- parts

-- what holds of each element holds of that at a place
pub every-at : {A : Type 0} (P : A → Type 0) (xs : List A) → Every P xs → (i : ℕ) (x : A) → slice_get xs i ≡ Some x → P x
every-at P [] all i x there = absurd cc
every-at P (first ∷ xs) all zero x there = subst P (same_Some first x there) all.0
every-at P (first ∷ xs) all (suc i) x there = every-at P xs all.1 i x there

-- ---- what a lane has seen

module _ (size : Size) (flows : List Flow) (owners : List OwnerState) (appliers : List ApplierState) (are_owners : AreOwners size flows owners) (are_appliers : AreAppliers size appliers)
    (rest : AllRest flows owners appliers) (lane : LaneState) (whole : AreWhole size (all_seats lane.readers))
    (fibs_each : (owner : ℕ) (own : Seats) → slice_get (all_seats lane.readers) owner ≡ Some own → length own.openings ≡ size.nodes) (seen : HaveSeenAll appliers lane) where
  low-owner : (owner : ℕ) → owner < owners_in size → owner < size.nodes
  low-owner owner has = omega (arith, has)

  record At (node number : ℕ) : Type 0 where
    owner : OwnerState
    part : PartState
    there : slice_get owners number ≡ Some owner
    quiet : IsQuiet flows node owner part
    sees : HasSeen lane node number part
    sized : owner.size ≡ size
    numbered : owner.number ≡ number

  at : (node number : ℕ) → node < size.nodes → number < owners_in size → At node number
  at node number low has =
      let one = is-there owners number (omega (arith, are_owners.0, has)) in
      let is = are_owners.1 number one.0 one.1 in
      let applier = is-there appliers node (omega (arith, are_appliers.many, low)) in
      let has_part = every-at (IsQuietAt flows one.0) appliers (rest number one.0 one.1) node applier.0 applier.1 in
      let there : part_at appliers node number ≡ Some has_part.element =
      ap (λ (a : Option ApplierState). part_in a number) applier.1 ∙ ap (slice_get applier.0.parts) (sym is.numbered) ∙ has_part.there in
      record {
        owner = one.0;
        part = has_part.element;
        there = one.1;
        quiet = subst (λ (n : ℕ). IsQuiet flows n one.0 has_part.element) (are_appliers.numbered node applier.0 applier.1) has_part.holds;
        sees = seen node number has_part.element there;
        sized = is.sized;
        numbered = is.numbered;
      }

  table-opened : (seats : Option Seats) (node : ℕ) (shard : Shard) → shard_of seats node ≡ Some shard → table_part seats node ≡ shard_at shard []
  table-opened None node shard is = absurd cc
  table-opened (Some own) node shard is = ap table_opened is

  tables : (node owner : ℕ) → node < size.nodes → owner < owners_in size
      → TableFollows size owner flows ((parts_of (all_seats lane.readers)).tables node owner) ((lists_of lane.readers).tables node owner) (journal_of (journals_in size owners) owner)
  tables node owner low has =
      let here = at node owner low has in
      let is : (parts_of (all_seats lane.readers)).tables node owner ≡ shard_at here.part.table.shard [] =
      table-opened (slice_get (all_seats lane.readers) owner) node here.part.table.shard here.sees.shard in
      let journal = journal-there size owners owner here.owner (low-owner owner has) here.there in
      rw (is, here.sees.records, journal) (subst (λ (p : Size × ℕ). TableFollows p.0 p.1 flows (shard_at here.part.table.shard []) here.part.table.list (journal_in here.owner))
      (λ i. (here.sized i, here.numbered i)) here.quiet.current.table)

  fibs : (node owner : ℕ) → node < size.nodes → owner < owners_in size
      → FibFollows size node owner flows ((lists_of lane.readers).fibs node owner) (journal_of (journals_in size owners) owner)
  fibs node owner low has =
      let here = at node owner low has in
      let journal = journal-there size owners owner here.owner (low-owner owner has) here.there in
      rw (here.sees.turns, journal) (subst (λ (p : Size × ℕ). FibFollows p.0 node p.1 flows here.part.fib.turns (journal_in here.owner))
      (λ i. (here.sized i, here.numbered i)) here.quiet.current.fib)

  unturned : (node owner : ℕ) → node < size.nodes → owner < owners_in size → state_of ((parts_of (all_seats lane.readers)).fibs node owner) ≡ fib_after size node owner flows []
  unturned node owner low has =
      let here = at node owner low has in
      ap state_of here.sees.opening
      ∙ subst (λ (p : Size × ℕ). state_of here.part.fib.opening ≡ fib_after p.0 node p.1 flows []) (λ i. (here.sized i, here.numbered i)) here.quiet.of.fib

  own : (owner : ℕ) → owner < owners_in size → IsJournalOf size owner flows (journal_of (journals_in size owners) owner)
  own owner has =
      let one = is-there owners owner (omega (arith, are_owners.0, has)) in
      let is = are_owners.1 owner one.0 one.1 in
      let journal = journal-there size owners owner one.0 (low-owner owner has) one.1 in
      rw journal (subst (λ (p : Size × ℕ). IsJournalOf p.0 p.1 flows (journal_in one.0)) (λ i. (is.sized i, is.numbered i)) is.stands.own)

  seats-there : (owner : ℕ) (readers : ReadersState) → slice_get lane.readers owner ≡ Some readers → slice_get (all_seats lane.readers) owner ≡ Some (seats_of readers)
  seats-there owner readers there = slice_get-map seats_of lane.readers owner ∙ ap (λ (r : Option ReadersState). option_map seats_of r) there

  no-records : (node owner : ℕ) → size.nodes ≤ node → (found : Option ReadersState) → slice_get lane.readers owner ≡ found → tables_of found node ≡ []
  no-records node owner past None is = refl
  no-records node owner past (Some readers) is =
      let one_each = (whole.each owner (seats_of readers) (seats-there owner readers is)).one_each in
      get_or_past (map (λ (v : Viewed). v.list) readers.views) node []
      (omega (arith, past, one_each, length-map readers.views (λ (v : Viewed). v.list), length-map readers.views (λ (v : Viewed). v.shard)))

  no-turns : (node owner : ℕ) → size.nodes ≤ node → (found : Option ReadersState) → slice_get lane.readers owner ≡ found → turns_of found node ≡ []
  no-turns node owner past None is = refl
  no-turns node owner past (Some readers) is =
      let one_each = fibs_each owner (seats_of readers) (seats-there owner readers is) in
      get_or_past (map (λ (r : ReaderState). r.turns) readers.fibs) node []
      (omega (arith, past, one_each, length-map readers.fibs (λ (r : ReaderState). r.turns), length-map readers.fibs (λ (r : ReaderState). r.opening)))

  none-of : (owner : ℕ) → owners_in size ≤ owner → slice_get lane.readers owner ≡ None
  none-of owner past = slice_get_past lane.readers owner (let many = whole.one_each in omega (arith, past, many, length-map lane.readers seats_of))

  no_tables : (node owner : ℕ) → (size.nodes ≤ node) ⊎ (owners_in size ≤ owner) → (lists_of lane.readers).tables node owner ≡ []
  no_tables node owner =
      ⊎_elim
      (λ (past : size.nodes ≤ node). no-records node owner past (slice_get lane.readers owner) refl)
      (λ (past : owners_in size ≤ owner). ap (λ (r : Option ReadersState). tables_of r node) (none-of owner past))

  no_fibs : (node owner : ℕ) → (size.nodes ≤ node) ⊎ (owners_in size ≤ owner) → (lists_of lane.readers).fibs node owner ≡ []
  no_fibs node owner =
      ⊎_elim
      (λ (past : size.nodes ≤ node). no-turns node owner past (slice_get lane.readers owner) refl)
      (λ (past : owners_in size ≤ owner). ap (λ (r : Option ReadersState). turns_of r node) (none-of owner past))

  pub resting-turns : AreTurns (record { size = size; flows = flows }) (parts_of (all_seats lane.readers)) (journals_in size owners) (lists_of lane.readers)
  resting-turns =
      are-turns (record { size = size; flows = flows }) (parts_of (all_seats lane.readers)) (journals_in size owners) (lists_of lane.readers)
      own (λ owner past. journal-past size owners owner (omega (arith, are_owners.0, past))) tables fibs unturned no_tables no_fibs
