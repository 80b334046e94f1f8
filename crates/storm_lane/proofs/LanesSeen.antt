-- The readers of one owner have seen more, and those of the others have seen what they had.
use Rattle.std.proofs.Common.{◌≡◌, ◌≢◌, ◌∙◌, ◌⊎◌, ◌%◌, ◌<◌, ◌≤◌, ℕ, List, [], length, get_or, set, Option, Some, None, refl, sym, ap, subst, arith, ⊎_elim}
use Rattle.std.specs.List.{slice_get}
use Rattle.std.proofs.lemmas.Bool.{cases_eq, cases_lt}
use Rattle.std.proofs.lemmas.List.{length-map}
use Rattle.std.proofs.lemmas.Option.{slice_get-get_or, slice_get_past, slice_get_within}
use mathlib.Core.List.{IsPrefix}
use Rattle.flow_types.specs.declared.key.FlowKey.{FlowKey}
use Rattle.flow_types.specs.Size.{IsShape, Size, owners_in}
use Rattle.hash_family.specs.Hash.{place}
use Rattle.group_search.specs.declared.published.Publication.{Publication}
use Rattle.group_search.specs.Owned.{IsOwned}
use Rattle.delta_codec.specs.declared.message.FibMessage.{FibMessage}
use Rattle.replica_shard.specs.declared.shard.Shard.{Shard}
use Rattle.replica_shard.specs.Shard.{home_in_state, route_in_state}
use Rattle.replica_shard.specs.Store.{shard_state_of}
use Rattle.partial_fib.specs.Ends.{ReaderState, shared_after}
use Rattle.flow_types.proofs.Prefixes.{prefix_self}
use Rattle.run_model.specs.declared.reply.Reply.{Reply}
use Rattle.packet_path.specs.Fibs.{turns_at}
use Rattle.packet_path.specs.Seated.{Viewed}
use Rattle.packet_path.proofs.Asking.{set-elsewhere, set-here}
use Rattle.storm_model.specs.Lists.{IsLater, reply_by_lists, reply_routed, with_list}
use Rattle.storm_model.specs.Merging.{owner_of_key}
use Rattle.storm_model.proofs.Lists.{owner_has}
use Rattle.storm_lane.specs.Lane.{AreWhole, IsLane, IsWhole, LaneState, all_seats, fib_part, lists_of, parts_of, shard_of, table_part, table_shard, tables_of, turns_of}
use Rattle.storm_lane.specs.Readers.{AreOthersAsBefore, HaveSeenMore, ReadersState, Seats, owner_reply, records_at, seats_of}
use Rattle.storm_lane.specs.Work.{MeetsAt}
use Rattle.storm_lane.proofs.Rows.{made-same, map-kept, map-there}

-- ---- the owner of a key has readers

pub owner-low : (size : Size) → IsShape size.nodes size.blocks → (key : FlowKey) → owner_of_key size key < owners_in size
owner-low size shape key = owner_has (record { size = size; flows = [] }) shape key

module _ (size : Size) (readers : List ReadersState) (whole : AreWhole size (all_seats readers)) (owner : ℕ) (low : owner < owners_in size) where
  pub within : owner < length readers
  within = omega (arith, low, whole.one_each, length-map readers seats_of)

  module _ (d : ReadersState) where
    abbrev old : ReadersState
    old = get_or readers owner d

    pub there : slice_get readers owner ≡ Some old
    there = slice_get-get_or readers owner d within

    its-seats : IsWhole size owner (seats_of old)
    its-seats = whole.each owner (seats_of old) (map-there seats_of readers owner old there)

    pub its-size : old.size ≡ size
    its-size = its-seats.size_is

    pub its-owner : old.owner ≡ owner
    its-owner = its-seats.owner_is

    pub its-nodes : length old.views ≡ old.size.nodes
    its-nodes = sym (length-map old.views (λ (v : Viewed). v.shard)) ∙ its-seats.one_each ∙ sym (ap (λ (s : Size). s.nodes) its-size)

    pub it-owns : (key : FlowKey) → owner ≡ owner_of_key size key → IsOwned old.size old.owner key
    it-owns key own = (λ i. (place (its-size i).blocks key).block % (its-size i).nodes) ∙ sym own ∙ sym its-owner

-- ---- these have seen more

module _ (readers : List ReadersState) (owner : ℕ) (old new : ReadersState) (there : slice_get readers owner ≡ Some old) (same : seats_of new ≡ seats_of old) where
  abbrev after : List ReadersState
  after = set readers owner new

  here : slice_get after owner ≡ Some new
  here = set-here readers owner new (slice_get_within readers owner old there)

  elsewhere : (other : ℕ) → other ≢ owner → slice_get after other ≡ slice_get readers other
  elsewhere other apart = set-elsewhere readers owner other new apart

  pub lane-seats : all_seats after ≡ all_seats readers
  lane-seats = map-kept seats_of readers owner old new there same

  pub lane-later : HaveSeenMore old new → IsLater (lists_of readers) (lists_of after)
  lane-later more = record {
    tables = λ node other.
        ⊎_elim
        (λ (is : other ≡ owner).
        subst (λ (o : ℕ). IsPrefix (tables_of (slice_get readers o) node) (tables_of (slice_get after o) node)) (sym is)
        (subst (λ (p : Option ReadersState × Option ReadersState). IsPrefix (tables_of p.0 node) (tables_of p.1 node)) (λ i. (sym there i, sym here i)) (more.tables node)))
        (λ (apart : other ≢ owner).
        subst (λ (r : Option ReadersState). IsPrefix (tables_of (slice_get readers other) node) (tables_of r node)) (sym (elsewhere other apart)) (prefix_self (tables_of (slice_get readers other) node)))
        (cases_eq other owner);
    fibs = λ node other.
        ⊎_elim
        (λ (is : other ≡ owner).
        subst (λ (o : ℕ). IsPrefix (turns_of (slice_get readers o) node) (turns_of (slice_get after o) node)) (sym is)
        (subst (λ (p : Option ReadersState × Option ReadersState). IsPrefix (turns_of p.0 node) (turns_of p.1 node)) (λ i. (sym there i, sym here i)) (more.fibs node)))
        (λ (apart : other ≢ owner).
        subst (λ (r : Option ReadersState). IsPrefix (turns_of (slice_get readers other) node) (turns_of r node)) (sym (elsewhere other apart)) (prefix_self (turns_of (slice_get readers other) node)))
        (cases_eq other owner);
  }

  -- ---- what is said by lists

  abbrev by-owner : Size → (owner ingress : ℕ) → FlowKey → Reply
  by-owner size o ingress key =
      let shard = shard_state_of (with_list ((parts_of (all_seats readers)).tables ingress o) ((lists_of after).tables ingress o)) in
      let route = route_in_state shard (place size.blocks key) key in
      reply_routed route.version route.node (λ (node : ℕ). shared_after ((parts_of (all_seats readers)).fibs node o) ((lists_of after).fibs node o)) (home_in_state shard (place size.blocks key)) key

  abbrev by-options : Size → Option Seats → Option ReadersState → (ingress : ℕ) → FlowKey → Reply
  by-options size have own ingress key =
      let shard = shard_state_of (with_list (table_part have ingress) (tables_of own ingress)) in
      let route = route_in_state shard (place size.blocks key) key in
      reply_routed route.version route.node (λ (node : ℕ). shared_after (fib_part have node) (turns_of own node)) (home_in_state shard (place size.blocks key)) key

  has : slice_get (all_seats readers) owner ≡ Some (seats_of new)
  has = map-there seats_of readers owner old there ∙ ap Some (sym same)

  pub lane-says : (size : Size) → new.size ≡ size → (ingress : ℕ) (key : FlowKey) → owner ≡ owner_of_key size key
      → owner_reply new ingress key ≡ reply_by_lists size (parts_of (all_seats readers)) (lists_of after) ingress key
  lane-says size size_is ingress key own =
      ap (λ (s : Size). by-options s (Some (seats_of new)) (Some new) ingress key) size_is
      ∙ (λ i. by-options size (sym has i) (sym here i) ingress key)
      ∙ ap (λ (o : ℕ). by-owner size o ingress key) own

  -- ---- one node's readers met

  module _ (node : ℕ) (others : AreOthersAsBefore node old new) where
    pub other-records : (n o : ℕ) → (n ≢ node) ⊎ (o ≢ owner) → (lists_of after).tables n o ≡ (lists_of readers).tables n o
    other-records n o apart =
        ⊎_elim
        (λ (is : o ≡ owner).
        let n_apart : n ≢ node = ⊎_elim (λ (p : n ≢ node). p) (λ (p : o ≢ owner). absurd (p is)) apart in
        ap (λ (w : ℕ). tables_of (slice_get after w) n) is ∙ ap (λ (r : Option ReadersState). tables_of r n) here
        ∙ made-same (λ (v : Viewed). v.list) new.views old.views n [] (others.tables n n_apart)
        ∙ sym (ap (λ (r : Option ReadersState). tables_of r n) there) ∙ sym (ap (λ (w : ℕ). tables_of (slice_get readers w) n) is))
        (λ (o_apart : o ≢ owner). ap (λ (r : Option ReadersState). tables_of r n) (elsewhere o o_apart))
        (cases_eq o owner)

    pub other-turns : (n o : ℕ) → (n ≢ node) ⊎ (o ≢ owner) → (lists_of after).fibs n o ≡ (lists_of readers).fibs n o
    other-turns n o apart =
        ⊎_elim
        (λ (is : o ≡ owner).
        let n_apart : n ≢ node = ⊎_elim (λ (p : n ≢ node). p) (λ (p : o ≢ owner). absurd (p is)) apart in
        ap (λ (w : ℕ). turns_of (slice_get after w) n) is ∙ ap (λ (r : Option ReadersState). turns_of r n) here
        ∙ made-same (λ (r : ReaderState). r.turns) new.fibs old.fibs n [] (others.fibs n n_apart)
        ∙ sym (ap (λ (r : Option ReadersState). turns_of r n) there) ∙ sym (ap (λ (w : ℕ). turns_of (slice_get readers w) n) is))
        (λ (o_apart : o ≢ owner). ap (λ (r : Option ReadersState). turns_of r n) (elsewhere o o_apart))
        (cases_eq o owner)

  pub its-records : (node : ℕ) → (lists_of after).tables node owner ≡ tables_of (Some new) node
  its-records node = ap (λ (r : Option ReadersState). tables_of r node) here

  pub its-turns : (node : ℕ) → (lists_of after).fibs node owner ≡ turns_of (Some new) node
  its-turns node = ap (λ (r : Option ReadersState). turns_of r node) here

-- the owner's readers are there, since one of them is
pub there-where : (readers : List ReadersState) (owner : ℕ) (old : ReadersState) → owner < length readers → old ≡ get_or readers owner old → slice_get readers owner ≡ Some old
there-where readers owner old low is = slice_get-get_or readers owner old low ∙ ap Some (sym is)

pub has-readers : (readers : List ReadersState) (node owner : ℕ) (shard : Shard) → table_shard (all_seats readers) node owner ≡ Some shard → owner < length readers
has-readers readers node owner shard is =
    ⊎_elim
    (λ (low : owner < length readers). low)
    (λ (past : length readers ≤ owner).
    let none : slice_get (all_seats readers) owner ≡ None = slice_get_past (all_seats readers) owner (omega (arith, past, length-map readers seats_of)) in
    let never : None ≡ Some shard = sym (ap (λ (s : Option Seats). shard_of s node) none) ∙ is in
    absurd (cc))
    (cases_lt owner (length readers))

pub meets : (before : LaneState) (owner node : ℕ) (old new : ReadersState) → slice_get before.readers owner ≡ Some old → (taken : List Publication) (published : List FibMessage)
    → seats_of new ≡ seats_of old → HaveSeenMore old new → AreOthersAsBefore node old new → records_at new.views node ≡ taken → turns_at new.fibs node ≡ published
    → MeetsAt node owner taken published before (record before { readers = set before.readers owner new })
meets before owner node old new there taken published same more others records turns = record {
  same = record { size = refl; number = refl; lanes = refl; seats = lane-seats before.readers owner old new there same };
  later = lane-later before.readers owner old new there same more;
  replies = refl;
  failed = refl;
  records = its-records before.readers owner old new there same node ∙ records;
  turns = its-turns before.readers owner old new there same node ∙ turns;
  other_tables = other-records before.readers owner old new there same node others;
  other_fibs = other-turns before.readers owner old new there same node others;
}

-- it stays a lane with its readers
pub still-lane : (lane : LaneState) → IsLane lane → (owner : ℕ) (old new : ReadersState) → slice_get lane.readers owner ≡ Some old → seats_of new ≡ seats_of old
    → IsLane (record lane { readers = set lane.readers owner new })
still-lane lane is owner old new there same = record {
  one_of = is.one_of;
  readers = subst (AreWhole lane.size) (sym (lane-seats lane.readers owner old new there same)) is.readers;
}
