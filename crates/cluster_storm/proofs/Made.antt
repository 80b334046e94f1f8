-- A storm whose owners and nodes were just linked is at rest.
use Rattle.std.proofs.Common.{◌≡◌, ◌∙◌, ◌+◌, ◌<◌, ◌⊎◌, ℕ, Bool, true, false, zero, suc, List, [], ◌∷◌, length, map, replicate, Option, Some, None, Result, Ok, Err, refl, sym, ap, subst, arith, inl, inr}
use Rattle.std.specs.Prelude.{IfOk}
use Rattle.std.specs.List.{range_with_len, slice_get}
use Rattle.std.proofs.lemmas.List.{length-map}
use Rattle.std.specs.Option.{option_map}
use Rattle.std.proofs.lemmas.Option.{get_or_from_slice_get, slice_get-map, slice_get_within}
use Rattle.flow_types.specs.declared.record.Flow.{Flow}
use Rattle.flow_types.specs.Size.{Size, owners_in}
use Rattle.turn_log.specs.Sender.{IsSenderOf, SenderState, changes_in}
use Rattle.cluster_open.specs.Opened.{AreOpenedSenders}
use Rattle.run_model.specs.Laws.{CanBeOpened, no_journals}
use Rattle.packet_reader.specs.declared.event.Event.{Event}
use Rattle.storm_model.specs.Owners.{HasNoUpdate}
use Rattle.storm_model.specs.Run.{AreJournals}
use Rattle.storm_model.proofs.Journals.{journals-first}
use Rattle.storm_lane.specs.Lane.{LaneState}
use Rattle.storm_lane.specs.Readers.{ReadersState}
use Rattle.turn_relay.specs.Each.{AllFrom, Each, Every}
use Rattle.turn_relay.specs.Finish.{IsQuietAt}
use Rattle.turn_relay.specs.Follow.{works}
use Rattle.turn_relay.specs.Linking.{AreFresh, HasMoreEnds, IsFresh, IsFreshAt}
use Rattle.turn_relay.specs.OwnerState.{HasLinks, HasSentAll, OwnerState, journal_in}
use Rattle.turn_relay.specs.PartState.{ApplierState, PartState}
use Rattle.turn_relay.proofs.Runs.{each_length}
use Rattle.cluster_storm.specs.Dealing.{WorkAlone}
use Rattle.cluster_storm.specs.Opening.{AreFreshNodes, AreNewOwners, CanBeLinked, IsFreshNode, IsLaneOf, IsNewOwner, IsSenderAt, IsUnlinked, KeepsTables, ReadsAll}
use Rattle.cluster_storm.specs.Rest.{AreAppliers, AreLinkedFor, AreOwners, HasSeen, HaveSeenAll, IsAtRest, IsOwnerAt, journal_of_owner, journals_in, part_in}
use Rattle.cluster_storm.proofs.Numbered.{all_at}
use Rattle.cluster_storm.proofs.Phased.{all-from, each-back, every-from}
use Rattle.cluster_storm.proofs.Resting.{every-at, is-there}

-- ---- the owners of senders

module _ (size : Size) (flows : List Flow) (senders : List SenderState) (opened : AreOpenedSenders size flows senders) where
  sender_at : (number : ℕ) (sender : SenderState) → slice_get senders number ≡ Some sender → (changes_in sender ≡ []) × IsSenderOf size number flows sender
  sender_at number sender there =
      subst (λ (s : SenderState). (changes_in s ≡ []) × IsSenderOf size number flows s) (get_or_from_slice_get senders number sender sender there)
      (opened.1 number sender (slice_get_within senders number sender there))

  pub senders_numbered : AllFrom (IsSenderAt size) 0 senders
  senders_numbered = all-from (IsSenderAt size) 0 senders
      (λ i sender there.
      let is = (sender_at i sender there).1 in
      let place : i ≡ 0 + i = omega arith in
      record { sized = is.sized; numbered = is.numbered ∙ place })

  pub are_new : (owners : List OwnerState) → map (λ (owner : OwnerState). owner.sender) owners ≡ senders → AllFrom (IsUnlinked size) 0 owners → AreNewOwners size flows owners
  are_new owners of unlinked = record {
    many = sym (length-map owners (λ (owner : OwnerState). owner.sender)) ∙ ap length of ∙ opened.0;
    each = all-from (IsNewOwner size flows) 0 owners
        (λ i owner there.
        let alone = all_at (IsUnlinked size) owners unlinked i owner there in
        let at : slice_get senders i ≡ Some owner.sender =
        ap (λ (all : List SenderState). slice_get all i) (sym of) ∙ slice_get-map (λ (o : OwnerState). o.sender) owners i ∙ ap (option_map (λ (o : OwnerState). o.sender)) there in
        let is = sender_at i owner.sender at in
        let place : i ≡ 0 + i = omega arith in
        subst (λ (n : ℕ). IsNewOwner size flows n owner) place (record {
          alone = alone;
          stands = subst (λ (p : Size × ℕ). IsSenderOf p.0 p.1 flows owner.sender) (λ k. (sym alone.sized k, sym alone.numbered k)) is.1;
          new = is.0;
        }));
  }

-- ---- before the links

module _ (size : Size) (flows : List Flow) (owners : List OwnerState) (new : AreNewOwners size flows owners) (appliers : List ApplierState) (fresh : AreFreshNodes size flows appliers) where
  new_at : (number : ℕ) (owner : OwnerState) → slice_get owners number ≡ Some owner → IsNewOwner size flows number owner
  new_at number owner there = all_at (IsNewOwner size flows) owners new.each number owner there

  pub owners_numbered : AllFrom (λ (number : ℕ) (owner : OwnerState). owner.number ≡ number) 0 owners
  owners_numbered = all-from (λ (number : ℕ) (owner : OwnerState). owner.number ≡ number) 0 owners
      (λ i owner there. let place : i ≡ 0 + i = omega arith in (new_at i owner there).alone.numbered ∙ place)

  module _ (owner : OwnerState) (has : owner.number < owners_in size) (sized : owner.size ≡ size) where
    fresh_one : (node : ℕ) (applier : ApplierState) → IsFreshNode size flows node applier → IsFreshAt flows owner node applier
    fresh_one node applier is =
        let part = is-there applier.parts owner.number (let many = is.many in omega (arith, has, many)) in
        record {
          numbered = is.numbered;
          part = record { element = part.0; there = part.1; holds = subst (λ (s : Size). IsFresh s flows node owner.number part.0) (sym sized) (is.fresh owner.number part.0 part.1) };
        }

    fresh_from : (first : ℕ) (all : List ApplierState) → ((i : ℕ) (applier : ApplierState) → slice_get all i ≡ Some applier → IsFreshNode size flows (first + i) applier) → AreFresh flows owner first all
    fresh_from first [] each = tt
    fresh_from first (applier ∷ all) each =
        let here : first + 0 ≡ first = omega arith in (
          fresh_one first applier (subst (λ (n : ℕ). IsFreshNode size flows n applier) here (each 0 applier refl)),
          fresh_from (first + 1) all
              (λ i a there. let next : first + suc i ≡ first + 1 + i = omega arith in subst (λ (n : ℕ). IsFreshNode size flows n a) next (each (suc i) a there)),
        )

  -- each owner can be linked
  pub can_be_linked : Every (CanBeLinked flows appliers) owners
  can_be_linked = every-from (CanBeLinked flows appliers) owners
      (λ number owner there.
      let is = new_at number owner there in
      let low = slice_get_within owners number owner there in
      let numbered = is.alone.numbered in
      record {
        unlinked = is.alone.unlinked;
        new = is.new;
        some = let many = new.many in let sized : owner.size.nodes ≡ size.nodes = ap (λ (s : Size). s.nodes) is.alone.sized in omega (arith, low, many, sized);
        nodes = fresh.many ∙ sym (ap (λ (s : Size). s.nodes) is.alone.sized);
        fresh = fresh_from owner (let many = new.many in omega (arith, low, numbered, many)) is.alone.sized 0 appliers
            (λ i a at. let place : i ≡ 0 + i = omega arith in subst (λ (n : ℕ). IsFreshNode size flows n a) place (fresh.each i a at));
      })

  -- ---- after them

  module _ (linked : List OwnerState) (nodes : List ApplierState) (more : Each HasMoreEnds owners linked) (sent : Every (HasSentAll flows) linked) (keeps : Each KeepsTables appliers nodes)
      (rests : Every (λ (owner : OwnerState). Every (IsQuietAt flows owner) nodes) linked) where
    owner_at : (number : ℕ) (owner : OwnerState) → slice_get linked number ≡ Some owner → IsOwnerAt size flows number owner
    owner_at number owner there =
        let from = each-back HasMoreEnds owners linked more number owner there in
        let was = from.0 in
        let is = new_at number was from.1 in
        let now : owner ≡ record was { ends = _ } = from.2.after_is in
        let all : HasSentAll flows (record was { ends = _ }) = subst (HasSentAll flows) now (every-at (HasSentAll flows) linked sent number owner there) in
        subst (IsOwnerAt size flows number) (sym now) (record { sized = is.alone.sized; numbered = is.alone.numbered; stands = is.stands; sent = all; quiet = is.alone.quiet })

    owners_stand : AreOwners size flows linked
    owners_stand = (each_length HasMoreEnds owners linked more ∙ new.many, owner_at)

    none_at : (number : ℕ) (found : Option OwnerState) → slice_get linked number ≡ found → journal_of_owner found ≡ []
    none_at number None is = refl
    none_at number (Some owner) is =
        let from = each-back HasMoreEnds owners linked more number owner is in
        ap (λ (o : OwnerState). journal_in o) from.2.after_is ∙ (new_at number from.0 from.1).new

    none_from : (first many : ℕ) → map (λ (number : ℕ). journal_of_owner (slice_get linked number)) (range_with_len first many) ≡ replicate many []
    none_from first zero = refl
    none_from first (suc many) = λ i. none_at first (slice_get linked first) refl i ∷ none_from (first + 1) many i

    -- nothing is accepted yet
    pub no_journals_yet : journals_in size linked ≡ no_journals (record { size = size; flows = flows })
    no_journals_yet = none_from 0 size.nodes

    appliers_stand : AreAppliers size nodes
    appliers_stand = record {
      many = each_length KeepsTables appliers nodes keeps ∙ fresh.many;
      numbered = λ node applier at.
          let from = each-back KeepsTables appliers nodes keeps node applier at in
          from.2.node ∙ (fresh.each node from.0 from.1).numbered;
    }

    -- an owner that has an update in the script is linked
    pub linked_for : (script : List Event) (changing : List Bool) → WorkAlone size script changing → Every (λ (owner : OwnerState). works changing owner.number ≡ true → HasLinks owner) linked
        → (lanes : List LaneState) → AreLinkedFor (record { size = size; flows = flows; owners = linked; appliers = nodes; lanes = lanes }) script
    linked_for script changing alone all lanes number owner there = by (works changing number) refl
      where
        by : (changes : Bool) → works changing number ≡ changes → HasLinks owner ⊎ HasNoUpdate size number script
        by true is = inl (every-at (λ (o : OwnerState). works changing o.number ≡ true → HasLinks o) linked all number owner there (ap (works changing) (owner_at number owner there).numbered ∙ is))
        by false is = inr ((alone.others number).0 is)

    -- ---- lanes

    sees_part : (lane : LaneState) → HaveSeenAll appliers lane → (node owner : ℕ) (part : PartState) (found : Option ApplierState) → slice_get nodes node ≡ found
        → part_in found owner ≡ Some part → HasSeen lane node owner part
    sees_part lane seen node owner part None at is = absurd cc
    sees_part lane seen node owner part (Some applier) at is =
        let from = each-back KeepsTables appliers nodes keeps node applier at in
        let (was, was_there, same) = from.2.parts owner part is in
        let sees = seen node owner was (ap (λ (x : Option ApplierState). part_in x owner) from.1 ∙ was_there) in
        record {
          shard = sees.shard ∙ ap (λ t. Some t.shard) (sym same.table);
          book = sees.book ∙ ap (λ f. Some f.book) (sym same.fib);
          opening = sees.opening ∙ ap (λ f. f.opening) (sym same.fib);
          records = sees.records ∙ ap (λ t. t.list) (sym same.table);
          turns = sees.turns ∙ ap (λ f. f.turns) (sym same.fib);
        }

    module _ {V : Type 0} (items : V → List ReadersState) where
      reads_each : (lanes : List LaneState) (readers : List V) → map (λ (lane : LaneState). lane.readers) lanes ≡ map items readers
          → Every (λ (own : V). ReadsAll size appliers (items own)) readers → Every (λ (lane : LaneState). ReadsAll size appliers lane.readers) lanes
      reads_each [] readers is all = tt
      reads_each (lane ∷ lanes) [] is all = absurd cc
      reads_each (lane ∷ lanes) (own ∷ readers) is all =
          let here : items own ≡ lane.readers = cc in
          let rest : map (λ (lane : LaneState). lane.readers) lanes ≡ map items readers = cc in
          (subst (ReadsAll size appliers) here all.0, reads_each lanes readers rest all.1)

      module _ (can : CanBeOpened (record { size = size; flows = flows })) (readers : List V) (reads : Every (λ (own : V). ReadsAll size appliers (items own)) readers)
          (count : ℕ) (some : 0 < count) (many : length readers ≡ count) where
        rests_so : (lanes : List LaneState) → map (λ (lane : LaneState). lane.readers) lanes ≡ map items readers → AllFrom (IsLaneOf size count) 0 lanes
            → IsAtRest (record { size = size; flows = flows; owners = linked; appliers = nodes; lanes = lanes })
        rests_so lanes of numbered =
            let lanes_many : length lanes ≡ count = sym (length-map lanes (λ (lane : LaneState). lane.readers)) ∙ ap length of ∙ length-map readers items ∙ many in
            let each = reads_each lanes readers of reads in
            let reads_at : (number : ℕ) (lane : LaneState) → slice_get lanes number ≡ Some lane → ReadsAll size appliers lane.readers =
            λ number lane there. every-at (λ (l : LaneState). ReadsAll size appliers l.readers) lanes each number lane there in
            record {
              can = can;
              journals = subst (AreJournals (record { size = size; flows = flows })) (sym no_journals_yet) (journals-first (record { size = size; flows = flows }) can);
              owners = owners_stand;
              appliers = appliers_stand;
              rest = λ number owner there. every-at (λ (o : OwnerState). Every (IsQuietAt flows o) nodes) linked rests number owner there;
              some_lane = omega (arith, some, lanes_many);
              lanes = λ number lane there.
                  let is = all_at (IsLaneOf size count) lanes numbered number lane there in
                  let read = reads_at number lane there in
                  record { sized = is.sized; numbered = is.numbered; one_of = is.one_of ∙ sym lanes_many; whole = read.whole; fibs = read.fibs };
              seen = λ number lane there node owner part at.
                  sees_part lane ((reads_at number lane there).seen lane refl) node owner part (slice_get nodes node) refl at;
            }

        -- so it is at rest
        pub made_at_rest : {A E : Type 0} (list : A → List LaneState) (result : Result A E) → IfOk result (λ made. map (λ (lane : LaneState). lane.readers) (list made) ≡ map items readers)
            → IfOk result (λ made. AllFrom (IsLaneOf size count) 0 (list made))
            → IfOk result (λ made. IsAtRest (record { size = size; flows = flows; owners = linked; appliers = nodes; lanes = list made }))
        made_at_rest list (Ok made) of numbered = rests_so (list made) of numbered
        made_at_rest list (Err why) of numbered = tt
