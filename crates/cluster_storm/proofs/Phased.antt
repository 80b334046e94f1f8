-- What all workers of a phase give together, from one rest to the next.
use Rattle.std.proofs.Common.{◌≡◌, ◌∙◌, ◌+◌, ◌^◌, ◌<◌, ◌≤◌, get_or, ℕ, zero, suc, Bool, true, false, List, [], ◌∷◌, length, Option, Some, None, refl, sym, ap, subst, arith, inl, inr, ⊎_elim}
use Rattle.std.specs.Prelude.{All}
use Rattle.std.specs.List.{slice_get}
use Rattle.std.proofs.lemmas.Bool.{cases_lt}
use Rattle.std.proofs.lemmas.Option.{same_Some, slice_get_past}
use Rattle.flow_types.specs.Size.{Size, owners_in}
use Rattle.group_history.specs.declared.change.Change.{Change}
use Rattle.packet_reader.specs.declared.event.Event.{Event}
use Rattle.packet_reader.specs.declared.event.Event.TheVariants.{Set, Del, Packet, Carry, Sync}
use Rattle.packet_reader.specs.Form.{IsInRange}
use Rattle.run_model.specs.declared.reply.Reply.{Reply}
use Rattle.run_model.specs.Laws.{IsRow}
use Rattle.run_model.specs.State.{ClusterOpening, Journals, journal_of}
use Rattle.storm_model.specs.Laws.{CanBeSaid}
use Rattle.storm_model.specs.Lists.{AreTurns, IsLater, WalksByLists}
use Rattle.storm_model.specs.Merging.{CanMerge, Merged, MergesBehind, Queues}
use Rattle.storm_model.specs.Owners.{HasNoUpdate, own_changes, own_replies}
use Rattle.storm_model.specs.Phase.{IsOnePhase}
use Rattle.storm_model.specs.Run.{LaneGave, OwnerGave, WorkersGave}
use Rattle.storm_model.proofs.Gathered.{phases_are_said}
use Rattle.storm_model.proofs.Idle.{accepts-nothing, says-nothing}
use Rattle.storm_model.proofs.Journals.{no-update-past}
use Rattle.storm_lane.specs.Lane.{AreWhole, LaneState, all_seats, fib_book, lists_of, parts_of, table_shard}
use Rattle.storm_lane.specs.Readers.{Seats}
use Rattle.storm_lane.specs.Stepping.{Enters}
use Rattle.storm_lane.specs.Work.{LaneDid}
use Rattle.turn_relay.specs.Each.{AllFrom, Each, Every}
use Rattle.turn_relay.specs.Finish.{IsQuietAt}
use Rattle.turn_relay.specs.Follow.{ApplierDid, IsSamePart, PartDid, works}
use Rattle.turn_relay.specs.OwnWork.{IsOwnRow}
use Rattle.turn_relay.specs.OwnerState.{HasLinks, HasSentAll, IsSameLink, IsSameOwner, OwnerState, Stands, journal_in}
use Rattle.turn_relay.specs.PartState.{ApplierState, PartState}
use Rattle.turn_relay.proofs.Phases.{are_ready, still_quiet}
use Rattle.turn_relay.proofs.Runs.{each_length}
use Rattle.cluster_storm.specs.Crew.{CanWork, IsPhaseOf, OwnerTook}
use Rattle.cluster_storm.specs.Dealing.{WorkAlone}
use Rattle.cluster_storm.specs.Ending.{Awaits, KeepsParts}
use Rattle.cluster_storm.specs.Meeting.{HasMet, IsReaderOf, ReadsNodes, ReadsParts}
use Rattle.cluster_storm.specs.Rest.{AllRest, AreAppliers, AreLinkedFor, AreOwners, HaveSeenAll, IsAtRest, IsLaneAt, IsOwnerAt, IsWorked, Stand, journals_in, opening_of, part_at, part_in}
use Rattle.cluster_storm.specs.Taking.{HasGiven, HasGivenLane, replies_of_lane, replies_of_owner}
use Rattle.cluster_storm.proofs.Resting.{every-at, is-there, journal-past, journal-there, journals-many, resting-turns}

-- ---- lists

module _ {A B : Type 0} (R : A → B → Type 0) where
  -- each element comes from one that it is related to
  pub each-back : (xs : List A) (ys : List B) → Each R xs ys → (i : ℕ) (y : B) → slice_get ys i ≡ Some y → (x : A) × (slice_get xs i ≡ Some x) × R x y
  each-back [] [] each i y there = absurd cc
  each-back [] (b ∷ ys) each i y there = absurd each
  each-back (a ∷ xs) [] each i y there = absurd each
  each-back (a ∷ xs) (b ∷ ys) each zero y there = (a, refl, subst (R a) (same_Some b y there) each.0)
  each-back (a ∷ xs) (b ∷ ys) each (suc i) y there = each-back xs ys each.1 i y there

pub every-from : {A : Type 0} (P : A → Type 0) (xs : List A) → ((i : ℕ) (x : A) → slice_get xs i ≡ Some x → P x) → Every P xs
every-from P [] all = tt
every-from P (x ∷ xs) all = (all 0 x refl, every-from P xs (λ i y there. all (suc i) y there))

pub all-from : {A : Type 0} (P : ℕ → A → Type 0) (first : ℕ) (xs : List A) → ((i : ℕ) (x : A) → slice_get xs i ≡ Some x → P (first + i) x) → AllFrom P first xs
all-from P first [] all = tt
all-from P first (x ∷ xs) all =
    let here : first + 0 ≡ first = omega arith in (
      subst (λ (n : ℕ). P n x) here (all 0 x refl),
      all-from P (first + 1) xs (λ i y there. let next : first + suc i ≡ first + 1 + i = omega arith in subst (λ (n : ℕ). P n y) next (all (suc i) y there)),
    )

same-part : (a b c : PartState) → IsSamePart a b → IsSamePart b c → IsSamePart a c
same-part a b c first second = record {
  size = second.size ∙ first.size;
  owner = second.owner ∙ first.owner;
  shard = second.shard ∙ first.shard;
  book = second.book ∙ first.book;
  opening = second.opening ∙ first.opening;
  link = second.link ∙ first.link;
}

-- ---- the readers of a lane, part by part

module _ (lane : LaneState) where
  reads-parts : (node owner : ℕ) (parts : List PartState) → ((i : ℕ) (part : PartState) → slice_get parts i ≡ Some part → IsReaderOf lane node (owner + i) part) → ReadsParts lane node owner parts
  reads-parts node owner [] all = tt
  reads-parts node owner (part ∷ parts) all =
      let here : owner + 0 ≡ owner = omega arith in (
        subst (λ (n : ℕ). IsReaderOf lane node n part) here (all 0 part refl),
        reads-parts node (owner + 1) parts (λ i p there. let next : owner + suc i ≡ owner + 1 + i = omega arith in subst (λ (n : ℕ). IsReaderOf lane node n p) next (all (suc i) p there)),
      )

  reads-nodes : (node : ℕ) (appliers : List ApplierState)
      → ((j : ℕ) (applier : ApplierState) (i : ℕ) (part : PartState) → slice_get appliers j ≡ Some applier → slice_get applier.parts i ≡ Some part → IsReaderOf lane (node + j) i part)
      → ReadsNodes lane node appliers
  reads-nodes node [] all = tt
  reads-nodes node (applier ∷ appliers) all =
      let here : node + 0 ≡ node = omega arith in (
        reads-parts node 0 applier.parts
            (λ i p there. let place : i ≡ 0 + i = omega arith in subst (λ (q : ℕ × ℕ). IsReaderOf lane q.0 q.1 p) (λ k. (here k, place k)) (all 0 applier i p refl there)),
        reads-nodes (node + 1) appliers (λ j a i p at there. let next : node + suc j ≡ node + 1 + j = omega arith in subst (λ (n : ℕ). IsReaderOf lane n i p) next (all (suc j) a i p at there)),
      )

-- ---- owners

module _ (storm : Stand) (rest : IsAtRest storm) (events : List Event) (first : ℕ) (rows : All (IsRow (opening_of storm)) events) (one : IsOnePhase events) (working : List Bool)
    (alone : WorkAlone storm.size events working) (links : AreLinkedFor storm events) (owners1 owners2 : List OwnerState) (took : Each (OwnerTook storm.flows events working) storm.owners owners1)
    (worked : Every (λ (owner : OwnerState). owner.failed ≡ false) owners1) (given : Each HasGiven owners1 owners2) where
  -- how the owner of a number came to be this one
  record Owner (number : ℕ) (owner : OwnerState) : Type 0 where
    before : OwnerState
    done : OwnerState
    there : slice_get storm.owners number ≡ Some before
    done_there : slice_get owners1 number ≡ Some done
    is : IsOwnerAt storm.size storm.flows number before
    by : OwnerTook storm.flows events working before done
    well : done.failed ≡ false
    gave : owner ≡ record done { replies = [] }

  owner-of : (number : ℕ) (owner : OwnerState) → slice_get owners2 number ≡ Some owner → Owner number owner
  owner-of number owner there =
      let a = each-back HasGiven owners1 owners2 given number owner there in
      let b = each-back (OwnerTook storm.flows events working) storm.owners owners1 took number a.0 a.1 in
      record {
        before = b.0;
        done = a.0;
        there = b.1;
        done_there = a.1;
        is = rest.owners.1 number b.0 b.1;
        by = b.2;
        well = every-at (λ (o : OwnerState). o.failed ≡ false) owners1 worked number a.0 a.1;
        gave = a.2;
      }

  -- what it has said and accepted, and what it is now
  record Came (number : ℕ) (before done owner : OwnerState) : Type 0 where
    same : IsSameOwner before owner
    stands : Stands storm.flows owner
    sent : HasSentAll storm.flows owner
    said : done.replies ≡ own_replies (opening_of storm) number (journal_in before) events
    accepted : journal_in owner ≡ own_changes (opening_of storm) number (journal_in before) events
    idle : works working number ≡ false → owner ≡ before

  each-same : (ends : List _) → Each IsSameLink ends ends
  each-same [] = tt
  each-same (end ∷ ends) = ((refl, refl), each-same ends)

  self : (owner : OwnerState) → IsSameOwner owner owner
  self owner = record { size = refl; number = refl; links = each-same owner.ends }

  came : (number : ℕ) (owner : OwnerState) (o : Owner number owner) (busy : Bool) → works working number ≡ busy → Came number o.before o.done owner
  came number owner o true is =
      let did = o.by.works_on (ap (works working) o.is.numbered ∙ is) in
      let owned = did.2 o.well in
      record {
        same = subst (IsSameOwner o.before) (sym o.gave) (record { size = did.0.size; number = did.0.number; links = did.0.links });
        stands = subst (Stands storm.flows) (sym o.gave) did.1;
        sent = subst (HasSentAll storm.flows) (sym o.gave) (owned.sent o.is.sent);
        said = owned.replies ∙ (λ i. own_replies (record { size = o.is.sized i; flows = storm.flows }) (o.is.numbered i) (journal_in o.before) events);
        accepted = ap journal_in o.gave ∙ owned.changes ∙ (λ i. own_changes (record { size = o.is.sized i; flows = storm.flows }) (o.is.numbered i) (journal_in o.before) events);
        idle = λ isnt. absurd (let e : true ≡ false = sym is ∙ isnt in cc);
      }
  came number owner o false is =
      let e : o.done ≡ o.before = o.by.rests (ap (works working) o.is.numbered ∙ is) in
      let whole : record (o.before) { replies = [] } ≡ o.before = λ i. record (o.before) { replies = sym o.is.quiet i } in
      let all : owner ≡ o.before = o.gave ∙ ap (λ (d : OwnerState). record d { replies = [] }) e ∙ whole in
      record {
        same = subst (IsSameOwner o.before) (sym all) (self o.before);
        stands = subst (Stands storm.flows) (sym all) o.is.stands;
        sent = subst (HasSentAll storm.flows) (sym all) o.is.sent;
        said = ap (λ (d : OwnerState). d.replies) e ∙ o.is.quiet ∙ sym (says-nothing (opening_of storm) number (journal_in o.before) events ((alone.others number).0 is));
        accepted = ap journal_in all ∙ sym (accepts-nothing (opening_of storm) number (journal_in o.before) events ((alone.others number).0 is));
        idle = λ _. all;
      }

  came-so : (number : ℕ) (owner : OwnerState) (o : Owner number owner) → Came number o.before o.done owner
  came-so number owner o = came number owner o (works working number) refl

  number-of : (number : ℕ) (owner : OwnerState) (o : Owner number owner) → owner.number ≡ number
  number-of number owner o = (came-so number owner o).same.number ∙ o.is.numbered

  -- the owners are those of these numbers
  pub owners-numbered : AllFrom (λ (number : ℕ) (owner : OwnerState). owner.number ≡ number) 0 owners2
  owners-numbered = all-from (λ (number : ℕ) (owner : OwnerState). owner.number ≡ number) 0 owners2
      (λ i owner there. let place : i ≡ 0 + i = omega arith in number-of i owner (owner-of i owner there) ∙ place)

  -- who works has links
  links-of : (number : ℕ) (owner : OwnerState) (o : Owner number owner) → works working owner.number ≡ true → HasLinks o.before
  links-of number owner o busy =
      ⊎_elim
      (λ (has : HasLinks o.before). has)
      (λ (none : HasNoUpdate storm.size number events).
      absurd (let e : true ≡ false = sym busy ∙ ap (works working) (number-of number owner o) ∙ (alone.others number).1 none in cc))
      (links number o.before o.there)

  links-stay : (script : List Event) → AreLinkedFor storm script → AreLinkedFor (record storm { owners = owners2 }) script
  links-stay script linked number owner there =
      let o = owner-of number owner there in
      let same = (came-so number owner o).same in
      ⊎_elim
      (λ (has : HasLinks o.before). inl (each_length IsSameLink o.before.ends owner.ends same.links ∙ has ∙ ap (λ (s : Size). s.nodes) (sym same.size)))
      (λ (none : HasNoUpdate storm.size number script). inr none)
      (linked number o.before o.there)

  -- what they have sent is to be taken
  module _ (appliers1 : List ApplierState) (did : Each (ApplierDid working) storm.appliers appliers1) where
    pub owners-await : Every (Awaits storm.flows working appliers1) owners2
    owners-await = every-from (Awaits storm.flows working appliers1) owners2
        (λ i owner there.
        let o = owner-of i owner there in
        let so = came-so i owner o in
        record {
          stands = so.stands;
          sent = so.sent;
          ready = λ busy. are_ready storm.flows o.before owner so.same (links-of i owner o busy) working storm.appliers appliers1 (rest.rest i o.before o.there) did;
          rests = λ idle.
              let isnt : works working i ≡ false = sym (ap (works working) (number-of i owner o)) ∙ idle in
              subst (λ (x : OwnerState). Every (IsQuietAt storm.flows x) appliers1) (sym (so.idle isnt))
              (still_quiet storm.flows o.before working (ap (works working) o.is.numbered ∙ isnt) storm.appliers appliers1 (rest.rest i o.before o.there) did);
        })

    -- ---- the nodes' parts

    module _ (appliers2 : List ApplierState) (keeps : Each KeepsParts appliers1 appliers2) where
      -- each part is of the same table and FIB as before the phase
      record Origin (node place : ℕ) (part : PartState) : Type 0 where
        was : PartState
        there : part_at storm.appliers node place ≡ Some was
        same : IsSamePart was part

      origin : (node place : ℕ) (part : PartState) (found : Option ApplierState) → slice_get appliers2 node ≡ found → part_in found place ≡ Some part → Origin node place part
      origin node place part None at is = absurd cc
      origin node place part (Some applier) at is =
          let a = each-back KeepsParts appliers1 appliers2 keeps node applier at in
          let p = a.2.parts place part is in
          let b = each-back (ApplierDid working) storm.appliers appliers1 did node a.0 a.1 in
          let q = each-back (PartDid working) b.0.parts a.0.parts b.2.1 place p.0 p.1 in
          record {
            was = q.0;
            there = ap (λ (x : Option ApplierState). part_in x place) b.1 ∙ q.1;
            same = same-part q.0 p.0 part q.2.on.same p.2;
          }

      origin-of : (node place : ℕ) (part : PartState) → part_at appliers2 node place ≡ Some part → Origin node place part
      origin-of node place part is = origin node place part (slice_get appliers2 node) refl is

      appliers-stay : AreAppliers storm.size appliers2
      appliers-stay = record {
        many = each_length KeepsParts appliers1 appliers2 keeps ∙ each_length (ApplierDid working) storm.appliers appliers1 did ∙ rest.appliers.many;
        numbered = λ node applier at.
            let a = each-back KeepsParts appliers1 appliers2 keeps node applier at in
            let b = each-back (ApplierDid working) storm.appliers appliers1 did node a.0 a.1 in
            a.2.node ∙ b.2.0 ∙ rest.appliers.numbered node b.0 b.1;
      }

      -- ---- lanes

      module _ (lanes1 lanes2 : List LaneState) (walked : Each (LaneDid first events) storm.lanes lanes1) (answered : Every (λ (lane : LaneState). lane.failed ≡ false) lanes1)
          (told : Each HasGivenLane lanes1 lanes2) where
        record Lane (number : ℕ) (lane : LaneState) : Type 0 where
          before : LaneState
          done : LaneState
          there : slice_get storm.lanes number ≡ Some before
          done_there : slice_get lanes1 number ≡ Some done
          is : IsLaneAt storm.size (length storm.lanes) number before
          by : LaneDid first events before done
          well : done.failed ≡ false
          gave : lane ≡ record done { replies = [] }

        lane-of : (number : ℕ) (lane : LaneState) → slice_get lanes2 number ≡ Some lane → Lane number lane
        lane-of number lane there =
            let a = each-back HasGivenLane lanes1 lanes2 told number lane there in
            let b = each-back (LaneDid first events) storm.lanes lanes1 walked number a.0 a.1 in
            record {
              before = b.0;
              done = a.0;
              there = b.1;
              done_there = a.1;
              is = rest.lanes number b.0 b.1;
              by = b.2;
              well = every-at (λ (l : LaneState). l.failed ≡ false) lanes1 answered number a.0 a.1;
              gave = a.2;
            }

        seats-same : (number : ℕ) (lane : LaneState) (l : Lane number lane) → all_seats lane.readers ≡ all_seats l.before.readers
        seats-same number lane l = ap (λ (x : LaneState). all_seats x.readers) l.gave ∙ l.by.same.seats

        -- a lane's readers are still those of the parts
        pub lanes-read : Every (λ (lane : LaneState). ReadsNodes lane 0 appliers2) lanes2
        lanes-read = every-from (λ (lane : LaneState). ReadsNodes lane 0 appliers2) lanes2
            (λ number lane there.
            let l = lane-of number lane there in
            reads-nodes lane 0 appliers2
            (λ j applier i part at in_parts.
            let from = origin-of j i part (ap (λ (x : Option ApplierState). part_in x i) at ∙ in_parts) in
            let sees = rest.seen number l.before l.there j i from.was from.there in
            let place : j ≡ 0 + j = omega arith in
            subst (λ (n : ℕ). IsReaderOf lane n i part) place (record {
              shard = ap (λ (s : List Seats). table_shard s j i) (seats-same number lane l) ∙ sees.shard ∙ ap (λ s. Some s) (sym from.same.shard);
              book = ap (λ (s : List Seats). fib_book s j i) (seats-same number lane l) ∙ sees.book ∙ ap (λ b. Some b) (sym from.same.book);
            })))

        module _ (rests : Every (λ (owner : OwnerState). Every (IsQuietAt storm.flows owner) appliers2) owners2) (lanes3 : List LaneState) (met : Each (HasMet appliers2) lanes2 lanes3) where
          opened : ClusterOpening
          opened = opening_of storm

          abbrev journals : Journals
          journals = journals_in storm.size storm.owners

          abbrev ends : Journals
          ends = journals_in storm.size owners2

          owners-stand : AreOwners storm.size storm.flows owners2
          owners-stand = (
            each_length HasGiven owners1 owners2 given ∙ each_length (OwnerTook storm.flows events working) storm.owners owners1 took ∙ rest.owners.0,
            λ number owner there.
                let o = owner-of number owner there in
                let so = came-so number owner o in
                record {
                  sized = so.same.size ∙ o.is.sized;
                  numbered = number-of number owner o;
                  stands = so.stands;
                  sent = so.sent;
                  quiet = ap (λ (x : OwnerState). x.replies) o.gave;
                },
          )

          all-rest : AllRest storm.flows owners2 appliers2
          all-rest number owner there = every-at (λ (owner : OwnerState). Every (IsQuietAt storm.flows owner) appliers2) owners2 rests number owner there

          record Met (number : ℕ) (lane : LaneState) : Type 0 where
            middle : LaneState
            from : Lane number middle
            meets : HasMet appliers2 middle lane

          met-of : (number : ℕ) (lane : LaneState) → slice_get lanes3 number ≡ Some lane → Met number lane
          met-of number lane there =
              let a = each-back (HasMet appliers2) lanes2 lanes3 met number lane there in
              record { middle = a.0; from = lane-of number a.0 a.1; meets = a.2 }

          seats-kept : (number : ℕ) (lane : LaneState) (m : Met number lane) → all_seats lane.readers ≡ all_seats m.from.before.readers
          seats-kept number lane m = m.meets.same.seats ∙ seats-same number m.middle m.from

          lanes-many : length lanes3 ≡ length storm.lanes
          lanes-many = each_length (HasMet appliers2) lanes2 lanes3 met ∙ each_length HasGivenLane lanes1 lanes2 told ∙ each_length (LaneDid first events) storm.lanes lanes1 walked

          lane-stands : (number : ℕ) (lane : LaneState) → Met number lane → IsLaneAt storm.size (length lanes3) number lane
          lane-stands number lane m =
              let l = m.from in
              record {
                sized = m.meets.same.size ∙ ap (λ (x : LaneState). x.size) l.gave ∙ l.by.same.size ∙ l.is.sized;
                numbered = m.meets.same.number ∙ ap (λ (x : LaneState). x.number) l.gave ∙ l.by.same.number ∙ l.is.numbered;
                one_of = m.meets.same.lanes ∙ ap (λ (x : LaneState). x.lanes) l.gave ∙ l.by.same.lanes ∙ l.is.one_of ∙ sym lanes-many;
                whole = subst (AreWhole storm.size) (sym (seats-kept number lane m)) l.is.whole;
                fibs = subst (λ (s : List Seats). (owner : ℕ) (own : Seats) → slice_get s owner ≡ Some own → length own.openings ≡ storm.size.nodes) (sym (seats-kept number lane m)) l.is.fibs;
              }

          lane-sees : (number : ℕ) (lane : LaneState) → Met number lane → HaveSeenAll appliers2 lane
          lane-sees number lane m node owner part there =
              let l = m.from in
              let from = origin-of node owner part there in
              let sees = rest.seen number l.before l.there node owner from.was from.there in
              let seats = seats-kept number lane m in
              record {
                shard = ap (λ (s : List Seats). table_shard s node owner) seats ∙ sees.shard ∙ ap (λ s. Some s) (sym from.same.shard);
                book = ap (λ (s : List Seats). fib_book s node owner) seats ∙ sees.book ∙ ap (λ b. Some b) (sym from.same.book);
                opening = ap (λ (s : List Seats). (parts_of s).fibs node owner) seats ∙ sees.opening ∙ sym from.same.opening;
                records = m.meets.tables node owner part there;
                turns = m.meets.fibs node owner part there;
              }

          lane-gave : (number : ℕ) (lane : LaneState) (m : Met number lane) → LaneGave (opening_of storm) (length storm.lanes) number journals ends first events m.from.done.replies
          lane-gave number lane m =
              let l = m.from in
              let stands = lane-stands number lane m in
              record {
                parts = parts_of (all_seats l.before.readers);
                from = lists_of l.before.readers;
                now = lists_of l.done.readers;
                last = lists_of lane.readers;
                before = resting-turns storm.size storm.flows storm.owners storm.appliers rest.owners rest.appliers rest.rest l.before l.is.whole l.is.fibs (rest.seen number l.before l.there);
                walk = subst (λ (p : Size × ℕ × ℕ). WalksByLists p.0 (parts_of (all_seats l.before.readers)) p.1 p.2 (lists_of l.before.readers) first events l.done.replies (lists_of l.done.readers))
                    (λ i. (l.is.sized i, l.is.one_of i, l.is.numbered i)) (l.by.walks l.well);
                told = subst (λ (x : LaneState). IsLater (lists_of x.readers) (lists_of lane.readers)) l.gave m.meets.later;
                after = subst (λ (s : List Seats). AreTurns (opening_of storm) (parts_of s) ends (lists_of lane.readers)) (seats-kept number lane m)
                    (resting-turns storm.size storm.flows owners2 appliers2 owners-stand appliers-stay all-rest lane stands.whole stands.fibs (lane-sees number lane m));
              }

          -- ---- all together

          module _ (owners_said by_lane : Queues) (by_owners : (number : ℕ) → owners_said number ≡ replies_of_owner (slice_get owners1 number))
              (by_lanes : (number : ℕ) → by_lane number ≡ replies_of_lane (slice_get lanes1 number)) where
            nodes-many : owners_in storm.size ≤ storm.size.nodes
            nodes-many = omega arith

            owner-here : (number : ℕ) → number < owners_in storm.size → OwnerGave (opening_of storm) number journals ends events (owners_said number)
            owner-here number has =
                let found = is-there owners2 number (omega (arith, has, owners-stand.0)) in
                let o = owner-of number found.0 found.1 in
                let so = came-so number found.0 o in
                let low : number < storm.size.nodes = omega (arith, has, nodes-many) in
                let was : journal_of journals number ≡ journal_in o.before = journal-there storm.size storm.owners number o.before low o.there in
                record {
                  said = by_owners number ∙ ap replies_of_owner o.done_there ∙ so.said ∙ ap (λ (c : List Change). own_replies (opening_of storm) number c events) (sym was);
                  accepted = journal-there storm.size owners2 number found.0 low found.1 ∙ so.accepted ∙ ap (λ (c : List Change). own_changes (opening_of storm) number c events) (sym was);
                }

            owner-past : (number : ℕ) → owners_in storm.size ≤ number → OwnerGave (opening_of storm) number journals ends events (owners_said number)
            owner-past number past =
                let none = no-update-past (opening_of storm) rest.can.shape number past events in
                let first_many = each_length (OwnerTook storm.flows events working) storm.owners owners1 took in
                let was : journal_of journals number ≡ [] = journal-past storm.size storm.owners number (omega (arith, past, rest.owners.0)) in
                record {
                  said = by_owners number ∙ ap replies_of_owner (slice_get_past owners1 number (omega (arith, past, first_many, rest.owners.0)))
                      ∙ sym (says-nothing (opening_of storm) number (journal_of journals number) events none);
                  accepted = journal-past storm.size owners2 number (omega (arith, past, owners-stand.0)) ∙ sym was
                      ∙ sym (accepts-nothing (opening_of storm) number (journal_of journals number) events none);
                }

            lane-here : (number : ℕ) → number < length storm.lanes → LaneGave (opening_of storm) (length storm.lanes) number journals ends first events (by_lane number)
            lane-here number low =
                let found = is-there lanes3 number (omega (arith, low, lanes-many)) in
                let m = met-of number found.0 found.1 in
                subst (LaneGave (opening_of storm) (length storm.lanes) number journals ends first events) (sym (by_lanes number ∙ ap replies_of_lane m.from.done_there)) (lane-gave number found.0 m)

            workers : WorkersGave (opening_of storm) (length storm.lanes) journals ends first events owners_said by_lane
            workers = record {
              one = one;
              rows = rows;
              fit = rest.journals;
              as_many = journals-many storm.size owners2 ∙ sym (journals-many storm.size storm.owners);
              owned = λ number low.
                  ⊎_elim (λ (has : number < owners_in storm.size). owner-here number has) (λ (past : owners_in storm.size ≤ number). owner-past number past) (cases_lt number (owners_in storm.size));
              walked = lane-here;
            }

            -- there is a reply to each event, and whatever is merged is what the phase says
            pub can-be-said : CanBeSaid (opening_of storm) (length storm.lanes) journals ends first events owners_said by_lane
            can-be-said = phases_are_said (opening_of storm) (length storm.lanes) journals ends first events owners_said by_lane rest.can.shape rest.some_lane workers

            -- and the storm rests again
            pub rests-again : IsAtRest (record storm { owners = owners2; appliers = appliers2; lanes = lanes3 })
            rests-again = record {
              can = rest.can;
              journals = can-be-said.fit;
              owners = owners-stand;
              appliers = appliers-stay;
              rest = all-rest;
              some_lane = let some = rest.some_lane in omega (arith, some, lanes-many);
              lanes = λ number lane there. lane-stands number lane (met-of number lane there);
              seen = λ number lane there. lane-sees number lane (met-of number lane there);
            }

            pub can-merge-so : CanMerge storm.size (length lanes3) owners_said by_lane first events
            can-merge-so = subst (λ (n : ℕ). CanMerge storm.size n owners_said by_lane first events) (sym lanes-many) can-be-said.can

            -- once the replies are merged, the phase is run
            pub worked-so : (replies replies' : List Reply) → MergesBehind storm.size (length lanes3) owners_said by_lane first events replies replies'
                → IsWorked storm (record storm { owners = owners2; appliers = appliers2; lanes = lanes3 }) events first replies replies'
            worked-so replies replies' merges = record {
              rests = rests-again;
              links = links-stay;
              said = record {
                made = merges.made;
                behind = merges.behind;
                same_opened = refl;
                same_lanes = lanes-many;
                said = can-be-said.said merges.made (subst (λ (n : ℕ). Merged storm.size n owners_said by_lane first events merges.made) lanes-many merges.merged);
              };
            }

-- ---- before the threads are started

module _ (size : Size) where
  row-own : (event : Event) → IsInRange size event → IsOwnRow size event
  row-own (Set flow) is = is
  row-own (Del key) is = tt
  row-own (Packet ingress key) is = tt
  row-own (Carry node owner turn part) is = tt
  row-own Sync is = tt

  row-enters : (event : Event) → IsInRange size event → Enters size event
  row-enters (Set flow) is = tt
  row-enters (Del key) is = tt
  row-enters (Packet ingress key) is = is
  row-enters (Carry node owner turn part) is = tt
  row-enters Sync is = tt

module _ (storm : Stand) (rest : IsAtRest storm) (events : List Event) (first update : ℕ) (rows : All (IsRow (opening_of storm)) events) (few : first + length events < 2 ^ 32)
    (few_updates : update + length events < 2 ^ 32) where
  is-phase : IsPhaseOf storm.size events first update
  is-phase = record {
    sets = λ i d low. row-own storm.size (get_or events i d) (rows i d low).in_range;
    enters = λ i d low. row-enters storm.size (get_or events i d) (rows i d low).in_range;
    few_packets = few;
    few_updates = few_updates;
  }

  pub lanes-in-phase : Every (λ (lane : LaneState). IsPhaseOf lane.size events first update) storm.lanes
  lanes-in-phase = every-from (λ (lane : LaneState). IsPhaseOf lane.size events first update) storm.lanes
      (λ i lane there. subst (λ (size : Size). IsPhaseOf size events first update) (sym (rest.lanes i lane there).sized) is-phase)

  pub owners-in-phase : Every (λ (owner : OwnerState). IsPhaseOf owner.size events first update) storm.owners
  owners-in-phase = every-from (λ (owner : OwnerState). IsPhaseOf owner.size events first update) storm.owners
      (λ i owner there. subst (λ (size : Size). IsPhaseOf size events first update) (sym (rest.owners.1 i owner there).sized) is-phase)

  pub owners-can-work : (working : List Bool) → Every (CanWork storm.flows working) storm.owners
  owners-can-work working = every-from (CanWork storm.flows working) storm.owners (λ i owner there. λ _. (rest.owners.1 i owner there).stands)
