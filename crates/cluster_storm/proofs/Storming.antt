-- How far a storm's run over its script has come, and that its replies are a run's.
use Rattle.std.proofs.Common.{◌≡◌, ◌∙◌, ◌≢◌, ◌+◌, ◌<◌, ◌≤◌, ℕ, List, [], ◌∷◌, ◌++◌, length, drop, get_or, take, refl, sym, ap, subst, arith, inl, inr, ⊎_elim, append_assoc, append-nil, length-append}
use Rattle.std.specs.Prelude.{All}
use Rattle.std.proofs.lemmas.List.{nil_from_length, take_more}
use Rattle.std.proofs.lemmas.List.Elements.{All-drop, All-take}
use Rattle.std.proofs.Math.Seq.{drop-append_seam}
use Rattle.flow_types.specs.Size.{IsShape}
use Rattle.packet_reader.specs.declared.event.Event.{Event}
use Rattle.packet_reader.specs.declared.event.Event.TheVariants.{Set, Del, Packet, Carry, Sync}
use Rattle.packet_reader.specs.declared.mode.Mode.TheVariants as mode
use Rattle.run_model.specs.declared.reply.Reply.{Reply}
use Rattle.run_model.specs.declared.reply.Reply.TheVariants.{Synced}
use Rattle.run_model.specs.Allowed.{Allowed}
use Rattle.run_model.specs.Laws.{CanBeOpened, IsRow, no_journals}
use Rattle.run_model.specs.State.{ClusterOpening, Journals}
use Rattle.run_model.specs.Told.{EachPacket, GoesByRecord}
use Rattle.run_model.proofs.NeverBack.{no_lane_goes_back}
use Rattle.run_model.proofs.OneVersion.{one_version_tells}
use Rattle.storm_model.specs.Owners.{HasNoUpdate, IsNotOf}
use Rattle.storm_model.specs.Phase.{BreaksOff, IsOnePhase, packets_after}
use Rattle.storm_model.specs.Run.{IsPhaseSaid}
use Rattle.storm_model.specs.Storm.{IsNoCarry, PhaseBehind, StormState}
use Rattle.storm_model.proofs.Phases.{IsReached, allowed-last, reached-first, reached-sync}
use Rattle.cluster_open.specs.Runs.{AreRunReplies}
use Rattle.turn_relay.specs.OwnerState.{HasLinks}
use Rattle.cluster_storm.specs.Rest.{AreLinkedFor, Stand}

-- ---- how far it has come

-- the run of the storm over the script has come to these events: those before them are answered, with these replies, and
-- no more packets and updates were among them than these
pub record StormsSoFar (storm : StormState) (script : List Event) (now : StormState) (left : List Event) (packet update : ℕ) (replies : List Reply) : Type 0 where
  pub done : List Event
  pub split : script ≡ done ++ left
  pub same_opened : now.opened ≡ storm.opened
  pub same_lanes : now.lanes ≡ storm.lanes
  pub packets_within : packet ≤ length done
  pub updates_within : update ≤ length done
  pub reached : IsReached storm.opened storm.lanes done replies now.journals packet

pub storms-first : (storm : StormState) (script : List Event) → CanBeOpened storm.opened → storm.journals ≡ no_journals storm.opened
    → StormsSoFar storm script storm script 0 0 []
storms-first storm script can none = record {
  done = [];
  split = refl;
  same_opened = refl;
  same_lanes = refl;
  packets_within = omega arith;
  updates_within = omega arith;
  reached = subst (λ (js : Journals). IsReached storm.opened storm.lanes [] [] js 0) (sym none) (reached-first storm.opened storm.lanes can);
}

-- all packets of a run's replies are answered so
run-replies : (opened : ClusterOpening) (lanes : ℕ) (script : List Event) (replies : List Reply)
    → Allowed opened lanes script replies × EachPacket opened (GoesByRecord opened) (no_journals opened) script replies
    → AreRunReplies mode.Storm lanes opened script replies
run-replies opened lanes script replies is = record {
  allowed = is.0;
  by_records = is.1;
  at_one_version = one_version_tells opened lanes script replies is.0;
  never_back = no_lane_goes_back opened lanes script replies is.0;
  of_mode = tt;
}

module _ (storm : StormState) (script : List Event) (now : StormState) (left : List Event) (packet update : ℕ) (replies : List Reply)
    (far : StormsSoFar storm script now left packet update replies) where
  -- the events that are left are some of the script's
  left-is : left ≡ drop (length far.done) script
  left-is = sym (drop-append_seam far.done left) ∙ ap (λ (es : List Event). drop (length far.done) es) (sym far.split)

  pub all-left : (P : Event → Type 0) → All P script → All P left
  all-left P all = subst (All P) (sym left-is) (All-drop P (length far.done) script all)

  -- so are those of its first phase
  pub rows-in-phase : (count : ℕ) → All (IsRow storm.opened) script → All (IsRow now.opened) (take count left)
  rows-in-phase count rows =
      All-take (IsRow now.opened) count left (subst (λ (opened : ClusterOpening). All (IsRow opened) left) (sym far.same_opened) (all-left (IsRow storm.opened) rows))

  -- an owner that has an update in it has one in the script
  pub linked-in-phase : (stand : Stand) (count : ℕ) → AreLinkedFor stand script → AreLinkedFor stand (take count left)
  linked-in-phase stand count linked number owner there =
      ⊎_elim
      (λ (has : HasLinks owner). inl has)
      (λ (none : HasNoUpdate stand.size number script). inr (All-take (IsNotOf stand.size number) count left (all-left (IsNotOf stand.size number) none)))
      (linked number owner there)

  pub counts-left : length far.done + length left ≡ length script
  counts-left = sym (length-append far.done left) ∙ ap (λ (es : List Event). length es) (sym far.split)

  module _ (shape : IsShape storm.opened.size.nodes storm.opened.size.blocks) (some : 0 < storm.lanes) (after : StormState) (replies' : List Reply) (events : List Event)
      (behind : PhaseBehind now after packet events replies replies') where
    said : IsPhaseSaid storm.opened storm.lanes now.journals after.journals packet events behind.made
    said = subst (λ (p : ClusterOpening × ℕ). IsPhaseSaid p.0 p.1 now.journals after.journals packet events behind.made)
        (λ i. (far.same_opened i, far.same_lanes i)) behind.said

    -- past a phase and its sync
    pub storms-sync : (others : List Event) (packet' update' : ℕ) → left ≡ events ++ (Sync ∷ others) → packet' ≡ packets_after packet events
        → packet' ≤ packet + length events → update' ≤ update + length events
        → StormsSoFar storm script after others packet' update' (replies' ++ Synced ∷ [])
    storms-sync others packet' update' left_splits packets_are packets_low updates_low =
        let longer : length (far.done ++ (events ++ Sync ∷ [])) ≡ length far.done + length events + 1 =
        length-append far.done (events ++ Sync ∷ []) ∙ ap (λ n. length far.done + n) (length-append events (Sync ∷ [])) ∙ omega arith in
        record {
          done = far.done ++ (events ++ Sync ∷ []);
          split =
              far.split ∙ ap (λ (es : List Event). far.done ++ es) (left_splits ∙ sym (append_assoc events (Sync ∷ []) others))
              ∙ sym (append_assoc far.done (events ++ Sync ∷ []) others);
          same_opened = behind.same_opened ∙ far.same_opened;
          same_lanes = behind.same_lanes ∙ far.same_lanes;
          packets_within = omega (arith, longer, packets_low, far.packets_within);
          updates_within = omega (arith, longer, updates_low, far.updates_within);
          reached = subst
              (λ (p : List Reply × ℕ). IsReached storm.opened storm.lanes (far.done ++ (events ++ Sync ∷ [])) p.0 after.journals p.1)
              (λ j. ((sym (append_assoc replies behind.made (Synced ∷ [])) ∙ ap (λ (rs : List Reply). rs ++ Synced ∷ []) (sym behind.behind)) j, sym packets_are j))
              (reached-sync storm.opened storm.lanes shape some far.done replies now.journals after.journals packet far.reached events behind.made said);
        }

    -- past the last phase
    pub storms-last : left ≡ events → AreRunReplies mode.Storm storm.lanes storm.opened script replies'
    storms-last all =
        run-replies storm.opened storm.lanes script replies'
        (subst (λ (p : List Event × List Reply). Allowed storm.opened storm.lanes p.0 p.1 × EachPacket storm.opened (GoesByRecord storm.opened) (no_journals storm.opened) p.0 p.1)
        (λ j. ((ap (λ (es : List Event). far.done ++ es) (sym all) ∙ sym far.split) j, sym behind.behind j))
        (allowed-last storm.opened storm.lanes shape some far.done replies now.journals after.journals packet far.reached events behind.made said))

-- ---- where a phase ends

-- one event more is of the phase, where it is no sync
one-more : (script : List Event) (event : Event) → IsOnePhase script → IsNoCarry event → event ≢ Sync → IsOnePhase (script ++ event ∷ [])
one-more [] (Set flow) one no_carry no_sync = tt
one-more [] (Del key) one no_carry no_sync = tt
one-more [] (Packet ingress key) one no_carry no_sync = tt
one-more [] (Carry node owner turn part) one no_carry no_sync = absurd no_carry
one-more [] Sync one no_carry no_sync = absurd (no_sync refl)
one-more (Set flow ∷ script) event one no_carry no_sync = one-more script event one no_carry no_sync
one-more (Del key ∷ script) event one no_carry no_sync = one-more script event one no_carry no_sync
one-more (Packet ingress key ∷ script) event one no_carry no_sync = one-more script event one no_carry no_sync
one-more (Carry node owner turn part ∷ script) event one no_carry no_sync = absurd one
one-more (Sync ∷ script) event one no_carry no_sync = absurd one

pub one-on : (script : List Event) (i : ℕ) (d : Event) → i < length script → IsOnePhase (take i script) → All IsNoCarry script → get_or script i d ≢ Sync
    → IsOnePhase (take (i + 1) script)
one-on script i d low one carries isnt = subst IsOnePhase (sym (take_more script i d low)) (one-more (take i script) (get_or script i d) one (carries i d low) isnt)

-- an event at which a phase breaks off is a sync
pub breaks-by-sync : (event : Event) (others : List Event) → BreaksOff (event ∷ others) → event ≡ Sync
breaks-by-sync (Set flow) others breaks = absurd breaks
breaks-by-sync (Del key) others breaks = absurd breaks
breaks-by-sync (Packet ingress key) others breaks = absurd breaks
breaks-by-sync (Carry node owner turn part) others breaks = absurd breaks
breaks-by-sync Sync others breaks = refl

-- so what comes behind a phase, if anything does, is a sync and the events behind it
pub split-at-sync : (left events back : List Event) (event : Event) (others : List Event) → left ≡ events ++ back → back ≡ event ∷ others → BreaksOff back
    → left ≡ events ++ (Sync ∷ others)
split-at-sync left events back event others split first breaks =
    split ∙ ap (λ (es : List Event). events ++ es) first
    ∙ ap (λ (e : Event). events ++ (e ∷ others)) (breaks-by-sync event others (subst BreaksOff first breaks))

pub split-at-end : (left events back : List Event) → left ≡ events ++ back → length back ≡ 0 → left ≡ events
split-at-end left events back split none = split ∙ ap (λ (es : List Event). events ++ es) (nil_from_length back none) ∙ append-nil events
