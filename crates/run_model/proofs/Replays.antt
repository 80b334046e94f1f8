-- Whatever the script is, its replay is allowed, and nodes have taken prefixes of the owners' turns.
use Rattle.std.proofs.Common.{◌≡◌, ◌∙◌, ◌<◌, ◌≤◌, ℕ, List, [], ◌∷◌, get_or, replicate, refl, ap, arith, ⊎_elim}
use Rattle.std.specs.Prelude.{All}
use Rattle.std.proofs.lemmas.Bool.{cases_lt}
use Rattle.std.proofs.lemmas.List.{get_or-replicate, get_or_past, length-replicate}
use Rattle.std.proofs.lemmas.List.Elements.{All-head, All-tail}
use Rattle.flow_types.proofs.Prefixes.{prefix_self, prefix_trans}
use Rattle.packet_reader.specs.declared.event.Event.{Event}
use Rattle.packet_reader.specs.declared.event.Event.TheVariants.{Set, Del, Packet, Carry, Sync}
use Rattle.packet_reader.specs.declared.event.Part.{Part}
use Rattle.packet_reader.specs.declared.event.Part.TheVariants.{Table, Fib}
use Rattle.packet_reader.specs.declared.mode.Mode.TheVariants.{Replay}
use Rattle.packet_reader.specs.Form.{IsRowOf}
use Rattle.group_history.specs.declared.update.Update.{Update}
use Rattle.group_history.specs.declared.update.Update.TheVariants as update
use Rattle.run_model.specs.Allowed.{AllowedFrom, Moment, beginning, phase_end}
use Rattle.run_model.specs.Carrying.{after_carry, after_sync, turns_taken}
use Rattle.run_model.specs.Laws.{AreFormed, CanBeOpened, IsRow, NodesTakePrefixes, ReplaysAreAllowed, TakesPrefixes, state_after_all}
use Rattle.run_model.specs.Paths.{cuts_of}
use Rattle.run_model.specs.Replaying.{fresh, fresh_node, replayed_with_updates, replies_from, reply_in, state_after}
use Rattle.run_model.specs.State.{ClusterOpening, ClusterState, Taken, journal_of, nothing_taken}
use Rattle.run_model.specs.Updates.{after_update}
use Rattle.run_model.proofs.Cuts.{grown-length}
use Rattle.run_model.proofs.Maps.{FitsMaps}
use Rattle.run_model.proofs.Accepting.{empty-journal, phase-grows, sound-end, sound-first, update-grows, update-sound}
use Rattle.run_model.proofs.Taking.{Rises, WereSent, carry-rises, sync-all, sync-rises, turns_by, turns_in}
use Rattle.run_model.proofs.Answering.{IsInReplay, packet-path}

-- ---- the beginning

zero_of : (nodes owner : ℕ) → ◌≡◌ {A = ℕ} (get_or (replicate nodes 0) owner 0) 0
zero_of nodes owner =
    ⊎_elim
    (λ (within : owner < nodes). get_or-replicate nodes owner 0 0 within)
    (λ (past : nodes ≤ owner). get_or_past (replicate nodes 0) owner 0 (omega (arith, past, length-replicate {A = ℕ} nodes 0)))
    (cases_lt owner nodes)

fresh_turns : (part : Part) (nodes owner : ℕ) → turns_in part (fresh_node nodes) owner ≡ 0
fresh_turns Table nodes owner = zero_of nodes owner
fresh_turns Fib nodes owner = zero_of nodes owner

none_turns : (part : Part) (owner : ℕ) → turns_in part nothing_taken owner ≡ 0
none_turns Table owner = refl
none_turns Fib owner = refl

none_taken : (part : Part) (nodes node owner : ℕ) → turns_taken part (replicate nodes (fresh_node nodes)) node owner ≡ 0
none_taken part nodes node owner =
    turns_by part (replicate nodes (fresh_node nodes)) node owner
    ∙ ⊎_elim
    (λ (within : node < nodes).
    ap (λ (t : Taken). turns_in part t owner) (get_or-replicate nodes node (fresh_node nodes) nothing_taken within) ∙ fresh_turns part nodes owner)
    (λ (past : nodes ≤ node).
    ap (λ (t : Taken). turns_in part t owner)
    (get_or_past (replicate nodes (fresh_node nodes)) node nothing_taken (omega (arith, past, length-replicate nodes (fresh_node nodes))))
    ∙ none_turns part owner)
    (cases_lt node nodes)

none_sent : (opened : ClusterOpening) → WereSent (beginning opened).now (beginning opened).nodes
none_sent opened part node owner = rw (none_taken part opened.size.nodes node owner) (omega arith)

no_cut : (opened : ClusterOpening) (part : Part) (lane node owner : ℕ) → cuts_of part (beginning opened) lane node owner ≡ 0
no_cut opened Table lane node owner = refl
no_cut opened Fib lane node owner = refl

module _ (opened : ClusterOpening) (can : CanBeOpened opened) where
  stands_first : IsInReplay opened (beginning opened)
  stands_first = record {
    one_each = length-replicate opened.size.nodes (fresh_node opened.size.nodes);
    grown = λ owner. prefix_self (journal_of (beginning opened).start owner);
    sounds = sound-first opened can;
    sent = none_sent opened;
    late = λ part node owner low. rw (empty-journal opened.size.nodes owner) (omega arith);
    cuts = λ part lane node owner. rw (no_cut opened part lane node owner) (omega arith);
  }

  -- ---- one event

  module _ (m : Moment) (stands : IsInReplay opened m) where
    stands_updated : (update : Update) → FitsMaps opened.size.nodes update → IsInReplay opened (record m { now = after_update opened m.now update })
    stands_updated update fits = record {
      one_each = stands.one_each;
      grown = λ owner. prefix_trans (journal_of m.start owner) (journal_of m.now owner) (journal_of (after_update opened m.now update) owner) (stands.grown owner) (update-grows opened m.now update owner);
      sounds = update-sound opened m.now update fits stands.sounds;
      sent = λ part node owner. omega (arith, stands.sent part node owner, grown-length (journal_of m.now owner) (journal_of (after_update opened m.now update) owner) (update-grows opened m.now update owner));
      late = stands.late;
      cuts = cuts_kept;
    }
      where
        cuts_kept : (part : Part) (lane node owner : ℕ) → cuts_of part (record m { now = after_update opened m.now update }) lane node owner ≤ turns_taken part m.nodes node owner
        cuts_kept Table = stands.cuts Table
        cuts_kept Fib = stands.cuts Fib

    stands_carried : (node owner turn : ℕ) (part : Part) → IsInReplay opened (record m { nodes = after_carry m.now m.nodes node owner turn part })
    stands_carried node owner turn part = record {
      one_each = rises.same_nodes ∙ stands.one_each;
      grown = stands.grown;
      sounds = stands.sounds;
      sent = rises.sent;
      late = λ of at whose low. omega (arith, stands.late of at whose low, rises.kept of at whose);
      cuts = cuts_kept;
    }
      where
        rises : Rises m.now m.nodes (after_carry m.now m.nodes node owner turn part)
        rises = carry-rises m.now m.nodes stands.sent node owner turn part

        cuts_kept : (of : Part) (lane at whose : ℕ)
            → cuts_of of (record m { nodes = after_carry m.now m.nodes node owner turn part }) lane at whose ≤ turns_taken of (after_carry m.now m.nodes node owner turn part) at whose
        cuts_kept Table lane at whose = omega (arith, stands.cuts Table lane at whose, rises.kept Table at whose)
        cuts_kept Fib lane at whose = omega (arith, stands.cuts Fib lane at whose, rises.kept Fib at whose)

    stands_synced : IsInReplay opened (record m { start = m.now; nodes = after_sync m.now m.nodes })
    stands_synced = record {
      one_each = rises.same_nodes ∙ stands.one_each;
      grown = λ owner. prefix_self (journal_of m.now owner);
      sounds = stands.sounds;
      sent = rises.sent;
      late = λ part node owner low. rw (sync-all m.now m.nodes stands.sent part node owner (omega (arith, low, stands.one_each))) (omega arith);
      cuts = cuts_kept;
    }
      where
        rises : Rises m.now m.nodes (after_sync m.now m.nodes)
        rises = sync-rises m.now m.nodes stands.sent

        cuts_kept : (of : Part) (lane at whose : ℕ)
            → cuts_of of (record m { start = m.now; nodes = after_sync m.now m.nodes }) lane at whose ≤ turns_taken of (after_sync m.now m.nodes) at whose
        cuts_kept Table lane at whose = omega (arith, stands.cuts Table lane at whose, rises.kept Table at whose)
        cuts_kept Fib lane at whose = omega (arith, stands.cuts Fib lane at whose, rises.kept Fib at whose)

  -- ---- the whole script

  -- the cluster at a moment
  abbrev state_at : Moment → ClusterState
  state_at m = record { opened = opened; journals = m.now; nodes = m.nodes }

  are-rows : (script : List Event) → AreFormed opened script → All (IsRow opened) script
  are-rows script formed = λ i d low. let this = formed i d low in record { in_range = this.formed.in_range; value = this.value }

  allowed-from : (lanes : ℕ) (script : List Event) (m : Moment) → IsInReplay opened m → AreFormed opened script → AllowedFrom opened lanes m script (replies_from (state_at m) script)
  unfolding replies_from reply_in state_after
  allowed-from lanes [] m stands formed = tt
  allowed-from lanes (Set flow ∷ script) m stands formed =
      let this = All-head (IsRowOf Replay opened.size) (Set flow) script formed in
      (refl, allowed-from lanes script _ (stands_updated m stands (update.Set flow) (record { handled = this.formed.in_range; value = this.value })) (All-tail (IsRowOf Replay opened.size) (Set flow) script formed))
  allowed-from lanes (Del key ∷ script) m stands formed =
      let this = All-head (IsRowOf Replay opened.size) (Del key) script formed in
      (refl, allowed-from lanes script _ (stands_updated m stands (update.Del key) (record { handled = tt; value = this.value })) (All-tail (IsRowOf Replay opened.size) (Del key) script formed))
  allowed-from lanes (Packet ingress key ∷ script) m stands formed =
      let this = All-head (IsRowOf Replay opened.size) (Packet ingress key) script formed in
      let later = All-tail (IsRowOf Replay opened.size) (Packet ingress key) script formed in
      packet-path opened can.shape m stands (phase_end opened m.now script) (phase-grows opened script m.now) (sound-end opened script m.now (are-rows script later) stands.sounds)
      key this.value lanes ingress this.formed.in_range
      (λ (next : Moment). AllowedFrom opened lanes next script (replies_from (state_at m) script))
      (λ packets tables fibs then.
      allowed-from lanes script (record m { packets = packets; tables = tables; fibs = fibs }) then (All-tail (IsRowOf Replay opened.size) (Packet ingress key) script formed))
  allowed-from lanes (Carry node owner turn part ∷ script) m stands formed =
      (refl, allowed-from lanes script _ (stands_carried m stands node owner turn part) (All-tail (IsRowOf Replay opened.size) (Carry node owner turn part) script formed))
  allowed-from lanes (Sync ∷ script) m stands formed =
      (refl, allowed-from lanes script _ (stands_synced m stands) (All-tail (IsRowOf Replay opened.size) Sync script formed))

pub replays_are_allowed : ReplaysAreAllowed
unfolding replayed_with_updates fresh
replays_are_allowed opened script lanes can formed = allowed-from opened can lanes script (beginning opened) (stands_first opened can) formed

-- ---- prefixes, whatever the script is

takes-after : (state : ClusterState) (event : Event) → TakesPrefixes state → TakesPrefixes (state_after state event)
unfolding state_after
takes-after state (Set flow) takes part node owner =
    omega (arith, takes part node owner, grown-length (journal_of state.journals owner) (journal_of (after_update state.opened state.journals (update.Set flow)) owner) (update-grows state.opened state.journals (update.Set flow) owner))
takes-after state (Del key) takes part node owner =
    omega (arith, takes part node owner, grown-length (journal_of state.journals owner) (journal_of (after_update state.opened state.journals (update.Del key)) owner) (update-grows state.opened state.journals (update.Del key) owner))
takes-after state (Packet ingress key) takes part node owner = takes part node owner
takes-after state (Carry node owner turn part) takes of at whose = (carry-rises state.journals state.nodes takes node owner turn part).sent of at whose
takes-after state Sync takes part node owner = (sync-rises state.journals state.nodes takes).sent part node owner

takes-after-all : (script : List Event) (state : ClusterState) → TakesPrefixes state → TakesPrefixes (state_after_all state script)
unfolding state_after_all
takes-after-all [] state takes = takes
takes-after-all (event ∷ script) state takes = takes-after-all script (state_after state event) (takes-after state event takes)

pub nodes_take_prefixes : NodesTakePrefixes
unfolding fresh
nodes_take_prefixes opened script = takes-after-all script (fresh opened) (none_sent opened)
