-- Replies that are allowed are of their events' kinds.
use Rattle.std.proofs.Common.{◌≡◌, ℕ, Bool, true, false, cond, List, [], ◌∷◌, length, Option, Some, None, refl, sym, subst}
use Rattle.packet_reader.specs.declared.event.Event.{Event}
use Rattle.packet_reader.specs.declared.event.Event.TheVariants.{Set, Del, Packet, Carry, Sync}
use Rattle.flow_types.specs.declared.key.FlowKey.{FlowKey}
use Rattle.flow_types.specs.declared.record.Flow.{Flow}
use Rattle.group_history.specs.declared.refused.UpdateRefused.{UpdateRefused}
use Rattle.group_history.specs.declared.refused.UpdateRefused.TheVariants.{Spent, Absent, BlockFull, RowsFull, OutOfMemory}
use Rattle.group_history.specs.declared.update.Update.{Update}
use Rattle.group_history.specs.declared.update.Update.TheVariants as update
use Rattle.group_history.specs.Acceptance.{ComesTo, Grounds, grounds}
use Rattle.group_history.proofs.OneCase.{one_case}
use Rattle.run_model.specs.declared.reply.Reply.{Reply}
use Rattle.run_model.specs.declared.reply.Reply.TheVariants.{Found, Unknown, Nowhere, Applied, RepeatHave, EarlyHave, Unsent}
use Rattle.run_model.specs.Allowed.{Allowed, AllowedFrom, Moment, PathThen, beginning, phase_end}
use Rattle.run_model.specs.Carrying.{after_carry, after_sync, carry_reply, turns_taken}
use Rattle.run_model.specs.State.{ClusterOpening, Journals, journal_of}
use Rattle.run_model.specs.Updates.{after_update, reply_by, update_owner, update_reply, verdict}
use Rattle.run_report.specs.Report.{AreOfTheirEvents, IsOfCarry, IsOfEvent, IsOfPacket}

-- ---- updates

-- what a set comes to is printed
set_case : (flow : Flow) (on : Grounds) (owner turns : ℕ) (why : Option UpdateRefused) → ComesTo (update.Set flow) on why → IsOfEvent (Set flow) (reply_by owner turns why)
set_case flow on owner turns None is = (tt, λ same. cc)
set_case flow on owner turns (Some (Spent limit)) is = (tt, λ same. cc)
set_case flow on owner turns (Some Absent) is = absurd is
set_case flow on owner turns (Some (BlockFull block)) is = (tt, λ same. cc)
set_case flow on owner turns (Some (RowsFull block needed free)) is = (tt, λ same. cc)
set_case flow on owner turns (Some OutOfMemory) is = absurd is

-- so is what a deletion comes to
del_case : (key : FlowKey) (on : Grounds) (owner turns : ℕ) (why : Option UpdateRefused) → ComesTo (update.Del key) on why → IsOfEvent (Del key) (reply_by owner turns why)
del_case key on owner turns None is = (tt, λ block same. cc)
del_case key on owner turns (Some (Spent limit)) is = (tt, λ block same. cc)
del_case key on owner turns (Some Absent) is = (tt, λ block same. cc)
del_case key on owner turns (Some (BlockFull block)) is = absurd is
del_case key on owner turns (Some (RowsFull block needed free)) is = (tt, λ other same. cc)
del_case key on owner turns (Some OutOfMemory) is = absurd is

module _ (opened : ClusterOpening) (journals : Journals) where
  abbrev owned : Update → ℕ
  owned update = update_owner opened update

  abbrev on : Update → Grounds
  on update = grounds opened.size opened.flows (journal_of journals (owned update)) update

  of_set : (flow : Flow) → IsOfEvent (Set flow) (update_reply opened journals (update.Set flow))
  unfolding update_reply
  of_set flow =
      set_case flow (on (update.Set flow)) (owned (update.Set flow)) (length (journal_of journals (owned (update.Set flow)))) (verdict opened journals (update.Set flow))
      ((one_case (update.Set flow) (on (update.Set flow)) (verdict opened journals (update.Set flow))).1 refl)

  of_del : (key : FlowKey) → IsOfEvent (Del key) (update_reply opened journals (update.Del key))
  unfolding update_reply
  of_del key =
      del_case key (on (update.Del key)) (owned (update.Del key)) (length (journal_of journals (owned (update.Del key)))) (verdict opened journals (update.Del key))
      ((one_case (update.Del key) (on (update.Del key)) (verdict opened journals (update.Del key))).1 refl)

-- ---- messages and packets

carry_case : (unsent repeat early : Bool) (have : ℕ) → IsOfCarry (cond unsent Unsent (cond repeat (RepeatHave have) (cond early (EarlyHave have) Applied)))
carry_case true repeat early have = tt
carry_case false true early have = tt
carry_case false false true have = tt
carry_case false false false have = tt

of_carry : (sent have turn : ℕ) → IsOfCarry (carry_reply sent have turn)
unfolding carry_reply
of_carry sent have turn = carry_case _ _ _ have

of_path : (opened : ClusterOpening) (lanes : ℕ) (m : Moment) (end : Journals) (ingress : ℕ) (key : FlowKey) (reply : Reply) (Rest : Moment → Type 0)
    → PathThen opened lanes m end ingress key reply Rest → IsOfPacket reply
of_path opened lanes m end ingress key (Found to seen fib info) Rest path = tt
of_path opened lanes m end ingress key (Unknown to seen fib) Rest path = tt
of_path opened lanes m end ingress key (Nowhere seen) Rest path = tt
of_path opened lanes m end ingress key _ Rest path = absurd path

-- what a path leaves of the run: a moment from which the rest goes on, with the same journals and the same turns taken
pub record GoesOn (m : Moment) (Rest : Moment → Type 0) : Type 0 where
  pub next : Moment
  pub now_is : next.now ≡ m.now
  pub nodes_is : next.nodes ≡ m.nodes
  pub rest : Rest next

pub goes_on : (opened : ClusterOpening) (lanes : ℕ) (m : Moment) (end : Journals) (ingress : ℕ) (key : FlowKey) (reply : Reply) (Rest : Moment → Type 0)
    → PathThen opened lanes m end ingress key reply Rest → GoesOn m Rest
goes_on opened lanes m end ingress key (Found to seen fib info) Rest (cut, fib_cut, s, a, rest) = record { next = _; now_is = refl; nodes_is = refl; rest = rest }
goes_on opened lanes m end ingress key (Unknown to seen fib) Rest (cut, fib_cut, s, a, rest) = record { next = _; now_is = refl; nodes_is = refl; rest = rest }
goes_on opened lanes m end ingress key (Nowhere seen) Rest (cut, s, rest) = record { next = _; now_is = refl; nodes_is = refl; rest = rest }
goes_on opened lanes m end ingress key _ Rest path = absurd path

-- ---- a script

module _ (opened : ClusterOpening) (lanes : ℕ) where
  of_their_events : (script : List Event) (replies : List Reply) (m : Moment) → AllowedFrom opened lanes m script replies → AreOfTheirEvents script replies
  of_their_events [] [] m allowed = tt
  of_their_events [] (reply ∷ replies) m allowed = absurd allowed
  of_their_events (Set flow ∷ script) [] m allowed = absurd allowed
  of_their_events (Del key ∷ script) [] m allowed = absurd allowed
  of_their_events (Packet ingress key ∷ script) [] m allowed = absurd allowed
  of_their_events (Carry node owner turn part ∷ script) [] m allowed = absurd allowed
  of_their_events (Sync ∷ script) [] m allowed = absurd allowed
  of_their_events (Set flow ∷ script) (reply ∷ replies) m allowed = (
    subst (IsOfEvent (Set flow)) (sym allowed.0) (of_set opened m.now flow),
    of_their_events script replies (record m { now = after_update opened m.now (update.Set flow) }) allowed.1,
  )
  of_their_events (Del key ∷ script) (reply ∷ replies) m allowed = (
    subst (IsOfEvent (Del key)) (sym allowed.0) (of_del opened m.now key),
    of_their_events script replies (record m { now = after_update opened m.now (update.Del key) }) allowed.1,
  )
  of_their_events (Packet ingress key ∷ script) (reply ∷ replies) m allowed =
      let end = phase_end opened m.now script in
      let Rest : Moment → Type 0 = λ next. AllowedFrom opened lanes next script replies in
      let after = goes_on opened lanes m end ingress key reply Rest allowed in
      (of_path opened lanes m end ingress key reply Rest allowed, of_their_events script replies after.next after.rest)
  of_their_events (Carry node owner turn part ∷ script) (reply ∷ replies) m allowed = (
    subst IsOfCarry (sym allowed.0) (of_carry (length (journal_of m.now owner)) (turns_taken part m.nodes node owner) turn),
    of_their_events script replies (record m { nodes = after_carry m.now m.nodes node owner turn part }) allowed.1,
  )
  of_their_events (Sync ∷ script) (reply ∷ replies) m allowed = (
    allowed.0,
    of_their_events script replies (record m { start = m.now; nodes = after_sync m.now m.nodes }) allowed.1,
  )

-- allowed replies are of their events' kinds
pub allowed_are_of_their_events : (opened : ClusterOpening) (lanes : ℕ) (script : List Event) (replies : List Reply) → Allowed opened lanes script replies
    → AreOfTheirEvents script replies
allowed_are_of_their_events opened lanes script replies allowed = of_their_events opened lanes script replies (beginning opened) allowed
