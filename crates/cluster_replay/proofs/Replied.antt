-- The replies to a script, event by event.
use Rattle.std.proofs.Common.{◌≡◌, ◌∙◌, ◌<◌, ◌≤◌, ◌+◌, ℕ, List, [], ◌∷◌, ◌++◌, length, drop, get_or, refl, sym, ap, subst}
use Rattle.std.specs.Prelude.{All}
use Rattle.std.proofs.lemmas.List.{append-nil, append_assoc, at_drop_all, at_drop_more}
use Rattle.packet_reader.specs.declared.event.Event.{Event}
use Rattle.packet_reader.specs.declared.event.Event.TheVariants.{Set, Del, Packet, Carry, Sync}
use Rattle.packet_reader.specs.declared.mode.Mode.TheVariants.{Replay}
use Rattle.packet_reader.specs.Form.{IsFormed}
use Rattle.run_model.specs.declared.reply.Reply.{Reply}
use Rattle.run_model.specs.Laws.{state_after_all}
use Rattle.run_model.specs.Replaying.{fresh, replayed_with_updates, replies_from, reply_in, state_after}
use Rattle.run_model.specs.State.{ClusterOpening, ClusterState}

-- no event changes the opening
pub opened_stays : (state : ClusterState) (event : Event) → (state_after state event).opened ≡ state.opened
unfolding state_after
opened_stays state (Set flow) = refl
opened_stays state (Del key) = refl
opened_stays state (Packet ingress key) = refl
opened_stays state (Carry node owner turn part) = refl
opened_stays state Sync = refl

-- the replies so far and those to the events that are left are the replies to all, and the cluster goes on as it does with all
pub record AreReplied (first : ClusterState) (script : List Event) (now : ClusterState) (i : ℕ) (replies : List Reply) : Type 0 where
  pub opened : now.opened ≡ first.opened
  pub replied : replies ++ replies_from now (drop i script) ≡ replies_from first script
  pub goes_on : state_after_all now (drop i script) ≡ state_after_all first script

pub none_replied : (first : ClusterState) (script : List Event) → AreReplied first script first 0 []
none_replied first script = record { opened = refl; replied = refl; goes_on = refl }

-- one more reply
pub one_replied : (first now then : ClusterState) (script : List Event) (i : ℕ) (d : Event) → i < length script → (done : List Reply) (reply : Reply)
    → AreReplied first script now i done → reply ≡ reply_in now (get_or script i d) → then ≡ state_after now (get_or script i d)
    → AreReplied first script then (i + 1) (done ++ reply ∷ [])
unfolding replies_from state_after_all
one_replied first now then script i d inside done reply so_far says goes =
    let event = get_or script i d in
    record {
      opened = ap (λ (s : ClusterState). s.opened) goes ∙ opened_stays now event ∙ so_far.opened;
      replied =
          append_assoc done (reply ∷ []) (replies_from then (drop (i + 1) script))
          ∙ ap (λ (r : Reply). done ++ r ∷ replies_from then (drop (i + 1) script)) says
          ∙ ap (λ (s : ClusterState). done ++ reply_in now event ∷ replies_from s (drop (i + 1) script)) goes
          ∙ ap (λ (rest : List Reply). done ++ rest) (sym (at_drop_more (replies_from now) script i d inside))
          ∙ so_far.replied;
      goes_on =
          ap (λ (s : ClusterState). state_after_all s (drop (i + 1) script)) goes
          ∙ sym (at_drop_more (state_after_all now) script i d inside)
          ∙ so_far.goes_on;
    }

-- all replies
pub all_replied : (first now : ClusterState) (script : List Event) (i : ℕ) (done : List Reply) → length script ≤ i → AreReplied first script now i done → done ≡ replies_from first script
unfolding replies_from
all_replied first now script i done past so_far =
    sym (append-nil done) ∙ ap (λ (rest : List Reply). done ++ rest) (sym (at_drop_all (replies_from now) script i past)) ∙ so_far.replied

pub all_gone_on : (first now : ClusterState) (script : List Event) (i : ℕ) (done : List Reply) → length script ≤ i → AreReplied first script now i done → now ≡ state_after_all first script
unfolding state_after_all
all_gone_on first now script i done past so_far = sym (at_drop_all (state_after_all now) script i past) ∙ so_far.goes_on

-- ---- the cluster of an opening

pub formed_there : (state : ClusterState) (opening : ClusterOpening) (script : List Event) → state ≡ fresh opening → All (IsFormed Replay opening.size) script
    → All (IsFormed Replay state.opened.size) script
unfolding fresh
formed_there state opening script is formed = subst (λ (s : ClusterState). All (IsFormed Replay s.opened.size) script) (sym is) formed

-- its replies are those of a replay
pub replies_are : (state : ClusterState) (opening : ClusterOpening) (script : List Event) (replies : List Reply) → state ≡ fresh opening → replies ≡ replies_from state script
    → replies ≡ replayed_with_updates opening script
unfolding replayed_with_updates
replies_are state opening script replies is made = made ∙ ap (λ (s : ClusterState). replies_from s script) is
