-- One event after the other, of an owner.
use Rattle.std.proofs.Common.{◌≡◌, ◌≢◌, ◌∙◌, ℕ, Bool, true, false, List, [], ◌∷◌, ◌++◌, length, Option, Some, None, Ok, Err, refl, sym, ap, append_assoc, eq-eqb}
use Rattle.std.specs.Prelude.{◌==◌}
use Rattle.std.proofs.lemmas.Bool.{eqb-true}
use Rattle.flow_types.specs.declared.key.FlowKey.{FlowKey}
use Rattle.flow_types.specs.declared.record.Flow.{Flow}
use Rattle.flow_types.specs.Size.{Size}
use Rattle.group_history.specs.declared.change.Change.{Change}
use Rattle.packet_reader.specs.declared.event.Event.{Event}
use Rattle.packet_reader.specs.declared.event.Event.TheVariants.{Set, Del, Packet, Carry, Sync}
use Rattle.group_history.specs.declared.update.Update.{Update}
use Rattle.group_history.specs.declared.update.Update.TheVariants as update
use Rattle.group_history.specs.declared.refused.UpdateRefused.{UpdateRefused}
use Rattle.group_history.specs.declared.refused.UpdateRefused.TheVariants.{Spent, Absent, BlockFull, RowsFull, OutOfMemory}
use Rattle.rib_owner.specs.Judging.{IsFor}
use Rattle.turn_log.specs.Sender.{AnswersSender}
use Rattle.run_model.specs.declared.reply.Reply.TheVariants.{Accepted, Refused}
use Rattle.group_history.specs.Acceptance.{change_of, updated_key}
use Rattle.run_model.specs.declared.reply.Reply.{Reply}
use Rattle.run_model.specs.State.{ClusterOpening}
use Rattle.run_model.specs.Updates.{reply_by, update_owner}
use Rattle.group_search.specs.Home.{home}
use Rattle.storm_model.specs.Merging.{behind_with, owner_of_key}
use Rattle.storm_model.specs.Owners.{changes_by, own_after, own_changes, own_replies, own_reply, own_verdict}
use Rattle.turn_relay.specs.OwnWork.{IsAsked, SaysOwn, opening_of}

-- how far the owner has come
pub record OwnsSoFar (opened : ClusterOpening) (owner : ℕ) (events : List Event) (before now : List Change) (rest : List Event) (replies replies' : List Reply) : Type 0 where
  pub on : replies' ++ own_replies opened owner now rest ≡ replies ++ own_replies opened owner before events
  pub ends : own_changes opened owner now rest ≡ own_changes opened owner before events

-- the owner of an update's key
owner_key : (opened : ClusterOpening) (asked : Update) → update_owner opened asked ≡ owner_of_key opened.size (updated_key asked)
unfolding home
owner_key opened asked = refl

module _ (opened : ClusterOpening) (owner : ℕ) where
  mine : (asked : Update) → owner_of_key opened.size (updated_key asked) ≡ owner → (update_owner opened asked == owner) ≡ true
  mine asked is = eq-eqb (update_owner opened asked) owner (owner_key opened asked ∙ is)

  others : (asked : Update) → owner_of_key opened.size (updated_key asked) ≢ owner → (update_owner opened asked == owner) ≡ false
  others asked isnt = by (update_owner opened asked == owner) refl
    where
      by : (same : Bool) → (update_owner opened asked == owner) ≡ same → (update_owner opened asked == owner) ≡ false
      by true is = absurd (isnt (sym (owner_key opened asked) ∙ eqb-true (update_owner opened asked) owner is))
      by false is = is

  says_set : (flow : Flow) (before after : List Change) (reply : Reply) → owner_of_key opened.size flow.key ≡ owner
      → reply ≡ own_reply opened owner before (update.Set flow) → after ≡ own_after opened before (update.Set flow) → SaysOwn opened owner (Set flow) before after (Some reply)
  says_set flow before after reply is said grown = record {
    replies = λ script. rw (mine (update.Set flow) is) (λ i. sym said i ∷ own_replies opened owner (sym grown i) script);
    changes = λ script. rw (mine (update.Set flow) is) (ap (λ (changes : List Change). own_changes opened owner changes script) (sym grown));
  }

  says_del : (key : FlowKey) (before after : List Change) (reply : Reply) → owner_of_key opened.size key ≡ owner
      → reply ≡ own_reply opened owner before (update.Del key) → after ≡ own_after opened before (update.Del key) → SaysOwn opened owner (Del key) before after (Some reply)
  says_del key before after reply is said grown = record {
    replies = λ script. rw (mine (update.Del key) is) (λ i. sym said i ∷ own_replies opened owner (sym grown i) script);
    changes = λ script. rw (mine (update.Del key) is) (ap (λ (changes : List Change). own_changes opened owner changes script) (sym grown));
  }

  passes_set : (flow : Flow) (before : List Change) → owner_of_key opened.size flow.key ≢ owner → SaysOwn opened owner (Set flow) before before None
  passes_set flow before isnt = record {
    replies = λ script. rw (others (update.Set flow) isnt) refl;
    changes = λ script. rw (others (update.Set flow) isnt) refl;
  }

  passes_del : (key : FlowKey) (before : List Change) → owner_of_key opened.size key ≢ owner → SaysOwn opened owner (Del key) before before None
  passes_del key before isnt = record {
    replies = λ script. rw (others (update.Del key) isnt) refl;
    changes = λ script. rw (others (update.Del key) isnt) refl;
  }

  -- what is said of an event by the update that it asks of the owner
  pub says : (event : Event) (before after : List Change) (asked : Update) (reply : Reply) → IsAsked opened.size owner event (Some asked)
      → reply ≡ own_reply opened owner before asked → after ≡ own_after opened before asked → SaysOwn opened owner event before after (Some reply)
  says (Set flow) before after asked reply (is, mine) said grown =
      says_set flow before after reply mine (said ∙ ap (own_reply opened owner before) is) (grown ∙ ap (own_after opened before) is)
  says (Del key) before after asked reply (is, mine) said grown =
      says_del key before after reply mine (said ∙ ap (own_reply opened owner before) is) (grown ∙ ap (own_after opened before) is)
  says (Packet ingress key) before after asked reply is said grown = absurd (cc is)
  says (Carry node of turn part) before after asked reply is said grown = absurd (cc is)
  says Sync before after asked reply is said grown = absurd (cc is)

  pub passes : (event : Event) (before : List Change) → IsAsked opened.size owner event None → SaysOwn opened owner event before before None
  passes (Set flow) before isnt = passes_set flow before isnt
  passes (Del key) before isnt = passes_del key before isnt
  passes (Packet ingress key) before is = record { replies = λ script. refl; changes = λ script. refl }
  passes (Carry node of turn part) before is = record { replies = λ script. refl; changes = λ script. refl }
  passes Sync before is = record { replies = λ script. refl; changes = λ script. refl }

  -- ---- all events

  module _ (events : List Event) (before : List Change) (replies : List Reply) where
    pub owns_first : OwnsSoFar opened owner events before before events replies replies
    owns_first = record { on = refl; ends = refl }

    pub owns_step : (event : Event) (rest : List Event) (now after : List Change) (said : Option Reply) (so_far : List Reply)
        → SaysOwn opened owner event now after said → OwnsSoFar opened owner events before now (event ∷ rest) replies so_far
        → OwnsSoFar opened owner events before after rest replies (behind_with so_far said)
    owns_step event rest now after None so_far says far = record {
      on = ap (λ (rs : List Reply). so_far ++ rs) (sym (says.replies rest)) ∙ far.on;
      ends = sym (says.changes rest) ∙ far.ends;
    }
    owns_step event rest now after (Some reply) so_far says far = record {
      on = append_assoc so_far (reply ∷ []) (own_replies opened owner after rest) ∙ ap (λ (rs : List Reply). so_far ++ rs) (sym (says.replies rest)) ∙ far.on;
      ends = sym (says.changes rest) ∙ far.ends;
    }

-- ---- an owner's answer

is_refused : (why : Option UpdateRefused) (refused : UpdateRefused) → refused ≢ OutOfMemory → IsFor why refused → why ≡ Some refused
is_refused why (Spent limit) isnt is = is
is_refused why Absent isnt is = is
is_refused why (BlockFull block) isnt is = is
is_refused why (RowsFull block needed free) isnt is = is
is_refused why OutOfMemory isnt is = absurd (isnt refl)

module _ (size : Size) (flows : List Flow) (number : ℕ) (changes : List Change) (asked : Update) where
  abbrev opened : ClusterOpening
  opened = opening_of size flows

  pub accepted_says : (turn : ℕ) (after : List Change) → AnswersSender size flows changes asked after (Ok turn) → Accepted number turn ≡ own_reply opened number changes asked
  accepted_says turn after answers = (λ i. Accepted number (answers.1 i)) ∙ sym (ap (λ (why : Option UpdateRefused). reply_by number (length changes) why) answers.0)

  pub accepted_grows : (turn : ℕ) (after : List Change) → AnswersSender size flows changes asked after (Ok turn) → after ≡ own_after opened changes asked
  accepted_grows turn after answers = answers.2 ∙ sym (ap (λ (why : Option UpdateRefused). changes_by changes (change_of size flows asked) why) answers.0)

  pub refused_says : (refused : UpdateRefused) (after : List Change) → refused ≢ OutOfMemory → AnswersSender size flows changes asked after (Err refused)
      → Refused refused ≡ own_reply opened number changes asked
  refused_says refused after isnt answers =
      sym (ap (λ (why : Option UpdateRefused). reply_by number (length changes) why) (is_refused (own_verdict opened changes asked) refused isnt answers))

  pub refused_stays : (refused : UpdateRefused) (after : List Change) → refused ≢ OutOfMemory → AnswersSender size flows changes asked after (Err refused)
      → changes ≡ own_after opened changes asked
  refused_stays refused after isnt answers =
      sym (ap (λ (why : Option UpdateRefused). changes_by changes (change_of size flows asked) why) (is_refused (own_verdict opened changes asked) refused isnt answers))

pub ruleset accepting = (accepted_says, accepted_grows, refused_says, refused_stays)
