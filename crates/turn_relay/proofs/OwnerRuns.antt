-- How far an owner has come in a phase.
use Rattle.std.proofs.Common.{◌≡◌, ◌∙◌, ℕ, Bool, List, [], ◌∷◌, ◌++◌, length, take, drop, Some, None, refl, sym, ap, subst, append-nil, arith, add-one, drop-cons, get_or, ◌+◌, ◌<◌}
use Rattle.std.proofs.Math.Seq.{take-append_seam}
use Rattle.flow_types.specs.declared.record.Flow.{Flow}
use Rattle.flow_types.specs.Size.{Size}
use Rattle.packet_reader.specs.declared.event.Event.{Event}
use Rattle.group_history.specs.declared.update.Update.{Update}
use Rattle.turn_log.specs.Sender.{IsSenderOf, SenderState, changes_in}
use Rattle.node_link.specs.Ends.{End}
use Rattle.run_model.specs.declared.reply.Reply.{Reply}
use Rattle.storm_model.specs.Owners.{own_after, own_reply}
use Rattle.turn_relay.specs.OwnWork.{AnswersOne, HasOwned, IsAsked, SaysOwn, opening_of}
use Rattle.turn_relay.specs.OwnerState.{HasSentAll, IsOwner, IsSameLink, IsSameOwner, OwnerState, Stands, journal_in}
use Rattle.turn_relay.specs.Each.{Each}
use Rattle.turn_relay.specs.Sent.{AreAllSent}
use Rattle.turn_relay.proofs.OwnerSaid.{OwnsSoFar, owns_first, owns_step, passes, says}
use Rattle.turn_relay.proofs.Runs.{each_length, links_self, links_sized, links_trans}

pub same_owner : (owner : OwnerState) → IsSameOwner owner owner
same_owner owner = record { size = refl; number = refl; links = links_self owner.ends }

pub same_owner_trans : (first between last : OwnerState) → IsSameOwner first between → IsSameOwner between last → IsSameOwner first last
same_owner_trans first between last a b = record {
  size = b.size ∙ a.size;
  number = b.number ∙ a.number;
  links = links_trans first.ends between.ends last.ends a.links b.links;
}

-- ---- one event

pub all_new : {A : Type 0} (old new : List A) (many : ℕ) → length new ≡ many → take many (new ++ drop (length new) old) ≡ new
all_new old new many is = ap (λ (n : ℕ). take n (new ++ drop (length new) old)) (sym is) ∙ take-append_seam new (drop (length new) old)

pub answers_none : (flows : List Flow) (event : Event) (owner : OwnerState) → IsAsked owner.size owner.number event None → AnswersOne flows event owner owner
answers_none flows event owner isnt = record {
  said = None;
  says = passes (opening_of owner.size flows) owner.number event (journal_in owner) isnt;
  behind = refl;
  sent = λ sent. sent;
}

-- the owner with its sender and its ends after an update
module _ (before : OwnerState) (is : IsOwner before.size before.number before.sender before.ends) (flows : List Flow) (sender : SenderState)
    (stands : IsSenderOf before.size before.number flows sender) (given told : List End) (same : given ≡ before.ends) (links : Each IsSameLink given told)
    (many : ℕ) (as_many : length given ≡ many) where
  abbrev put_back : List End
  put_back = take many (told ++ drop (length told) before.ends)

  back : put_back ≡ told
  back = all_new before.ends told many (each_length IsSameLink given told links ∙ as_many)

  links_back : Each IsSameLink before.ends put_back
  links_back = subst (λ (ends : List End). Each IsSameLink ends put_back) same (subst (λ (ends : List End). Each IsSameLink given ends) (sym back) links)

  pub is_owner : IsOwner before.size before.number sender put_back
  is_owner = record {
    sized = stands.sized;
    numbered = stands.numbered;
    few = omega (arith, is.few, each_length IsSameLink before.ends put_back links_back);
    ends_sized = links_sized before.size before.ends put_back links_back is.ends_sized;
  }

  module _ (replies : List Reply) (failed : Bool) where
    abbrev after : OwnerState
    after = record { size = before.size; number = before.number; sender = sender; ends = put_back; replies = replies; failed = failed }

    pub is_same : IsSameOwner before after
    is_same = record { size = refl; number = refl; links = links_back }

    pub answers_some : (event : Event) (asked : Update) (reply : Reply) → IsAsked before.size before.number event (Some asked)
        → reply ≡ own_reply (opening_of before.size flows) before.number (journal_in before) asked
        → changes_in sender ≡ own_after (opening_of before.size flows) (journal_in before) asked
        → (AreAllSent before.size before.number flows (journal_in before) given → AreAllSent before.size before.number flows (changes_in sender) told)
        → replies ≡ before.replies ++ reply ∷ [] → AnswersOne flows event before after
    answers_some event asked reply asks said grown sends behind = record {
      said = Some reply;
      says = says (opening_of before.size flows) before.number event (journal_in before) (changes_in sender) asked reply asks said grown;
      behind = behind;
      sent = λ sent.
          subst (AreAllSent before.size before.number flows (changes_in sender)) (sym back)
          (sends (subst (AreAllSent before.size before.number flows (journal_in before)) (sym same) sent));
    }

-- ---- all events

pub record OwnerSoFar (flows : List Flow) (events : List Event) (first now : OwnerState) (rest : List Event) : Type 0 where
  pub same : IsSameOwner first now
  pub stands : Stands flows now
  pub far : OwnsSoFar (opening_of first.size flows) first.number events (journal_in first) (journal_in now) rest [] now.replies
  pub sent : HasSentAll flows first → HasSentAll flows now

module _ (flows : List Flow) (events : List Event) (first : OwnerState) where
  pub owner_first : first.replies ≡ [] → Stands flows first → OwnerSoFar flows events first first events
  owner_first none stands = record {
    same = same_owner first;
    stands = stands;
    far = subst (OwnsSoFar (opening_of first.size flows) first.number events (journal_in first) (journal_in first) events []) (sym none)
        (owns_first (opening_of first.size flows) first.number events (journal_in first) []);
    sent = λ sent. sent;
  }

  pub owner_step : (event : Event) (rest : List Event) (now next : OwnerState) → OwnerSoFar flows events first now (event ∷ rest) → IsSameOwner now next → Stands flows next
      → AnswersOne flows event now next → OwnerSoFar flows events first next rest
  owner_step event rest now next so_far same stands answers =
      let says : SaysOwn (opening_of first.size flows) first.number event (journal_in now) (journal_in next) answers.said =
      subst (λ (n : ℕ). SaysOwn (opening_of first.size flows) n event (journal_in now) (journal_in next) answers.said) so_far.same.number
      (subst (λ (s : Size). SaysOwn (opening_of s flows) now.number event (journal_in now) (journal_in next) answers.said) so_far.same.size answers.says) in record {
        same = same_owner_trans first now next so_far.same same;
        stands = stands;
        far = subst (OwnsSoFar (opening_of first.size flows) first.number events (journal_in first) (journal_in next) rest []) (sym answers.behind)
            (owns_step (opening_of first.size flows) first.number events (journal_in first) [] event rest (journal_in now) (journal_in next) answers.said now.replies says so_far.far);
        sent = λ sent. answers.sent (so_far.sent sent);
      }

  pub owner_last : (now : OwnerState) → OwnerSoFar flows events first now [] → HasOwned flows events first now
  owner_last now so_far = record {
    replies = sym (append-nil now.replies) ∙ so_far.far.on;
    changes = so_far.far.ends;
    sent = so_far.sent;
  }

pub dropped : {A : Type 0} (xs : List A) (i : ℕ) (d : A) → i < length xs → drop i xs ≡ get_or xs i d ∷ drop (i + 1) xs
dropped xs i d low = rw (add-one, drop-cons xs i d) refl
