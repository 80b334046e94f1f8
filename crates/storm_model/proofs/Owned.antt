-- What owners make of their updates, each by itself, is what the model makes of all of them.
use Rattle.std.proofs.Common.{◌≡◌, ◌≢◌, ◌∙◌, ◌<◌, ℕ, Bool, true, false, cond, List, [], ◌∷◌, ◌++◌, length, Option, Some, None, refl, sym, ap, arith, eq-eqb}
use Rattle.std.specs.Prelude.{◌==◌, if◌then◌else◌}
use Rattle.std.proofs.lemmas.Bool.{eqb-true, eqb-false}
use Rattle.std.proofs.lemmas.List.{get_or-set_other, get_or-set_same, length-set}
use Rattle.flow_types.specs.Size.{IsShape}
use Rattle.group_search.specs.Home.{home}
use Rattle.group_history.specs.declared.change.Change.{Change}
use Rattle.group_history.specs.declared.update.Update.{Update}
use Rattle.group_history.specs.declared.refused.UpdateRefused.{UpdateRefused}
use Rattle.group_history.specs.Acceptance.{change_of, updated_key}
use Rattle.run_model.specs.declared.reply.Reply.{Reply}
use Rattle.run_model.specs.State.{Journals, ClusterOpening, journal_of}
use Rattle.run_model.specs.Updates.{after_update, journals_by, update_owner, update_reply, verdict}
use Rattle.storm_model.specs.Merging.{Queues, owner_of_key, with_queue}
use Rattle.storm_model.specs.Owners.{changes_by, own_after, own_reply}

by-own : (now : Journals) (owner : ℕ) (change : Change) (why : Option UpdateRefused) → owner < length now
    → journal_of (journals_by now owner change why) owner ≡ changes_by (journal_of now owner) change why
by-own now owner change None within = get_or-set_same now owner (journal_of now owner ++ change ∷ []) [] within
by-own now owner change (Some refused) within = refl

by-other : (now : Journals) (owner at : ℕ) (change : Change) (why : Option UpdateRefused) → at ≢ owner
    → journal_of (journals_by now owner change why) at ≡ journal_of now at
by-other now owner at change None other = get_or-set_other now owner at (journal_of now owner ++ change ∷ []) [] other
by-other now owner at change (Some refused) other = refl

by-length : (now : Journals) (owner : ℕ) (change : Change) (why : Option UpdateRefused) → length (journals_by now owner change why) ≡ length now
by-length now owner change None = length-set now owner (journal_of now owner ++ change ∷ [])
by-length now owner change (Some refused) = refl

module _ (opened : ClusterOpening) (now : Journals) (asked : Update) where
  pub after-own : update_owner opened asked < length now → journal_of (after_update opened now asked) (update_owner opened asked) ≡ own_after opened (journal_of now (update_owner opened asked)) asked
  unfolding after_update
  after-own within = by-own now (update_owner opened asked) (change_of opened.size opened.flows asked) (verdict opened now asked) within

  pub after-other : (at : ℕ) → at ≢ update_owner opened asked → journal_of (after_update opened now asked) at ≡ journal_of now at
  unfolding after_update
  after-other at other = by-other now (update_owner opened asked) at (change_of opened.size opened.flows asked) (verdict opened now asked) other

  pub after-length : length (after_update opened now asked) ≡ length now
  unfolding after_update
  after-length = by-length now (update_owner opened asked) (change_of opened.size opened.flows asked) (verdict opened now asked)

pub owner-low : (opened : ClusterOpening) → IsShape opened.size.nodes opened.size.blocks → (asked : Update) → update_owner opened asked < opened.size.nodes
owner-low opened shape asked = let some = shape.enough_nodes in omega arith

pub owner-key : (opened : ClusterOpening) (asked : Update) → update_owner opened asked ≡ owner_of_key opened.size (updated_key asked)
unfolding home
owner-key opened asked = refl

-- ---- one update, of which its owner and the other owners have what they have to say

module _ (opened : ClusterOpening) (now : Journals) (asked : Update) (queues : Queues) (Goes : (owner : ℕ) → List Change → List Reply) where
  abbrev mine : ℕ
  mine = update_owner opened asked

  -- what an owner has still to say before the update
  abbrev pub due : (owner : ℕ) → List Reply
  due owner =
      if mine == owner
      then own_reply opened owner (journal_of now owner) asked ∷ Goes owner (own_after opened (journal_of now owner) asked)
      else Goes owner (journal_of now owner)

  module _ (within : mine < length now) (each : (owner : ℕ) → owner < length now → queues owner ≡ due owner) (reply : Reply) (rest : List Reply)
      (next : queues mine ≡ reply ∷ rest) where
    due-own : due mine ≡ own_reply opened mine (journal_of now mine) asked ∷ Goes mine (own_after opened (journal_of now mine) asked)
    due-own = rw (eq-eqb mine mine refl) refl

    said : reply ∷ rest ≡ own_reply opened mine (journal_of now mine) asked ∷ Goes mine (own_after opened (journal_of now mine) asked)
    said = sym next ∙ each mine within ∙ due-own

    pub says : reply ≡ update_reply opened now asked
    unfolding update_reply
    says = let both = said in cc

    rest-is : rest ≡ Goes mine (own_after opened (journal_of now mine) asked)
    rest-is = let both = said in cc

    pub rests : (owner : ℕ) → owner < length now → with_queue queues mine rest owner ≡ Goes owner (journal_of (after_update opened now asked) owner)
    rests owner low = by (owner == mine) refl
      where
        by : (same : Bool) → (owner == mine) ≡ same → cond same rest (queues owner) ≡ Goes owner (journal_of (after_update opened now asked) owner)
        by true is =
            let same = eqb-true owner mine is in
            rest-is ∙ ap (Goes mine) (sym (after-own opened now asked within))
            ∙ ap (λ (o : ℕ). Goes o (journal_of (after_update opened now asked) o)) (sym same)
        by false is =
            let apart : owner ≢ mine = eqb-false owner mine is in
            each owner low ∙ other (mine == owner) refl apart ∙ ap (Goes owner) (sym (after-other opened now asked owner apart))
          where
            other : (turned : Bool) → (mine == owner) ≡ turned → owner ≢ mine
                → cond turned (own_reply opened owner (journal_of now owner) asked ∷ Goes owner (own_after opened (journal_of now owner) asked)) (Goes owner (journal_of now owner))
                ≡ Goes owner (journal_of now owner)
            other true e apart = absurd (apart (sym (eqb-true mine owner e)))
            other false e apart = refl
