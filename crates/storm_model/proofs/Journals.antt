-- What owners have accepted from phase to phase.
use Rattle.std.proofs.Common.{◌≡◌, ◌∙◌, ◌<◌, ◌≤◌, ℕ, Bool, true, false, cond, List, [], ◌∷◌, length, Option, Some, None, refl, sym, subst, arith, ⊎_elim}
use Rattle.std.specs.Prelude.{◌==◌, All}
use Rattle.std.proofs.lemmas.Bool.{cases_lt, eqb-true}
use Rattle.std.proofs.lemmas.List.{get_or_past, length-replicate}
use Rattle.std.proofs.lemmas.List.Elements.{All-head, All-nil, All-push, All-tail}
use Rattle.flow_types.specs.Size.{IsShape, owners_in}
use Rattle.group_history.specs.declared.change.Change.{Change}
use Rattle.flow_types.specs.Key.{IsKeyValue}
use Rattle.packet_reader.specs.declared.event.Event.{Event}
use Rattle.packet_reader.specs.declared.event.Event.TheVariants.{Set, Del, Packet, Carry, Sync}
use Rattle.delta_codec.specs.Journals.{IsJournalOf, IsOwnChange}
use Rattle.group_history.specs.declared.refused.UpdateRefused.{UpdateRefused}
use Rattle.group_history.specs.declared.update.Update.{Update}
use Rattle.group_history.specs.declared.update.Update.TheVariants as update
use Rattle.group_history.specs.Acceptance.{change_of, updated_key}
use Rattle.run_model.specs.Allowed.{phase_end}
use Rattle.run_model.specs.Laws.{CanBeOpened, no_journals}
use Rattle.run_model.specs.State.{ClusterOpening, journal_of}
use Rattle.run_model.specs.Updates.{update_owner}
use Rattle.run_model.proofs.Accepting.{empty-journal, sound-end, sound-first}
use Rattle.storm_model.specs.Laws.{JournalsGoOn}
use Rattle.storm_model.specs.Merging.{owner_of_key}
use Rattle.storm_model.specs.Owners.{HasNoUpdate, IsNotOf, changes_by, own_after, own_changes, own_verdict}
use Rattle.storm_model.specs.Run.{AreJournals, IsRow}
use Rattle.storm_model.proofs.Idle.{accepts-nothing}
use Rattle.storm_model.proofs.Lists.{owner_has}
use Rattle.storm_model.proofs.Phases.{own-end, whole-end}

-- ---- an owner's changes are of its groups

module _ (opened : ClusterOpening) where
  is-own : (asked : Update) → IsKeyValue (updated_key asked) → IsOwnChange opened.size (update_owner opened asked) opened.flows (change_of opened.size opened.flows asked)
  is-own asked value = record { key = value; at_home = refl; owned = refl }

  module _ (owner : ℕ) where
    abbrev IsOwn : Change → Type 0
    IsOwn change = IsOwnChange opened.size owner opened.flows change

    by-own : (changes : List Change) (change : Change) (why : Option UpdateRefused) → All IsOwn changes → IsOwn change → All IsOwn (changes_by changes change why)
    by-own changes change None own is = All-push IsOwn changes change own is
    by-own changes change (Some refused) own is = own

    after-own : (changes : List Change) (asked : Update) → IsKeyValue (updated_key asked) → update_owner opened asked ≡ owner → All IsOwn changes
        → All IsOwn (own_after opened changes asked)
    after-own changes asked value is own =
        by-own changes (change_of opened.size opened.flows asked) (own_verdict opened changes asked) own
        (subst (λ (o : ℕ). IsOwnChange opened.size o opened.flows (change_of opened.size opened.flows asked)) is (is-own asked value))

    -- of either way of an update
    either : (asked : Update) (value : IsKeyValue (updated_key asked)) (changes : List Change) (script : List Event) → All IsOwn changes
        → ((now : List Change) → All IsOwn now → All IsOwn (own_changes opened owner now script)) → (mine : Bool) → (update_owner opened asked == owner) ≡ mine
        → All IsOwn (cond mine (own_changes opened owner (own_after opened changes asked) script) (own_changes opened owner changes script))
    either asked value changes script own on true is = on (own_after opened changes asked) (after-own changes asked value (eqb-true (update_owner opened asked) owner is) own)
    either asked value changes script own on false is = on changes own

    pub stay-own : (script : List Event) (changes : List Change) → All (IsRow opened) script → IsJournalOf opened.size owner opened.flows changes
        → IsJournalOf opened.size owner opened.flows (own_changes opened owner changes script)
    stay-own [] changes rows own = own
    stay-own (Set flow ∷ script) changes rows own =
        let later = All-tail (IsRow opened) (Set flow) script rows in
        either (update.Set flow) (All-head (IsRow opened) (Set flow) script rows).value changes script own
        (λ (now : List Change) (so : All IsOwn now). stay-own script now later so) (update_owner opened (update.Set flow) == owner) refl
    stay-own (Del key ∷ script) changes rows own =
        let later = All-tail (IsRow opened) (Del key) script rows in
        either (update.Del key) (All-head (IsRow opened) (Del key) script rows).value changes script own
        (λ (now : List Change) (so : All IsOwn now). stay-own script now later so) (update_owner opened (update.Del key) == owner) refl
    stay-own (Packet ingress key ∷ script) changes rows own = stay-own script changes (All-tail (IsRow opened) (Packet ingress key) script rows) own
    stay-own (Carry node of turn part ∷ script) changes rows own = stay-own script changes (All-tail (IsRow opened) (Carry node of turn part) script rows) own
    stay-own (Sync ∷ script) changes rows own = stay-own script changes (All-tail (IsRow opened) Sync script rows) own

  -- ---- an owner without a block has none

  module _ (shape : IsShape opened.size.nodes opened.size.blocks) (owner : ℕ) (past : owners_in opened.size ≤ owner) where
    not-of : (event : Event) → IsNotOf opened.size owner event
    not-of (Set flow) = λ (e : owner_of_key opened.size flow.key ≡ owner). absurd (let low = owner_has opened shape flow.key in omega (arith, low, past, e))
    not-of (Del key) = λ (e : owner_of_key opened.size key ≡ owner). absurd (let low = owner_has opened shape key in omega (arith, low, past, e))
    not-of (Packet ingress key) = tt
    not-of (Carry node of turn part) = tt
    not-of Sync = tt

    pub no-update-past : (script : List Event) → HasNoUpdate opened.size owner script
    no-update-past script = λ i d low. not-of _

  -- ---- from phase to phase

  pub journals-first : CanBeOpened opened → AreJournals opened (no_journals opened)
  journals-first can = record {
    whole = length-replicate opened.size.nodes [];
    sounds = sound-first opened can;
    own = λ owner has.
        subst (IsJournalOf opened.size owner opened.flows) (sym (empty-journal opened.size.nodes owner)) (All-nil (IsOwnChange opened.size owner opened.flows));
    none = λ owner past. empty-journal opened.size.nodes owner;
  }

pub journals_go_on : JournalsGoOn
journals_go_on opened journals script shape one rows are =
    let ends = phase_end opened journals script in
    let whole = whole-end opened script journals ∙ are.whole in
    record {
      whole = whole;
      sounds = sound-end opened script journals rows are.sounds;
      own = λ owner has.
          let low : owner < length journals = omega (arith, has, are.whole) in
          subst (IsJournalOf opened.size owner opened.flows) (sym (own-end opened script journals owner one low))
          (stay-own opened owner script (journal_of journals owner) rows (are.own owner has));
      none = λ owner past.
          ⊎_elim
          (λ (low : owner < length journals).
          own-end opened script journals owner one low ∙ accepts-nothing opened owner (journal_of journals owner) script (no-update-past opened shape owner past script) ∙ are.none owner past)
          (λ (over : length journals ≤ owner). get_or_past ends owner [] (omega (arith, over, whole, are.whole)))
          (cases_lt owner (length journals));
    }
