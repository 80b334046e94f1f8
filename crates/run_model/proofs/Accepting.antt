-- What an update makes of the journals.
use Rattle.std.proofs.Common.{◌≡◌, ◌≢◌, ◌∙◌, ◌<◌, ◌≤◌, ℕ, List, [], ◌∷◌, ◌++◌, length, get_or, replicate, set, Option, Some, None, ⊎_elim, refl, sym, ap, subst, arith}
use Rattle.std.specs.Prelude.{All}
use Rattle.std.proofs.lemmas.Bool.{cases_eq, cases_lt}
use Rattle.std.proofs.lemmas.List.{get_or-replicate, get_or-set_other, get_or-set_same, get_or_past, length-replicate, set_past, take_all}
use Rattle.std.proofs.lemmas.List.Elements.{All-head, All-tail}
use mathlib.Core.List.{IsPrefix}
use Rattle.flow_types.proofs.Prefixes.{prefix_self, prefix_more, prefix_trans}
use Rattle.group_history.specs.declared.change.Change.{Change}
use Rattle.packet_reader.specs.declared.event.Event.{Event}
use Rattle.packet_reader.specs.declared.event.Event.TheVariants.{Set, Del, Packet, Carry, Sync}
use Rattle.group_history.specs.declared.update.Update.{Update}
use Rattle.group_history.specs.declared.update.Update.TheVariants as update
use Rattle.group_history.specs.declared.refused.UpdateRefused.{UpdateRefused}
use Rattle.group_history.specs.Acceptance.{change_of}
use Rattle.run_model.specs.Allowed.{phase_end}
use Rattle.run_model.specs.Laws.{CanBeOpened, IsRow, no_journals}
pub use Rattle.run_model.specs.Sound.{AreSoundJournals}
use Rattle.run_model.specs.Sound.{AreSound, AreSoundAlong}
use Rattle.run_model.specs.State.{Journals, ClusterOpening, journal_of}
use Rattle.run_model.specs.Updates.{after_update, journals_by, update_owner, verdict}
use Rattle.run_model.proofs.Maps.{FitsMaps, along-more, along-none, sound-more, sound-none}

-- what holds of the journals of an update's owner, before it and with it, and of journals that stay, holds of all
pushed : (Holds : List Change → Type 0) (journals : Journals) (at owner : ℕ) (change : Change) → Holds (journal_of journals at)
    → (owner ≡ at → Holds (journal_of journals owner ++ change ∷ [])) → Holds (journal_of (set journals owner (journal_of journals owner ++ change ∷ [])) at)
pushed Holds journals at owner change stays longer =
    ⊎_elim
    (λ (same : at ≡ owner).
    ⊎_elim
    (λ (within : owner < length journals).
    subst Holds (sym (ap (λ (o : ℕ). get_or (set journals owner (journal_of journals owner ++ change ∷ [])) o []) same
    ∙ get_or-set_same journals owner (journal_of journals owner ++ change ∷ []) [] within))
    (longer (sym same)))
    (λ (past : length journals ≤ owner).
    subst Holds (sym (ap (λ (js : Journals). journal_of js at) (set_past journals owner (journal_of journals owner ++ change ∷ []) past))) stays)
    (cases_lt owner (length journals)))
    (λ (other : at ≢ owner).
    subst Holds (sym (get_or-set_other journals owner at (journal_of journals owner ++ change ∷ []) [] other)) stays)
    (cases_eq at owner)

-- an owner that has accepted nothing
pub empty-journal : (nodes owner : ℕ) → journal_of (replicate nodes []) owner ≡ []
empty-journal nodes owner =
    ⊎_elim
    (λ (within : owner < nodes). get_or-replicate nodes owner [] [] within)
    (λ (past : nodes ≤ owner). get_or_past (replicate nodes []) owner [] (omega (arith, past, length-replicate {A = List Change} nodes [])))
    (cases_lt owner nodes)

module _ (opened : ClusterOpening) where
  grows-case : (journals : Journals) (owner at : ℕ) (change : Change) (why : Option UpdateRefused) → IsPrefix (journal_of journals at) (journal_of (journals_by journals owner change why) at)
  grows-case journals owner at change None =
      pushed (IsPrefix (journal_of journals at)) journals at owner change (prefix_self (journal_of journals at))
      (λ same. subst (λ (o : ℕ). IsPrefix (journal_of journals o) (journal_of journals owner ++ change ∷ [])) same (prefix_more (journal_of journals owner) (change ∷ [])))
  grows-case journals owner at change (Some refused) = prefix_self (journal_of journals at)

  -- an update takes nothing from a journal
  pub update-grows : (journals : Journals) (update : Update) (owner : ℕ) → IsPrefix (journal_of journals owner) (journal_of (after_update opened journals update) owner)
  unfolding after_update
  update-grows journals update owner =
      grows-case journals (update_owner opened update) owner (change_of opened.size opened.flows update) (verdict opened journals update)

  -- nor do the events up to the end of a phase
  pub phase-grows : (script : List Event) (journals : Journals) (owner : ℕ) → IsPrefix (journal_of journals owner) (journal_of (phase_end opened journals script) owner)
  unfolding phase_end
  phase-grows [] journals owner = prefix_self (journal_of journals owner)
  phase-grows (Set flow ∷ script) journals owner =
      prefix_trans (journal_of journals owner) (journal_of (after_update opened journals (update.Set flow)) owner)
      (journal_of (phase_end opened (after_update opened journals (update.Set flow)) script) owner) (update-grows journals (update.Set flow) owner) (phase-grows script (after_update opened journals (update.Set flow)) owner)
  phase-grows (Del key ∷ script) journals owner =
      prefix_trans (journal_of journals owner) (journal_of (after_update opened journals (update.Del key)) owner)
      (journal_of (phase_end opened (after_update opened journals (update.Del key)) script) owner) (update-grows journals (update.Del key) owner) (phase-grows script (after_update opened journals (update.Del key)) owner)
  phase-grows (Packet ingress key ∷ script) journals owner = phase-grows script journals owner
  phase-grows (Carry node of turn part ∷ script) journals owner = phase-grows script journals owner
  phase-grows (Sync ∷ script) journals owner = prefix_self (journal_of journals owner)

  -- ---- maps stay sound

  pub sound-first : CanBeOpened opened → AreSoundJournals opened (no_journals opened)
  sound-first can owner =
      subst (AreSoundAlong opened.size opened.flows) (sym (empty-journal opened.size.nodes owner))
      (along-none opened.size opened.flows (sound-none opened.size opened.flows can.distinct can.handled can.values can.within))

  sound-case : (journals : Journals) (update : Update) (at : ℕ) (why : Option UpdateRefused) → verdict opened journals update ≡ why → FitsMaps opened.size.nodes update
      → AreSoundJournals opened journals
      → AreSoundAlong opened.size opened.flows (journal_of (journals_by journals (update_owner opened update) (change_of opened.size opened.flows update) why) at)
  sound-case journals update at None accepted fits sounds =
      let owner = update_owner opened update in
      let journal = journal_of journals owner in
      pushed (AreSoundAlong opened.size opened.flows) journals at owner (change_of opened.size opened.flows update) (sounds at)
      (λ same. along-more opened.size opened.flows journal (change_of opened.size opened.flows update) (sounds owner)
      (sound-more opened.size opened.flows update fits journal
      (subst (AreSound opened.size opened.flows) (take_all (length journal) journal (omega arith)) (sounds owner (length journal))) accepted))
  sound-case journals update at (Some refused) why fits sounds = sounds at

  pub update-sound : (journals : Journals) (update : Update) → FitsMaps opened.size.nodes update → AreSoundJournals opened journals → AreSoundJournals opened (after_update opened journals update)
  unfolding after_update
  update-sound journals update fits sounds owner = sound-case journals update owner (verdict opened journals update) refl fits sounds

  -- so they do up to the end of a phase
  pub sound-end : (script : List Event) (now : Journals) → All (IsRow opened) script → AreSoundJournals opened now → AreSoundJournals opened (phase_end opened now script)
  unfolding phase_end
  sound-end [] now rows sounds = sounds
  sound-end (Set flow ∷ script) now rows sounds =
      let this = All-head (IsRow opened) (Set flow) script rows in
      sound-end script (after_update opened now (update.Set flow)) (All-tail (IsRow opened) (Set flow) script rows)
      (update-sound now (update.Set flow) (record { handled = this.in_range; value = this.value }) sounds)
  sound-end (Del key ∷ script) now rows sounds =
      let this = All-head (IsRow opened) (Del key) script rows in
      sound-end script (after_update opened now (update.Del key)) (All-tail (IsRow opened) (Del key) script rows)
      (update-sound now (update.Del key) (record { handled = tt; value = this.value }) sounds)
  sound-end (Packet ingress key ∷ script) now rows sounds = sound-end script now (All-tail (IsRow opened) (Packet ingress key) script rows) sounds
  sound-end (Carry node owner turn part ∷ script) now rows sounds = sound-end script now (All-tail (IsRow opened) (Carry node owner turn part) script rows) sounds
  sound-end (Sync ∷ script) now rows sounds = sounds
