-- An owner without an update among the events says nothing, and has accepted what it had accepted.
use Rattle.std.proofs.Common.{◌≡◌, ◌≢◌, ◌∙◌, ℕ, Bool, true, false, List, [], ◌∷◌, refl, sym}
use Rattle.std.specs.Prelude.{◌==◌}
use Rattle.std.proofs.lemmas.Bool.{eqb-true}
use Rattle.std.proofs.lemmas.List.Elements.{All-head, All-tail}
use Rattle.group_history.specs.declared.change.Change.{Change}
use Rattle.packet_reader.specs.declared.event.Event.{Event}
use Rattle.packet_reader.specs.declared.event.Event.TheVariants.{Set, Del, Packet, Carry, Sync}
use Rattle.group_history.specs.Acceptance.{updated_key}
use Rattle.group_history.specs.declared.update.Update.{Update}
use Rattle.group_history.specs.declared.update.Update.TheVariants as update
use Rattle.run_model.specs.State.{ClusterOpening}
use Rattle.run_model.specs.Updates.{update_owner}
use Rattle.storm_model.specs.Merging.{owner_of_key}
use Rattle.storm_model.specs.Owners.{HasNoUpdate, IsNotOf, own_changes, own_replies}
use Rattle.storm_model.proofs.Owned.{owner-key}

module _ (opened : ClusterOpening) (owner : ℕ) (changes : List Change) where
  other : (asked : Update) → owner_of_key opened.size (updated_key asked) ≢ owner → (update_owner opened asked == owner) ≡ false
  other asked isnt = by (update_owner opened asked == owner) refl
    where
      by : (same : Bool) → (update_owner opened asked == owner) ≡ same → (update_owner opened asked == owner) ≡ false
      by true is = absurd (isnt (sym (owner-key opened asked) ∙ eqb-true (update_owner opened asked) owner is))
      by false is = is

  pub says-nothing : (events : List Event) → HasNoUpdate opened.size owner events → own_replies opened owner changes events ≡ []
  says-nothing [] none = refl
  says-nothing (Set flow ∷ events) none =
      rw (other (update.Set flow) (All-head (IsNotOf opened.size owner) (Set flow) events none))
      (says-nothing events (All-tail (IsNotOf opened.size owner) (Set flow) events none))
  says-nothing (Del key ∷ events) none =
      rw (other (update.Del key) (All-head (IsNotOf opened.size owner) (Del key) events none))
      (says-nothing events (All-tail (IsNotOf opened.size owner) (Del key) events none))
  says-nothing (Packet ingress key ∷ events) none = says-nothing events (All-tail (IsNotOf opened.size owner) (Packet ingress key) events none)
  says-nothing (Carry node of turn part ∷ events) none = says-nothing events (All-tail (IsNotOf opened.size owner) (Carry node of turn part) events none)
  says-nothing (Sync ∷ events) none = says-nothing events (All-tail (IsNotOf opened.size owner) Sync events none)

  pub accepts-nothing : (events : List Event) → HasNoUpdate opened.size owner events → own_changes opened owner changes events ≡ changes
  accepts-nothing [] none = refl
  accepts-nothing (Set flow ∷ events) none =
      rw (other (update.Set flow) (All-head (IsNotOf opened.size owner) (Set flow) events none))
      (accepts-nothing events (All-tail (IsNotOf opened.size owner) (Set flow) events none))
  accepts-nothing (Del key ∷ events) none =
      rw (other (update.Del key) (All-head (IsNotOf opened.size owner) (Del key) events none))
      (accepts-nothing events (All-tail (IsNotOf opened.size owner) (Del key) events none))
  accepts-nothing (Packet ingress key ∷ events) none = accepts-nothing events (All-tail (IsNotOf opened.size owner) (Packet ingress key) events none)
  accepts-nothing (Carry node of turn part ∷ events) none = accepts-nothing events (All-tail (IsNotOf opened.size owner) (Carry node of turn part) events none)
  accepts-nothing (Sync ∷ events) none = accepts-nothing events (All-tail (IsNotOf opened.size owner) Sync events none)
