-- What one owner makes of the events of a phase.
use Rattle.std.specs.Prelude.{◌≢◌, ℕ, ◌==◌, if◌then◌else◌, All, List, [], ◌∷◌, ◌++◌, length, Option, Some, None}
use Rattle.flow_types.specs.Size.{Size}
use Rattle.group_history.specs.declared.change.Change.{Change}
use Rattle.packet_reader.specs.declared.event.Event.{Event}
use Rattle.packet_reader.specs.declared.event.Event.TheVariants.{Set, Del}
use Rattle.group_history.specs.declared.update.Update.{Update}
use Rattle.group_history.specs.declared.update.Update.TheVariants as update
use Rattle.group_history.specs.declared.refused.UpdateRefused.{UpdateRefused}
use Rattle.group_history.specs.Acceptance.{change_of, grounds, refusal}
use Rattle.run_model.specs.declared.reply.Reply.{Reply}
use Rattle.run_model.specs.State.{ClusterOpening}
use Rattle.run_model.specs.Updates.{reply_by, update_owner}
use Rattle.storm_model.specs.Merging.{owner_of_key}

-- why the owner of these changes refuses the update; `None` where it accepts it
abbrev pub own_verdict : ClusterOpening → List Change → Update → Option UpdateRefused
own_verdict opened changes asked = refusal asked (grounds opened.size opened.flows changes asked)

abbrev pub own_reply : ClusterOpening → (owner : ℕ) → List Change → Update → Reply
own_reply opened owner changes asked = reply_by owner (length changes) (own_verdict opened changes asked)

abbrev pub changes_by : List Change → Change → Option UpdateRefused → List Change
changes_by changes change None = changes ++ change ∷ []
changes_by changes change (Some refused) = changes

abbrev pub own_after : ClusterOpening → List Change → Update → List Change
own_after opened changes asked = changes_by changes (change_of opened.size opened.flows asked) (own_verdict opened changes asked)

-- the owner's replies to its updates among the events
abbrev pub own_replies : ClusterOpening → (owner : ℕ) → List Change → List Event → List Reply
own_replies opened owner changes [] = []
own_replies opened owner changes (Set flow ∷ script) =
    if update_owner opened (update.Set flow) == owner
    then own_reply opened owner changes (update.Set flow) ∷ own_replies opened owner (own_after opened changes (update.Set flow)) script
    else own_replies opened owner changes script
own_replies opened owner changes (Del key ∷ script) =
    if update_owner opened (update.Del key) == owner
    then own_reply opened owner changes (update.Del key) ∷ own_replies opened owner (own_after opened changes (update.Del key)) script
    else own_replies opened owner changes script
own_replies opened owner changes (event ∷ script) = own_replies opened owner changes script

-- what it has accepted after them
abbrev pub own_changes : ClusterOpening → (owner : ℕ) → List Change → List Event → List Change
own_changes opened owner changes [] = changes
own_changes opened owner changes (Set flow ∷ script) =
    if update_owner opened (update.Set flow) == owner
    then own_changes opened owner (own_after opened changes (update.Set flow)) script
    else own_changes opened owner changes script
own_changes opened owner changes (Del key ∷ script) =
    if update_owner opened (update.Del key) == owner
    then own_changes opened owner (own_after opened changes (update.Del key)) script
    else own_changes opened owner changes script
own_changes opened owner changes (event ∷ script) = own_changes opened owner changes script

-- the event is no update of the owner's
abbrev pub IsNotOf : Size → (owner : ℕ) → Event → Type 0
IsNotOf size owner (Set flow) = owner_of_key size flow.key ≢ owner
IsNotOf size owner (Del key) = owner_of_key size key ≢ owner
IsNotOf size owner event = Unit {0}

-- none of the events is
abbrev pub HasNoUpdate : Size → (owner : ℕ) → List Event → Type 0
HasNoUpdate size owner events = All (IsNotOf size owner) events
