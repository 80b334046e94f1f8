-- What becomes of an update.
use Rattle.std.specs.Prelude.{ℕ, ◌+◌, [], ◌∷◌, ◌++◌, length, slice_set, Option, Some, None}
use Rattle.group_history.specs.declared.change.Change.{Change}
use Rattle.group_history.specs.declared.update.Update.{Update}
use Rattle.group_history.specs.declared.refused.UpdateRefused.{UpdateRefused}
use Rattle.group_history.specs.Acceptance.{change_of, grounds, refusal, updated_key}
use Rattle.run_model.specs.declared.reply.Reply.{Reply}
use Rattle.run_model.specs.declared.reply.Reply.TheVariants.{Accepted, Refused}
use Rattle.run_model.specs.State.{Journals, ClusterOpening, home_of_key, journal_of, owner_of_group}

-- the owner that an update goes to
abbrev pub update_owner : ClusterOpening → Update → ℕ
update_owner opened update = owner_of_group opened (home_of_key opened (updated_key update))

-- why the owner refuses the update after what it has accepted; `None` where it accepts it
abbrev pub verdict : ClusterOpening → Journals → Update → Option UpdateRefused
verdict opened journals update = refusal update (grounds opened.size opened.flows (journal_of journals (update_owner opened update)) update)

abbrev pub reply_by : (owner turns : ℕ) → Option UpdateRefused → Reply
reply_by owner turns None = Accepted owner (turns + 1)
reply_by owner turns (Some refused) = Refused refused

-- the reply to an update
unfoldable pub update_reply : ClusterOpening → Journals → Update → Reply
update_reply opened journals update =
    let owner = update_owner opened update in
    reply_by owner (length (journal_of journals owner)) (verdict opened journals update)

abbrev pub journals_by : Journals → (owner : ℕ) → Change → Option UpdateRefused → Journals
journals_by journals owner change None = slice_set journals owner (journal_of journals owner ++ change ∷ [])
journals_by journals owner change (Some refused) = journals

-- what the owners have accepted after an update
unfoldable pub after_update : ClusterOpening → Journals → Update → Journals
after_update opened journals update =
    journals_by journals (update_owner opened update) (change_of opened.size opened.flows update) (verdict opened journals update)
