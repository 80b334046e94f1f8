-- What a contract sees of an input's answered events.
use Rattle.cluster_replay.specs.Outcome.{Replies}
use Rattle.cluster_replay.specs.declared.replaying.Replayed.{Replayed}

-- the script and its replies
abbrev pub said : Replayed → Replies
said made = record { script = made.script.items; replies = made.replies.items }
