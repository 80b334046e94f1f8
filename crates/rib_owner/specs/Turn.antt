-- What an accepted update gives: the next turn, with what it tells the nodes.
use Rattle.std.specs.Prelude.{◌≡◌, ◌==◌, ℕ, ◌+◌, if◌then◌else◌, List, length, Option, Some, None, Result, Ok, Err}
use Rattle.flow_types.specs.declared.record.Flow.{Flow}
use Rattle.flow_types.specs.Map.{flow_at}
use Rattle.flow_types.specs.Size.{Size}
use Rattle.group_search.specs.Home.{home}
use Rattle.group_search.specs.Records.{content_of}
use Rattle.group_history.specs.declared.change.Change.{Change}
use Rattle.group_history.specs.Change.{step}
use Rattle.group_history.specs.declared.update.Update.{Update}
use Rattle.group_history.specs.declared.update.Update.TheVariants.{Set, Del}
use Rattle.rib_owner.specs.declared.turn.Turn.{Turn}
use Rattle.rib_owner.specs.declared.turn.FibPlan.{FibPlan}
use Rattle.group_history.specs.declared.refused.UpdateRefused.{UpdateRefused}
use Rattle.group_history.specs.Acceptance.{change_of, grounds, updated_key, refusal}
use Rattle.rib_owner.specs.Judging.{IsFor}
use Rattle.group_history.specs.History.{map_now}

-- the node that the key leaves: the one where it was, unless that is where it goes
abbrev pub node_left : Update → Option Flow → Option ℕ
node_left update None = None
node_left (Set new) (Some before) = if before.node == new.node then None else Some before.node
node_left (Del key) (Some before) = Some before.node

-- the node where the key goes
abbrev pub node_entered : Update → Option ℕ
node_entered (Set new) = Some new.node
node_entered (Del key) = None

-- which node puts the key's record and which drops it, where the group had this at the key
abbrev pub plan_of : Update → Option Flow → FibPlan
plan_of update before = record { put = node_entered update; drop = node_left update before }

-- the next turn: the update's change, the canonical record of its group's new map, and the plan for the nodes' records
pub record IsTurn (size : Size) (flows : List Flow) (changes : List Change) (update : Update) (turn : Turn) : Type 0 where
  pub number : turn.number ≡ length changes + 1
  pub change : turn.change ≡ change_of size flows update
  pub content : content_of size.nodes (step (map_now size flows changes (home size.blocks flows (updated_key update))) turn.change) ≡ Some turn.content
  pub plan : turn.fib ≡ plan_of update (flow_at (updated_key update) (map_now size flows changes (home size.blocks flows (updated_key update))))

-- an owner's answer: the next turn where the update is accepted, its refusal where it is refused, or want of memory
abbrev pub AnswersUpdate : Size → List Flow → List Change → Update → Result Turn UpdateRefused → Type 0
AnswersUpdate size flows changes update (Ok turn) = (refusal update (grounds size flows changes update) ≡ None) × IsTurn size flows changes update turn
AnswersUpdate size flows changes update (Err refused) = IsFor (refusal update (grounds size flows changes update)) refused
