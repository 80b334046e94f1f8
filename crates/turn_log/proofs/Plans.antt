-- What a turn means for a node, by its plan, is what its change means for it.
use Rattle.std.proofs.Common.{◌≡◌, ◌∙◌, ℕ, Bool, true, false, cond, List, Option, Some, None, refl, sym, ap}
use Rattle.std.specs.Prelude.{◌==◌, IfSome, option_map}
use Rattle.std.proofs.lemmas.Bool.{cond-false, eqb-true}
use mathlib.Core.List.{IsPrefix}
use Rattle.flow_types.specs.declared.key.FlowKey.{FlowKey}
use Rattle.flow_types.specs.declared.record.Flow.{Flow}
use Rattle.flow_types.specs.declared.record.Record.{Record}
use Rattle.flow_types.specs.Size.{Size}
use Rattle.group_history.specs.Acceptance.{wanted}
use Rattle.rib_owner.specs.Turn.{node_left}
use Rattle.group_history.specs.declared.update.Update.{Update}
use Rattle.group_history.specs.declared.update.Update.TheVariants.{Set, Del}
use Rattle.delta_codec.specs.declared.message.FibOp.{FibOp}
use Rattle.delta_codec.specs.declared.message.FibOp.TheVariants.{Nothing, Put, Drop}
use Rattle.delta_codec.specs.declared.message.Message.TheVariants.{Fib}
use Rattle.delta_codec.specs.Op.{op_of_loss, op_of_move, was_handled}
use Rattle.turn_log.specs.declared.message.TurnHead.{TurnHead}
use Rattle.turn_log.specs.declared.sent.SentTo.{SentTo}
use Rattle.turn_log.specs.Sent.{IsSpelledAt, place_for}
use Rattle.turn_log.specs.Turn.{fib_with, leaves}
use Rattle.turn_log.proofs.Spelled.{spelled_on}

module _ (node : ℕ) (key : FlowKey) where
  -- a node where the key stays drops nothing
  stays : (old new : ℕ) → (new == node) ≡ false → (same : Bool) → (old == new) ≡ same
      → op_of_loss key (leaves node (cond same None (Some old))) ≡ cond (old == node) (Drop key) Nothing
  stays old new other true e =
      let not_here : (old == node) ≡ false = ap (λ (n : ℕ). n == node) (eqb-true old new e) ∙ other in
      sym (cond-false (old == node) (Drop key) Nothing not_here)
  stays old new other false e = refl

  set_op : (flow : Flow) (before : Option Flow) (here : Bool) → (flow.node == node) ≡ here
      → cond here (Put key flow.info) (op_of_loss key (leaves node (node_left (Set flow) before))) ≡ cond here (Put key flow.info) (op_of_loss key (was_handled node before))
  set_op flow before true e = refl
  set_op flow None false e = refl
  set_op flow (Some old) false e = stays old.node flow.node e (old.node == flow.node) refl

  -- the plan of an update means for a node what the update's change means for it
  pub op_of_update : (update : Update) (before : Option Flow)
      → op_of_move node key (wanted update) (leaves node (node_left update before)) ≡ op_of_move node key (wanted update) (was_handled node before)
  op_of_update (Set flow) before = set_op flow before (flow.node == node) refl
  op_of_update (Del removed) None = refl
  op_of_update (Del removed) (Some old) = refl

-- ---- where a turn's messages for FIBs begin

-- the message that this means for a node begins at a place
abbrev pub IsOwn : Size → List ℕ → TurnHead → FibOp → ℕ → Type 0
IsOwn size octets head op at = IsSpelledAt size octets at (Fib (fib_with head op))

module _ (size : Size) (octets : List ℕ) (head : TurnHead) (key : FlowKey) (node nothing : ℕ) (idle : IsOwn size octets head Nothing nothing) where
  one_drop : (own : SentTo) (from : ℕ) → own.node ≡ from → IsOwn size octets head (Drop key) own.at → (here : Bool) → (from == node) ≡ here
      → IsOwn size octets head (cond here (Drop key) Nothing) (cond (own.node == node) own.at nothing)
  one_drop own from same spelled true e = rw (same, e) spelled
  one_drop own from same spelled false e = rw (same, e) idle

  drop_at_place : (drop : Option SentTo) (from : Option ℕ) → option_map (λ (own : SentTo). own.node) drop ≡ from
      → IfSome drop (λ (own : SentTo). IsOwn size octets head (Drop key) own.at) → IsOwn size octets head (op_of_loss key (leaves node from)) (place_for node drop nothing)
  drop_at_place None None same spelled = idle
  drop_at_place None (Some from) same spelled = absurd cc
  drop_at_place (Some own) None same spelled = absurd cc
  drop_at_place (Some own) (Some from) same spelled = one_drop own from (cc) spelled (from == node) refl

  module _ (drop : Option SentTo) (from : Option ℕ) (left : option_map (λ (own : SentTo). own.node) drop ≡ from)
      (dropped : IfSome drop (λ (own : SentTo). IsOwn size octets head (Drop key) own.at)) where
    one_put : (own : SentTo) (to : ℕ × Record) → own.node ≡ to.0 → IsOwn size octets head (Put key to.1) own.at → (here : Bool) → (to.0 == node) ≡ here
        → IsOwn size octets head (cond here (Put key to.1) (op_of_loss key (leaves node from))) (cond (own.node == node) own.at (place_for node drop nothing))
    one_put own to same spelled true e = rw (same, e) spelled
    one_put own to same spelled false e = rw (same, e) (drop_at_place drop from left dropped)

    -- what a plan means for a node begins at the node's place
    pub own_place : (put : Option SentTo) (to : Option (ℕ × Record)) → option_map (λ (own : SentTo). own.node) put ≡ option_map (λ (t : ℕ × Record). t.0) to
        → IfSome put (λ (own : SentTo). IfSome to (λ (t : ℕ × Record). IsOwn size octets head (Put key t.1) own.at))
        → IsOwn size octets head (op_of_move node key to (leaves node from)) (place_for node put (place_for node drop nothing))
    own_place None None same spelled = drop_at_place drop from left dropped
    own_place None (Some to) same spelled = absurd cc
    own_place (Some own) None same spelled = absurd cc
    own_place (Some own) (Some to) same spelled = one_put own to (cc) spelled (to.0 == node) refl

-- the message that puts the key's record still begins where it began when more is put behind
pub put_on : (size : Size) (octets new : List ℕ) (head : TurnHead) (key : FlowKey) → IsPrefix octets new
    → (put : Option SentTo) (to : Option (ℕ × Record)) → IfSome put (λ (own : SentTo). IfSome to (λ (t : ℕ × Record). IsOwn size octets head (Put key t.1) own.at))
    → IfSome put (λ (own : SentTo). IfSome to (λ (t : ℕ × Record). IsOwn size new head (Put key t.1) own.at))
put_on size octets new head key more None to is = is
put_on size octets new head key more (Some own) None is = is
put_on size octets new head key more (Some own) (Some to) is = spelled_on size octets new own.at (Fib (fib_with head (Put key to.1))) more is
