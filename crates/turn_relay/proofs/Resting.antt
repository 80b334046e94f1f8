-- From what the threads of a phase gave back to the rest after it.
use Rattle.std.proofs.Common.{◌≡◌, ◌∙◌, ℕ, zero, suc, ◌+◌, List, [], ◌∷◌, length, Some, sym, ap, subst, set, arith}
use Rattle.std.specs.List.{slice_get}
use lib.ListN.{get_or}
use Rattle.flow_types.specs.declared.record.Flow.{Flow}
use Rattle.flow_types.specs.Size.{Size}
use Rattle.group_history.specs.declared.change.Change.{Change}
use Rattle.delta_codec.specs.declared.message.Message.{Message}
use Rattle.partial_fib.specs.Store.{state_of}
use Rattle.replica_shard.specs.Seats.{shard_at}
use Rattle.replica_shard.specs.Store.{shard_state_of}
use Rattle.node_link.specs.Ends.{End}
use Rattle.turn_relay.specs.declared.state.State.TheVariants.{Clear, Stuck}
use Rattle.turn_relay.specs.Each.{AllFrom, ChangesAt, Each, Every, HasAt}
use Rattle.turn_relay.specs.Finish.{Finishes, IsAtRest, IsDone, IsDoneAt, IsLinkedAt, IsPartOf, IsReadyAt, IsSettled, IsSettledAt}
use Rattle.turn_relay.specs.Follow.{GoesOn, IsSamePart}
use Rattle.turn_relay.specs.OwnerState.{HasSentAll, OwnerState, Stands, journal_in}
use Rattle.turn_relay.specs.PartState.{ApplierState, PartState, taken_by}
use Rattle.turn_relay.specs.Sent.{AreSent}
use Rattle.turn_relay.proofs.Places.{read_there, set_others, set_there}
use Rattle.turn_relay.proofs.Settled.{fib_is, never_stuck, table_is}

-- a part of the same owner, table and FIB is still the node's of the owner
pub part_stays : (size : Size) (node owner : ℕ) (flows : List Flow) (before after : PartState) → IsPartOf size node owner flows before → IsSamePart before after
    → IsPartOf size node owner flows after
part_stays size node owner flows before after of same = record {
  sized = same.size ∙ of.sized;
  numbered = same.owner ∙ of.numbered;
  table = ap (λ shard. shard_state_of (shard_at shard [])) same.shard ∙ of.table;
  fib = ap state_of same.opening ∙ of.fib;
}

pub one_place : {A : Type 0} (all : List A) (place : ℕ) (x y : A) → slice_get all place ≡ Some x → slice_get all place ≡ Some y → x ≡ y
one_place all place x y first second = let same : Some x ≡ Some y = sym first ∙ second in cc same

-- what is read at a place is what stands there
pub read_is : {A : Type 0} (all seen : List A) (place number : ℕ) (x read : A) → slice_get all place ≡ Some x → seen ≡ all → number ≡ place → read ≡ get_or seen number read → read ≡ x
read_is all seen place number x read there same_list same_place is =
    is ∙ (λ i. get_or (same_list i) (same_place i) read) ∙ read_there all place x read there

-- a link is emptied
module _ (owner : OwnerState) (applier : ApplierState) (linked : IsLinkedAt owner applier) (sender : End) (sender_is : sender ≡ linked.holds.end)
    (part new : PartState) (part_is : part ≡ linked.element) (on : GoesOn part new) (all : taken_by new.end ≡ sender.messages) where
  abbrev parts : List PartState
  parts = set applier.parts owner.number new

  on_there : GoesOn linked.element new
  on_there = subst (λ (p : PartState). GoesOn p new) part_is on

  pub changes_here : ChangesAt owner.number GoesOn applier.parts parts
  changes_here = record {
    element = linked.element;
    there = linked.there;
    changed = new;
    then = set_there applier.parts owner.number linked.element new linked.there;
    others = λ other away. set_others applier.parts owner.number other new away;
    holds = on_there;
  }

  pub settled_here : HasAt owner.number (IsSettled applier.node owner) parts
  settled_here = record {
    element = new;
    there = set_there applier.parts owner.number linked.element new linked.there;
    holds = record {
      linked = record {
        end = linked.holds.end;
        there = linked.holds.there;
        size = on_there.same.size ∙ linked.holds.size;
        link = on_there.same.link ∙ linked.holds.link;
      };
      all = all ∙ ap (λ (end : End). end.messages) sender_is;
    };
  }

module _ (flows : List Flow) (owner : OwnerState) where
  linked_one : (applier : ApplierState) → IsReadyAt flows owner applier → IsLinkedAt owner applier
  linked_one applier ready = record { element = ready.element; there = ready.there; holds = ready.holds.linked }

  pub are_linked : (appliers : List ApplierState) → Every (IsReadyAt flows owner) appliers → Every (IsLinkedAt owner) appliers
  are_linked [] ready = tt
  are_linked (applier ∷ appliers) ready = (linked_one applier ready.0, are_linked appliers ready.1)

  done_one : (before after : ApplierState) → IsReadyAt flows owner before → Finishes owner.number before after → IsSettledAt owner after → IsDoneAt flows owner after
  done_one before after ready (same_node, changes) settled =
      let was : ready.element ≡ changes.element = one_place before.parts owner.number ready.element changes.element ready.there changes.there in
      let is : settled.element ≡ changes.changed = one_place after.parts owner.number settled.element changes.changed settled.there changes.then in
      let on : GoesOn ready.element settled.element =
      subst (λ (p : PartState × PartState). GoesOn p.0 p.1) (λ i. (sym was i, sym is i)) changes.holds in
      record {
        element = settled.element;
        there = settled.there;
        holds = record {
          of = subst (λ (node : ℕ). IsPartOf owner.size node owner.number flows settled.element) (sym same_node)
              (part_stays owner.size before.node owner.number flows ready.element settled.element ready.holds.of on.same);
          settled = settled.holds;
          follows = on.follows ready.holds.follows;
        };
      }

  pub are_done : (before after : List ApplierState) → Every (IsReadyAt flows owner) before → Each (Finishes owner.number) before after → Every (IsSettledAt owner) after
      → Every (IsDoneAt flows owner) after
  are_done [] [] ready finishes settled = tt
  are_done [] (y ∷ ys) ready finishes settled = absurd finishes
  are_done (x ∷ xs) [] ready finishes settled = absurd finishes
  are_done (x ∷ xs) (y ∷ ys) ready finishes settled = (done_one x y ready.0 finishes.0 settled.0, are_done xs ys ready.1 finishes.1 settled.1)

-- what was sent to a node
sent_from : (size : Size) (owner : ℕ) (flows : List Flow) (changes : List Change) (turns first : ℕ) (ends : List End)
    → AllFrom (λ (node : ℕ) (end : End). AreSent size owner node flows changes turns end.messages) first ends
    → (place : ℕ) (end : End) → slice_get ends place ≡ Some end → AreSent size owner (first + place) flows changes turns end.messages
sent_from size owner flows changes turns first [] all place end there = absurd (cc there)
sent_from size owner flows changes turns first (x ∷ xs) all zero end there =
    let same : x ≡ end = cc there in let at : first ≡ first + 0 = omega arith in
    subst (λ (p : ℕ × End). AreSent size owner p.0 flows changes turns p.1.messages) (λ i. (at i, same i)) all.0
sent_from size owner flows changes turns first (x ∷ xs) all (suc place) end there =
    let at : first + 1 + place ≡ first + suc place = omega arith in
    subst (λ (node : ℕ). AreSent size owner node flows changes turns end.messages) at (sent_from size owner flows changes turns (first + 1) xs all.1 place end there)

module _ (flows : List Flow) (owner : OwnerState) (stands : Stands flows owner) (sent : HasSentAll flows owner) (node : ℕ) (part : PartState) (done : IsDone flows node owner part) where
  sent_here : AreSent owner.size owner.number node flows (journal_in owner) (length (journal_in owner)) (taken_by part.end)
  sent_here =
      subst (λ (messages : List Message). AreSent owner.size owner.number node flows (journal_in owner) (length (journal_in owner)) messages) (sym done.settled.all)
      (subst (λ (n : ℕ). AreSent owner.size owner.number n flows (journal_in owner) (length (journal_in owner)) done.settled.linked.end.messages) (omega arith)
      (sent_from owner.size owner.number flows (journal_in owner) (length (journal_in owner)) 0 owner.ends sent node done.settled.linked.end done.settled.linked.there))

  pub not_stuck : part.state ≡ Stuck → ⊥
  not_stuck = never_stuck owner.size node owner.number flows owner.sender stands part done.of sent_here done.follows

  pub rests : part.state ≡ Clear → IsAtRest flows node owner part
  rests clear = record {
    of = done.of;
    settled = done.settled;
    follows = done.follows;
    clear = clear;
    current = record {
      table = table_is owner.size node owner.number flows owner.sender stands part done.of sent_here done.follows clear;
      fib = fib_is owner.size node owner.number flows owner.sender stands part done.of sent_here done.follows clear;
    };
  }

pub ruleset finishing = (are_linked, are_done)
