-- How an owner and the nodes are linked.
use Rattle.std.specs.Prelude.{◌≡◌, ℕ, ◌+◌, List, [], ◌∷◌, ◌++◌, None, Some}
use Rattle.flow_types.specs.declared.record.Flow.{Flow}
use Rattle.flow_types.specs.Size.{Size}
use Rattle.node_link.specs.Ends.{End}
use Rattle.turn_relay.specs.declared.state.State.TheVariants.{Clear}
use Rattle.turn_relay.specs.Each.{ChangesAt, HasAt}
use Rattle.turn_relay.specs.Finish.{IsPartOf}
use Rattle.turn_relay.specs.OwnerState.{OwnerState}
use Rattle.turn_relay.specs.PartState.{ApplierState, PartState}

-- the part has no link yet, and has taken nothing
pub record IsFresh (size : Size) (flows : List Flow) (node owner : ℕ) (part : PartState) : Type 0 where
  pub of : IsPartOf size node owner flows part
  pub unlinked : part.end ≡ None
  pub list : part.table.list ≡ []
  pub turns : part.fib.turns ≡ []
  pub clear : part.state ≡ Clear

-- the owner has one end more, of a link through which nothing was sent
pub record IsExtended (before after : OwnerState) : Type 0 where
  pub end : End
  pub none : end.messages ≡ []
  pub after_is : after ≡ record before { ends = before.ends ++ end ∷ [] }

-- the part has the other end of it
pub record LinksPart (end : End) (before after : PartState) : Type 0 where
  pub taker : End
  pub line : taker.line ≡ end.line
  pub none : taker.messages ≡ []
  pub after_is : after ≡ record before { end = Some taker }

pub record LinksOne (before after : OwnerState) (part linked : PartState) : Type 0 where
  pub extended : IsExtended before after
  pub links : LinksPart extended.end part linked

-- nothing was sent through the link
abbrev pub IsUnsent : End → Type 0
IsUnsent end = end.messages ≡ []

-- the owner has more ends, and is else as it was
pub record HasMoreEnds (before after : OwnerState) : Type 0 where
  pub more : List End
  pub after_is : after ≡ record before { ends = before.ends ++ more }

-- the applier is that of the node, and its part of the owner isn't linked yet
pub record IsFreshAt (flows : List Flow) (owner : OwnerState) (node : ℕ) (applier : ApplierState) : Type 0 where
  pub numbered : applier.node ≡ node
  pub part : HasAt owner.number (IsFresh owner.size flows node owner.number) applier.parts

-- so it is with the appliers of the nodes from this one on
abbrev pub AreFresh : List Flow → OwnerState → (first : ℕ) → List ApplierState → Type 0
AreFresh flows owner first [] = Unit {0}
AreFresh flows owner first (applier ∷ appliers) = IsFreshAt flows owner first applier × AreFresh flows owner (first + 1) appliers

-- the owner has an end to the node more, and the node's part the other end
pub record LinksNode (before after : OwnerState) (applier linked : ApplierState) : Type 0 where
  pub extended : IsExtended before after
  pub numbered : linked.node ≡ applier.node
  pub part : ChangesAt before.number (LinksPart extended.end) applier.parts linked.parts

-- the part's table and FIB are as they were
pub record KeepsTurns (before after : PartState) : Type 0 where
  pub table : after.table ≡ before.table
  pub fib : after.fib ≡ before.fib

-- of the applier's parts only the owner's is another, with the same table and FIB
abbrev pub KeepsOthers : (owner : ℕ) → (before after : ApplierState) → Type 0
KeepsOthers owner before after = (after.node ≡ before.node) × ChangesAt owner KeepsTurns before.parts after.parts
