-- What is done one after the other, and what stays.
use Rattle.std.proofs.Common.{◌≡◌, ◌∙◌, ℕ, zero, suc, Bool, List, [], ◌∷◌, length, Option, Some, refl, ap, subst}
use Rattle.std.specs.List.{slice_get}
use Rattle.flow_types.specs.Size.{Size}
use Rattle.delta_codec.specs.declared.message.Message.{Message}
use Rattle.node_link.specs.Ends.{End}
use Rattle.turn_relay.specs.Each.{Each, Every, HasAt}
use Rattle.turn_relay.specs.Follow.{ApplierDid, Follow, GoesOn, IsSamePart, PartDid, works}
use Rattle.turn_relay.specs.OwnerState.{IsSameLink}
use Rattle.turn_relay.specs.PartState.{ApplierState, PartState, taken_by}

pub each_self : {A : Type 0} (R : A → A → Type 0) → ((x : A) → R x x) → (xs : List A) → Each R xs xs
each_self R same [] = tt
each_self R same (x ∷ xs) = (same x, each_self R same xs)

pub each_trans : {A : Type 0} (R : A → A → Type 0) → ((x y z : A) → R x y → R y z → R x z) → (xs ys zs : List A) → Each R xs ys → Each R ys zs → Each R xs zs
each_trans R trans [] [] [] first then = tt
each_trans R trans [] [] (z ∷ zs) first then = absurd then
each_trans R trans [] (y ∷ ys) zs first then = absurd first
each_trans R trans (x ∷ xs) [] zs first then = absurd first
each_trans R trans (x ∷ xs) (y ∷ ys) [] first then = absurd then
each_trans R trans (x ∷ xs) (y ∷ ys) (z ∷ zs) first then = (trans x y z first.0 then.0, each_trans R trans xs ys zs first.1 then.1)

-- each element has one that it is related to, at the same place
pub each_at : {A B : Type 0} (R : A → B → Type 0) (xs : List A) (ys : List B) → Each R xs ys → (place : ℕ) (x : A) → slice_get xs place ≡ Some x → HasAt place (R x) ys
each_at R [] [] each place x there = absurd (cc there)
each_at R [] (y ∷ ys) each place x there = absurd each
each_at R (first ∷ xs) [] each place x there = absurd each
each_at R (first ∷ xs) (y ∷ ys) each zero x there =
    let same : first ≡ x = cc there in
    record { element = y; there = refl; holds = subst (λ f. R f y) same each.0 }
each_at R (first ∷ xs) (y ∷ ys) each (suc place) x there =
    let rest = each_at R xs ys each.1 place x there in
    record { element = rest.element; there = rest.there; holds = rest.holds }

pub each_length : {A B : Type 0} (R : A → B → Type 0) (xs : List A) (ys : List B) → Each R xs ys → length ys ≡ length xs
each_length R [] [] each = refl
each_length R [] (y ∷ ys) each = absurd each
each_length R (x ∷ xs) [] each = absurd each
each_length R (x ∷ xs) (y ∷ ys) each = ap suc (each_length R xs ys each.1)

-- ---- ends

pub links_self : (ends : List End) → Each IsSameLink ends ends
links_self ends = each_self IsSameLink (λ end. (refl, refl)) ends

pub links_trans : (xs ys zs : List End) → Each IsSameLink xs ys → Each IsSameLink ys zs → Each IsSameLink xs zs
links_trans xs ys zs first then = each_trans IsSameLink (λ x y z p q. (q.0 ∙ p.0, q.1 ∙ p.1)) xs ys zs first then

pub links_sized : (size : Size) (xs ys : List End) → Each IsSameLink xs ys → Every (λ (end : End). end.size ≡ size) xs → Every (λ (end : End). end.size ≡ size) ys
links_sized size [] [] each all = tt
links_sized size [] (y ∷ ys) each all = absurd each
links_sized size (x ∷ xs) [] each all = absurd each
links_sized size (x ∷ xs) (y ∷ ys) each all = (each.0.1 ∙ all.0, links_sized size xs ys each.1 all.1)

-- ---- parts

pub same_self : (part : PartState) → IsSamePart part part
same_self part = record { size = refl; owner = refl; shard = refl; book = refl; opening = refl; link = refl }

pub same_trans : (first between last : PartState) → IsSamePart first between → IsSamePart between last → IsSamePart first last
same_trans first between last a b = record {
  size = b.size ∙ a.size;
  owner = b.owner ∙ a.owner;
  shard = b.shard ∙ a.shard;
  book = b.book ∙ a.book;
  opening = b.opening ∙ a.opening;
  link = b.link ∙ a.link;
}

pub on_self : (part : PartState) → GoesOn part part
on_self part = record { same = same_self part; follows = λ follows. follows }

pub on_trans : (first between last : PartState) → GoesOn first between → GoesOn between last → GoesOn first last
on_trans first between last a b = record { same = same_trans first between last a.same b.same; follows = λ follows. b.follows (a.follows follows) }

module _ (working : List Bool) where
  pub part_self : (part : PartState) → PartDid working part part
  part_self part = record { on = on_self part; rests = λ rests. refl }

  pub part_trans : (first between last : PartState) → PartDid working first between → PartDid working between last → PartDid working first last
  part_trans first between last a b = record {
    on = on_trans first between last a.on b.on;
    rests = λ rests. b.rests (ap (λ (owner : ℕ). works working owner) a.on.same.owner ∙ rests) ∙ a.rests rests;
  }

  pub applier_self : (applier : ApplierState) → ApplierDid working applier applier
  applier_self applier = (refl, each_self (PartDid working) part_self applier.parts)

  pub applier_trans : (first between last : ApplierState) → ApplierDid working first between → ApplierDid working between last → ApplierDid working first last
  applier_trans first between last a b = (b.0 ∙ a.0, each_trans (PartDid working) part_trans first.parts between.parts last.parts a.1 b.1)

  pub appliers_self : (appliers : List ApplierState) → Each (ApplierDid working) appliers appliers
  appliers_self appliers = each_self (ApplierDid working) applier_self appliers

  pub appliers_trans : (first between last : List ApplierState) → Each (ApplierDid working) first between → Each (ApplierDid working) between last → Each (ApplierDid working) first last
  appliers_trans first between last a b = each_trans (ApplierDid working) applier_trans first between last a b

-- a message was taken, and acted on
pub takes_on : (before after : PartState) (end : End) (message : Message) → before.end ≡ Some end → IsSamePart before after
    → (Follow before.table before.fib end.messages before.state → Follow after.table after.fib (taken_by after.end) after.state) → GoesOn before after
takes_on before after end message is same acts = record {
  same = same;
  follows = λ follows. acts (subst (λ (e : Option End). Follow before.table before.fib (taken_by e) before.state) is follows);
}
