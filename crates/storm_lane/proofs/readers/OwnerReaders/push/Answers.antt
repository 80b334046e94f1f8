-- The next node's readers are of this owner's table and FIB.
use Rattle.std.proofs.Common.{◌∙◌, ◌∷◌, ◌++◌, [], length, ap, sym, subst}
use Rattle.packet_path.specs.Fibs.{IsFibOf}
use Rattle.storm_lane.specs.Readers.{AreOwners, ReadersState, seats_of}
use Rattle.storm_lane.proofs.OwnersSeen.{one-more}
use Rattle.storm_lane.proofs.readers.OwnerReaders.push.Goals as goal

pub invariant_of-self-2 : goal.invariant_of-self-2
invariant_of-self-2 c =
    let before : ReadersState = record { size = c.self.inside.shape; owner = c.self.inside.owner; views = c.self.inside.views.items; fibs = c.self.inside.fibs.items } in
    let views_are = c.push_reserved.ensures.items ∙ ap (λ xs. xs ++ c.args.view ∷ []) c.reserve.ensures.items in
    let fibs_are = c.push_reserved-2.ensures.items ∙ ap (λ xs. xs ++ c.args.fib ∷ []) c.reserve-2.ensures.items in
    subst AreOwners (λ i. seats_of (record { size = before.size; owner = before.owner; views = sym views_are i; fibs = sym fibs_are i }))
    (one-more before c.self.invariant c.args.view c.args.fib
    (c.requires.shape ∙ sym (ap (λ (r : ReadersState). r.size) c.self.view_is))
    (c.requires.owner ∙ sym (ap (λ (r : ReadersState). r.owner) c.self.view_is))
    (subst (λ (r : ReadersState). IsFibOf r.size r.owner (length r.views) c.args.fib.opening) (sym c.self.view_is) c.requires.fib))
