-- One bucket's flows, one after another.
use Rattle.std.proofs.Common.{ℕ, zero, suc, drop, ◌≡◌, ◌≢◌, ◌∙◌, ◌<◌, Bool, true, false, cond, Some, None, List, [], ◌∷◌, length, refl, sym, ap, arith, ⊎_elim}
use Rattle.std.specs.Prelude.{remove}
use Rattle.std.specs.List.{slice_get}
use Rattle.std.proofs.lemmas.Bool.{cases_eq, eq-eqb, ne_eqb}
use Rattle.std.proofs.lemmas.Option.{get_or_from_slice_get, slice_get_within}
use Rattle.flow_types.specs.declared.key.FlowKey.{FlowKey}
use Rattle.flow_types.specs.declared.record.Flow.{Flow}
use Rattle.flow_types.specs.Map.{AreDistinct, flow_at, is_of, without}
use Rattle.flow_types.proofs.KeyedFlows.{distinct-head, distinct-tail, found_stands, none_at, without_none}
use Rattle.flow_types.specs.Key.{number}
use Rattle.hash_family.specs.Hash.{place}
use Rattle.rib_owner.proofs.Buckets.{without_nothing}

-- the next flow of a list, and what is left behind it
pub record IsNext (flows : List Flow) (place : ℕ) (flow : Flow) (rest : List Flow) : Type 0 where
  pub here : slice_get flows place ≡ Some flow
  pub left : drop (suc place) flows ≡ rest
  pub inside : place < length flows

pub next_of : (place : ℕ) (flows : List Flow) (flow : Flow) (rest : List Flow) → drop place flows ≡ flow ∷ rest → IsNext flows place flow rest
next_of zero flows flow rest is = rw is (record { here = refl; left = refl; inside = omega arith })
next_of (suc place) [] flow rest is = cc
next_of (suc place) (first ∷ flows) flow rest is =
    let next = next_of place flows flow rest is in
    record { here = next.here; left = next.left; inside = omega (arith, next.inside) }

-- what is found at a key among the flows that are left
left_at-case : (key : FlowKey) (flow : Flow) (rest : List Flow) (here : Bool) → is_of key flow ≡ here → flow_at key (flow ∷ rest) ≡ cond here (Some flow) (flow_at key rest)
unfolding flow_at
left_at-case key flow rest here e = rw e refl

pub left_here : (key : FlowKey) (flow : Flow) (rest : List Flow) → number flow.key ≡ number key → flow_at key (flow ∷ rest) ≡ Some flow
left_here key flow rest same = left_at-case key flow rest true (eq-eqb _ _ same)

pub left_later : (key : FlowKey) (flow : Flow) (rest : List Flow) → number flow.key ≢ number key → flow_at key (flow ∷ rest) ≡ flow_at key rest
left_later key flow rest ne = left_at-case key flow rest false (ne_eqb _ _ ne)

pub left_none : (key : FlowKey) → flow_at key [] ≡ None
left_none key = none_at key [] (λ i d inside. absurd (omega arith))

without_at-case : (key : FlowKey) (flow : Flow) (rest : List Flow) (here : Bool) → is_of key flow ≡ here → without key (flow ∷ rest) ≡ cond here (without key rest) (flow ∷ without key rest)
unfolding without
without_at-case key flow rest true e = rw e refl
without_at-case key flow rest false e = rw e refl

pub without_here : (key : FlowKey) (flow : Flow) (rest : List Flow) → number flow.key ≡ number key → without key (flow ∷ rest) ≡ without key rest
without_here key flow rest same = without_at-case key flow rest true (eq-eqb _ _ same)

pub without_later : (key : FlowKey) (flow : Flow) (rest : List Flow) → number flow.key ≢ number key → without key (flow ∷ rest) ≡ flow ∷ without key rest
without_later key flow rest ne = without_at-case key flow rest false (ne_eqb _ _ ne)

removed_here : (key : FlowKey) (place : ℕ) (flows : List Flow) (flow : Flow) → AreDistinct flows → slice_get flows place ≡ Some flow → number flow.key ≡ number key
    → remove flows place ≡ without key flows
removed_here key zero [] flow distinct there same = cc
removed_here key (suc place) [] flow distinct there same = cc
removed_here key zero (first ∷ flows) flow distinct there same =
    let is : first ≡ flow = cc in
    let here : number first.key ≡ number key = ap (λ (f : Flow). number f.key) is ∙ same in
    sym
    (without_here key first flows here
    ∙ without_none key flows (λ i d inside eq. distinct-head first flows distinct i d inside (here ∙ eq)))
removed_here key (suc place) (first ∷ flows) flow distinct there same =
    let inside : place < length flows = slice_get_within flows place flow there in
    let other : number first.key ≢ number key = λ eq.
    distinct-head first flows distinct place flow inside (eq ∙ sym (ap (λ (f : Flow). number f.key) (get_or_from_slice_get flows place flow flow there) ∙ same)) in
    ap (λ (fs : List Flow). first ∷ fs) (removed_here key place flows flow (distinct-tail first flows distinct) there same) ∙ sym (without_later key first flows other)

-- without the flow that was found at its key
pub removed_at : (key : FlowKey) (place : ℕ) (flows : List Flow) (flow : Flow) → AreDistinct flows → slice_get flows place ≡ Some flow → flow_at key flows ≡ Some flow
    → remove flows place ≡ without key flows
removed_at key place flows flow distinct there found = removed_here key place flows flow distinct there (found_stands key flow flows found).1

pub not_there : (key : FlowKey) (flows : List Flow) → flow_at key flows ≡ None → without key flows ≡ flows
not_there key [] none = sym (without_nothing key)
not_there key (flow ∷ flows) none =
    ⊎_elim
    (λ (same : number flow.key ≡ number key). let some = left_here key flow flows same in cc)
    (λ (other : number flow.key ≢ number key).
    without_later key flow flows other ∙ ap (λ (fs : List Flow). flow ∷ fs) (not_there key flows (sym (left_later key flow flows other) ∙ none)))
    (cases_eq (number flow.key) (number key))
