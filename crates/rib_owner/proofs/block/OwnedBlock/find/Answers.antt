use Rattle.std.proofs.Common.{◌≡◌, ◌≢◌, ◌∙◌, List, Some, ap, subst, sym, arith, add-one}
use Rattle.std.specs.List.{slice_get}
use Rattle.flow_types.specs.declared.record.Flow.{Flow}
use Rattle.flow_types.specs.Key.{number}
use Rattle.flow_types.specs.Map.{flow_at}
use Rattle.group_search.specs.Home.{group_of}
use Rattle.rib_owner.specs.Rib.{map_in}
use Rattle.rib_owner.specs.Stock.{Stock, part_in, standing_in}
use Rattle.rib_owner.proofs.BucketChanges.{found_in_group, standing_there}
use Rattle.rib_owner.proofs.Buckets.{in_bucket}
use Rattle.rib_owner.proofs.Lookups.{left_here, left_later, left_none, next_of}
use Rattle.rib_owner.proofs.block.OwnedBlock.find.Goals as goal

pub returns-then-number-clause-flow : goal.returns-then-number-clause-flow
returns-then-number-clause-flow c =
    let same : number c.in-Some.item.key ≡ number c.args.key =
    ap (λ (f : Flow). number f.key) (sym c.flow-flow.ensures) ∙ sym c.number.ensures.value ∙ c.if-number.true ∙ c.number-number.ensures.value in
    ap Some c.flow-flow.ensures ∙ sym (left_here c.args.key c.in-Some.item c.next.new.self same)
    ∙ ap (flow_at c.args.key) (sym c.in-Some.ensures.steps) ∙ c.items.invariant.none

pub returns-then-number-clause-place : goal.returns-then-number-clause-place
returns-then-number-clause-place c =
    let bucket : standing_in (part_in c.args.self.now) (group_of c.args.self.now.choices c.args.bucket) c.args.bucket ≡ in_bucket c.args.self.now.arena.buckets c.args.bucket =
    subst
    (λ (s : Stock). standing_in (part_in s) (group_of s.choices c.args.bucket) c.args.bucket ≡ in_bucket s.arena.buckets c.args.bucket)
    c.self.view_is
    (rw (← c.requires)
    (standing_there c.self.inside.choices c.self.inside.arena.buckets (omega (arith, c.self.invariant.one_list_each)) c.self.invariant.placed c.args.key)) in
    ap (λ (l : List Flow). slice_get l c.items.place) bucket
    ∙ (next_of c.items.place (in_bucket c.args.self.now.arena.buckets c.args.bucket) c.in-Some.item c.next.new.self (c.items.invariant.left ∙ c.in-Some.ensures.steps)).here
    ∙ ap Some (sym c.flow-flow.ensures)

pub returns-then-number-clause-in_group : goal.returns-then-number-clause-in_group
returns-then-number-clause-in_group c =
    subst
    (λ (s : Stock). flow_at c.args.key (in_bucket s.arena.buckets c.args.bucket) ≡ flow_at c.args.key (map_in (part_in s) (group_of s.choices c.args.bucket)))
    c.self.view_is
    (rw (← c.requires)
    (found_in_group c.self.inside.choices c.self.inside.arena.buckets (omega (arith, c.self.invariant.one_list_each)) c.self.invariant.placed c.args.key))

pub items-preserved : goal.items-preserved
items-preserved c =
    let other : number c.in-Some.item.key ≢ number c.args.key =
    λ same. c.if-number.false (c.number.ensures.value ∙ ap (λ (f : Flow). number f.key) c.flow-flow.ensures ∙ same ∙ sym c.number-number.ensures.value) in
    record {
      left = rw (add-one c.items.place)
          (next_of c.items.place (in_bucket c.args.self.now.arena.buckets c.args.bucket) c.in-Some.item c.next.new.self (c.items.invariant.left ∙ c.in-Some.ensures.steps)).left;
      none = sym (left_later c.args.key c.in-Some.item c.next.new.self other) ∙ ap (flow_at c.args.key) (sym c.in-Some.ensures.steps) ∙ c.items.invariant.none;
    }

pub returns-clause-flow : goal.returns-clause-flow
returns-clause-flow c = sym (left_none c.args.key) ∙ ap (flow_at c.args.key) (sym c.in-None.ensures.steps.0) ∙ c.items.invariant.none

pub returns-clause-in_group : goal.returns-clause-in_group
returns-clause-in_group c =
    subst
    (λ (s : Stock). flow_at c.args.key (in_bucket s.arena.buckets c.args.bucket) ≡ flow_at c.args.key (map_in (part_in s) (group_of s.choices c.args.bucket)))
    c.self.view_is
    (rw (← c.requires)
    (found_in_group c.self.inside.choices c.self.inside.arena.buckets (omega (arith, c.self.invariant.one_list_each)) c.self.invariant.placed c.args.key))
