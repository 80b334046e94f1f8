use Rattle.std.proofs.Common.{◌≡◌, ◌∙◌, List, [], length, set, ap, sym, refl, arith}
use Rattle.std.proofs.lemmas.List.{length-set, set-get_or}
use Rattle.flow_types.specs.declared.record.Flow.{Flow}
use Rattle.flow_types.specs.Map.{without}
use Rattle.std.specs.Prelude.{remove}
use Rattle.rib_owner.specs.Stock.{Stock}
use Rattle.rib_owner.proofs.Counted.{rows_same}
use Rattle.rib_owner.proofs.Buckets.{in_bucket}
use Rattle.rib_owner.proofs.Lookups.{not_there, removed_at}
use Rattle.rib_owner.proofs.Placed.{placed_without}
use Rattle.rib_owner.proofs.block.OwnedBlock.remove.Goals as goal

-- what is left in the bucket where the key was found
rest_is : (c : goal.After-self-1) → c.take.new.self.buckets ≡ set c.self.inside.arena.buckets c.args.bucket (without c.args.key (in_bucket c.self.inside.arena.buckets c.args.bucket))
rest_is c =
    let stood : in_bucket c.args.self.now.arena.buckets c.args.bucket ≡ in_bucket c.self.inside.arena.buckets c.args.bucket =
    ap (λ (s : Stock). in_bucket s.arena.buckets c.args.bucket) (sym c.self.view_is) in
    c.take.ensures.rest
    ∙ ap (set c.self.inside.arena.buckets c.args.bucket)
    (ap (λ (l : List Flow). remove l c.in-Some.found.place) (sym stood)
    ∙ removed_at c.args.key c.in-Some.found.place (in_bucket c.args.self.now.arena.buckets c.args.bucket) c.in-Some.found.flow c.requires.distinct
    (rw c.in-Some.is at c.requires.place) (sym (rw c.in-Some.is at c.requires.flow))
    ∙ ap (without c.args.key) stood)

pub invariant_of-self : goal.invariant_of-self
invariant_of-self c =
    let lists = rest_is c in
    record {
      one_list_each = ap length lists ∙ length-set c.self.inside.arena.buckets c.args.bucket (without c.args.key (in_bucket c.self.inside.arena.buckets c.args.bucket))
          ∙ c.self.invariant.one_list_each;
      one_number_each = c.self.invariant.one_number_each;
      placed = rw lists (placed_without c.self.inside.arena.buckets c.args.bucket c.args.key c.self.invariant.placed);
      keys = omega (arith, c.take.ensures.count, c.self.invariant.keys);
      used = c.self.invariant.used ∙ rows_same _ _ refl;
    }

pub returns-in-Some-clause-buckets : goal.returns-in-Some-clause-buckets
returns-in-Some-clause-buckets c =
    rest_is c
    ∙ ap (λ (s : Stock). set s.arena.buckets c.args.bucket (without c.args.key (in_bucket s.arena.buckets c.args.bucket))) c.self.view_is

pub returns-in_default-clause-buckets : goal.returns-in_default-clause-buckets
returns-in_default-clause-buckets c =
    let same : without c.args.key (in_bucket c.args.self.now.arena.buckets c.args.bucket) ≡ in_bucket c.args.self.now.arena.buckets c.args.bucket =
    not_there c.args.key (in_bucket c.args.self.now.arena.buckets c.args.bucket) (sym (rw c.in_default.is at c.requires.flow)) in
    sym
    (ap (set c.args.self.now.arena.buckets c.args.bucket) same
    ∙ set-get_or c.args.self.now.arena.buckets c.args.bucket [])
