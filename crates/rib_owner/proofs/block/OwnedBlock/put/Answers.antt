use Rattle.std.proofs.Common.{◌≡◌, ◌∙◌, ◌++◌, ◌∷◌, [], List, ℕ, length, set, ap, refl, arith}
use Rattle.std.proofs.lemmas.List.{length-set}
use Rattle.flow_types.specs.declared.record.Flow.{Flow}
use Rattle.rib_owner.proofs.Counted.{rows_same}
use Rattle.rib_owner.proofs.Buckets.{in_bucket}
use Rattle.rib_owner.proofs.Placed.{placed_put}
use Rattle.rib_owner.proofs.block.OwnedBlock.put.Goals as goal

with_one : List (List Flow) → ℕ → Flow → List (List Flow)
with_one buckets bucket flow = set buckets bucket (in_bucket buckets bucket ++ flow ∷ [])

pub invariant_of-self : goal.invariant_of-self
unfolding with_one
invariant_of-self c =
    let lists : c.push.new.self.buckets ≡ set c.self.inside.arena.buckets c.args.bucket (in_bucket c.self.inside.arena.buckets c.args.bucket ++ c.args.flow ∷ []) =
    c.push.ensures.last ∙ ap (with_one c.self.inside.arena.buckets c.args.bucket) c.of.ensures in
    record {
      one_list_each = ap length lists ∙ length-set c.self.inside.arena.buckets c.args.bucket (in_bucket c.self.inside.arena.buckets c.args.bucket ++ c.args.flow ∷ [])
          ∙ c.self.invariant.one_list_each;
      one_number_each = c.self.invariant.one_number_each;
      placed = rw lists (placed_put c.self.inside.arena.buckets c.args.bucket c.args.flow c.self.invariant.placed c.requires.bucket);
      keys = omega (arith, c.push.ensures.count, c.self.invariant.keys);
      used = c.self.invariant.used ∙ rows_same _ _ refl;
    }
