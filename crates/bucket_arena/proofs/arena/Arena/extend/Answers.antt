use Rattle.std.proofs.Common.{◌<◌, ◌++◌, length, set, ◌∙◌, ap, arith, length-set, refl}
use Rattle.bucket_arena.specs.Arena.{bucket_of}
use Rattle.bucket_arena.proofs.Laying.{one_on}
use Rattle.bucket_arena.proofs.arena.Arena.extend.Goals as goal

pub items-init : goal.items-init
items-init g c =
    let same = c.into_iter-item-iterator.ensures.into_iter_gives in
    let fits = c.requires.spare in let long = ap length same in
    (ap (λ xs. set c.args.self.now.buckets c.args.bucket (bucket_of c.args.self.now c.args.bucket ++ xs)) same, c.requires.buckets, omega (arith, fits, long), refl)

pub items-preserved : goal.items-preserved
items-preserved g c =
    let is = c.items.invariant in let long = is.1 in let fits = is.2 in let sum = is.3 in
    let l : c.args.bucket < length c.items.self.buckets = omega (arith, long, c.ranges.bucket.fits) in
    let less = ap length c.in-Some.ensures.steps in let down = c.push.ensures.spare in let up = c.push.ensures.count in (
      one_on c.items.self.buckets c.push.new.self.buckets c.args.bucket c.in-Some.item c.items.item-iterator c.next.new.self l c.push.ensures.last c.in-Some.ensures.steps ∙ is.0,
      ap length c.push.ensures.last ∙ length-set c.items.self.buckets c.args.bucket _ ∙ long,
      omega (arith, less, fits, down),
      omega (arith, sum, down, up),
    )
