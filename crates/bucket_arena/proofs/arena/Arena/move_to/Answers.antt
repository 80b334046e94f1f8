use Rattle.std.proofs.Common.{◌≡◌, length, sym, ◌∙◌, ap, arith}
use Rattle.std.proofs.lemmas.List.{length-replicate}
use Rattle.std.specs.Prelude.{None}
use Rattle.std.specs.List.{sum_by}
use Rattle.bucket_arena.proofs.Standing.{list_each}
use Rattle.bucket_arena.proofs.Laying.{laid_start, laid_on, laid_whole, laid_less, laid_length}
use Rattle.bucket_arena.proofs.arena.Arena.move_to.Goals as goal

pub buckets-init : goal.buckets-init
buckets-init g c =
    let long : length c.args.self.now.buckets ≡ 256 = sym (ap (λ v. length v.buckets) c.self.view_is) ∙ list_each c.self.inside.row c.self.inside.chains c.self.inside.free c.self.inside.made c.self.invariant in
    let room = ap length c.in_ok-row.ensures ∙ length-replicate c.args.room None in let none = c.over-moved.ensures.count in let spare = c.over-moved.ensures.spare in
    (laid_start c.args.self.now.buckets c.over-moved.result.buckets 256 long c.over-moved.ensures.buckets, omega (arith, room, none, spare))

pub extend-requires-clause-buckets : goal.extend-requires-clause-buckets
extend-requires-clause-buckets g c =
    ap length c.buckets.invariant.0 ∙ laid_length c.args.self.now.buckets c.buckets.number
    ∙ sym (ap (λ v. length v.buckets) c.self.view_is) ∙ list_each c.self.inside.row c.self.inside.chains c.self.inside.free c.self.inside.made c.self.invariant

pub extend-requires-clause-spare : goal.extend-requires-clause-spare
extend-requires-clause-spare g c =
    let less = laid_less c.args.self.now.buckets c.buckets.number in let count = ap (sum_by length) c.buckets.invariant.0 in let sum = c.buckets.invariant.1 in
    let here = ap length c.iter.ensures in let enough = c.requires.enough in
    omega (arith, less, count, sum, here, enough)

pub buckets-preserved : goal.buckets-preserved
buckets-preserved g c =
    let room = c.extend.ensures.room in let sum = c.buckets.invariant.1 in
    (laid_on c.args.self.now.buckets c.buckets.moved.buckets c.extend.new.self.buckets c.buckets.number c.iter.result c.buckets.invariant.0 c.extend.ensures.lists c.iter.ensures, omega (arith, room, sum))

pub returns-clause-lists : goal.returns-clause-lists
returns-clause-lists g c =
    let long : length c.args.self.now.buckets ≡ 256 = sym (ap (λ v. length v.buckets) c.self.view_is) ∙ list_each c.self.inside.row c.self.inside.chains c.self.inside.free c.self.inside.made c.self.invariant in
    ap (λ v. v.buckets) c.drop.view_is ∙ laid_whole c.args.self.now.buckets c.buckets.moved.buckets 256 c.buckets.number long (omega arith) c.buckets.invariant.0

pub returns-clause-room : goal.returns-clause-room
returns-clause-room g c =
    let long : length c.args.self.now.buckets ≡ 256 = sym (ap (λ v. length v.buckets) c.self.view_is) ∙ list_each c.self.inside.row c.self.inside.chains c.self.inside.free c.self.inside.made c.self.invariant in
    let all = ap (sum_by length) (laid_whole c.args.self.now.buckets c.buckets.moved.buckets 256 c.buckets.number long (omega arith) c.buckets.invariant.0) in
    let spare = ap (λ v. v.spare) c.drop.view_is in let sum = c.buckets.invariant.1 in omega (arith, all, spare, sum)
