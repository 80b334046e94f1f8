use Rattle.std.proofs.Common.{◌≤◌, ◌∙◌, refl, ap, arith, length, ℕ}
use Rattle.std.specs.Prelude.{count_by}
use Rattle.std.proofs.lemmas.List.{get_or-replicate, take_all}
use Rattle.std.proofs.lemmas.List.FromFn.{fill_by_all}
use Rattle.block_layout.specs.Limits.{bucket_count}
use Rattle.setsep_build.specs.Placing.{is_bucket, sizes_in}
use Rattle.setsep_build.proofs.imaging.bucket_sizes.Goals as goal

pub placed-init : goal.placed-init
placed-init c = record { all = refl; counts = λ bucket within. get_or-replicate 256 bucket 0 0 within; total = refl }

pub returns-clause-each : goal.returns-clause-each
unfolding sizes_in
returns-clause-each c =
    let past : length c.args.placed.now ≤ c.placed.one-index = omega arith in
    fill_by_all (λ (bucket : ℕ). count_by (is_bucket bucket) c.args.placed.now) c.placed.sizes bucket_count 0 c.placed.invariant.all
    (λ k within. c.placed.invariant.counts k within ∙ ap (count_by (is_bucket k)) (take_all c.placed.one-index c.args.placed.now past))
