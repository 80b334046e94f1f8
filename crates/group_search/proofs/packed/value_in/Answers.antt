use Rattle.std.proofs.Common.{ℕ, ◌/◌, ◌^◌, arith, slice_index}
use Rattle.group_search.specs.Words.{pair_in}
use Rattle.group_search.proofs.FourValues.{four, of_zero_word}
use Rattle.group_search.proofs.packed.value_in.Goals as goal

pub returns-then-second-eq0 : goal.returns-then-second-eq0
returns-then-second-eq0 c =
    let first : ℕ = slice_index c.args.words 0 in
    let second : ℕ = slice_index c.args.words 1 in
    let none = of_zero_word c.args.hashes second c.if-second-eq0.true in
    let all = four c.args.hashes (pair_in first) (pair_in (first / 2 ^ 24)) (pair_in second) (pair_in (second / 2 ^ 24)) in
    omega (arith, none, all, c.value_of_two-low.ensures.value)

pub returns : goal.returns
returns c =
    let first : ℕ = slice_index c.args.words 0 in
    let second : ℕ = slice_index c.args.words 1 in
    let all = four c.args.hashes (pair_in first) (pair_in (first / 2 ^ 24)) (pair_in second) (pair_in (second / 2 ^ 24)) in
    omega (arith, all, c.value_of_two-low.ensures.value, c.value_of_two.ensures.value)
