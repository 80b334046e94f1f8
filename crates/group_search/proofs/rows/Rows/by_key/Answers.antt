use Rattle.std.proofs.Common.{map, ◌∙◌, ap, subst, rules}
use Rattle.std.specs.Prelude.{IsPermutation}
use Rattle.std.proofs.lemmas.List.{take_all}
use Rattle.std.proofs.lemmas.List.Sorted.{IsNonDecreasingBy-from_sort_by_key}
use Rattle.group_search.specs.Rows.{key_number, row_of}
use Rattle.group_search.proofs.Rising.{sorted_into}
use Rattle.group_search.proofs.rows.Rows.by_key.Goals as goal

pub invariant_of-result : goal.invariant_of-result
invariant_of-result c =
    let all = c.entries.invariant ∙ ap (map row_of) (take_all c.entries.entry-index c.args.entries.now c.entries-test.false) in
    let up = IsNonDecreasingBy-from_sort_by_key key_number _ c.sort_unstable_by_key.ensures.sorted (λ a r q k. search rules) in
    let sorted = sorted_into _ _ _ c.requires.distinct c.requires.enough c.requires.few all (subst (λ xs. IsPermutation xs c.sort_unstable_by_key.new.self) c.deref_mut.ensures.value c.sort_unstable_by_key.ensures.permutation) up in
    rw sorted.whole sorted.valid

pub returns : goal.returns
returns c =
    let all = c.entries.invariant ∙ ap (map row_of) (take_all c.entries.entry-index c.args.entries.now c.entries-test.false) in
    let up = IsNonDecreasingBy-from_sort_by_key key_number _ c.sort_unstable_by_key.ensures.sorted (λ a r q k. search rules) in
    let sorted = sorted_into _ _ _ c.requires.distinct c.requires.enough c.requires.few all (subst (λ xs. IsPermutation xs c.sort_unstable_by_key.new.self) c.deref_mut.ensures.value c.sort_unstable_by_key.ensures.permutation) up in
    sorted.whole ∙ sorted.same
