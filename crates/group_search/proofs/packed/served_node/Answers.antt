use Rattle.std.proofs.Common.{◌≡◌, arith, ◌∙◌}
use Rattle.std.proofs.lemmas.Grind.{common_steps}
use Rattle.hash_family.specs.Hash.{pair}
use Rattle.group_search.specs.Decoding.{decode, value_of}
use Rattle.group_search.proofs.FourValues.{of_served}
use Rattle.group_search.proofs.WordLemmas.{pairs_there}
use Rattle.group_search.proofs.packed.served_node.Goals as goal

pub returns : goal.returns
unfolding decode
returns c = λ pairs h.
    let e : c.value_in-value.result ≡ value_of (pair c.args.key.now) pairs =
    c.value_in-value.ensures ∙ ((λ i. value_of (c.pair.ensures i) (pairs_there c.args.words)) ∙ of_served (pair c.args.key.now) _ _ _ h) in
    grind (arith, common_steps)
