use Rattle.std.proofs.Common.{sym, subst, ◌∙◌}
use Rattle.group_search.specs.Words.{AreServedWords}
use Rattle.group_search.proofs.WordLemmas.{packed_pairs}
use Rattle.group_search.proofs.words.pack.Goals as goal

pub returns-in-Served-clause-kept : goal.returns-in-Served-clause-kept
returns-in-Served-clause-kept c =
    let packed = packed_pairs c.served.inside.bits c.served.inside.pairs c.served_words.result c.served.invariant c.served_words.ensures.sized c.served_words.ensures.value in
    rw c.in-Served.is (λ bits has.
    let same = subst (λ ps. AreServedWords c.served.inside.bits ps c.served_words.result) c.served.view_is packed in
    subst (λ n. AreServedWords n c.in-Served.served c.served_words.result) (sym same.one_each ∙ has) same)
