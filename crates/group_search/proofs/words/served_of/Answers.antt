use Rattle.std.proofs.Common.{◌≡◌, ◌≤◌, Some, All, drop, take, ap, sym, ◌∙◌, arith, subst}
use Rattle.std.proofs.lemmas.Bool.{not-false}
use Rattle.std.proofs.lemmas.Slice.Eq.{bytes_eq-Decides}
use Rattle.flow_types.specs.Size.{most_value_bits}
use Rattle.group_search.specs.Served.{zero_pair}
use Rattle.group_search.specs.Words.{AreServedWords, served_words}
use Rattle.group_search.proofs.WordLemmas.{pairs_there, rest_is_zero, rest_of, served_there, spelled_again, taken_are, words_there}
use Rattle.group_search.proofs.words.served_of.Goals as goal

pub returns-then-not-are_zero : goal.returns-then-not-are_zero
returns-then-not-are_zero c = λ pairs. (
  λ e. cc,
  λ h.
      let rest = rest_of _ _ _ c.args.words c.from-2.ensures c.pairs_of-pairs.ensures in
      let zero = c.are_zero.ensures.1 (rw rest (rest_is_zero _ _ _ h)) in
      cc,
)

pub returns-then-ne : goal.returns-then-ne
returns-then-ne c = λ pairs. (
  λ e. cc,
  λ h.
      let same = c.served_words.ensures.value ∙ ap served_words c.pairs_of-pairs.ensures ∙ spelled_again _ _ _ h in
      let equal = (bytes_eq-Decides _ _).1 same in
      cc,
)

rest : (c : goal.Else-ne) → All (λ p. p ≡ zero_pair) (drop c.args.bits (pairs_there c.args.words))
rest c =
    let seen = rest_of _ _ _ c.args.words c.from-2.ensures c.pairs_of-pairs.ensures in
    subst (All (λ p. p ≡ zero_pair)) seen (c.are_zero.ensures.0 c.if-not-are_zero.false)

few : (c : goal.Else-ne) → c.args.bits ≤ most_value_bits
few c = omega (arith, c.from.ensures, c.if-from-gt-MOST_BITS.false)

enough : (c : goal.Else-ne) → 1 ≤ c.args.bits
enough c = omega (arith, c.if-bits-eq0.false)

pub invariant_of-result : goal.invariant_of-result
invariant_of-result c = rw c.pairs_of-pairs.ensures (served_there c.args.bits c.args.words (enough c) (few c) (rest c))

pub returns : goal.returns
returns c =
    let same = (bytes_eq-Decides c.served_words.result c.args.words).0 (not-false _ (sym c.ne.ensures ∙ c.if-ne.false)) in
    let spelled : served_words (pairs_there c.args.words) ≡ c.args.words = sym (c.served_words.ensures.value ∙ ap served_words c.pairs_of-pairs.ensures) ∙ same in
    let taken : take c.args.bits c.pairs_of-pairs.result ≡ take c.args.bits (pairs_there c.args.words) = ap (take c.args.bits) c.pairs_of-pairs.ensures in
    λ pairs. (
      λ e. let is : take c.args.bits (pairs_there c.args.words) ≡ pairs = cc in
          subst (λ ps. AreServedWords c.args.bits ps c.args.words) is (words_there c.args.bits c.args.words (enough c) (few c) (rest c) spelled),
      λ h. ap Some (taken ∙ taken_are _ _ _ h),
    )
