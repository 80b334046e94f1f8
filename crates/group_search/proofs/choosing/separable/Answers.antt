use Rattle.std.proofs.Common.{◌≡◌, ◌-◌, not, true, false, ap, sym, ◌∙◌, arith}
use Rattle.group_search.specs.Canon.{is_separable, least_pairs}
use Rattle.group_search.proofs.Chosen.{separable_is, served_none, served_some}
use Rattle.group_search.proofs.choosing.separable.Goals as goal

pub bits-init : goal.bits-init
unfolding is_separable
bits-init c = let whole : c.args.bits - 0 ≡ c.args.bits = omega arith in rw whole

not_all : (c : goal.Then-is_none) → false ≡ is_separable c.args.bits c.args.entries.now
not_all c = sym (served_none _ _ _ c.bits-test.true c.least.result c.least.ensures.value (c.is_none.ensures ∙ ap not c.if-is_none.true)) ∙ c.bits.invariant

pub returns-then-is_none-clause-value : goal.returns-then-is_none-clause-value
returns-then-is_none-clause-value c = not_all c

pub returns-then-is_none-clause-separable : goal.returns-then-is_none-clause-separable
returns-then-is_none-clause-separable c = separable_is _ _ _ (not_all c)

pub bits-preserved : goal.bits-preserved
bits-preserved c =
    served_some _ _ _ c.bits-test.true c.least.result c.least.ensures.value (c.is_none.ensures ∙ ap not c.if-is_none.false) ∙ c.bits.invariant

all : (c : goal.After-bits) → true ≡ is_separable c.args.bits c.args.entries.now
unfolding least_pairs
all c =
    let none : c.args.bits - c.bits.bit ≡ 0 = omega arith in
    rw none at c.bits.invariant

pub returns-clause-value : goal.returns-clause-value
returns-clause-value c = all c

pub returns-clause-separable : goal.returns-clause-separable
returns-clause-separable c = separable_is _ _ _ (all c)
