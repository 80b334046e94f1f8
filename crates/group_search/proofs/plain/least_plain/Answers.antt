use Rattle.std.proofs.Common.{◌≡◌, ◌∙◌, sym, refl, arith, ◌-◌, ◌+◌, Some, None}
use Rattle.group_search.specs.Serving.{first_serving, least_of}
use Rattle.group_search.specs.declared.limits.TheConstants.{INDEXES}
use Rattle.group_search.proofs.FirstServing.{first_here, first_later, least_is_least, none_exactly}
use Rattle.group_search.proofs.plain.least_plain.Goals as goal
use Rattle.group_search.proofs.plain.least_plain.Goals.{After-indexes}

pub indexes-init : goal.indexes-init
unfolding least_of
indexes-init c = refl

found : (c : goal.In-Some) → Some (record { index = c.indexes.next; array = c.in-Some.array }) ≡ least_of c.args.bit c.args.entries.now
found c =
    let here = first_here c.args.bit c.args.entries.now (INDEXES - c.indexes.next) c.indexes.next c.in-Some.array (omega arith) (sym c.array_at.ensures ∙ c.in-Some.is) in
    sym here ∙ c.indexes.invariant

pub returns-in-Some-clause-value : goal.returns-in-Some-clause-value
returns-in-Some-clause-value c = found c

pub returns-in-Some-clause-least : goal.returns-in-Some-clause-least
returns-in-Some-clause-least c = least_is_least _ _ _ (sym (found c))

pub returns-in-Some-clause-none : goal.returns-in-Some-clause-none
returns-in-Some-clause-none c = none_exactly _ _ _ (found c)

pub indexes-preserved : goal.indexes-preserved
indexes-preserved c =
    let later = first_later c.args.bit c.args.entries.now (INDEXES - c.indexes.next) c.indexes.next (omega arith) (sym c.array_at.ensures ∙ c.in_default.is) in
    let left : INDEXES - (c.indexes.next + 1) ≡ INDEXES - c.indexes.next - 1 = omega arith in
    rw left (sym later ∙ c.indexes.invariant)

none : (c : After-indexes) → None ≡ least_of c.args.bit c.args.entries.now
unfolding first_serving
none c =
    let left : INDEXES - c.indexes.next ≡ 0 = omega arith in
    rw left at c.indexes.invariant

pub returns-clause-value : goal.returns-clause-value
returns-clause-value c = none c

pub returns-clause-none : goal.returns-clause-none
returns-clause-none c = none_exactly _ _ _ (none c)
