use Rattle.std.proofs.Common.{ℕ, sym, ap, ◌∙◌, subst, Option, MatchOption, refl}
use Rattle.group_search.specs.Rows.{key_number}
use Rattle.group_search.proofs.RowWordLemmas.{spells_one_row}
use Rattle.group_cell.specs.Seating.{GivesNode, LacksKey}
use Rattle.group_cell.proofs.table.decoding.node_in.Goals as goal

pub returns-in_err-_group : goal.returns-in_err-_group
returns-in_err-_group c = subst (λ (o : Option ℕ). MatchOption o (LacksKey c.args.key c.args.first c.args.second) (λ node. GivesNode c.args.key c.args.first c.args.second node)) (sym c.from_residual.ensures)
    (λ group row s _. c.in_err-_group.ensures.none.0 refl group row s)

pub returns-then-number : goal.returns-then-number
returns-then-number c = λ group row s is.
    let found = (c.in_ok-_group.ensures.value c.in_ok-_group._group c.in_ok-_group.row).0 refl in
    let same = spells_one_row _ _ _ _ _ found s in
    c.if-number.true (c.number.ensures.value ∙ (ap key_number same.1 ∙ (is ∙ sym c.number-2.ensures.value)))

pub returns : goal.returns
returns c = let found = (c.in_ok-_group.ensures.value c.in_ok-_group._group c.in_ok-_group.row).0 refl in
    (c.in_ok-_group._group, c.in_ok-_group.row, found, sym c.number.ensures.value ∙ (c.if-number.false ∙ c.number-2.ensures.value), refl)
