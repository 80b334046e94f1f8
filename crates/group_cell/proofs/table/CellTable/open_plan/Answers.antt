use Rattle.std.proofs.Common.{◌≡◌, ◌∙◌, ℕ, List, [], sym, ap, subst}
use Rattle.atomic_table.specs.Table.{opening}
use Rattle.group_cell.specs.Opening.{Opened}
use Rattle.group_cell.specs.Rule.{Kept}
use Rattle.group_cell.specs.Plays.{first_view}
use Rattle.group_cell.proofs.Opening.{opens}
use Rattle.group_cell.proofs.table.CellTable.open_plan.Goals as goal

pub of_words-requires : goal.of_words-requires
of_words-requires c =
    let o : Opened = c.plan.inside.opening in
    let key : c.of-about.result.value ≡ o = c.of-about.ensures in
    let words : c.as_slice-2.result.now ≡ o.words = c.as_slice-2.ensures.value ∙ ap (λ (x : Opened). x.words) c.opening.view_is in
    subst (λ (x : Opened × List ℕ). Kept {S = ℕ} x.0 (opening x.1 [] (first_view x.0))) (λ i. (sym key i, sym words i))
    (opens ℕ o c.plan.inside.owners.items c.plan.invariant.laid c.plan.invariant.bits c.plan.invariant.in_cluster)
