use Rattle.std.proofs.Common.{sym}
use Rattle.std.proofs.lemmas.Result.{err_from_is_err_and}
use Rattle.delta_codec.proofs.Loops.{rows_more, rows_stop}
use Rattle.delta_codec.proofs.content.gather_rows.Goals as goal

pub returns-in_err-row-clause-fault : goal.returns-in_err-row-clause-fault
returns-in_err-row-clause-fault c =
    let p = err_from_is_err_and c.from_residual.result c.from_residual.ensures.1 in
    rw (p.1, p.2) (sym (rows_stop _ _ _ _ _ _ _ _ c.rows.invariant c.rows-test.true _ (sym c.in_err-row.ensures.fault)))

pub rows-preserved : goal.rows-preserved
rows-preserved c =
    let row = c.in_ok-row.row in
    rw (c.push.ensures.items)
    (rows_more _ _ _ _ _ _ _ _ c.rows.invariant c.rows-test.true row c.in_ok-row.ensures.stands c.in_ok-row.ensures.sized c.in_ok-row.ensures.value (sym c.in_ok-row.ensures.fault))
