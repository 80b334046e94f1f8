use Rattle.std.proofs.Common.{sym, arith}
use Rattle.group_search.proofs.NeededRows.{rows_of_canonical, without_record}
use Rattle.setsep_build.proofs.records.Records.add.Goals as goal

pub returns-in_ok-push-in-Ok-clause-needed : goal.returns-in_ok-push-in-Ok-clause-needed
returns-in_ok-push-in-Ok-clause-needed c =
    omega (arith, rows_of_canonical c.args.entries.now c.args.bits c.in-Ok.content (sym c.in-Ok.ensures.value), c.rows.ensures, c.from.ensures)

pub returns-in-Err-clause-needed : goal.returns-in-Err-clause-needed
returns-in-Err-clause-needed c =
    let large = without_record c.args.entries.now c.args.bits (sym c.in-Err.ensures.value) in
    omega (arith, large.0, c.in-Err.ensures.keys, c.from-in-Err.ensures)
