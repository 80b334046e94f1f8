use Rattle.std.proofs.Common.{sym, ◌∙◌, subst}
use Rattle.group_search.specs.Rows.{AreRows}
use Rattle.delta_codec.specs.Fits.{RowsFit}
use Rattle.delta_codec.proofs.RowsFit.{fit-rows, gathered_fit}
use Rattle.delta_codec.proofs.content.read_rows.Goals as goal

pub unreachable-requires : goal.unreachable-requires
unreachable-requires c =
    let read = c.in_ok-rows.ensures in
    let fit = gathered_fit c.args.shape.nodes c.args.bytes.now c.args.at c.args.count c.in_ok-rows.rows.items read.counted c.requires.enough c.requires.few read.sized read.stands read.fault in
    let rows : AreRows c.as_slice.result.now = subst AreRows (sym c.as_slice.ensures.value) (fit-rows _ _ fit) in
    let some = c.in-None.ensures.valid.1 rows in
    absurd cc

pub returns-clause-fits : goal.returns-clause-fits
returns-clause-fits c =
    let read = c.in_ok-rows.ensures in
    let fit = gathered_fit c.args.shape.nodes c.args.bytes.now c.args.at c.args.count c.in_ok-rows.rows.items read.counted c.requires.enough c.requires.few read.sized read.stands read.fault in
    subst (RowsFit c.args.shape.nodes) (sym (c.in-Some.ensures.value ∙ c.as_slice.ensures.value)) fit
