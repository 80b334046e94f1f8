use Rattle.std.proofs.Common.{◌++◌}
use Rattle.std.proofs.lemmas.Result.{on_ok_weaker}
use Rattle.line_text.proofs.Words.{more_words}
use Rattle.grind_rows.specs.Rows.{address_words, key_words, number_words}
use Rattle.grind_rows.proofs.fields.append_flow.Goals as goal

pub returns-clause-written : goal.returns-clause-written
returns-clause-written c =
    let key = key_words c.args.flow.key in
    let node = number_words c.args.flow.node in
    let teid = number_words c.args.flow.info.teid in
    let base = address_words c.args.flow.info.base in
    on_ok_weaker _ (more_words (key ++ node ++ teid) base _ _ _
    (more_words (key ++ node) teid _ _ _
    (more_words key node _ _ _ c.in_ok-append_key.ensures.written (rw c.from.ensures at c.in_ok-append_number.ensures.written))
    (rw c.from-2.ensures at c.in_ok-append_number-2.ensures.written)))
    c.append_address.ensures.written
