use Rattle.std.proofs.Common.{◌++◌}
use Rattle.std.proofs.lemmas.Result.{on_ok_weaker}
use Rattle.line_text.proofs.Words.{more_words}
use Rattle.grind_rows.specs.Rows.{address_words, number_words}
use Rattle.grind_rows.proofs.fields.append_key.Goals as goal

pub returns-clause-written : goal.returns-clause-written
returns-clause-written c =
    let source = address_words c.args.key.source in
    let destination = address_words c.args.key.destination in
    let source_port = number_words c.args.key.source_port in
    let destination_port = number_words c.args.key.destination_port in
    let protocol = number_words c.args.key.protocol in
    on_ok_weaker _ (more_words (source ++ destination ++ source_port ++ destination_port) protocol _ _ _
    (more_words (source ++ destination ++ source_port) destination_port _ _ _
    (more_words (source ++ destination) source_port _ _ _
    (more_words source destination _ _ _ c.in_ok-append_address.ensures.written c.in_ok-append_address-2.ensures.written)
    (rw c.from.ensures at c.in_ok-append_number.ensures.written))
    (rw c.from-2.ensures at c.in_ok-append_number-2.ensures.written)))
    (rw c.from-3.ensures at c.append_number-3.ensures.written)
