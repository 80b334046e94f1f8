use Rattle.std.proofs.Common.{arith}
use Rattle.group_search.proofs.RowWordLemmas.{spelled_words}
use Rattle.group_search.proofs.row_spelling.words_of.Goals as goal

pub returns : goal.returns
returns c = spelled_words c.args.group c.args.row c.number-number.result _ _ c.requires
    (record { source = omega arith; destination = omega arith; source_port = omega arith; destination_port = omega arith; protocol = omega arith })
    (omega arith) c.number-number.ensures.value (omega arith) (omega arith)
