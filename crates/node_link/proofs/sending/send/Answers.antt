use Rattle.std.proofs.Common.{◌∙◌, ap, sym}
use Rattle.std.proofs.lemmas.Result.{on_ok_weaker}
use Rattle.std.specs.Arc.{arc_value}
use Rattle.node_link.specs.Ends.{sender_end}
use Rattle.node_link.proofs.Sent.{one_more}
use Rattle.node_link.proofs.sending.send.Goals as goal

pub returns-clause-sent : goal.returns-clause-sent
returns-clause-sent g c =
    let queue = (arc_value c.end.inside.line).queue in
    let was = ap (sender_end queue) (sym c.in-Some.is) ∙ c.end.view_is in
    on_ok_weaker c.push.result
    (one_more queue c.in-Some.port c.push.new.port c.args.end.now c.args.shape c.in_ok-letter.letter c.args.message.now was c.requires.shape
    c.spellings_have_one_message.ensures c.in_ok-letter.ensures)
    c.push.ensures.sent
