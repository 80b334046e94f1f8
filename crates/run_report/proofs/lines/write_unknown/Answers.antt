use Rattle.std.proofs.Common.{[], ◌∷◌, ◌++◌}
use Rattle.std.proofs.lemmas.Result.{on_ok_weaker}
use Rattle.line_text.specs.Line.{line_feed}
use Rattle.run_report.specs.Report.{unknown_line, fib_words, node_words, packet_words, seen_words, unknown_words}
use Rattle.line_text.proofs.Words.{more_words}
use Rattle.run_report.proofs.lines.write_unknown.Goals as goal

pub returns : goal.returns
unfolding unknown_line
returns c =
    let entered = packet_words c.args.number c.args.ingress in
    let sent = node_words c.args.ingress c.args.node in
    let seen = seen_words c.args.seen in
    let fib = fib_words c.args.fib in
    on_ok_weaker _ (more_words (entered ++ sent ++ seen ++ fib ++ unknown_words) (line_feed ∷ []) _ _ _
    (more_words (entered ++ sent ++ seen ++ fib) unknown_words _ _ _
    (more_words (entered ++ sent ++ seen) fib _ _ _
    (more_words (entered ++ sent) seen _ _ _
    (more_words entered sent _ _ _ c.in_ok-write_packet.ensures c.in_ok-write_node.ensures)
    c.in_ok-write_seen.ensures) c.in_ok-write_fib.ensures) c.in_ok-write_words.ensures)) c.write_words-2.ensures
