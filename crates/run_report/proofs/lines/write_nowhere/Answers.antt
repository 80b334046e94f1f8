use Rattle.std.proofs.Common.{[], ◌∷◌, ◌++◌}
use Rattle.std.proofs.lemmas.Result.{on_ok_weaker}
use Rattle.line_text.specs.Line.{line_feed}
use Rattle.run_report.specs.Report.{nowhere_line, packet_words, seen_words, unknown_words}
use Rattle.line_text.proofs.Words.{more_words}
use Rattle.run_report.proofs.lines.write_nowhere.Goals as goal

pub returns : goal.returns
unfolding nowhere_line
returns c =
    on_ok_weaker _ (more_words (packet_words c.args.number c.args.ingress ++ seen_words c.args.seen ++ unknown_words) (line_feed ∷ []) _ _ _
    (more_words (packet_words c.args.number c.args.ingress ++ seen_words c.args.seen) unknown_words _ _ _
    (more_words (packet_words c.args.number c.args.ingress) (seen_words c.args.seen) _ _ _ c.in_ok-write_packet.ensures c.in_ok-write_seen.ensures)
    c.in_ok-write_words.ensures)) c.write_words-2.ensures
