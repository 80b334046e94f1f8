use Rattle.std.proofs.Common.{[], ◌∷◌}
use Rattle.std.proofs.lemmas.Result.{on_ok_weaker}
use Rattle.line_text.specs.Line.{line_feed}
use Rattle.run_report.specs.Report.{carry_line, carry_words}
use Rattle.line_text.proofs.Words.{more_words}
use Rattle.run_report.proofs.lines.write_carry.Goals as goal

pub returns : goal.returns
unfolding carry_line
returns c = on_ok_weaker _ (more_words (carry_words c.args.reply.now) (line_feed ∷ []) _ _ _ c.in_ok-write_carried.ensures) c.write_words.ensures
