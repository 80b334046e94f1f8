use Rattle.std.proofs.Common.{ℕ, ◌+◌, List, [], ◌∷◌, ◌++◌, codes, decimal}
use Rattle.std.proofs.lemmas.Result.{on_ok_weaker}
use Rattle.line_text.specs.Line.{line_feed}
use Rattle.run_report.specs.Report.{last_line}
use Rattle.line_text.proofs.Words.{more_words}
use Rattle.run_report.proofs.lines.write_last_line.Goals as goal

pub returns : goal.returns
unfolding last_line
returns c =
    let packets : List (List ℕ) = codes "done packets " ∷ decimal (c.args.found + c.args.unknown) ∷ [] in
    let found : List (List ℕ) = codes " found " ∷ decimal c.args.found ∷ [] in
    let unknown : List (List ℕ) = codes " unknown " ∷ decimal c.args.unknown ∷ [] in
    on_ok_weaker _ (more_words (packets ++ found ++ unknown) (line_feed ∷ []) _ _ _
    (more_words (packets ++ found) unknown _ _ _
    (more_words packets found _ _ _ c.in_ok-write_count.ensures c.in_ok-write_count-2.ensures)
    c.in_ok-write_count-3.ensures)) c.write_words.ensures
