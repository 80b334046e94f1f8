use Rattle.std.proofs.Common.{ℕ, ◌+◌, List, [], ◌∷◌, ◌++◌, codes, decimal}
use Rattle.std.proofs.lemmas.Result.{on_ok_weaker}
use Rattle.line_text.specs.Line.{line_feed}
use Rattle.line_text.proofs.Words.{more_words}
use Rattle.run_report.specs.Report.{summary_line}
use Rattle.run_report.proofs.lines.write_summary_line.Goals as goal

pub returns : goal.returns
unfolding summary_line
returns c =
    let seed : List (List ℕ) = codes "grind seed " ∷ decimal c.args.seed ∷ [] in
    let rows : List (List ℕ) = codes " rows " ∷ decimal c.args.rows ∷ [] in
    let accepted : List (List ℕ) = codes " accepted " ∷ decimal c.args.updates.0 ∷ [] in
    let refused : List (List ℕ) = codes " refused " ∷ decimal c.args.updates.1 ∷ [] in
    let packets : List (List ℕ) = codes " packets " ∷ decimal (c.args.packets.0 + c.args.packets.1) ∷ [] in
    let found : List (List ℕ) = codes " found " ∷ decimal c.args.packets.0 ∷ [] in
    let unknown : List (List ℕ) = codes " unknown " ∷ decimal c.args.packets.1 ∷ [] in
    on_ok_weaker _ (more_words (seed ++ rows ++ accepted ++ refused ++ packets ++ found ++ unknown) (line_feed ∷ []) _ _ _
    (more_words (seed ++ rows ++ accepted ++ refused ++ packets ++ found) unknown _ _ _
    (more_words (seed ++ rows ++ accepted ++ refused ++ packets) found _ _ _
    (more_words (seed ++ rows ++ accepted ++ refused) packets _ _ _
    (more_words (seed ++ rows ++ accepted) refused _ _ _
    (more_words (seed ++ rows) accepted _ _ _
    (more_words seed rows _ _ _ (rw c.from.ensures at c.in_ok-write_count.ensures) (rw c.from-2.ensures at c.in_ok-write_count-2.ensures))
    c.in_ok-write_count-3.ensures) c.in_ok-write_count-4.ensures) c.in_ok-write_count-5.ensures) c.in_ok-write_count-6.ensures)
    c.in_ok-write_count-7.ensures)) c.write_words.ensures
