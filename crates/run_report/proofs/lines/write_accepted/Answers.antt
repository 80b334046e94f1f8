use Rattle.std.proofs.Common.{ℕ, List, [], ◌∷◌, ◌++◌, codes, decimal}
use Rattle.std.proofs.lemmas.Result.{on_ok_weaker}
use Rattle.line_text.specs.Line.{line_feed}
use Rattle.run_report.specs.Report.{accepted_line}
use Rattle.line_text.proofs.Words.{more_words}
use Rattle.run_report.proofs.lines.write_accepted.Goals as goal

pub returns : goal.returns
unfolding accepted_line
returns c =
    let word : List (List ℕ) = c.args.word.now ∷ [] in
    let owner : List (List ℕ) = codes " accepted owner " ∷ decimal c.args.owner ∷ [] in
    let turn : List (List ℕ) = codes " turn " ∷ decimal c.args.turn ∷ [] in
    on_ok_weaker _ (more_words (word ++ owner ++ turn) (line_feed ∷ []) _ _ _
    (more_words (word ++ owner) turn _ _ _
    (more_words word owner _ _ _ c.in_ok-write_words.ensures (rw c.from.ensures at c.in_ok-write_count.ensures))
    (rw c.from-2.ensures at c.in_ok-write_count-2.ensures))) c.write_words-2.ensures
