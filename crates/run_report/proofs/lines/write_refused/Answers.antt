use Rattle.std.proofs.Common.{ℕ, List, [], ◌∷◌, ◌++◌, codes}
use Rattle.std.proofs.lemmas.Result.{on_ok_weaker}
use Rattle.line_text.specs.Line.{line_feed}
use Rattle.run_report.specs.Report.{refusal_words, refused_line}
use Rattle.line_text.proofs.Words.{more_words}
use Rattle.run_report.proofs.lines.write_refused.Goals as goal

pub returns : goal.returns
unfolding refused_line
returns c =
    let word : List (List ℕ) = c.args.word.now ∷ [] in
    let refused : List (List ℕ) = codes " refused " ∷ [] in
    on_ok_weaker _ (more_words (word ++ refused ++ refusal_words c.args.refused) (line_feed ∷ []) _ _ _
    (more_words (word ++ refused) (refusal_words c.args.refused) _ _ _
    (more_words word refused _ _ _ c.in_ok-write_words.ensures c.in_ok-write_words-2.ensures)
    c.in_ok-write_refusal.ensures)) c.write_words-3.ensures
