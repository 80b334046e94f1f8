use Rattle.std.proofs.Common.{ℕ, List, [], ◌∷◌, codes, decimal}
use Rattle.std.proofs.lemmas.Result.{on_ok_weaker}
use Rattle.line_text.proofs.Words.{more_words}
use Rattle.run_report.proofs.lines.write_rows.Goals as goal

pub returns : goal.returns
returns c =
    let needed : List (List ℕ) = codes "rowsfull needed " ∷ decimal c.args.needed ∷ [] in
    let free : List (List ℕ) = codes " free " ∷ decimal c.args.free ∷ [] in
    on_ok_weaker _ (more_words needed free _ _ _ (rw c.from.ensures at c.in_ok-write_count.ensures)) (rw c.from-2.ensures at c.write_count-2.ensures)
