use Rattle.std.proofs.Common.{ℕ, List, [], ◌∷◌, ◌++◌}
use Rattle.std.proofs.lemmas.Result.{on_ok_weaker}
use Rattle.line_text.specs.Line.{line_feed}
use Rattle.line_text.proofs.Words.{more_words}
use Rattle.grind_rows.specs.Rows.{flow_row, flow_words}
use Rattle.grind_rows.proofs.rows.write_flow.Goals as goal

pub returns-clause-written : goal.returns-clause-written
unfolding flow_row
returns-clause-written c =
    let kind : List (List ℕ) = c.args.kind.now ∷ [] in
    on_ok_weaker _ (more_words (kind ++ flow_words c.args.flow) (line_feed ∷ []) _ _ _
    (more_words kind (flow_words c.args.flow) _ _ _ c.in_ok-append.ensures.written c.in_ok-append_flow.ensures.written))
    c.append-2.ensures.written
