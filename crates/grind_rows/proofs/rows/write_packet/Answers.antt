use Rattle.std.proofs.Common.{ℕ, List, [], ◌∷◌, ◌++◌, codes}
use Rattle.std.proofs.lemmas.Result.{on_ok_weaker}
use Rattle.line_text.specs.Line.{line_feed}
use Rattle.line_text.proofs.Words.{more_words}
use Rattle.grind_rows.specs.Rows.{key_words, number_words, packet_text}
use Rattle.grind_rows.proofs.rows.write_packet.Goals as goal

pub returns-clause-written : goal.returns-clause-written
unfolding packet_text
returns-clause-written c =
    let kind : List (List ℕ) = codes "packet" ∷ [] in
    let entered = number_words c.args.ingress in
    on_ok_weaker _ (more_words (kind ++ entered ++ key_words c.args.key) (line_feed ∷ []) _ _ _
    (more_words (kind ++ entered) (key_words c.args.key) _ _ _
    (more_words kind entered _ _ _ c.in_ok-append.ensures.written (rw c.from.ensures at c.in_ok-append_number.ensures.written))
    c.in_ok-append_key.ensures.written))
    c.append-2.ensures.written
