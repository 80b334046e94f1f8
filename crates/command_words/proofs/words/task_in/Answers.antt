use Rattle.std.proofs.Common.{◌∙◌, ℕ, List, ap, codes, sym}
use Rattle.std.specs.Borrow.{Bor}
use Rattle.std.specs.Prelude.{option_and_then}
use Rattle.clap.specs.Matches.{found_of}
use Rattle.command_words.proofs.Reading.{read_in_rows}
use Rattle.command_words.specs.Words.{task_of}
use Rattle.command_words.proofs.words.task_in.Goals as goal

pub returns-in_err-get_str : goal.returns-in_err-get_str
returns-in_err-get_str c =
    c.from_residual.ensures ∙ ap (option_and_then (λ (s : Bor (List ℕ)). task_of s.now)) (sym c.in_err-get_str.was)
    ∙ read_in_rows task_of (found_of c.args.matches.now) (codes "MODE") c.get_str.result c.get_str.ensures

pub returns : goal.returns
returns c =
    c.task_of.ensures ∙ ap (option_and_then (λ (s : Bor (List ℕ)). task_of s.now)) (sym c.in_ok-get_str.was)
    ∙ read_in_rows task_of (found_of c.args.matches.now) (codes "MODE") c.get_str.result c.get_str.ensures
