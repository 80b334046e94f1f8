use Rattle.std.proofs.Common.{◌∙◌, ℕ, List, ap, sym}
use Rattle.std.specs.Borrow.{Bor}
use Rattle.std.specs.Prelude.{option_and_then}
use Rattle.clap.specs.Matches.{found_of}
use Rattle.command_words.proofs.Reading.{read_in_rows}
use Rattle.command_words.specs.Words.{number_between}
use Rattle.command_words.proofs.words.number_in.Goals as goal

pub returns-in_err-get_str-clause-value : goal.returns-in_err-get_str-clause-value
returns-in_err-get_str-clause-value c =
    c.from_residual.ensures ∙ ap (option_and_then (λ (s : Bor (List ℕ)). number_between c.args.low c.args.high s.now)) (sym c.in_err-get_str.was)
    ∙ read_in_rows (number_between c.args.low c.args.high) (found_of c.args.matches.now) c.args.name.now c.get_str.result c.get_str.ensures

pub returns-clause-value : goal.returns-clause-value
returns-clause-value c =
    c.number_between.ensures.value ∙ ap (option_and_then (λ (s : Bor (List ℕ)). number_between c.args.low c.args.high s.now)) (sym c.in_ok-get_str.was)
    ∙ read_in_rows (number_between c.args.low c.args.high) (found_of c.args.matches.now) c.args.name.now c.get_str.result c.get_str.ensures
