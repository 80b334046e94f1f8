use Rattle.std.proofs.Common.{◌≡◌, ◌∙◌, map}
use Rattle.std.specs.Prelude.{string_bytes}
use Rattle.clap.specs.Simple.{app_of}
use Rattle.command_words.proofs.Reading.{words_refused, words_taken}
use Rattle.command_words.proofs.words.read_command.Goals as goal

pub returns-in-Ok-clause-meaning : goal.returns-in-Ok-clause-meaning
returns-in-Ok-clause-meaning c =
    c.command_of.ensures.value
    ∙ words_taken (app_of c.in_ok-line.line) c.in_ok-line.ensures (map string_bytes c.args.words.now) _ c.in-Ok.ensures.kinds c.in-Ok.ensures.matches

pub returns-in-Err-2-clause-meaning : goal.returns-in-Err-2-clause-meaning
returns-in-Err-2-clause-meaning c =
    let one : c.in-Err.error.kind ≡ c.in-Err-2.field-0.kind = cc in
    words_refused (app_of c.in_ok-line.line) c.in_ok-line.ensures (map string_bytes c.args.words.now) c.in-Err-2.field-0 c.kind.result c.eq.result
    (c.kind.ensures ∙ one) c.eq.ensures c.if-eq.false c.in-Err-2.ensures.kinds
