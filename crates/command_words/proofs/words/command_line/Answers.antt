use Rattle.std.proofs.Common.{◌∙◌, ap₂}
use Rattle.std.proofs.lemmas.Result.{IfOk-weaker}
use Rattle.clap.specs.Simple.{with_rule}
use Rattle.command_words.specs.Words.{program}
use Rattle.command_words.proofs.words.command_line.Goals as goal

pub returns : goal.returns
unfolding program
returns c =
    let one = c.in_ok-arg.ensures.shape c.task_word.ensures.local ∙ ap₂ with_rule c.bare_line.ensures c.task_word.ensures.rule in
    let two = c.in_ok-arg-2.ensures.shape c.option.ensures.local ∙ ap₂ with_rule one c.option.ensures.rule in
    let three = c.in_ok-arg-3.ensures.shape c.option-2.ensures.local ∙ ap₂ with_rule two c.option-2.ensures.rule in
    IfOk-weaker c.arg-4.result _ _ (λ made adds. adds.shape c.option-3.ensures.local ∙ ap₂ with_rule three c.option-3.ensures.rule) c.arg-4.ensures
