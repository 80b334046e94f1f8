use Rattle.std.proofs.Common.{◌∙◌, ap, subst, List}
use mathlib.Core.List.{IsPrefix}
use Rattle.delta_codec.specs.declared.message.FibMessage.{FibMessage}
use Rattle.flow_types.proofs.Prefixes.{prefix_same}
use Rattle.partial_fib.proofs.sharing.telling.agree.Goals as goal

pub returns : goal.returns
returns c =
    let both = c.learn.new.self.log in
    let own = ap (λ past. past.log) c.again-both.ensures ∙ c.past.ensures.turns in
    let reader : IsPrefix c.args.reader.now.turns both = subst (λ (turns : List FibMessage). IsPrefix turns both) own c.learn.ensures.2 in
    let writer : IsPrefix c.args.writer.now.turns both = subst (λ (turns : List FibMessage). IsPrefix turns both) c.past-2.ensures.turns c.learn.ensures.3 in
    prefix_same c.args.reader.now.turns c.args.writer.now.turns both reader writer c.requires.count
