use Rattle.std.proofs.Common.{◌∙◌, ap, List, arith}
use Rattle.flow_types.specs.declared.key.FlowKey.{FlowKey}
use Rattle.flow_types.specs.declared.record.Record.{Record}
use Rattle.flow_types.specs.Key.{number}
use Rattle.partial_fib.specs.Store.{record_among}
use Rattle.partial_fib.proofs.KeyNumbers.{record_at_key}
use Rattle.partial_fib.proofs.records.Records.find.Goals as goal

pub returns : goal.returns
returns c =
    c.copied.ensures ∙ c.get.ensures.value
    ∙ record_at_key c.args.key c.self.inside.of_keys.entries
    (record { source = omega arith; destination = omega arith; source_port = omega arith; destination_port = omega arith; protocol = omega arith })
    ∙ ap (λ (entries : List (FlowKey × Record)). record_among entries (number c.args.key)) c.self.view_is
