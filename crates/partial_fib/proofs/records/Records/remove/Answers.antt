use Rattle.std.proofs.Common.{◌∙◌, ap, List, None, arith}
use Rattle.flow_types.specs.declared.key.FlowKey.{FlowKey}
use Rattle.flow_types.specs.declared.record.Record.{Record}
use Rattle.flow_types.specs.Key.{number}
use Rattle.partial_fib.specs.Fib.{with_record}
use Rattle.partial_fib.specs.Store.{record_among}
use Rattle.partial_fib.proofs.KeyNumbers.{updated}
use Rattle.partial_fib.proofs.records.Records.remove.Goals as goal

pub returns-clause-removed : goal.returns-clause-removed
returns-clause-removed c =
    updated c.args.key None c.self.inside.of_keys.entries c.swap_remove.new.self.entries
    (record { source = omega arith; destination = omega arith; source_port = omega arith; destination_port = omega arith; protocol = omega arith })
    c.swap_remove.ensures.updates.0
    ∙ ap (λ (entries : List (FlowKey × Record)). with_record (record_among entries) (number c.args.key) None) c.self.view_is
