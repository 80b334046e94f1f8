use Rattle.std.proofs.Common.{◌++◌, ◌∷◌, [], sym, subst}
use Rattle.delta_codec.specs.declared.message.Message.{Message}
use Rattle.turn_relay.specs.declared.state.State.{State}
use Rattle.turn_relay.specs.Follow.{Follow}
use Rattle.turn_relay.proofs.Follows.{follows_fib, follows_table}
use Rattle.turn_relay.proofs.applying.act.Goals as goal

pub returns-in-Table-clause-follow : goal.returns-in-Table-clause-follow
returns-in-Table-clause-follow g c before follows =
    let table = c.args.table.now in
    let fib = c.args.fib.now in
    let clear = subst (λ (state : State). Follow table fib before state) c.in-Clear.is follows in
    let said = c.apply.ensures in
    subst (λ (message : Message). Follow c.apply.new.self fib (before ++ message ∷ []) c.after_table.result) (sym c.in-Table.is)
    (follows_table table before c.in-Table.message c.apply.result said.foreign said.repeat said.early said.rows_full clear.0 c.apply.new.self fib c.after_table.result
    clear said.shard said.listed c.after_table.ensures)

pub returns-in-Fib-clause-follow : goal.returns-in-Fib-clause-follow
returns-in-Fib-clause-follow g c before follows =
    let table = c.args.table.now in
    let fib = c.args.fib.now in
    let clear = subst (λ (state : State). Follow table fib before state) c.in-Clear.is follows in
    let said = c.apply-in-Fib.ensures in
    subst (λ (message : Message). Follow table c.apply-in-Fib.new.self (before ++ message ∷ []) c.after_fib.result) (sym c.in-Fib.is)
    (follows_fib fib before c.in-Fib.message c.apply-in-Fib.result said.foreign said.repeat said.early clear.1 table c.apply-in-Fib.new.self c.after_fib.result
    clear said.opening said.published c.after_fib.ensures)
