use Rattle.std.proofs.Common.{◌≤◌, length, ap, arith}
use Rattle.flow_types.proofs.Prefixes.{prefix_trans}
use Rattle.delta_codec.specs.declared.message.FibOp.TheVariants.{Nothing}
use Rattle.delta_codec.specs.declared.message.Message.{Message}
use Rattle.delta_codec.specs.declared.message.Message.TheVariants.{Fib, Table}
use Rattle.delta_codec.specs.Spelling.{spelling}
use Rattle.turn_log.specs.Turn.{fib_with, head_of, table_with}
use Rattle.turn_log.proofs.Longest.{nothing_long, table_long}
use Rattle.turn_log.proofs.Plans.{own_place, put_on}
use Rattle.turn_log.proofs.Spelled.{spelled_as}
use Rattle.turn_log.proofs.sending.put_turn.Goals as goal

pub put_message-table-requires-clause-room : goal.put_message-table-requires-clause-room
put_message-table-requires-clause-room c =
    let long : length (spelling c.table.result) ≤ 905 =
    omega (arith, table_long c.args.shape (head_of c.args.owner c.args.turn) c.args.turn.content c.requires.content, ap (λ (m : Message). length (spelling m)) c.table.ensures) in
    omega (arith, c.requires.room)

pub put_message-nothing-requires-clause-room : goal.put_message-nothing-requires-clause-room
put_message-nothing-requires-clause-room c =
    let long : length (spelling c.table.result) ≤ 905 =
    omega (arith, table_long c.args.shape (head_of c.args.owner c.args.turn) c.args.turn.content c.requires.content, ap (λ (m : Message). length (spelling m)) c.table.ensures) in
    let short : length (spelling c.fib.result) ≤ 8 =
    omega (arith, nothing_long (head_of c.args.owner c.args.turn), ap (λ (m : Message). length (spelling m)) c.fib.ensures) in
    omega (arith, c.requires.room, c.put_message-table.ensures.len, c.put_message-table.ensures.capacity)

pub send_put-put-requires-clause-room : goal.send_put-put-requires-clause-room
send_put-put-requires-clause-room c =
    let long : length (spelling c.table.result) ≤ 905 =
    omega (arith, table_long c.args.shape (head_of c.args.owner c.args.turn) c.args.turn.content c.requires.content, ap (λ (m : Message). length (spelling m)) c.table.ensures) in
    let short : length (spelling c.fib.result) ≤ 8 =
    omega (arith, nothing_long (head_of c.args.owner c.args.turn), ap (λ (m : Message). length (spelling m)) c.fib.ensures) in
    omega (
      arith,
      c.requires.room,
      c.put_message-table.ensures.len,
      c.put_message-table.ensures.capacity,
      c.put_message-nothing.ensures.len,
      c.put_message-nothing.ensures.capacity,
    )

pub send_drop-drop-requires-clause-room : goal.send_drop-drop-requires-clause-room
send_drop-drop-requires-clause-room c =
    let long : length (spelling c.table.result) ≤ 905 =
    omega (arith, table_long c.args.shape (head_of c.args.owner c.args.turn) c.args.turn.content c.requires.content, ap (λ (m : Message). length (spelling m)) c.table.ensures) in
    let short : length (spelling c.fib.result) ≤ 8 =
    omega (arith, nothing_long (head_of c.args.owner c.args.turn), ap (λ (m : Message). length (spelling m)) c.fib.ensures) in
    omega (
      arith,
      c.requires.room,
      c.put_message-table.ensures.len,
      c.put_message-table.ensures.capacity,
      c.put_message-nothing.ensures.len,
      c.put_message-nothing.ensures.capacity,
      c.send_put-put.ensures.len,
      c.send_put-put.ensures.capacity,
    )

pub returns-clause-table : goal.returns-clause-table
returns-clause-table c =
    spelled_as c.args.shape c.put_message-table.new.octets.items c.send_drop-drop.new.octets.items c.put_message-table.result c.table.result
    (Table (table_with (head_of c.args.owner c.args.turn) c.args.turn.content)) c.table.ensures
    (prefix_trans c.put_message-table.new.octets.items c.put_message-nothing.new.octets.items c.send_drop-drop.new.octets.items c.put_message-nothing.ensures.appended
    (prefix_trans c.put_message-nothing.new.octets.items c.send_put-put.new.octets.items c.send_drop-drop.new.octets.items c.send_put-put.ensures.appended c.send_drop-drop.ensures.appended))
    c.put_message-table.ensures.spelled

pub returns-clause-fib : goal.returns-clause-fib
returns-clause-fib c node =
    own_place c.args.shape c.send_drop-drop.new.octets.items (head_of c.args.owner c.args.turn) c.args.turn.change.key node c.put_message-nothing.result
    (spelled_as c.args.shape c.put_message-nothing.new.octets.items c.send_drop-drop.new.octets.items c.put_message-nothing.result c.fib.result
    (Fib (fib_with (head_of c.args.owner c.args.turn) Nothing)) c.fib.ensures
    (prefix_trans c.put_message-nothing.new.octets.items c.send_put-put.new.octets.items c.send_drop-drop.new.octets.items c.send_put-put.ensures.appended c.send_drop-drop.ensures.appended)
    c.put_message-nothing.ensures.spelled)
    c.send_drop-drop.result c.args.turn.fib.drop c.send_drop-drop.ensures.node c.send_drop-drop.ensures.spelled
    c.send_put-put.result c.args.turn.change.to c.send_put-put.ensures.node
    (put_on c.args.shape c.send_put-put.new.octets.items c.send_drop-drop.new.octets.items (head_of c.args.owner c.args.turn) c.args.turn.change.key c.send_drop-drop.ensures.appended
    c.send_put-put.result c.args.turn.change.to c.send_put-put.ensures.spelled)
