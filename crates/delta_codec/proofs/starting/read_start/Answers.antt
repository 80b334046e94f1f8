use Rattle.std.proofs.Common.{sym, arith}
use Rattle.std.proofs.lemmas.Result.{err_from_is_err_and}
use Rattle.delta_codec.specs.declared.message.Message.TheVariants.{Fib}
use Rattle.delta_codec.specs.Fields.{head_fields}
use Rattle.delta_codec.specs.Spelling.{head, operation_octets}
use Rattle.delta_codec.proofs.Begins.{begins}
use Rattle.delta_codec.proofs.Faults.{fault_before}
use Rattle.delta_codec.proofs.Standing.{Stand-append}
use Rattle.delta_codec.proofs.starting.read_start.Goals as goal

pub returns-in_err-head-clause-fault : goal.returns-in_err-head-clause-fault
returns-in_err-head-clause-fault c =
    let p = err_from_is_err_and c.from_residual.result c.from_residual.ensures.1 in
    rw (p.1, p.2) (sym (fault_before c.args.bytes.now (head_fields c.args.shape c.args.bytes.now) _ _ (sym c.in_err-head.ensures.fault)))

pub returns-in_ok-op-in-Fib-clause-starts : goal.returns-in_ok-op-in-Fib-clause-starts
returns-in_ok-op-in-Fib-clause-starts c =
    let bytes = c.args.bytes.now in
    let h = c.in_ok-head.head in
    let op = c.in_ok-op-in-Fib.op in
    let stands = rw (c.in-Fib.is) at c.in_ok-head.ensures.stands in
    let whole = Stand-append bytes 0 7 (head 0x12 h.owner h.turn h.block h.group) (operation_octets op) (omega arith) stands c.in_ok-op-in-Fib.ensures.stands in
    rw (c.from.ensures) (
      begins c.args.shape bytes (Fib (record { owner = h.owner; turn = h.turn; block = h.block; group = h.group; op = op })) c.in_ok-op-in-Fib.used
          c.in_ok-head.ensures.fits whole (omega (arith, c.in_ok-op-in-Fib.ensures.end)),
      (
        record { owner_fits = omega arith; turn_fits = omega arith; block_fits = omega arith; group_fits = omega arith },
        c.in_ok-op-in-Fib.ensures.sized,
      ),
    )
