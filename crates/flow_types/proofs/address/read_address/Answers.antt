use Rattle.std.proofs.Common.{◌≡◌, ◌≤◌, Some, ap, sym, arith, ◌∙◌}
use Rattle.flow_types.proofs.Dotted.{at_first, bounded, bounded_more, digit_read, digit_refused, dot_alone, dot_read, dot_refused, ends_at_dot, ends_early, from_the_start, octet_ends}
use Rattle.flow_types.proofs.address.read_address.Goals.{then-c-eq46+in_ok-dots_left+in_ok-octet, else-c-eq46+in_ok-with_digit}
use Rattle.flow_types.proofs.address.read_address.Goals as goal

pub octets-init : goal.octets-init
octets-init c = record { said = from_the_start c.args.text.now; bounded = at_first; few = omega arith }

pub overflow_mul-upper : goal.overflow_mul-upper
overflow_mul-upper c = let small = bounded c.octets.dots_left c.octets.upper c.octets.invariant.bounded in omega arith

pub overflow_add-upper : goal.overflow_add-upper
overflow_add-upper c = let small = bounded c.octets.dots_left c.octets.upper c.octets.invariant.bounded in omega arith

pub overflow_mul-result : goal.overflow_mul-result
overflow_mul-result c = let small = bounded c.octets.dots_left c.octets.upper c.octets.invariant.bounded in omega arith

pub overflow_add-result : goal.overflow_add-result
overflow_add-result c = let small = bounded c.octets.dots_left c.octets.upper c.octets.invariant.bounded in omega arith

pub returns-else-dots_left-eq0 : goal.returns-else-dots_left-eq0
returns-else-dots_left-eq0 c =
    sym (ends_early c.octets.dots_left c.octets.upper c.octets.octet c.octets.c-index c.args.text.now (omega arith) (omega arith)) ∙ c.octets.invariant.said

pub returns-in_err-dots_left : goal.returns-in_err-dots_left
returns-in_err-dots_left c =
    let used_up = c.in_err-dots_left.ensures in
    let none : c.octets.dots_left ≡ 0 = omega arith in
    c.from_residual.ensures
    ∙ sym (dot_refused c.octets.upper c.octets.c-index c.args.text.now c.octets.dots_left c.octets.octet c.octets-test.true c.if-c-eq46.true none) ∙ c.octets.invariant.said

pub returns-in_err-octet : goal.returns-in_err-octet
returns-in_err-octet c =
    c.from_residual-in_err-octet.ensures
    ∙ sym (rw c.in_err-octet.was (dot_alone c.octets.upper c.octets.c-index c.args.text.now c.octets.dots_left c.octets-test.true c.if-c-eq46.true)) ∙ c.octets.invariant.said

pub returns-in_err-with_digit : goal.returns-in_err-with_digit
returns-in_err-with_digit c =
    c.from_residual-in_err-with_digit.ensures
    ∙ sym (digit_refused c.octets.dots_left c.octets.upper c.octets.octet c.octets.c-index c.args.text.now c.octets-test.true c.if-c-eq46.false c.in_err-with_digit.ensures) ∙ c.octets.invariant.said

pub returns-in_err-octet-2 : goal.returns-in_err-octet-2
returns-in_err-octet-2 c =
    c.from_residual-in_err-octet-2.ensures
    ∙ sym (rw c.in_err-octet-2.was (ends_at_dot c.octets.upper c.octets.c-index c.args.text.now c.octets.dots_left (omega arith) c.if-dots_left-eq0.true)) ∙ c.octets.invariant.said

pub returns-in_ok-octet-2 : goal.returns-in_ok-octet-2
returns-in_ok-octet-2 c =
    let last = c.from-then-dots_left-eq0.result in
    let is : c.octets.octet ≡ Some last = c.in_ok-octet-2.was ∙ ap Some (sym c.from-then-dots_left-eq0.ensures) in
    let small : last ≤ 255 = omega arith in
    sym (rw is (octet_ends c.octets.upper c.octets.c-index c.args.text.now c.octets.dots_left last (omega arith) c.if-dots_left-eq0.true small)) ∙ c.octets.invariant.said

pub octets-preserved : goal.octets-preserved
octets-preserved c = elim c.if-c-eq46.branch [
  | then-c-eq46+in_ok-dots_left+in_ok-octet w ↦
      let last = w.from.result in
      let is : c.octets.octet ≡ Some last = w.in_ok-octet.was ∙ ap Some (sym w.from.ensures) in
      let small : last ≤ 255 = omega arith in
      let fewer = w.dots_left-is ∙ w.in_ok-dots_left.ensures.1 in
      let some = w.in_ok-dots_left.ensures.0 in
      record {
        said =
            rw (w.upper-is, w.octet-is, fewer)
            (sym (dot_read c.octets.upper c.octets.c-index c.args.text.now c.octets.dots_left last c.octets-test.true w.if-c-eq46.true some small)
            ∙ rw is at c.octets.invariant.said);
        bounded = rw (w.upper-is, fewer) (bounded_more c.octets.dots_left c.octets.upper last c.octets.invariant.bounded some c.octets.invariant.few small);
        few = rw fewer (let few = c.octets.invariant.few in omega arith);
      }
  | else-c-eq46+in_ok-with_digit w ↦ record {
    said =
        rw (w.upper-is, w.octet-is, w.dots_left-is)
        (sym (digit_read c.octets.dots_left c.octets.upper c.octets.octet c.octets.c-index c.args.text.now c.octets-test.true w.if-c-eq46.false w.in_ok-with_digit.field-0 w.in_ok-with_digit.ensures)
        ∙ c.octets.invariant.said);
    bounded = rw (w.upper-is, w.dots_left-is) c.octets.invariant.bounded;
    few = rw w.dots_left-is c.octets.invariant.few;
  }
]
