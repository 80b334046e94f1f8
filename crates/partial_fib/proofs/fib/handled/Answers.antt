use Rattle.std.proofs.Common.{◌∙◌, ◌+◌, ap, sym, subst, List, arith}
use Rattle.flow_types.specs.declared.key.FlowKey.{FlowKey}
use Rattle.flow_types.specs.declared.record.Record.{Record}
use Rattle.partial_fib.specs.Fib.{is_handled_of}
use Rattle.partial_fib.specs.Store.{record_among}
use Rattle.partial_fib.proofs.Handled.{IsFilled, filled_all, filled_left, filled_none, filled_put, one_more_fits, records_of_opening}
use Rattle.partial_fib.proofs.fib.handled.Goals as goal
use Rattle.partial_fib.proofs.fib.handled.Goals.{then-is_handled+in_ok-put, else-is_handled}

pub flows-init : goal.flows-init
flows-init c = (
  λ n. filled_none (is_handled_of c.args.shape c.args.node c.args.owner) c.args.flows.now n _
      (ap (λ (entries : List (FlowKey × Record)). record_among entries n) c.new-records.ensures),
  λ k d below. absurd (omega arith),
)

pub flows-preserved : goal.flows-preserved
flows-preserved c =
    let own = is_handled_of c.args.shape c.args.node c.args.owner in
    let fits = one_more_fits c.args.flows.now c.flows.flow-index _ c.flows-test.true c.flows.invariant.1 c.is_handled.ensures.sized in (
      λ n. elim c.if-is_handled.branch [
        | then-is_handled+in_ok-put w ↦
            subst (IsFilled own c.args.flows.now (c.flows.flow-index + 1) n)
            (sym (ap (λ (entries : List (FlowKey × Record)). record_among entries n) w.records-is ∙ (λ i. w.in_ok-put.ensures.put i n)))
            (filled_put own c.args.flows.now c.requires c.flows.flow-index _ c.flows-test.true n _ (c.flows.invariant.0 n) (sym c.is_handled.ensures.value ∙ w.if-is_handled.true))
        | else-is_handled w ↦
            subst (IsFilled own c.args.flows.now (c.flows.flow-index + 1) n)
            (sym (ap (λ (entries : List (FlowKey × Record)). record_among entries n) w.records-is))
            (filled_left own c.args.flows.now c.requires c.flows.flow-index _ c.flows-test.true n _ (c.flows.invariant.0 n) (sym c.is_handled.ensures.value ∙ w.if-is_handled.false))
      ],
      fits,
    )

pub returns : goal.returns
returns c =
    let own = is_handled_of c.args.shape c.args.node c.args.owner in
    λ i n.
    (filled_all own c.args.flows.now c.flows.flow-index n _ c.flows-test.false (c.flows.invariant.0 n)
    ∙ records_of_opening c.args.shape c.args.node c.args.owner c.args.flows.now c.requires (λ k d within. c.flows.invariant.1 k d (omega (arith, within, c.flows-test.false))) n) i
