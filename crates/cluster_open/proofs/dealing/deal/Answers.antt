use Rattle.std.proofs.Common.{◌≡◌, ◌∙◌, ◌<◌, ◌≤◌, ◌%◌, ◌++◌, ◌∷◌, [], List, ℕ, Vec, Global, length, get_or, set, ap, arith, sym}
use Rattle.std.proofs.lemmas.List.{get_or_default, length-set, append-nil, drop_all}
use Rattle.flow_types.specs.declared.record.Flow.{Flow}
use Rattle.flow_types.specs.Size.{Size}
use Rattle.partial_fib.proofs.Handled.{one_more_fits}
use Rattle.cluster_open.specs.Dealing.{own_flows}
use Rattle.cluster_open.specs.declared.dealing.FibFlows.{FibFlows}
use Rattle.cluster_open.proofs.Dealt.{dealt_to, nothing_left, passed_by}
use Rattle.cluster_open.proofs.dealing.deal.Goals as goal
use Rattle.cluster_open.proofs.dealing.deal.Goals.{then-is_handled_by+in_ok-push, else-is_handled_by}

pub flows-preserved : goal.flows-preserved
flows-preserved c =
    let size : Size = c.args.shape in
    let flows = c.args.flows.now in
    let found = c.flows.dealt.items in
    let i = c.flows.flow-index in
    let fit = one_more_fits flows i _ c.flows-test.true c.flows.invariant.fit c.is_handled_by.ensures.sized in
    elim c.if-is_handled_by.branch [
      | then-is_handled_by+in_ok-push w ↦
          let at : ℕ = w.from.result in
          let flow : Flow = get_or flows i _ in
          let is_at = w.from.ensures ∙ w.owner-owner.ensures.value ∙ ap (λ p. p.block % size.nodes) w.place.ensures.value in
          let in_range : at < length found = omega (arith, c.flows.invariant.one_each, w.owner-owner.ensures.below, w.from.ensures) in
          let read : w.index_mut.result.now ≡ get_or found at [] = w.index_mut.ensures.value ∙ get_or_default found at _ [] in_range in
          let whole : w.push.new.self ≡ get_or found at [] ++ flow ∷ [] = w.in_ok-push.ensures.ok ∙ ap (λ (l : List Flow). l ++ flow ∷ []) read in
          let is : c.if-is_handled_by.dealt.items ≡ set found at (get_or found at [] ++ flow ∷ []) = ap (λ (v : Vec FibFlows Global). v.items) w.dealt-is ∙ ap (set found at) whole in
          rw is (record {
            one_each = length-set found at _ ∙ c.flows.invariant.one_each;
            each = λ owner within.
                dealt_to size c.args.node owner i flows _ c.flows-test.true found (c.flows.invariant.each owner within) at
                (sym c.is_handled_by.ensures.value ∙ w.if-is_handled_by.true) is_at in_range;
            fit = fit;
          })
      | else-is_handled_by w ↦
          let same : c.if-is_handled_by.dealt.items ≡ found = ap (λ (v : Vec FibFlows Global). v.items) w.dealt-is in
          rw same (record {
            one_each = c.flows.invariant.one_each;
            each = λ owner within.
                passed_by size c.args.node owner i flows _ c.flows-test.true found (c.flows.invariant.each owner within)
                (sym c.is_handled_by.ensures.value ∙ w.if-is_handled_by.false);
            fit = fit;
          })
    ]

pub returns-clause-dealt : goal.returns-clause-dealt
returns-clause-dealt c =
    let size : Size = c.args.shape in
    let flows = c.args.flows.now in
    let found = c.flows.dealt.items in
    let past : length flows ≤ c.flows.flow-index = omega arith in
    record {
      one_each = c.flows.invariant.one_each;
      each = λ owner within.
          sym (append-nil _) ∙ ap (λ (l : List Flow). get_or found owner [] ++ l) (sym (nothing_left size c.args.node owner))
          ∙ ap (λ (l : List Flow). get_or found owner [] ++ own_flows size c.args.node owner l) (sym (drop_all c.flows.flow-index flows past))
          ∙ c.flows.invariant.each owner within;
    }
