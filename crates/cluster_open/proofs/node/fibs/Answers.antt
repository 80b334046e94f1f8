use Rattle.std.proofs.Common.{◌≡◌, ◌∙◌, [], ◌∷◌, ◌++◌, ℕ, List, ap, arith, rules, subst, sym}
use Rattle.flow_types.specs.declared.record.Flow.{Flow}
use Rattle.flow_types.specs.Map.{AreDistinct}
use Rattle.partial_fib.specs.Fib.{fib_after}
use Rattle.partial_fib.specs.Store.{state_of}
use Rattle.cluster_open.proofs.Dealt.{dealt_distinct, opened_by_dealt, read_dealt}
use Rattle.cluster_open.proofs.Numbered.{one_more}
use Rattle.cluster_open.proofs.node.fibs.Goals as goal

pub open-requires-clause-distinct : goal.open-requires-clause-distinct
open-requires-clause-distinct c =
    let flows = c.args.flows.now in
    let read =
    read_dealt c.args.shape c.args.number c.owners.owner c.from.result flows c.in_ok-dealt.dealt.items c.as_slice-own.result.now _ c.in_ok-dealt.ensures.dealt
    (omega (arith, c.owners-test.true, c.requires.nodes)) c.from.ensures (c.as_slice-own.ensures ∙ c.index.ensures) in
    subst AreDistinct (sym read) (dealt_distinct c.args.shape c.args.number c.owners.owner flows c.requires.distinct)

pub owners-preserved : goal.owners-preserved
owners-preserved c =
    let fibs = c.owners.fibs.items in
    let new = c.in_ok-open.field-0 in
    let flows = c.args.flows.now in
    let read =
    read_dealt c.args.shape c.args.number c.owners.owner c.from.result flows c.in_ok-dealt.dealt.items c.as_slice-own.result.now _ c.in_ok-dealt.ensures.dealt
    (omega (arith, c.owners-test.true, c.requires.nodes)) c.from.ensures (c.as_slice-own.ensures ∙ c.index.ensures) in
    let opened : state_of new ≡ fib_after c.args.shape c.args.number c.owners.owner flows [] =
    c.in_ok-open.ensures
    ∙ ap (λ (own : List Flow). fib_after c.args.shape c.args.number c.owners.owner own []) read
    ∙ opened_by_dealt c.args.shape c.args.number c.owners.owner flows c.requires.distinct c.in_ok-dealt.ensures.values in
    let pushed : c.push.new.self.items ≡ fibs ++ new ∷ [] = search rules in
    rw pushed (record {
      all = one_more state_of (λ (owner : ℕ). fib_after c.args.shape c.args.number owner flows []) fibs new c.owners.owner c.owners.invariant.all opened;
    })
