use Rattle.std.proofs.Common.{◌≡◌, ◌∙◌, ◌<◌, Err, length, subst, get_or, refl, sym, ap}
use Rattle.partial_fib.specs.Fib.{FibState, with_turn}
use Rattle.partial_fib.specs.Store.{state_of}
use Rattle.cluster_replay.specs.Cluster.{NodeStore, node_state_of, fib_in}
use Rattle.partial_fib.specs.declared.refused.FibRefused.TheVariants.{Early, Repeat}
use Rattle.cluster_replay.proofs.Answered.{applied, next_of_ok, repeated, same_fib, fib_here, too_early, with_fib}
use Rattle.cluster_replay.proofs.node.Node.take_fib.Goals as goal
use Rattle.cluster_replay.proofs.node.Node.take_fib.Goals.{in-Ok, in-Err-Repeat, in-Err-Early, in-Err-OutOfMemory}

pub returns-clause-reply : goal.returns-clause-reply
returns-clause-reply c =
    let node : NodeStore = c.args.self.now in
    let old = c.index_mut.result.now in
    let is_old : old ≡ get_or node.fibs c.args.message.now.owner old = rw (← c.from.ensures, ← c.self.view_is) c.index_mut.ensures.value in
    let here : state_of old ≡ fib_in (node_state_of node) c.args.message.now.owner = fib_here node c.args.message.now.owner old c.requires.there is_old in
    let have : old.taken ≡ (fib_in (node_state_of node) c.args.message.now.owner).taken = ap (λ (f : FibState). f.taken) here in
    let own : c.args.message.now.owner ≡ old.owner = sym (ap (λ (f : FibState). f.owner) here ∙ c.requires.own) in
    elim c.match-apply.branch [
      | in-Ok w ↦
          rw (w.result-is, ← have)
          (applied old.taken c.args.message.now.turn
          (next_of_ok c.apply.result Repeat Early old.taken c.args.message.now.turn _ w.in-Ok.is
          (λ late. (c.apply.ensures.repeat old.taken).1 (own, late, refl)) (λ early. (c.apply.ensures.early old.taken).1 (own, early, refl))))
      | in-Err-Repeat w ↦
          let facts = (c.apply.ensures.repeat w.in-Err-Repeat.have).0 (w.in-Err-Repeat.is ∙ ap Err w.in-Err-Repeat.field-0-is) in
          rw (w.result-is, facts.2, ← have) (repeated old.taken c.args.message.now.turn facts.1)
      | in-Err-Early w ↦
          let facts = (c.apply.ensures.early w.in-Err-Early.have).0 (w.in-Err-Early.is ∙ ap Err w.in-Err-Early.field-0-is) in
          rw (w.result-is, facts.2, ← have) (too_early old.taken c.args.message.now.turn facts.1)
      | in-Err-OutOfMemory w ↦ rw w.result-is tt
    ]

pub returns-clause-taken : goal.returns-clause-taken
returns-clause-taken c =
    let held : NodeStore = record { shards = c.self.inside.tables.items; fibs = c.self.inside.fibs.items } in
    let owner = c.args.message.now.owner in
    let there : owner < length held.fibs = subst (λ (n : NodeStore). owner < length n.fibs) (sym c.self.view_is) c.requires.there in
    let old = c.index_mut.result.now in
    let is_old : old ≡ get_or held.fibs owner old = rw (← c.from.ensures) c.index_mut.ensures.value in
    let here : state_of old ≡ fib_in (node_state_of held) owner = fib_here held owner old there is_old in
    elim c.match-apply.branch [
      | in-Ok w ↦
          rw (w.result-is, c.from.ensures, ← c.self.view_is)
          (with_fib held owner c.apply.new.self (with_turn (fib_in (node_state_of held) owner) c.args.message.now)
          (w.in-Ok.ensures.taken ∙ ap (λ (f : FibState). with_turn f c.args.message.now) here))
      | in-Err-Repeat w ↦ rw (w.result-is, c.from.ensures, ← c.self.view_is) (same_fib held owner c.apply.new.self old w.in-Err-Repeat.ensures.refused is_old)
      | in-Err-Early w ↦ rw (w.result-is, c.from.ensures, ← c.self.view_is) (same_fib held owner c.apply.new.self old w.in-Err-Early.ensures.refused is_old)
      | in-Err-OutOfMemory w ↦ rw w.result-is tt
    ]

pub unreachable-requires : goal.unreachable-requires
unreachable-requires c =
    let node : NodeStore = c.args.self.now in
    let old = c.index_mut.result.now in
    let is_old : old ≡ get_or node.fibs c.args.message.now.owner old = rw (← c.from.ensures, ← c.self.view_is) c.index_mut.ensures.value in
    let here : state_of old ≡ fib_in (node_state_of node) c.args.message.now.owner = fib_here node c.args.message.now.owner old c.requires.there is_old in
    let own : c.args.message.now.owner ≡ old.owner = sym (ap (λ (f : FibState). f.owner) here ∙ c.requires.own) in
    let facts = (c.apply.ensures.foreign c.in-Err-Foreign.field-0-0).0 (c.in-Err-Foreign.is ∙ ap Err c.in-Err-Foreign.field-0-is) in
    facts.0 own
