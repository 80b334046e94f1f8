use Rattle.std.proofs.Common.{◌≡◌, [], ◌∷◌, ◌++◌, ℕ, sym, subst, arith, rules, length-append}
use Rattle.cluster_open.specs.Opened.{IsOpenedNode}
use Rattle.cluster_open.specs.declared.node.NodeParts.{NodeParts}
use Rattle.flow_types.proofs.Elements.{each_pushed}
use Rattle.cluster_open.proofs.opening.nodes.Goals as goal

pub numbers-preserved : goal.numbers-preserved
numbers-preserved c =
    let nodes = c.numbers.nodes.items in
    let new = c.in_ok-open.field-0 in
    let pushed : c.push.new.self.items ≡ nodes ++ new ∷ [] = search rules in
    let count = c.numbers.invariant.count in
    rw pushed (record {
      count = omega (arith, length-append nodes (new ∷ []));
      each = λ i d low.
          each_pushed (λ (i : ℕ) (node : NodeParts). IsOpenedNode c.args.shape c.args.flows.now i node) nodes new c.numbers.invariant.each
          (subst (λ (i : ℕ). IsOpenedNode c.args.shape c.args.flows.now i new) (sym count) c.in_ok-open.ensures) i d low;
    })
