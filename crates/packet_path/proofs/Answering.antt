-- The reply where a node was asked.
use Rattle.std.proofs.Common.{◌≡◌, ◌∙◌, ℕ, Option, Some, ap, sym}
use Rattle.flow_types.specs.declared.key.FlowKey.{FlowKey}
use Rattle.flow_types.specs.declared.record.Record.{Record}
use Rattle.flow_types.specs.Key.{number}
use Rattle.group_search.specs.Home.{Home}
use Rattle.partial_fib.specs.Fib.{FibState}
use Rattle.run_model.specs.Packets.{answer_of}
use Rattle.packet_path.specs.Path.{answered_by}

pub answered-said : (seen : ℕ) (sent : Option ℕ) (fib_of : ℕ → FibState) (at : Home) (key : FlowKey) (node asked version fib : ℕ) (answer : Option Record)
    → (to : Option ℕ) → to ≡ sent → to ≡ Some node → asked ≡ node → version ≡ seen → fib ≡ (fib_of asked).versions at → answer ≡ (fib_of asked).records (number key)
    → answer_of node version fib answer ≡ answered_by seen sent fib_of at key
answered-said seen sent fib_of at key node asked version fib answer to is to_node asked_is version_is fib_is answer_is =
    (λ i. answer_of node (version_is i) ((fib_is ∙ ap (λ (n : ℕ). (fib_of n).versions at) asked_is) i) ((answer_is ∙ ap (λ (n : ℕ). (fib_of n).records (number key)) asked_is) i))
    ∙ ap (λ (t : Option ℕ). answered_by seen t fib_of at key) (sym to_node ∙ is)
