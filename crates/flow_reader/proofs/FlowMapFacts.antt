-- One more flow of a list.
use Rattle.std.proofs.Common.{◌≡◌, ◌≢◌, ◌+◌, ◌<◌, ℕ, Bool, true, false, not, List, [], ◌∷◌, ◌++◌, length, drop, get_or, refl, sym, ap, ◌∙◌}
use Rattle.std.specs.Prelude.{All}
use Rattle.std.proofs.lemmas.List.{append_assoc, drop_more}
use Rattle.std.proofs.lemmas.List.Quantifiers.{all_pairs_push}
use Rattle.std.proofs.lemmas.List.Elements.{All-push}
use Rattle.flow_types.specs.Key.{IsKeyValue, number}
use Rattle.flow_types.specs.Size.{Size}
use Rattle.flow_types.specs.declared.record.Flow.{Flow}
use Rattle.flow_reader.specs.FlowMap.{IsFlowMap, IsNext}
use Rattle.flow_reader.proofs.FlowFacts.{same-numbers}
use Rattle.flow_reader.proofs.KeyFacts.{has_key-false}

abbrev Differ : Flow → Flow → Type 0
Differ a b = number a.key ≢ number b.key

-- a flow that can follow the others is one of the map with them
pub one_more : (shape : Size) (flows : List Flow) (flow : Flow) → IsFlowMap shape flows → All (λ (f : Flow). IsKeyValue f.key) flows → IsNext shape flows flow
    → IsFlowMap shape (flows ++ flow ∷ [])
one_more shape flows flow m values next = record {
  distinct = all_pairs_push Differ flows flow m.distinct (λ k d low same.
      has_key-false flow.key flows next.new_key k d low (same-numbers (get_or flows k d).key flow.key (values k d low) next.values same));
  handled = All-push (λ (f : Flow). f.node < shape.nodes) flows flow m.handled next.handled;
}

-- with the next flow the flows so far and those left are still all
pub goes_on : (flows known new : List Flow) (i : ℕ) (d : Flow) → i < length flows → known ++ drop i flows ≡ flows → new ≡ known ++ get_or flows i d ∷ []
    → new ++ drop (i + 1) flows ≡ flows
goes_on flows known new i d h so_far is =
    rw is (append_assoc known (get_or flows i d ∷ []) (drop (i + 1) flows) ∙ ap (λ rest. known ++ rest) (sym (drop_more flows i d h)) ∙ so_far)

-- a key that isn't new is there
pub is_there : (found : Bool) → false ≡ not found → found ≡ true
is_there true e = refl
is_there false e = cc e
