use Rattle.std.proofs.Common.{◌∙◌, None, refl}
use Rattle.std.proofs.lemmas.Bool.{cond-true, cond-false, eq-eqb, ne_eqb}
use Rattle.flow_types.specs.Key.{number}
use Rattle.flow_types.specs.Map.{flow_at}
use Rattle.flow_types.proofs.KeyedFlows.{distinct-without, flow_at-without}
use Rattle.flow_types.proofs.laws.removing_a_key.Goals as goal

pub returns : goal.returns
returns c = record {
  distinct = distinct-without;
  changed = λ removed flows. flow_at-without removed removed flows ∙ cond-true _ None (flow_at removed flows) (eq-eqb (number removed) (number removed) refl);
  others = λ removed flows key other. flow_at-without key removed flows ∙ cond-false _ None (flow_at key flows) (ne_eqb (number key) (number removed) other);
}
