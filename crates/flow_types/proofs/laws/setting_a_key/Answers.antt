use Rattle.std.proofs.Common.{◌∙◌, Some, refl}
use Rattle.std.proofs.lemmas.Bool.{cond-true, cond-false, eq-eqb, ne_eqb}
use Rattle.flow_types.specs.Key.{number}
use Rattle.flow_types.specs.Map.{flow_at}
use Rattle.flow_types.proofs.KeyedFlows.{distinct-put, flow_at-put}
use Rattle.flow_types.proofs.laws.setting_a_key.Goals as goal

pub returns : goal.returns
returns c = record {
  distinct = distinct-put;
  changed = λ new flows. flow_at-put new.key new flows ∙ cond-true _ (Some new) (flow_at new.key flows) (eq-eqb (number new.key) (number new.key) refl);
  others = λ new flows key other. flow_at-put key new flows ∙ cond-false _ (Some new) (flow_at key flows) (ne_eqb (number key) (number new.key) other);
}
