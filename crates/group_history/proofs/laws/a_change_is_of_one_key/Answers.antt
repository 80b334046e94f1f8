use Rattle.std.proofs.Common.{◌∙◌, refl}
use Rattle.std.specs.Prelude.{option_map}
use Rattle.std.proofs.lemmas.Bool.{cond-true, cond-false, eq-eqb, ne_eqb}
use Rattle.flow_types.specs.Key.{number}
use Rattle.flow_types.specs.Map.{flow_at}
use Rattle.group_history.specs.Change.{flow_to}
use Rattle.group_history.proofs.Versions.{distinct-step, flow_at-step}
use Rattle.group_history.proofs.laws.a_change_is_of_one_key.Goals as goal

pub returns : goal.returns
returns c = record {
  distinct = distinct-step;
  changed = λ flows change. flow_at-step change.key flows change
      ∙ cond-true _ (option_map (flow_to change.key) change.to) (flow_at change.key flows) (eq-eqb (number change.key) (number change.key) refl);
  others = λ flows change key other. flow_at-step key flows change
      ∙ cond-false _ (option_map (flow_to change.key) change.to) (flow_at key flows) (ne_eqb (number key) (number change.key) other);
}
