-- The refusal of an update, by the first case that holds.
use Rattle.std.proofs.Common.{◌≡◌, ◌≢◌, ◌∙◌, Option, Some, None, refl, ap}
use Rattle.std.specs.Option.{option_or}
use Rattle.std.proofs.lemmas.Bool.{eq-eqb, ne_eqb}
use Rattle.flow_types.specs.Limits.{most_turns}
use Rattle.group_history.specs.declared.refused.UpdateRefused.{UpdateRefused}
use Rattle.group_history.specs.declared.refused.UpdateRefused.TheVariants.{Spent}
use Rattle.group_history.specs.declared.update.Update.{Update}
use Rattle.group_history.specs.Acceptance.{Grounds, refusal, refusal_of_place, refusal_of_rows}

module _ (update : Update) (on : Grounds) where
  pub spent : on.turns ≡ most_turns → refusal update on ≡ Some (Spent most_turns)
  unfolding refusal
  spent turns = rw (eq-eqb on.turns most_turns turns) refl

  pub not_spent : on.turns ≢ most_turns → refusal update on ≡ option_or (refusal_of_place update on) (refusal_of_rows on)
  unfolding refusal
  not_spent turns = rw (ne_eqb on.turns most_turns turns) refl

  pub for_place : on.turns ≢ most_turns → (refused : UpdateRefused) → refusal_of_place update on ≡ Some refused → refusal update on ≡ Some refused
  for_place turns refused is = not_spent turns ∙ ap (λ (why : Option UpdateRefused). option_or why (refusal_of_rows on)) is

  pub for_rows : on.turns ≢ most_turns → refusal_of_place update on ≡ None → refusal update on ≡ refusal_of_rows on
  for_rows turns none = not_spent turns ∙ ap (λ (why : Option UpdateRefused). option_or why (refusal_of_rows on)) none
