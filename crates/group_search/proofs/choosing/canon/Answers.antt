use Rattle.std.proofs.Common.{Some, sym, ◌∙◌, ap, refl}
use Rattle.std.proofs.lemmas.Bool.{false≢true}
use Rattle.group_search.specs.declared.record.GroupRecord.TheVariants.{Fallback}
use Rattle.group_search.proofs.Rising.{rows_permuted, rows_rising}
use Rattle.group_search.proofs.Chosen.{are_least, canonical_none, canonical_rows, canonical_served, not_separable, separable_of, two_unserved}
use Rattle.group_search.proofs.choosing.canon.Goals as goal

pub returns-in-Some-clause-value : goal.returns-in-Some-clause-value
returns-in-Some-clause-value c = sym (canonical_served _ _ _ (sym c.serving_pairs.ensures ∙ c.in-Some.is))

pub returns-in-Some-clause-canonical : goal.returns-in-Some-clause-canonical
returns-in-Some-clause-canonical c = are_least _ _ _ (sym c.serving_pairs.ensures ∙ c.in-Some.is)

pub returns-in-Some-clause-too_many : goal.returns-in-Some-clause-too_many
returns-in-Some-clause-too_many c =
    (λ h. absurd (false≢true h), λ h. absurd (h.0 (separable_of _ _ _ (sym c.serving_pairs.ensures ∙ c.in-Some.is))))

pub returns-then-entries-gt-MOST_ROWS-clause-value :
    goal.returns-then-entries-gt-MOST_ROWS-clause-value
returns-then-entries-gt-MOST_ROWS-clause-value c =
    sym (canonical_none _ _ (sym c.serving_pairs.ensures ∙ c.in_default.is) c.if-entries-gt-MOST_ROWS.true)

pub returns-then-entries-gt-MOST_ROWS-clause-too_many :
    goal.returns-then-entries-gt-MOST_ROWS-clause-too_many
returns-then-entries-gt-MOST_ROWS-clause-too_many c =
    (λ _. (not_separable _ _ (sym c.serving_pairs.ensures ∙ c.in_default.is), c.if-entries-gt-MOST_ROWS.true), λ _. refl)

pub by_key-requires-clause-enough : goal.by_key-requires-clause-enough
by_key-requires-clause-enough c = two_unserved _ _ (sym c.serving_pairs.ensures ∙ c.in_default.is)

pub returns-clause-value : goal.returns-clause-value
returns-clause-value c =
    ap (λ rows. Some (Fallback rows)) c.by_key.ensures
    ∙ sym (canonical_rows _ _ (sym c.serving_pairs.ensures ∙ c.in_default.is) c.if-entries-gt-MOST_ROWS.false)

pub returns-clause-canonical : goal.returns-clause-canonical
returns-clause-canonical c =
    rw c.by_key.ensures record {
      not_separable = not_separable _ _ (sym c.serving_pairs.ensures ∙ c.in_default.is);
      few = c.if-entries-gt-MOST_ROWS.false;
      by_key = record { permuted = rows_permuted c.args.entries.now; rising = rows_rising c.args.entries.now c.requires.distinct };
    }
