use Rattle.std.proofs.Common.{arith, ◌≡◌, ℕ, ◌+◌, ◌*◌, ◌/◌, ◌%◌, ◌^◌, ◌<◌, get_or, length, true, false, refl, sym, ◌∙◌, ap, subst}
use Rattle.flow_types.specs.Key.{key_of}
use Rattle.group_search.specs.RowWords.{SpellsRow}
use Rattle.group_search.proofs.RowWordLemmas.{found_row, none_exactly, none_spelled, not_found, spells, two_words}
use Rattle.group_search.proofs.row_spelling.row_of.Goals as goal

pub returns-in_err-group : goal.returns-in_err-group
returns-in_err-group c =
    let none = none_spelled c.args.words (λ (g : ℕ) (_ : g < 64) (e : get_or c.args.words 1 0 / 2 ^ 48 ≡ g + 1). c.in_err-group.ensures (omega arith)) in
    record { value = not_found c.args.words _ c.from_residual.ensures none; none = none_exactly c.args.words _ c.from_residual.ensures none }

pub returns-then-group-ge-GROUPS : goal.returns-then-group-ge-GROUPS
returns-then-group-ge-GROUPS c = let is = c.in_ok-group.ensures in let many = c.if-group-ge-GROUPS.true in
    let none = none_spelled c.args.words (λ (g : ℕ) (few : g < 64) (e : get_or c.args.words 1 0 / 2 ^ 48 ≡ g + 1). omega (arith, is)) in
    record { value = not_found c.args.words _ refl none; none = none_exactly c.args.words _ refl none }

pub returns-in_err-key : goal.returns-in_err-key
returns-in_err-key c = let less : c.from.result + c.from-2.result * 2 ^ 64 % 2 ^ 128 < 2 ^ 104 = omega arith in
    let no : false ≡ true = c.in_err-key.ensures.valid.1 less in absurd (cc)

spelled : (c : goal.In_ok-key) → SpellsRow c.in_ok-group.group (record { key = c.in_ok-key.key; node = get_or c.args.words 1 0 / 2 ^ 40 % 2 ^ 8 }) c.args.words
spelled c = let is = c.in_ok-group.ensures in let found = c.in_ok-key.ensures in
    let number_is : c.from.result + c.from-2.result * 2 ^ 64 % 2 ^ 128 ≡ get_or c.args.words 0 0 + get_or c.args.words 1 0 % 2 ^ 40 * 2 ^ 64 = omega arith in
    let two : length c.args.words ≡ 2 = omega arith in
    subst (SpellsRow c.in_ok-group.group (record { key = c.in_ok-key.key; node = get_or c.args.words 1 0 / 2 ^ 40 % 2 ^ 8 })) (sym (two_words c.args.words two))
    (spells (get_or c.args.words 0 0) (get_or c.args.words 1 0) c.in_ok-group.group c.in_ok-key.key (omega arith) (omega arith) (omega (arith, is)) (omega arith) (found.value ∙ ap key_of number_is) (found.inverse ∙ number_is))

pub returns : goal.returns
returns c = let s = spelled c in record {
  value = λ g row. found_row c.args.words _ _ s g row _ refl;
  none = (λ (e : true ≡ false). absurd (cc), λ none. absurd (none _ _ s));
}
