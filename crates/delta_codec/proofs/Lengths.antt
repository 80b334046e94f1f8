-- How many octets pairs and rows have.
use Rattle.std.proofs.Common.{◌≡◌, ℕ, ◌*◌, List, [], ◌∷◌, ◌++◌, length, refl, ap, ◌∙◌, arith, length-append, append-nil}
use Rattle.std.specs.List.{flat_map}
use Rattle.std.proofs.lemmas.Grind.{flat_map-append}
use Rattle.group_search.specs.declared.entry.Pair.{Pair}
use Rattle.group_search.specs.declared.rows.Row.{Row}
use Rattle.flow_types.specs.Key.{octets}
use Rattle.delta_codec.specs.Spelling.{pair_octets, row_octets}
use Rattle.delta_codec.proofs.Keys.{octets-long}

pub row-long : (row : Row) → length (row_octets row) ≡ 14
row-long row = omega (arith, octets-long row.key, length-append (octets row.key) (row.node ∷ []))

pub pairs-long : (pairs : List Pair) → length (flat_map pair_octets pairs) ≡ 3 * length pairs
pairs-long [] = refl
pairs-long (pair ∷ pairs) = omega (arith, pairs-long pairs, length-append (pair_octets pair) (flat_map pair_octets pairs))

pub rows-long : (rows : List Row) → length (flat_map row_octets rows) ≡ 14 * length rows
rows-long [] = refl
rows-long (row ∷ rows) = omega (arith, rows-long rows, row-long row, length-append (row_octets row) (flat_map row_octets rows))

pub flat_map-push : {A : Type 0} (f : A → List ℕ) (xs : List A) (x : A) → flat_map f (xs ++ x ∷ []) ≡ flat_map f xs ++ f x
flat_map-push f xs x = flat_map-append f xs (x ∷ []) ∙ ap (λ (t : List ℕ). flat_map f xs ++ t) (append-nil (f x))
