-- Rows by rising key: rows with the same members are the same list, and entries' rows are such a list.
use Rattle.std.proofs.Common.{◌≡◌, ◌≢◌, ℕ, zero, suc, ◌+◌, ◌<◌, ◌≤◌, Bool, true, false, cond, List, [], ◌∷◌, length, map, get_or, sym, ◌∙◌, ap, refl, arith, add-one, subst, ⊎_elim}
use Rattle.std.specs.Prelude.{All, AllPairs, Contains, IsPermutation, nat_lt}
use Rattle.std.specs.List.{refill}
use Rattle.std.proofs.lemmas.Bool.Decides.{nat_tests}
use Rattle.std.proofs.lemmas.List.Elements.{All-nil, All-cons, All-head, All-tail, All-weaker, All-contains, All-map}
use Rattle.std.proofs.lemmas.List.Sorted.{IsPermutation-refl, IsPermutation-sym, IsPermutation-cons, IsPermutation-trans, IsPermutation-middle, Contains-permutation, All-permutation, length_permutation}
use Rattle.std.proofs.lemmas.List.Kept.{AllPairs-cons}
use Rattle.std.specs.List.Sorted.{IsNonDecreasingBy}
use Rattle.group_search.proofs.Distinct.{AllPairs-permutation}
use Rattle.group_search.specs.declared.entry.Entry.{Entry}
use Rattle.group_search.specs.declared.rows.Row.{Row}
use Rattle.group_search.specs.Rows.{key_number, IsRising, AreRows, row_of, put_row, rows_of, entry_key}
use Rattle.group_search.specs.Limits.{fewest_rows, most_rows}
use Rattle.std.proofs.lemmas.List.{take-append-le, take_all, length-map}
use Rattle.flow_types.specs.Map.{HaveDistinctKeys}
use Rattle.flow_types.proofs.Elements.{Contains-first, Contains-later, Contains_cases}

-- ---- rising lists from their first row

pub rising_tail : (row : Row) (rows : List Row) → IsRising (row ∷ rows) → IsRising rows
rising_tail row rows h = λ k d low. rw add-one (rw add-one at (h (suc k) d (omega arith)))

pub rising_head : (row : Row) (rows : List Row) → IsRising (row ∷ rows) → All (λ r. key_number row < key_number r) rows
rising_head row [] h = All-nil _
rising_head row (next ∷ rows) h =
    let first : key_number row < key_number next = h 0 row (omega arith) in
    All-cons (λ r. key_number row < key_number r) next rows first
    (All-weaker (λ r. key_number next < key_number r) (λ r. key_number row < key_number r) (λ r above. omega arith) rows (rising_head next rows (rising_tail row (next ∷ rows) h)))

pub rising_cons : (row : Row) (rows : List Row) → All (λ r. key_number row < key_number r) rows → IsRising rows → IsRising (row ∷ rows)
rising_cons row [] above h = λ k d low. absurd (omega arith)
rising_cons row (next ∷ rows) above h = at where
  at : (k : ℕ) (d : Row) → k + 1 < length (row ∷ next ∷ rows) → key_number (get_or (row ∷ next ∷ rows) k d) < key_number (get_or (row ∷ next ∷ rows) (k + 1) d)
  at zero d low = All-head (λ r. key_number row < key_number r) next rows above
  at (suc k) d low = rw add-one (rw add-one at (h k d (omega arith)))

-- ---- members

-- a member of the rows after a first one has another key
pub later_member : (row r : Row) (rows : List Row) → IsRising (row ∷ rows) → Contains rows r → key_number row < key_number r
later_member row r rows rising h = All-contains (λ q. key_number row < key_number q) rows r (rising_head row rows rising) h

-- of two rising lists with the same members the first rows are the same
same_first : (x y : Row) (xs ys : List Row) → IsRising (x ∷ xs) → IsRising (y ∷ ys) → Contains (y ∷ ys) x → Contains (x ∷ xs) y → x ≡ y
same_first x y xs ys rx ry hx hy =
    ⊎_elim (λ same. sym same)
    (λ x_later. ⊎_elim (λ same. same)
    (λ y_later.
    let y_below = later_member y x ys ry x_later in
    let x_below = later_member x y xs rx y_later in
    absurd (omega arith))
    (Contains_cases x y xs hy))
    (Contains_cases y x ys hx)

later_same : (x : Row) (xs ys : List Row) → IsRising (x ∷ xs) → ((r : Row) → Contains (x ∷ xs) r → Contains (x ∷ ys) r) → (r : Row) → Contains xs r → Contains ys r
later_same x xs ys rx h r in_xs =
    ⊎_elim
    (λ same. let above = later_member x r xs rx in_xs in let even = ap key_number same in absurd (omega arith))
    (λ in_ys. in_ys)
    (Contains_cases x r ys (h r (Contains-later x r xs in_xs)))

-- rising lists with the same members are the same
pub same_rising : (xs ys : List Row) → IsRising xs → IsRising ys → ((r : Row) → Contains xs r → Contains ys r) → ((r : Row) → Contains ys r → Contains xs r) → xs ≡ ys
same_rising [] [] rx ry to from = refl
same_rising [] (y ∷ ys) rx ry to from = let h = from y (Contains-first y ys) in absurd (omega (arith, h.1))
same_rising (x ∷ xs) [] rx ry to from = let h = to x (Contains-first x xs) in absurd (omega (arith, h.1))
same_rising (x ∷ xs) (y ∷ ys) rx ry to from =
    let first : x ≡ y = same_first x y xs ys rx ry (to x (Contains-first x xs)) (from y (Contains-first y ys)) in
    let to' : (r : Row) → Contains (x ∷ xs) r → Contains (x ∷ ys) r = λ r h. subst (λ z. Contains (z ∷ ys) r) (sym first) (to r h) in
    let from' : (r : Row) → Contains (x ∷ ys) r → Contains (x ∷ xs) r = λ r h. from r (subst (λ z. Contains (z ∷ ys) r) first h) in
    let ry' : IsRising (x ∷ ys) = subst (λ z. IsRising (z ∷ ys)) (sym first) ry in
    let rest = same_rising xs ys (rising_tail x xs rx) (rising_tail x ys ry') (later_same x xs ys rx to') (later_same x ys xs ry' from') in
    let P : Row → List Row → List Row = λ z zs. z ∷ zs in
    ap (P x) rest ∙ ap (λ z. P z ys) first

pub same_permuted : (xs ys : List Row) → IsRising xs → IsRising ys → IsPermutation xs ys → xs ≡ ys
same_permuted xs ys rx ry p =
    same_rising xs ys rx ry (λ r. Contains-permutation xs ys r p) (λ r. Contains-permutation ys xs r (IsPermutation-sym xs ys p))

-- ---- a row put among others

put_permuted-step : (b : Bool) (new row : Row) (rows rest : List Row) → IsPermutation (new ∷ rows) rest
    → IsPermutation (new ∷ row ∷ rows) (cond b (row ∷ rest) (new ∷ row ∷ rows))
put_permuted-step true new row rows rest h =
    IsPermutation-trans _ _ _ (IsPermutation-sym _ _ (IsPermutation-middle (row ∷ []) new rows)) (IsPermutation-cons row _ _ h)
put_permuted-step false new row rows rest h = IsPermutation-refl _

pub put_permuted : (new : Row) (rows : List Row) → IsPermutation (new ∷ rows) (put_row new rows)
unfolding put_row
put_permuted new [] = IsPermutation-refl _
put_permuted new (row ∷ rows) = put_permuted-step (nat_lt (key_number row) (key_number new)) new row rows (put_row new rows) (put_permuted new rows)

put_rising-step : (b : Bool) (new row : Row) (rows rest : List Row) → nat_lt (key_number row) (key_number new) ≡ b → key_number new ≢ key_number row
    → IsRising (row ∷ rows) → IsPermutation (new ∷ rows) rest → IsRising rest → IsRising (cond b (row ∷ rest) (new ∷ row ∷ rows))
put_rising-step true new row rows rest test other rising p up =
    let low : key_number row < key_number new = grind (arith, nat_tests) in
    rising_cons row rest
    (All-permutation (λ r. key_number row < key_number r) (new ∷ rows) rest p (All-cons (λ r. key_number row < key_number r) new rows low (rising_head row rows rising)))
    up
put_rising-step false new row rows rest test other rising p up =
    let low : key_number new < key_number row = grind (arith, nat_tests) in
    rising_cons new (row ∷ rows)
    (All-cons (λ r. key_number new < key_number r) row rows low
    (All-weaker (λ r. key_number row < key_number r) (λ r. key_number new < key_number r) (λ r above. omega arith) rows (rising_head row rows rising)))
    rising

pub put_rising : (new : Row) (rows : List Row) → All (λ r. key_number new ≢ key_number r) rows → IsRising rows → IsRising (put_row new rows)
unfolding put_row
put_rising new [] others h = λ k d low. absurd (omega arith)
put_rising new (row ∷ rows) others h =
    put_rising-step (nat_lt (key_number row) (key_number new)) new row rows (put_row new rows) refl
    (All-head (λ r. key_number new ≢ key_number r) row rows others) h (put_permuted new rows)
    (put_rising new rows (All-tail (λ r. key_number new ≢ key_number r) row rows others) (rising_tail row rows h))

-- ---- the rows of entries

pub rows_permuted : (entries : List Entry) → IsPermutation (map row_of entries) (rows_of entries)
unfolding rows_of
rows_permuted [] = IsPermutation-refl _
rows_permuted (e ∷ entries) =
    IsPermutation-trans _ _ _ (IsPermutation-cons (row_of e) _ _ (rows_permuted entries)) (put_permuted (row_of e) (rows_of entries))

distinct_tail : (e : Entry) (entries : List Entry) → HaveDistinctKeys entry_key (e ∷ entries) → HaveDistinctKeys entry_key entries
distinct_tail e entries h = λ i j d low high. h (suc i) (suc j) d (omega arith) (omega arith)

distinct_head : (e : Entry) (entries : List Entry) → HaveDistinctKeys entry_key (e ∷ entries) → All (λ (a : Entry). key_number (row_of e) ≢ key_number (row_of a)) entries
distinct_head e entries h = λ k d low. h 0 (suc k) d (omega arith) (omega arith)

pub distinct_rows : (entries : List Entry) → HaveDistinctKeys entry_key entries → AllPairs (λ (a : Row) (b : Row). key_number a ≢ key_number b) (map row_of entries)
distinct_rows [] h = λ i j d low high. absurd (omega arith)
distinct_rows (e ∷ entries) h =
    AllPairs-cons (λ (a : Row) (b : Row). key_number a ≢ key_number b) (row_of e) (map row_of entries)
    (All-map (λ r. key_number (row_of e) ≢ key_number r) row_of entries (distinct_head e entries h))
    (distinct_rows entries (distinct_tail e entries h))

pub rows_rising : (entries : List Entry) → HaveDistinctKeys entry_key entries → IsRising (rows_of entries)
unfolding rows_of
rows_rising [] h = λ k d low. absurd (omega arith)
rows_rising (e ∷ entries) h =
    put_rising (row_of e) (rows_of entries)
    (All-permutation (λ r. key_number (row_of e) ≢ key_number r) (map row_of entries) (rows_of entries) (rows_permuted entries)
    (All-map (λ r. key_number (row_of e) ≢ key_number r) row_of entries (distinct_head e entries h)))
    (rows_rising entries (distinct_tail e entries h))

-- rising rows with the entries' keys and nodes are the entries' rows
pub rows_are : (entries : List Entry) (rows : List Row) → HaveDistinctKeys entry_key entries → IsPermutation (map row_of entries) rows → IsRising rows → rows ≡ rows_of entries
rows_are entries rows h p up =
    same_permuted rows (rows_of entries) up (rows_rising entries h)
    (IsPermutation-trans _ _ _ (IsPermutation-sym _ _ p) (rows_permuted entries))

-- rows that don't fall, with the keys and nodes of entries with distinct keys, rise
pub sorted_rising : (entries : List Entry) (rows : List Row) → HaveDistinctKeys entry_key entries → IsPermutation (map row_of entries) rows → IsNonDecreasingBy key_number rows → IsRising rows
sorted_rising entries rows h p up =
    let Other : Row → Row → Type 0 = λ a b. key_number a ≢ key_number b in
    let before : AllPairs Other (map row_of entries) = distinct_rows entries h in
    let others : AllPairs Other rows = AllPairs-permutation Other (λ a b ne e. ne (sym e)) (map row_of entries) rows p before in
    λ k d low.
    let ne = others k (k + 1) d (omega arith) low in
    let le = up k (k + 1) d (omega arith) low in
    omega arith

-- the entries' rows in some order, once they are sorted
pub record IsSortedInto (entries : List Entry) (items rows : List Row) : Type 0 where
  pub whole : refill (length items) items rows ≡ rows
  pub valid : AreRows rows
  pub same : rows ≡ rows_of entries

pub sorted_into : (entries : List Entry) (items rows : List Row) → HaveDistinctKeys entry_key entries → fewest_rows ≤ length entries → length entries ≤ most_rows
    → items ≡ map row_of entries → IsPermutation items rows → IsNonDecreasingBy key_number rows → IsSortedInto entries items rows
sorted_into entries items rows h enough few is p up =
    let permuted : IsPermutation (map row_of entries) rows = subst (λ xs. IsPermutation xs rows) is p in
    let rising = sorted_rising entries rows h permuted up in
    let long : length rows ≡ length items = length_permutation items rows p in
    let mapped : length items ≡ length entries = ap length is ∙ length-map entries row_of in
    record {
      whole = take-append-le (length items) rows _ (omega arith) ∙ take_all (length items) rows (omega arith);
      valid = record { enough = omega arith; few = omega arith; rising = rising };
      same = rows_are entries rows h permuted rising;
    }
