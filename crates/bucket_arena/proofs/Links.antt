-- How a chain's numbers and items follow from its cells' links.
use Rattle.std.specs.Prelude.{◌≡◌, ℕ, zero, suc, ◌+◌, ◌<◌, List, [], ◌∷◌, ◌++◌, length, get_or, slice_get, Option, Some, None, refl}
use Rattle.std.proofs.Common.{sym, ◌∙◌, ap, subst, arith}
use Rattle.bucket_arena.specs.declared.chain.Cell.{Cell}
use Rattle.bucket_arena.specs.Chains.{occurrences, next_of, numbers_from, item_and, items_in}
use Rattle.bucket_arena.proofs.Counts.{same_self}

-- p + k, by steps
abbrev pub after : ℕ → ℕ → ℕ
after zero k = k
after (suc p) k = suc (after p k)

pub after_is : (p k : ℕ) → after p k ≡ p + k
after_is zero k = omega arith
after_is (suc p) k = omega (arith, after_is p k)

module _ {X : Type 0} where
  -- the cell that this number of steps leads to
  abbrev pub follow : (ℕ → Option (Cell X)) → ℕ → ℕ → ℕ
  follow cell zero n = n
  follow cell (suc p) n = follow cell p (next_of (cell n))

  pub length-numbers : (cell : ℕ → Option (Cell X)) (len n : ℕ) → length (numbers_from cell len n) ≡ len
  length-numbers cell zero n = refl
  length-numbers cell (suc len) n = ap suc (length-numbers cell len (next_of (cell n)))

  -- each cell has the number of the next
  pub next_number : (cell : ℕ → Option (Cell X)) (len n p : ℕ) → suc p < len → get_or (numbers_from cell len n) (suc p) 0 ≡ next_of (cell (get_or (numbers_from cell len n) p 0))
  next_number cell zero n p l = absurd (omega arith)
  next_number cell (suc zero) n p l = absurd (omega arith)
  next_number cell (suc (suc len)) n zero l = refl
  next_number cell (suc (suc len)) n (suc p) l = next_number cell (suc len) (next_of (cell n)) p (omega arith)

  pub followed : (cell : ℕ → Option (Cell X)) (len n p : ℕ) → p < len → get_or (numbers_from cell len n) p 0 ≡ follow cell p n
  followed cell zero n p l = absurd (omega arith)
  followed cell (suc len) n zero l = refl
  followed cell (suc len) n (suc p) l = followed cell len (next_of (cell n)) p (omega arith)

  pub cut : (cell : ℕ → Option (Cell X)) (p k n : ℕ) → numbers_from cell (after p k) n ≡ numbers_from cell p n ++ numbers_from cell k (follow cell p n)
  cut cell zero k n = refl
  cut cell (suc p) k n = ap (λ l. n ∷ l) (cut cell p k (next_of (cell n)))

  -- a chain stands where its cells stand
  pub same_numbers : (cell cell' : ℕ → Option (Cell X)) (len n : ℕ) → ((m : ℕ) → 0 < occurrences m (numbers_from cell len n) → cell' m ≡ cell m) → numbers_from cell' len n ≡ numbers_from cell len n
  same_numbers cell cell' zero n agree = refl
  same_numbers cell cell' (suc len) n agree =
      let here : cell' n ≡ cell n = agree n (omega (arith, same_self n)) in
      let rest = same_numbers cell cell' len (next_of (cell n)) (λ m l. agree m (omega arith)) in
      ap (λ c. n ∷ numbers_from cell' len (next_of c)) here ∙ ap (λ l. n ∷ l) rest

  pub same_items : (cell cell' : ℕ → Option (Cell X)) (ns : List ℕ) → ((m : ℕ) → 0 < occurrences m ns → (xs : List X) → item_and (cell' m) xs ≡ item_and (cell m) xs) → items_in cell' ns ≡ items_in cell ns
  same_items cell cell' [] agree = refl
  same_items cell cell' (n ∷ ns) agree =
      agree n (omega (arith, same_self n)) (items_in cell' ns) ∙ ap (item_and (cell n)) (same_items cell cell' ns (λ m l. agree m (omega arith)))

  -- where the cell after p steps leads elsewhere, the chain goes on there
  pub relinked : (cell cell' : ℕ → Option (Cell X)) (p k n : ℕ) → ((m : ℕ) → 0 < occurrences m (numbers_from cell p n) → cell' m ≡ cell m)
      → numbers_from cell' (after (suc p) k) n ≡ numbers_from cell (suc p) n ++ numbers_from cell' k (next_of (cell' (follow cell p n)))
  relinked cell cell' zero k n agree = refl
  relinked cell cell' (suc p) k n agree =
      let here : cell' n ≡ cell n = agree n (omega (arith, same_self n)) in
      ap (λ c. n ∷ numbers_from cell' (after (suc p) k) (next_of c)) here ∙ ap (λ l. n ∷ l) (relinked cell cell' p k (next_of (cell n)) (λ m l. agree m (omega arith)))

  grouped : (c : Option (Cell X)) (xs ys : List X) → item_and c (xs ++ ys) ≡ item_and c xs ++ ys
  grouped None xs ys = refl
  grouped (Some c) xs ys = refl

  pub items-append : (cell : ℕ → Option (Cell X)) (xs ys : List ℕ) → items_in cell (xs ++ ys) ≡ items_in cell xs ++ items_in cell ys
  items-append cell [] ys = refl
  items-append cell (x ∷ xs) ys = ap (item_and (cell x)) (items-append cell xs ys) ∙ grouped (cell x) (items_in cell xs) (items_in cell ys)

  -- each of the numbers is of a written cell
  abbrev pub AllWritten : (ℕ → Option (Cell X)) → List ℕ → Type 0
  AllWritten cell ns = (m : ℕ) → 0 < occurrences m ns → (c : Cell X) × (cell m ≡ Some c)

  one_more : (o : Option (Cell X)) (c : Cell X) (xs : List X) → o ≡ Some c → length (item_and o xs) ≡ suc (length xs)
  one_more o c xs e = subst (λ (a : Option (Cell X)). length (item_and a xs) ≡ suc (length xs)) (sym e) refl

  pub length-items : (cell : ℕ → Option (Cell X)) (ns : List ℕ) → AllWritten cell ns → length (items_in cell ns) ≡ length ns
  length-items cell [] all = refl
  length-items cell (n ∷ ns) all =
      let got = all n (omega (arith, same_self n)) in
      one_more (cell n) got.0 (items_in cell ns) got.1 ∙ ap suc (length-items cell ns (λ m l. all m (omega arith)))

  -- the item at a place is that of the place's cell
  pub item_there : (cell : ℕ → Option (Cell X)) (ns : List ℕ) → AllWritten cell ns → (p : ℕ) → p < length ns → (c : Cell X) → cell (get_or ns p 0) ≡ Some c → slice_get (items_in cell ns) p ≡ Some c.item
  item_there cell [] all p l c e = absurd (omega arith)
  item_there cell (n ∷ ns) all zero l c e = subst (λ (a : Option (Cell X)). slice_get (item_and a (items_in cell ns)) 0 ≡ Some c.item) (sym e) refl
  item_there cell (n ∷ ns) all (suc p) l c e =
      let got = all n (omega (arith, same_self n)) in
      subst (λ (a : Option (Cell X)). slice_get (item_and a (items_in cell ns)) (suc p) ≡ Some c.item) (sym got.1)
      (item_there cell ns (λ m k. all m (omega arith)) p (omega arith) c e)
