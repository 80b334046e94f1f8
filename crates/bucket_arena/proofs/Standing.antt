-- What the laws of an arena say of one chain and of two.
use Rattle.std.specs.Prelude.{◌≡◌, ◌≢◌, ◌⊎◌, ℕ, zero, suc, ◌+◌, ◌<◌, ◌≤◌, List, [], ◌∷◌, length, map, get_or, set, Option, refl}
use Rattle.std.proofs.Common.{sym, ◌∙◌, ap, subst, inl, inr, arith, get_or-set_other, get_or-set_same, length-set}
use Rattle.std.specs.List.{sum_by}
use Rattle.std.proofs.lemmas.List.{get_or-map, length-map}
use Rattle.std.proofs.lemmas.List.Sums.{get_or-le-sum_by, sum_by-set, sum_by-cons}
use Rattle.bucket_arena.specs.declared.chain.Cell.{Cell}
use Rattle.bucket_arena.specs.declared.chain.Chain.{Chain}
use Rattle.bucket_arena.specs.Row.{IsWritten}
use Rattle.bucket_arena.specs.Arena.{lists_of}
use Rattle.bucket_arena.specs.Chains.{occurrences, cell_at, numbers, item_and, items_in, items, IsMarked, IsWhole, standings, AreChains, no_cells}
use Rattle.bucket_arena.proofs.Counts.{same_or_not, sum_of_one, map_of_one, stands}
use Rattle.bucket_arena.proofs.Links.{followed, length-numbers, length-items, same_numbers, same_items}

below_or_not : (a b : ℕ) → (a < b) ⊎ (b ≤ a)
below_or_not a zero = inr (omega arith)
below_or_not zero (suc b) = inl (omega arith)
below_or_not (suc a) (suc b) = elim (below_or_not a b) [ inl l ↦ inl (omega (arith, l)) | inr l ↦ inr (omega (arith, l)) ]

module _ {X : Type 0} (cells : List (Option (Cell X))) (chains : List Chain) (free : Chain) (made : ℕ) (sound : AreChains cells chains free made) where
  abbrev cell : ℕ → Option (Cell X)
  cell = cell_at cells

  abbrev pub in_chain : ℕ → Chain → ℕ
  in_chain m chain = occurrences m (numbers cell chain)

  abbrev pub nth : ℕ → Chain
  nth b = get_or chains b no_cells

  pub at_most : (m : ℕ) → standings cell chains free m ≤ 1
  at_most m = elim (below_or_not m made) [ inl l ↦ omega (arith, sound.each_once m l) | inr l ↦ omega (arith, sound.no_other m l) ]

  pub below_made : (m : ℕ) → 0 < standings cell chains free m → m < made
  below_made m some = elim (below_or_not m made) [ inl l ↦ l | inr l ↦ omega (arith, sound.no_other m l) ]

  pub part : (m b : ℕ) → b < length chains → in_chain m (nth b) ≤ sum_by (in_chain m) chains
  part m b l = get_or-le-sum_by (in_chain m) chains b no_cells l

  -- a chain of a bucket is whole
  pub whole : (b : ℕ) → b < length chains → IsWhole cells (nth b)
  whole b l = record {
    written = λ m some. sound.written m (below_made m (omega (arith, part m b l)));
    once = λ m. omega (arith, part m b l, at_most m);
    marked = sound.marked b l;
  }

  -- no cell stands in two buckets' chains
  pub apart : (m b i : ℕ) → b < length chains → i < length chains → i ≢ b → 0 < in_chain m (nth i) → in_chain m (nth b) ≡ 0
  apart m b i lb li ne some =
      let without : List Chain = set chains b no_cells in
      let l' : i < length without = omega (arith, length-set chains b no_cells) in
      let sums = sum_by-set (in_chain m) chains b no_cells no_cells lb in
      let one = get_or-le-sum_by (in_chain m) without i no_cells l' in
      let e : in_chain m (get_or without i no_cells) ≡ in_chain m (nth i) = ap (in_chain m) (get_or-set_other chains b i no_cells no_cells ne) in
      let none : in_chain m no_cells ≡ 0 = refl in
      omega (arith, sums, one, e, none, at_most m)

  -- nor in a bucket's and the free chain
  pub apart_free : (m b : ℕ) → b < length chains → 0 < in_chain m free → in_chain m (nth b) ≡ 0
  apart_free m b l some = omega (arith, part m b l, at_most m)

  pub free_apart : (m b : ℕ) → b < length chains → 0 < in_chain m (nth b) → in_chain m free ≡ 0
  free_apart m b l some = omega (arith, part m b l, at_most m)

  pub len_fits : (b : ℕ) → b < length chains → (nth b).len ≤ made
  len_fits b l = omega (arith, get_or-le-sum_by (λ c. c.len) chains b no_cells l, sound.lengths)

  pub free_fits : free.len ≤ made
  free_fits = omega (arith, sound.lengths)

  -- the first free cell was written
  pub free_written : 0 < free.len → IsWritten cells free.first
  free_written some =
      let l : 0 < length (numbers cell free) = omega (arith, length-numbers cell free.len free.first) in
      let head : get_or (numbers cell free) 0 0 ≡ free.first = followed cell free.len free.first 0 some in
      let stood : 0 < in_chain free.first free = subst (λ k. 0 < in_chain k free) head (stands (numbers cell free) 0 l) in
      sound.written free.first (below_made free.first (omega (arith, stood)))

  pub list_each : length (lists_of cells chains) ≡ 256
  list_each = length-map chains (items cell) ∙ sound.chain_each

  -- the list of a bucket
  pub list_at : (b : ℕ) → b < length chains → get_or (lists_of cells chains) b [] ≡ items cell (nth b)
  list_at b l = get_or-map (items cell) chains b no_cells [] l

  pub list_length : (b : ℕ) → b < length chains → length (get_or (lists_of cells chains) b []) ≡ (nth b).len
  list_length b l = ap length (list_at b l) ∙ length-items cell (numbers cell (nth b)) (whole b l).written ∙ length-numbers cell (nth b).len (nth b).first

  counted : (cs : List Chain) → ((b : ℕ) → b < length cs → length (items cell (get_or cs b no_cells)) ≡ (get_or cs b no_cells).len) → sum_by length (map (items cell) cs) ≡ sum_by (λ c. c.len) cs
  counted [] each = refl
  counted (c ∷ cs) each =
      let here = each 0 (omega arith) in let rest = counted cs (λ b l. each (suc b) (omega arith)) in
      omega (arith, here, rest, sum_by-cons length (items cell c) (map (items cell) cs), sum_by-cons (λ c. c.len) c cs)

  -- how many items there are
  pub items_counted : sum_by length (lists_of cells chains) + free.len ≡ made
  items_counted = let e = counted chains (λ b l. length-items cell (numbers cell (nth b)) (whole b l).written ∙ length-numbers cell (nth b).len (nth b).first) in omega (arith, e, sound.lengths)

  -- a change of the cells of one bucket's chain, and of a cell x that no other bucket's chain has
  module _ (now : List (Option (Cell X))) (b x : ℕ) (lb : b < length chains)
      (agree : (m : ℕ) → m ≢ x → in_chain m (nth b) ≡ 0 → cell_at now m ≡ cell m)
      (x_out : (i : ℕ) → i < length chains → i ≢ b → in_chain x (nth i) ≡ 0) where
    agrees_in : (i : ℕ) → i < length chains → i ≢ b → (m : ℕ) → 0 < in_chain m (nth i) → cell_at now m ≡ cell m
    agrees_in i li ne m some = agree m (λ e. let none : in_chain m (nth i) ≡ 0 = subst (λ k. in_chain k (nth i) ≡ 0) (sym e) (x_out i li ne) in omega (arith, none, some)) (apart m b i lb li ne some)

    pub numbers_else : (i : ℕ) → i < length chains → i ≢ b → numbers (cell_at now) (nth i) ≡ numbers cell (nth i)
    numbers_else i li ne = same_numbers cell (cell_at now) (nth i).len (nth i).first (agrees_in i li ne)

    items_else : (i : ℕ) → i < length chains → i ≢ b → items (cell_at now) (nth i) ≡ items cell (nth i)
    items_else i li ne = ap (items_in (cell_at now)) (numbers_else i li ne) ∙ same_items cell (cell_at now) (numbers cell (nth i)) (λ m some xs. ap (λ c. item_and c xs) (agrees_in i li ne m some))

    pub lists_now : (chain : Chain) (xs : List X) → items (cell_at now) chain ≡ xs → lists_of now (set chains b chain) ≡ set (lists_of cells chains) b xs
    lists_now chain xs e = map_of_one (items cell) (items (cell_at now)) chains b chain no_cells items_else ∙ ap (set (lists_of cells chains) b) e

    pub sums_now : (chain : Chain) (m : ℕ) → sum_by (λ c. occurrences m (numbers (cell_at now) c)) (set chains b chain) + in_chain m (nth b) ≡ sum_by (in_chain m) chains + occurrences m (numbers (cell_at now) chain)
    sums_now chain m = sum_of_one (in_chain m) (λ c. occurrences m (numbers (cell_at now) c)) chains b chain no_cells lb (λ i li ne. ap (occurrences m) (numbers_else i li ne))

    pub marked_now : (chain : Chain) → IsMarked (numbers (cell_at now) chain) chain → (i : ℕ) → i < length (set chains b chain) → let c = get_or (set chains b chain) i no_cells in IsMarked (numbers (cell_at now) c) c
    marked_now chain marked i li = elim (same_or_not i b) [
      | inl t ↦ subst (λ c. IsMarked (numbers (cell_at now) c) c) (sym (ap (λ k. get_or (set chains b chain) k no_cells) t.0 ∙ get_or-set_same chains b chain no_cells lb)) marked
      | inr f ↦ let li' : i < length chains = omega (arith, length-set chains b chain) in
          subst (λ c. IsMarked (numbers (cell_at now) c) c) (sym (get_or-set_other chains b i chain no_cells f.0)) (subst (λ ns. IsMarked ns (nth i)) (sym (numbers_else i li' f.0)) (sound.marked i li'))
    ]
