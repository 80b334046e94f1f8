-- An item written over another, and a cell linked before a chain.
use Rattle.std.specs.Prelude.{◌≡◌, ◌≢◌, ℕ, zero, suc, ◌+◌, ◌<◌, ◌≤◌, List, [], ◌∷◌, length, get_or, set, Option, Some, None, refl}
use Rattle.std.proofs.Common.{sym, ◌∙◌, ap, subst, inl, inr, arith}
use Rattle.bucket_arena.specs.declared.chain.Cell.{Cell}
use Rattle.bucket_arena.specs.declared.chain.Chain.{Chain}
use Rattle.bucket_arena.specs.Chains.{occurrences, cell_at, next_of, numbers_from, numbers, item_and, items_in, items, IsWhole}
use Rattle.bucket_arena.proofs.Counts.{same, same_or_not, same_self, stands}
use Rattle.bucket_arena.proofs.Links.{AllWritten, same_numbers, same_items}
use Rattle.bucket_arena.proofs.Written.{within, wrote_there, wrote_else}

module _ {X : Type 0} where
  -- links that stay keep a chain's numbers
  pub same_links : (cell cell' : ℕ → Option (Cell X)) (len n : ℕ) → ((m : ℕ) → next_of (cell' m) ≡ next_of (cell m)) → numbers_from cell' len n ≡ numbers_from cell len n
  same_links cell cell' zero n agree = refl
  same_links cell cell' (suc len) n agree = ap (λ l. n ∷ l) (ap (numbers_from cell' len) (agree n) ∙ same_links cell cell' len (next_of (cell n)) agree)

  -- another item in one of the cells changes that place alone
  pub items_set : (cell cell' : ℕ → Option (Cell X)) (ns : List ℕ) (p number : ℕ) (new : Cell X) → AllWritten cell ns → occurrences number ns ≤ 1 → p < length ns → get_or ns p 0 ≡ number
      → cell' number ≡ Some new → ((m : ℕ) → m ≢ number → cell' m ≡ cell m) → items_in cell' ns ≡ set (items_in cell ns) p new.item
  items_set cell cell' [] p number new all once l at there else = absurd (omega arith)
  items_set cell cell' (n ∷ ns) zero number new all once l at there else =
      let got = all n (omega (arith, same_self n)) in
      let one : same n number ≡ 1 = subst (λ k. same n k ≡ 1) at (same_self n) in
      let rest : items_in cell' ns ≡ items_in cell ns = same_items cell cell' ns (λ m l' xs. ap (λ c. item_and c xs) (else m (λ e. let l'' : 0 < occurrences number ns = subst (λ k. 0 < occurrences k ns) e l' in omega (arith, l'', one, once)))) in
      (λ i. item_and (cell' (at i)) (rest i)) ∙ ap (λ c. item_and c (items_in cell ns)) there ∙ sym (ap (λ c. set (item_and c (items_in cell ns)) 0 new.item) got.1)
  items_set cell cell' (n ∷ ns) (suc p) number new all once l at there else =
      let got = all n (omega (arith, same_self n)) in
      let in_rest : 0 < occurrences number ns = subst (λ k. 0 < occurrences k ns) at (stands ns p (omega arith)) in
      let here : cell' n ≡ cell n = else n (λ e. let one : same n number ≡ 1 = subst (λ k. same n k ≡ 1) e (same_self n) in omega (arith, one, once, in_rest)) in
      let rest = items_set cell cell' ns p number new (λ m k. all m (omega arith)) (omega arith) (omega arith) at there else in
      (λ i. item_and ((here ∙ got.1) i) (rest i)) ∙ sym (ap (λ c. set (item_and c (items_in cell ns)) (suc p) new.item) got.1)

module _ {X : Type 0} (cells now : List (Option (Cell X))) (number : ℕ) (item : X) (old : Cell X) (read : get_or cells number None ≡ Some old) where
  -- the cell keeps its link
  module _ (wrote : now ≡ set cells number (Some (record { item = item; next = old.next }))) where
    abbrev new : Cell X
    new = record { item = item; next = old.next }

    there : cell_at now number ≡ Some new
    there = wrote_there cells now number new wrote (within cells number old read)

    keeps_link : (m : ℕ) → next_of (cell_at now m) ≡ next_of (cell_at cells m)
    keeps_link m = elim (same_or_not m number) [
      | inl t ↦ ap (λ k. next_of (cell_at now k)) t.0 ∙ ap next_of there ∙ sym (ap next_of read) ∙ sym (ap (λ k. next_of (cell_at cells k)) t.0)
      | inr f ↦ ap next_of (wrote_else cells now number new wrote m f.0)
    ]

    module _ (chain : Chain) where
      pub same_chain : numbers (cell_at now) chain ≡ numbers (cell_at cells) chain
      same_chain = same_links (cell_at cells) (cell_at now) chain.len chain.first keeps_link

      pub items_now : (whole : IsWhole cells chain) (place : ℕ) → place < length (numbers (cell_at cells) chain) → number ≡ get_or (numbers (cell_at cells) chain) place 0
          → items (cell_at now) chain ≡ set (items (cell_at cells) chain) place item
      items_now whole place l at =
          ap (items_in (cell_at now)) same_chain
          ∙ items_set (cell_at cells) (cell_at now) (numbers (cell_at cells) chain) place number new whole.written (whole.once number) l (sym at) there (wrote_else cells now number new wrote)

  -- the cell leads to the chain, which it is not in
  pub before_chain : (free : Chain) → now ≡ set cells number (Some (record { item = item; next = free.first })) → occurrences number (numbers (cell_at cells) free) ≡ 0
      → numbers (cell_at now) (record { first = number; last = free.last; len = free.len + 1; run = 0 }) ≡ number ∷ numbers (cell_at cells) free
  before_chain free wrote apart =
      let new : Cell X = record { item = item; next = free.first } in
      let first_cell : cell_at now number ≡ Some new = wrote_there cells now number new wrote (within cells number old read) in
      let len : free.len + 1 ≡ suc free.len = omega arith in
      ap (λ k. numbers_from (cell_at now) k number) len ∙ ap (λ c. number ∷ numbers_from (cell_at now) free.len (next_of c)) first_cell
      ∙ ap (λ l. number ∷ l) (same_numbers (cell_at cells) (cell_at now) free.len free.first (λ m l. wrote_else cells now number new wrote m (λ e. let l' : 0 < occurrences number (numbers (cell_at cells) free) = subst (λ k. 0 < occurrences k (numbers (cell_at cells) free)) e l in omega (arith, l', apart))))
