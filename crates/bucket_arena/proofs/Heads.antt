-- The first cell of some, and those after it.
use Rattle.std.specs.Prelude.{◌≡◌, ℕ, zero, suc, ◌-◌, ◌<◌, List, ◌∷◌, get_or, Option, Some, None}
use Rattle.std.proofs.Common.{◌∙◌, ap, subst, arith}
use Rattle.bucket_arena.specs.declared.chain.Cell.{Cell}
use Rattle.bucket_arena.specs.Row.{IsWritten}
use Rattle.bucket_arena.specs.Chains.{cell_at, next_of, numbers_from, item_and, items_in, AllWritten}
use Rattle.bucket_arena.proofs.Counts.{same_self}

module _ {X : Type 0} (cells : List (Option (Cell X))) where
  parted : (len n : ℕ) (c : Cell X) → 0 < len → get_or cells n None ≡ Some c → numbers_from (cell_at cells) len n ≡ n ∷ numbers_from (cell_at cells) (len - 1) c.next
  parted zero n c some read = absurd (omega arith)
  parted (suc k) n c some read = let e : k ≡ suc k - 1 = omega arith in (λ i. n ∷ numbers_from (cell_at cells) (e i) (next_of (read i)))

  pub first_written : (len n : ℕ) → 0 < len → AllWritten cells (numbers_from (cell_at cells) len n) → IsWritten cells n
  first_written zero n some all = absurd (omega arith)
  first_written (suc k) n some all = all n (omega (arith, same_self n))

  pub rest_written : (len n : ℕ) (c : Cell X) → 0 < len → get_or cells n None ≡ Some c → AllWritten cells (numbers_from (cell_at cells) len n) → AllWritten cells (numbers_from (cell_at cells) (len - 1) c.next)
  rest_written len n c some read all = λ m l. subst (AllWritten cells) (parted len n c some read) all m (omega arith)

  pub first_item : (len n : ℕ) (c : Cell X) → 0 < len → get_or cells n None ≡ Some c
      → items_in (cell_at cells) (numbers_from (cell_at cells) len n) ≡ c.item ∷ items_in (cell_at cells) (numbers_from (cell_at cells) (len - 1) c.next)
  first_item len n c some read = ap (items_in (cell_at cells)) (parted len n c some read) ∙ ap (λ o. item_and o (items_in (cell_at cells) (numbers_from (cell_at cells) (len - 1) c.next))) read
