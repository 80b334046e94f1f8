-- Cells that were written, and a row after one more write.
use Rattle.std.specs.Prelude.{◌≡◌, ◌≢◌, ℕ, zero, suc, ◌<◌, List, [], ◌∷◌, length, get_or, set, Option, Some, None}
use Rattle.std.proofs.Common.{◌∙◌, ap, inl, inr, arith, get_or-set_other, get_or-set_same, length-set}
use Rattle.bucket_arena.specs.Row.{IsWritten}
use Rattle.bucket_arena.proofs.Counts.{same_or_not}

module _ {X : Type 0} where
  pub within : (cells : List (Option X)) (n : ℕ) (x : X) → get_or cells n None ≡ Some x → n < length cells
  within [] n x e = cc
  within (c ∷ cells) zero x e = omega arith
  within (c ∷ cells) (suc n) x e = omega (arith, within cells n x e)

  module _ (cells after : List (Option X)) (n : ℕ) (x : X) (wrote : after ≡ set cells n (Some x)) where
    pub wrote_there : n < length cells → get_or after n None ≡ Some x
    wrote_there l = ap (λ cs. get_or cs n None) wrote ∙ get_or-set_same cells n (Some x) None l

    pub wrote_else : (m : ℕ) → m ≢ n → get_or after m None ≡ get_or cells m None
    wrote_else m ne = ap (λ cs. get_or cs m None) wrote ∙ get_or-set_other cells n m (Some x) None ne

    pub wrote_length : length after ≡ length cells
    wrote_length = ap length wrote ∙ length-set cells n (Some x)

    pub still_written : n < length cells → (m : ℕ) → IsWritten cells m → IsWritten after m
    still_written l m w = elim (same_or_not m n) [ inl t ↦ (x, ap (λ k. get_or after k None) t.0 ∙ wrote_there l) | inr f ↦ (w.0, wrote_else m f.0 ∙ w.1) ]
