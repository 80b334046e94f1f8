-- What holds of each cell holds of the cells side by side.
use Rattle.std.specs.Prelude.{ℕ, ◌+◌, List, [], ◌∷◌, Option}
use Rattle.std.specs.Mem.{type_size}
use denote.RattleType.{RattleType}
use Rattle.bucket_arena.specs.Piece.{side_by_side}

-- of two things that are said of the same cells
module _ (R : RattleType) {F G : Type 1} (f₀ : F) (f₂ : F → F → F) (f : ℕ → Option R.Denot → F) (g₀ : G) (g₂ : G → G → G) (g : ℕ → Option R.Denot → G) where
  pub each_to_all {ℓ} : (Q : F → G → Type ℓ) → Q f₀ g₀ → ((x x' : F) (y y' : G) → Q x y → Q x' y' → Q (f₂ x x') (g₂ y y')) → ((o : ℕ) (c : Option R.Denot) → Q (f o c) (g o c))
      → (o : ℕ) (cs : List (Option R.Denot)) → Q (side_by_side R f₀ f₂ f o cs) (side_by_side R g₀ g₂ g o cs)
  each_to_all Q none both one o [] = none
  each_to_all Q none both one o (c ∷ cs) =
      let next = o + type_size R in
      both (f o c) (side_by_side R f₀ f₂ f next cs) (g o c) (side_by_side R g₀ g₂ g next cs) (one o c) (each_to_all Q none both one next cs)
