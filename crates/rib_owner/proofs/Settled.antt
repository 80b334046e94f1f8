-- A block in the place of another with the same groups.
use Rattle.std.proofs.Common.{ℕ, zero, suc, ◌≡◌, [], ◌∷◌, List, map, get_or, set, ap, refl}
use Rattle.rib_owner.specs.Rib.{Part}
use Rattle.rib_owner.specs.Stock.{Stock, part_in}

pub same_parts : (blocks : List Stock) (at : ℕ) (none now : Stock) → part_in now ≡ part_in (get_or blocks at none) → map part_in (set blocks at now) ≡ map part_in blocks
same_parts [] at none now same = refl
same_parts (block ∷ blocks) zero none now same = ap (λ (p : Part). p ∷ map part_in blocks) same
same_parts (block ∷ blocks) (suc at) none now same = ap (λ (ps : List Part). part_in block ∷ ps) (same_parts blocks at none now same)
