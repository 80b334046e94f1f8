-- The images of parts in their order.
use Rattle.std.proofs.Common.{ℕ, suc, ◌≡◌, ◌<◌, List, [], ◌∷◌, ◌++◌, length, get_or, ap, refl, sym, arith, append_assoc}
use Rattle.std.specs.Prelude.{Result, Ok, Err}
use Rattle.std.specs.List.{AllZip}
use Rattle.group_search.specs.Image.{Image}
use Rattle.setsep_build.specs.declared.refused.BuildRefused.{BuildRefused}
use Rattle.setsep_build.specs.Parts.{before_all}

-- images before others before the rest
pub before_twice : (a b : List Image) (rest : Result (List Image) BuildRefused) → before_all a (before_all b rest) ≡ before_all (a ++ b) rest
before_twice a b (Ok later) = ap Ok (sym (append_assoc a b later))
before_twice a b (Err why) = refl

pub before_none : (rest : Result (List Image) BuildRefused) → before_all [] rest ≡ rest
before_none (Ok later) = refl
before_none (Err why) = refl

-- a relation that holds place by place
pub zip_from_each : {X Y : Type 0} (R : X → Y → Type 0) (xs : List X) (ys : List Y) → length ys ≡ length xs
    → ((i : ℕ) (a : X) (b : Y) → i < length xs → R (get_or xs i a) (get_or ys i b)) → AllZip R xs ys
zip_from_each R [] [] same each = tt
zip_from_each R [] (y ∷ ys) same each = absurd (omega arith)
zip_from_each R (x ∷ xs) [] same each = absurd (omega arith)
zip_from_each R (x ∷ xs) (y ∷ ys) same each =
    (each 0 x y (omega arith), zip_from_each R xs ys (omega arith) (λ i a b low. each (suc i) a b (omega arith)))
