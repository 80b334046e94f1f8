-- What a sort by block, bucket and key gives.
use Rattle.std.proofs.Common.{ℕ, ◌≡◌, ◌∙◌, ◌+◌, ◌<◌, ◌≤◌, false, List, get_or, ap, refl, sym, arith, ⊎_elim, inl, inr, true≢false}
use Rattle.std.specs.Prelude.{◌⊎◌}
use Rattle.std.specs.List.Sorted.{IsSortedByKey, IsNonDecreasingBy}
use Rattle.std.specs.Ordering.{is_lt, nat_cmp, ordering_then}
use Rattle.std.proofs.lemmas.Bool.{cases_lt, eq-eqb, le-ltb, lt-ltb}
use Rattle.std.proofs.lemmas.List.Sorted.{IsNonDecreasingBy-from_all_adjacent}
use Rattle.flow_types.specs.Key.{number}
use Rattle.setsep_build.specs.declared.placed.Placed.{Placed}
use Rattle.setsep_build.specs.Placing.{AreInOrder, IsNoLater, rank}
use Rattle.std.specs.declared.cmp.Ordering.{Ordering}
use Rattle.std.specs.declared.cmp.Ordering.TheVariants.{Less, Equal, Greater}

-- the order of the sort
abbrev pub in_rank : ℕ × ℕ × ℕ → ℕ × ℕ × ℕ → Ordering
in_rank a b = ordering_then (ordering_then (nat_cmp a.0 b.0) (nat_cmp a.1 b.1)) (nat_cmp a.2 b.2)

then_then : (a b c : Ordering) → ordering_then (ordering_then a b) c ≡ ordering_then a (ordering_then b c)
then_then Less b c = refl
then_then Equal b c = refl
then_then Greater b c = refl

-- numbers that aren't the other way round are in order, or the next numbers decide
numbers : (a b : ℕ) (rest : Ordering) → is_lt (ordering_then (nat_cmp b a) rest) ≡ false → (a < b) ⊎ ((a ≡ b) × (is_lt rest ≡ false))
numbers a b rest not_back =
    ⊎_elim
    (λ (back : b < a). absurd (true≢false (sym (rw (lt-ltb b a back) refl) ∙ not_back)))
    (λ (up : a ≤ b).
    ⊎_elim
    (λ (less : a < b). inl less)
    (λ (no_less : b ≤ a).
    let same : b ≡ a = omega arith in
    let none : is_lt (ordering_then (nat_cmp b a) rest) ≡ is_lt rest = rw (le-ltb b a up, eq-eqb b a same) refl in
    inr (sym same, sym none ∙ not_back))
    (cases_lt a b))
    (cases_lt b a)

last : (a b : ℕ) → is_lt (nat_cmp b a) ≡ false → a ≤ b
last a b not_back = ⊎_elim (λ (back : b < a). absurd (true≢false (sym (rw (lt-ltb b a back) refl) ∙ not_back))) (λ (up : a ≤ b). up) (cases_lt b a)

-- a rank that isn't before another's is no later than it
pub no_later : (a b : Placed) → is_lt (in_rank (rank b) (rank a)) ≡ false → IsNoLater a b
no_later a b not_back =
    ⊎_elim
    (λ (less : a.block < b.block). inl less)
    (λ (rest : (a.block ≡ b.block) × (is_lt (ordering_then (nat_cmp b.bucket a.bucket) (nat_cmp (number b.key) (number a.key))) ≡ false)).
    ⊎_elim
    (λ (less : a.bucket < b.bucket). inr (rest.0, inl less))
    (λ (key : (a.bucket ≡ b.bucket) × (is_lt (nat_cmp (number b.key) (number a.key)) ≡ false)).
    inr (rest.0, inr (key.0, last (number a.key) (number b.key) key.1)))
    (numbers a.bucket b.bucket (nat_cmp (number b.key) (number a.key)) rest.1))
    (numbers a.block b.block (ordering_then (nat_cmp b.bucket a.bucket) (nat_cmp (number b.key) (number a.key)))
    (sym (ap is_lt (then_then (nat_cmp b.block a.block) (nat_cmp b.bucket a.bucket) (nat_cmp (number b.key) (number a.key)))) ∙ not_back))

-- what the sort gives is in order
pub sorted_in_order : (all : List Placed) → IsSortedByKey rank in_rank all → AreInOrder all
sorted_in_order all sorted k d low = no_later (get_or all k d) (get_or all (k + 1) d) (sorted k d (omega arith) low)

block_no_later : (a b : Placed) → IsNoLater a b → a.block ≤ b.block
block_no_later a b is = ⊎_elim (λ (less : a.block < b.block). omega arith) (λ same. omega (arith, same.0)) is

-- flows in order stand by their blocks
pub by_block : (all : List Placed) → AreInOrder all → IsNonDecreasingBy (λ (one : Placed). one.block) all
by_block all in_order =
    IsNonDecreasingBy-from_all_adjacent (λ (one : Placed). one.block) all (λ k d low. block_no_later (get_or all k d) (get_or all (k + 1) d) (in_order k d low))
