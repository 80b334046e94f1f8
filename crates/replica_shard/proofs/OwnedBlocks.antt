-- The blocks of one owner, where its cells have them.
use Rattle.std.proofs.Common.{ℕ, ◌≡◌, ◌∙◌, ◌+◌, ◌*◌, ◌/◌, ◌%◌, ◌<◌, ◌≤◌, true, sym, ap, arith}
use Rattle.std.proofs.lemmas.Bool.{and_from, and_parts, eq-eqb, eqb-true, lt-ltb, ltb-true}
use Rattle.std.proofs.Math.Nat.{lt_of_mul-lt-mul_left, mul-div_cancel_left}
use Rattle.flow_types.specs.Size.{Size}
use Rattle.replica_shard.specs.Shard.{is_owned_block}

-- a block of the owner has a place among the owner's
pub place_within : (nodes owner block blocks count : ℕ) → 1 ≤ nodes → block % nodes ≡ owner → block < blocks → blocks ≤ owner + nodes * count → block / nodes < count
place_within nodes owner block blocks count some owned within enough = lt_of_mul-lt-mul_left nodes (omega arith)

-- a block stands where it is dealt to its owner
pub its_place : (nodes owner block : ℕ) → 1 ≤ nodes → block % nodes ≡ owner → owner + nodes * (block / nodes) ≡ block
its_place nodes owner block some is = omega arith

-- and no other stands there
pub one_place : (nodes owner block place : ℕ) → 1 ≤ nodes → block % nodes ≡ owner → owner + nodes * place ≡ block → place ≡ block / nodes
one_place nodes owner block place some is there =
    let same : nodes * place ≡ nodes * (block / nodes) = omega (arith, its_place nodes owner block some is) in
    sym (mul-div_cancel_left place (omega arith)) ∙ ap (λ (n : ℕ). n / nodes) same ∙ mul-div_cancel_left (block / nodes) (omega arith)

pub owned_block : (size : Size) (owner block : ℕ) → block < size.blocks → block % size.nodes ≡ owner → is_owned_block size owner block ≡ true
owned_block size owner block within owned = and_from _ _ (lt-ltb _ _ within) (eq-eqb _ _ owned)

pub of_owner : (size : Size) (owner block : ℕ) → is_owned_block size owner block ≡ true → (block < size.blocks) × (block % size.nodes ≡ owner)
of_owner size owner block e =
    let parts = and_parts _ _ e in
    (ltb-true _ _ parts.0, eqb-true _ _ parts.1)
