-- Two products that give a remainder.
use Rattle.std.proofs.Common.{ℕ, zero, suc, ◌≡◌, ◌∙◌, ◌+◌, ◌-◌, ◌*◌, ◌/◌, ◌%◌, ◌<◌, ◌≤◌, ap, arith}
use Rattle.std.proofs.Math.Nat.{div-add-mod, mul-le-mul_left, mul-le-mul_right}

-- what a factor that is 2 ^ 64 over the blocks, and a little more, leaves of a hash
left : (blocks factor over hash times rest : ℕ) → factor * blocks ≡ 18446744073709551616 + over → over < blocks → blocks ≤ 256
    → hash ≡ times * blocks + rest → rest < blocks → hash < 4294967296
    → factor * hash % 18446744073709551616 * blocks / 18446744073709551616 ≡ rest
left blocks factor over hash times rest whole little few parts less small =
    let spread : times * (factor * blocks) ≡ times * (18446744073709551616 + over) = ap (λ (n : ℕ). times * n) whole in
    let product : factor * hash ≡ factor * (times * blocks + rest) = ap (λ (n : ℕ). factor * n) parts in
    let least : blocks * factor ≤ 256 * factor = mul-le-mul_right factor few in
    let below : (rest + 1) * factor ≤ blocks * factor = mul-le-mul_right factor (omega (arith, less)) in
    let overs : times * over ≤ times * blocks = mul-le-mul_left times (omega (arith, little)) in
    let part : factor * hash % 18446744073709551616 ≡ times * over + factor * rest =
    omega (arith, spread, product, least, below, overs, whole, little, few, parts, small) in
    let rested : rest * (factor * blocks) ≡ rest * (18446744073709551616 + over) = ap (λ (n : ℕ). rest * n) whole in
    let over_all : over * hash ≡ over * (times * blocks + rest) = ap (λ (n : ℕ). over * n) parts in
    let over_few : over * hash ≤ 256 * hash = mul-le-mul_right hash (omega (arith, little, few)) in
    ap (λ (n : ℕ). n * blocks / 18446744073709551616) part ∙ omega (arith, rested, over_all, over_few, small)

-- so it is with the factor of two blocks or more
many : (blocks factor hash : ℕ) → 2 ≤ blocks → blocks ≤ 256 → factor ≡ (18446744073709551615 / blocks + 1) % 18446744073709551616 → hash < 4294967296
    → factor * hash % 18446744073709551616 * blocks / 18446744073709551616 ≡ hash % blocks
many blocks factor hash more few whole small =
    let q : ℕ = 18446744073709551615 / blocks in
    let m : ℕ = 18446744073709551615 % blocks in
    let parts : blocks * q + m ≡ 18446744073709551615 = div-add-mod 18446744073709551615 blocks in
    let half : 2 * q ≤ blocks * q = mul-le-mul_right q more in
    let less : m < blocks = omega arith in
    let is : factor ≡ q + 1 = omega (arith, whole, half, parts) in
    let product : factor * blocks ≡ (q + 1) * blocks = ap (λ (n : ℕ). n * blocks) is in
    let divided : blocks * (hash / blocks) + hash % blocks ≡ hash = div-add-mod hash blocks in
    left blocks factor (blocks - 1 - m) hash (hash / blocks) (hash % blocks)
    (omega (arith, product, parts, less)) (omega (arith, less)) few (omega (arith, divided)) (omega arith) small

-- one block has all
one : (factor hash : ℕ) → factor ≡ 0 → factor * hash % 18446744073709551616 * 1 / 18446744073709551616 ≡ hash % 1
one factor hash none = ap (λ (n : ℕ). n * hash % 18446744073709551616 * 1 / 18446744073709551616) none ∙ omega arith

pub remainder : (blocks factor hash : ℕ) → 1 ≤ blocks → blocks ≤ 256 → factor ≡ (18446744073709551615 / blocks + 1) % 18446744073709551616 → hash < 4294967296
    → factor * hash % 18446744073709551616 * blocks / 18446744073709551616 ≡ hash % blocks
remainder zero factor hash least few whole small = absurd (omega (arith, least))
remainder (suc zero) factor hash least few whole small = one factor hash (omega (arith, whole))
remainder (suc (suc b)) factor hash least few whole small = many (suc (suc b)) factor hash (omega arith) few whole small
