-- A product that divides a block's number by the number of nodes.
use Rattle.std.proofs.Common.{ℕ, ◌≡◌, ◌∙◌, ◌+◌, ◌*◌, ◌/◌, ◌%◌, ◌<◌, ◌≤◌, ap, sym, arith}
use Rattle.std.proofs.Math.Nat.{div-add-mod, mul-le-mul_left, mul-le-mul_right}

-- what is over by the product is less than 2^16
over : (nodes share place rest : ℕ) → nodes ≤ 16 → nodes * share ≤ 65536 → 65536 < nodes * share + nodes → rest < nodes → nodes * place + rest < 256
    → (nodes * place + rest) * (share + 1) / 65536 ≡ place
over nodes share place rest most low high less few =
    let shared : nodes * share ≤ 16 * share = mul-le-mul_right share most in
    let enough : place * 65536 ≤ place * (nodes * share + nodes) = mul-le-mul_left place (omega (arith, high)) in
    let most_of_it : place * (nodes * share) ≤ place * 65536 = mul-le-mul_left place low in
    let rest_of_it : (rest + 1) * share ≤ nodes * share = mul-le-mul_right share (omega (arith, less)) in
    omega (arith, shared, enough, most_of_it, rest_of_it, low, high, few)

pub product_divides : (nodes block : ℕ) → 2 ≤ nodes → nodes ≤ 16 → block < 256 → block * (65536 / nodes + 1) / 65536 ≡ block / nodes
product_divides nodes block least most few =
    let parts : nodes * (block / nodes) + block % nodes ≡ block = div-add-mod block nodes in
    ap (λ (b : ℕ). b * (65536 / nodes + 1) / 65536) (sym parts)
    ∙ over nodes (65536 / nodes) (block / nodes) (block % nodes) most (omega arith) (omega arith) (omega arith) (omega (arith, parts, few))
