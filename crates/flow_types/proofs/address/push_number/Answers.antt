use Rattle.std.proofs.Common.{◌+◌, ◌/◌, ◌%◌, ◌∷◌, [], arith, append_assoc}
use Rattle.flow_types.proofs.Decimals.{one_digit, two_digits, three_digits}
use Rattle.flow_types.proofs.address.push_number.Goals as goal
use Rattle.flow_types.proofs.address.push_number.Goals.{then-number-ge100, else-number-ge100, then-number-ge10, else-number-ge10}

pub returns-clause-items : goal.returns-clause-items
returns-clause-items c =
    let n = c.args.number in
    let old = c.args.text.now.items in
    let hundreds = 48 + n / 100 in
    let tens = 48 + n / 10 % 10 in
    let ones = 48 + n % 10 in
    elim c.if-number-ge10.branch [
      | then-number-ge10 w ↦ elim c.if-number-ge100.branch [
        | then-number-ge100 v ↦ cc (three_digits n (omega arith) (omega arith), append_assoc old (hundreds ∷ []) (tens ∷ []), append_assoc old (hundreds ∷ tens ∷ []) (ones ∷ []))
        | else-number-ge100 v ↦ cc (two_digits n (omega arith) (omega arith), append_assoc old (tens ∷ []) (ones ∷ []))
      ]
      | else-number-ge10 w ↦ elim c.if-number-ge100.branch [
        | then-number-ge100 v ↦ absurd (omega arith)
        | else-number-ge100 v ↦ cc (one_digit n (omega arith))
      ]
    ]
