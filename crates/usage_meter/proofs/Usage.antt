-- What lists of adds come to.
use Rattle.std.proofs.Common.{◌≡◌, ◌≢◌, ℕ, ◌+◌, ◌≤◌, List, [], ◌∷◌, ◌++◌, if◌then◌else◌, ◌==◌, Bool, true, false, ap, arith}
use Rattle.std.proofs.lemmas.Bool.Decides.{nat_tests}
use Rattle.std.proofs.lemmas.List.Sums.{sum_by-append, sum_by_push}
use Rattle.usage_meter.specs.declared.view.Add.{Add}
use Rattle.usage_meter.specs.Adds.{an_add, octets, octets_for, usage}
use Rattle.usage_meter.proofs.Sums.{sum_le}

octets_for-le : (node : ℕ) (a : Add) → octets_for node a ≤ a.octets
octets_for-le node a = either (a.node == node)
  where
    either : (t : Bool) → (if t then a.octets else 0) ≤ a.octets
    either true = omega arith
    either false = omega arith

pub usage-le : (node : ℕ) (adds : List Add) → usage node adds ≤ octets adds
usage-le node adds = sum_le (λ a. a.octets) (octets_for node) adds (octets_for-le node)

-- one more add, for this node or another
pub usage-here : (node n : ℕ) (adds : List Add) → usage node (adds ++ an_add node n ∷ []) ≡ usage node adds + n
usage-here node n adds =
    let test : (node == node) ≡ true = grind (arith, nat_tests) in
    let one : octets_for node (an_add node n) ≡ n = ap (λ (t : Bool). if t then n else 0) test in
    omega (arith, sum_by_push (octets_for node) adds (an_add node n))

pub usage-elsewhere : (node at n : ℕ) (adds : List Add) → at ≢ node → usage node (adds ++ an_add at n ∷ []) ≡ usage node adds
usage-elsewhere node at n adds other =
    let test : (at == node) ≡ false = grind (arith, nat_tests) in
    let one : octets_for node (an_add at n) ≡ 0 = ap (λ (t : Bool). if t then n else 0) test in
    omega (arith, sum_by_push (octets_for node) adds (an_add at n))

pub octets-more : (node n : ℕ) (adds : List Add) → octets (adds ++ an_add node n ∷ []) ≡ octets adds + n
octets-more node n adds = sum_by_push (λ a. a.octets) adds (an_add node n)

pub usage-both : (node : ℕ) (xs ys : List Add) → usage node (xs ++ ys) ≡ usage node xs + usage node ys
usage-both node xs ys = sum_by-append (octets_for node) xs ys

pub octets-both : (xs ys : List Add) → octets (xs ++ ys) ≡ octets xs + octets ys
octets-both xs ys = sum_by-append (λ a. a.octets) xs ys

pub ruleset usages = (usage-le, usage-here, octets-more, usage-both, octets-both)
