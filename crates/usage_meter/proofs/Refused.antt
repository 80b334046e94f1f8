-- Wrong steps: whatever their seat then knows, the rule no longer holds.
--
-- The meter has two nodes and a ration of 6. One seat may still add one octet, and has added none; the other has added n of
-- the five that it was given, to node 0.
use Rattle.std.proofs.Common.{◌≡◌, ℕ, zero, suc, ◌+◌, ◌-◌, ◌<◌, ◌≤◌, All, [], ◌∷◌, get_or, sum_by, refl, sym, subst, arith}
use mathlib.Core.Option.{some, some-injective, some-ne-none}
use lib.ListN.{get_elem?}
use Rattle.std.proofs.lemmas.List.Sums.{sum_by-cons}
use Rattle.atomic_table.specs.Table.{Allows, Joins, Me, Splits, State}
use Rattle.usage_meter.specs.declared.view.Opening.{Opening}
use Rattle.usage_meter.specs.declared.view.View.{View}
use Rattle.usage_meter.specs.declared.view.View.TheVariants.{Live, Spent}
use Rattle.usage_meter.specs.Adds.{an_add}
use Rattle.usage_meter.specs.Rule.{IsRead, Kept, Knows, given_in, usage_in}
use Rattle.usage_meter.specs.Plays.{new_account}
use Rattle.usage_meter.proofs.Keeps.{usage_given}

abbrev key : Opening
key = record { nodes = 2; ration = 6 }

abbrev one : View
one = Live (new_account 6 1)

abbrev other : (n : ℕ) → View
other n = Live (record { opening = 6; ration = 5 - n; adds = an_add 0 n ∷ []; readings = [] })

abbrev meter : (n : ℕ) → State ℕ View
meter n = record { words = n ∷ 0 ∷ []; homes = []; views = one ∷ other n ∷ [] }

sum_two : (f : View → ℕ) (v w : View) → sum_by f (v ∷ w ∷ []) ≡ f v + f w
sum_two f v w = omega (arith, sum_by-cons f v (w ∷ []), sum_by-cons f w [])

kept : (n : ℕ) → n ≤ 5 → Kept key (meter n)
kept n few = record {
  wide = refl;
  totals = totals;
  rations = omega arith;
  knows = knows;
}
  where
    totals : (node : ℕ) → node < 2 → get_or (n ∷ 0 ∷ []) node 0 ≡ sum_by (usage_in node) (one ∷ other n ∷ [])
    totals zero inside = omega arith
    totals (suc zero) inside = refl
    totals (suc (suc node)) inside = absurd (omega arith)

    nothing_read : All (IsRead (n ∷ 0 ∷ [])) []
    nothing_read i d less = absurd (omega arith)

    knows : (j : ℕ) (v : View) → get_elem? (one ∷ other n ∷ []) j ≡ some v → Knows key (n ∷ 0 ∷ []) v
    knows zero v at = subst (Knows key (n ∷ 0 ∷ [])) (some-injective one v at) (refl, nothing_read)
    knows (suc zero) v at = subst (Knows key (n ∷ 0 ∷ [])) (some-injective (other n) v at) (refl, nothing_read)
    knows (suc (suc j)) v at = absurd (some-ne-none v (sym at))

-- the seat then has one octet for node 0
abbrev Counts : ℕ → Me ℕ View → Type 0
Counts found me = usage_in 0 me.0 ≡ 1

-- a step on the node's word that counts an octet adds just this one, whatever the other seat had added by then
pub adds_one : (f : ℕ → ℕ) → Allows (Kept key) 0 0 (one, []) 0 f Counts → (n : ℕ) → n ≤ 5 → f n ≡ n + 1
adds_one f allows n few =
    let t = allows (meter n) (kept n few) refl refl (omega arith) in
    let total : f n ≡ sum_by (usage_in 0) (t.0 ∷ other n ∷ []) = t.3.totals 0 (omega arith) in
    let counts : usage_in 0 t.0 ≡ 1 = t.4 in
    let others : usage_in 0 (other n) ≡ n = omega arith in
    omega (arith, sum_two (usage_in 0) t.0 (other n))

-- so no store of a number that was worked out before, as by a load, is an add
pub no_store : (new : ℕ) → Allows (Kept key) 0 0 (one, []) 0 (λ _. new) Counts → ⊥
no_store new allows = let at_4 = adds_one (λ _. new) allows 4 (omega arith) in let at_5 = adds_one (λ _. new) allows 5 (omega arith) in absurd (omega arith)

-- nor is a load, after which the seat alone has the sum
pub no_load : Allows (Kept key) 0 0 (one, []) 0 (λ n. n) Counts → ⊥
no_load allows = let at_5 = adds_one (λ n. n) allows 5 (omega arith) in absurd (omega arith)

-- nor is any step on another node's word
pub no_other_word : (f : ℕ → ℕ) → Allows (Kept key) 0 0 (one, []) 1 f Counts → ⊥
no_other_word f allows =
    let t = allows (meter 5) (kept 5 (omega arith)) refl refl (omega arith) in
    let total : 5 ≡ sum_by (usage_in 0) (t.0 ∷ other 5 ∷ []) = t.3.totals 0 (omega arith) in
    let counts : usage_in 0 t.0 ≡ 1 = t.4 in
    absurd (omega (arith, sum_two (usage_in 0) t.0 (other 5)))

-- nor is any step of a seat that has no ration left
pub no_overdraft : (f : ℕ → ℕ) → Allows {S = ℕ} (Kept key) 0 1 (other 5, []) 0 f (λ found me. usage_in 0 me.0 ≡ 6) → ⊥
no_overdraft f allows =
    let t = allows (meter 5) (kept 5 (omega arith)) refl refl (omega arith) in
    let rations : sum_by given_in (one ∷ t.0 ∷ []) ≡ 6 = t.3.rations in
    let counts : usage_in 0 t.0 ≡ 6 = t.4 in
    let given = usage_given 0 t.0 in
    absurd (omega (arith, sum_two given_in one t.0))

-- a seat that gathers another has what both were given
pub gathers_both : (v : View) → Joins {S = ℕ} (Kept key) 1 (other 5) 0 one v Spent → given_in v ≡ 6
gathers_both v joins =
    let k = joins (meter 5) (kept 5 (omega arith)) refl (λ e. absurd (omega arith)) refl in
    let rations : sum_by given_in (Spent ∷ v ∷ []) ≡ 6 = k.rations in
    omega (arith, sum_two given_in Spent v)

-- so none forgets the other's ration
pub no_forgetting : (v : View) → given_in v ≡ given_in (other 5) → Joins {S = ℕ} (Kept key) 1 (other 5) 0 one v Spent → ⊥
no_forgetting v forgets joins = let both = gathers_both v joins in absurd (omega arith)

-- a seat that is split gives away what the new one gets
pub gives_away : (left right : View) → Splits {S = ℕ} (Kept key) 0 one left right → given_in left + given_in right ≡ 1
gives_away left right splits =
    let k = splits (meter 5) (kept 5 (omega arith)) refl in
    let rations : sum_by given_in (left ∷ other 5 ∷ right ∷ []) ≡ 6 = k.rations in
    omega (arith, sum_by-cons given_in left (other 5 ∷ right ∷ []), sum_two given_in (other 5) right)

-- so none keeps it
pub no_copy : (left right : View) → given_in left ≡ given_in one → given_in right ≡ given_in one → Splits {S = ℕ} (Kept key) 0 one left right → ⊥
no_copy left right keeps gives splits = let both = gives_away left right splits in absurd (omega arith)
