-- The test for a repeated key finds it exactly where it is there.
use Rattle.std.proofs.Common.{◌≡◌, ◌≢◌, ◌<◌, ◌||◌, ℕ, zero, suc, Bool, true, false, List, [], ◌∷◌, length, get_or, refl, sym, arith, ◌∙◌, Contains}
use Rattle.std.proofs.lemmas.Bool.{true≢false}
use Rattle.indexmap.proofs.CallerLemmas.{Contains-list_any}
use Rattle.flow_types.specs.declared.key.FlowKey.{FlowKey}
use Rattle.flow_types.specs.declared.record.Flow.{Flow}
use Rattle.flow_types.specs.Key.{same_key}
use Rattle.flow_types.proofs.SameKeys.{same_key-refl, same_key-true}
use Rattle.flow_reader.specs.Opening.{has_key, keys_of}

or-left : (a b : Bool) → (a || b) ≡ false → a ≡ false
or-left true b e = cc e
or-left false b e = refl

or-right : (a b : Bool) → (a || b) ≡ false → b ≡ false
or-right true b e = cc e
or-right false b e = e

-- no flow has a key that isn't found
pub has_key-false : (key : FlowKey) (flows : List Flow) → has_key key flows ≡ false → (k : ℕ) (d : Flow) → k < length flows → (get_or flows k d).key ≢ key
has_key-false key [] e k d h = absurd (omega arith)
has_key-false key (f ∷ fs) e zero d h =
    λ same.
    let other = or-left (same_key key f.key) (has_key key fs) e in
    let found : same_key key f.key ≡ true = rw same (same_key-refl key) in
    absurd (true≢false (sym found ∙ other))
has_key-false key (f ∷ fs) e (suc k) d h = has_key-false key fs (or-right (same_key key f.key) (has_key key fs) e) k d (omega arith)

-- a key that no flow has isn't found
pub has_key-none : (key : FlowKey) (flows : List Flow) → ((k : ℕ) (d : Flow) → k < length flows → (get_or flows k d).key ≢ key) → has_key key flows ≡ false
has_key-none key [] p = refl
has_key-none key (f ∷ fs) p = by (same_key key f.key) refl (has_key-none key fs (λ k d h. p (suc k) d (omega arith)))
  where
    by : (b : Bool) → same_key key f.key ≡ b → has_key key fs ≡ false → (b || has_key key fs) ≡ false
    by true e rest = absurd (p 0 f (omega arith) (sym (same_key-true key f.key e)))
    by false e rest = rest

-- a key that is there is found
found_at : (key : FlowKey) (flows : List Flow) (k : ℕ) → k < length (keys_of flows) → get_or (keys_of flows) k key ≡ key → has_key key flows ≡ true
found_at key [] k h e = absurd (omega arith)
found_at key (f ∷ fs) zero h e =
    let found : same_key key f.key ≡ true = rw e (same_key-refl key) in
    rw found refl
found_at key (f ∷ fs) (suc k) h e = by (same_key key f.key) (found_at key fs k (omega arith) e)
  where
    by : (b : Bool) → has_key key fs ≡ true → (b || has_key key fs) ≡ true
    by true rest = refl
    by false rest = rest

pub has_key-there : (key : FlowKey) (flows : List Flow) → Contains (keys_of flows) key → has_key key flows ≡ true
has_key-there key flows c = found_at key flows c.0 c.1 c.2

-- and a key that is found is there
pub has_key-true : (key : FlowKey) (flows : List Flow) → has_key key flows ≡ true → Contains (keys_of flows) key
has_key-true key flows e = Contains-list_any same_key same_key-true (keys_of flows) key e
