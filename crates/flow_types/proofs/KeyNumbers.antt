-- A key, its number, and what is kept at it.
use Rattle.std.proofs.Common.{ℕ, ◌≡◌, ◌∙◌, ◌/◌, ◌%◌, ◌^◌, ◌==◌, Bool, true, false, refl, sym, ap, arith}
use Rattle.std.proofs.lemmas.Bool.{eqb-true, eqb-false}
use Rattle.flow_types.specs.declared.key.FlowKey.{FlowKey}
use Rattle.flow_types.specs.Key.{key_of, number, same_key, IsKeyValue}
use Rattle.flow_types.proofs.SameKeys.{same_key-refl, same_key-true}

pub number-key_of : (n : ℕ) → number (key_of n) ≡ n
number-key_of n = omega arith

pub key_of-number : (key : FlowKey) → IsKeyValue key → key_of (number key) ≡ key
key_of-number key h =
    let source : number key / 2 ^ 72 ≡ key.source = omega (arith, h.destination, h.source_port, h.destination_port, h.protocol) in
    let destination : number key / 2 ^ 40 % 2 ^ 32 ≡ key.destination = omega (arith, h.destination, h.source_port, h.destination_port, h.protocol) in
    let source_port : number key / 2 ^ 24 % 2 ^ 16 ≡ key.source_port = omega (arith, h.source_port, h.destination_port, h.protocol) in
    let destination_port : number key / 2 ^ 8 % 2 ^ 16 ≡ key.destination_port = omega (arith, h.destination_port, h.protocol) in
    let protocol : number key % 2 ^ 8 ≡ key.protocol = omega (arith, h.protocol) in
    λ i. record {
      source = source i;
      destination = destination i;
      source_port = source_port i;
      destination_port = destination_port i;
      protocol = protocol i;
    }

-- keys in range that have one number are the same
pub key_is : (key : FlowKey) (n : ℕ) → IsKeyValue key → number key ≡ n → key ≡ key_of n
key_is key n h is = sym (key_of-number key h) ∙ ap key_of is

-- a key is the one of a number exactly where it has this number
pub reads_number : (key : FlowKey) (n : ℕ) → IsKeyValue key → same_key key (key_of n) ≡ (n == number key)
reads_number key n h = by (n == number key) (same_key key (key_of n)) refl refl
  where
    by : (asked same : Bool) → (n == number key) ≡ asked → same_key key (key_of n) ≡ same → same_key key (key_of n) ≡ asked
    by true same e s = ap (same_key key) (sym (key_is key n h (sym (eqb-true n (number key) e)))) ∙ same_key-refl key
    by false false e s = s
    by false true e s = absurd (eqb-false n (number key) e (sym (ap number (same_key-true key (key_of n) s) ∙ number-key_of n)))
