-- The test for the same key holds exactly of a key and itself.
use Rattle.std.proofs.Common.{◌≡◌, ◌==◌, ◌&&◌, Bool, true, false, refl}
use Rattle.std.proofs.lemmas.Bool.{eq-eqb, eqb-true}
use Rattle.std.specs.Cmp.Derive.{both_true}
use Rattle.flow_types.specs.declared.key.FlowKey.{FlowKey}
use Rattle.flow_types.specs.Key.{same_key}

and-left : (a b : Bool) → (a && b) ≡ true → a ≡ true
and-left true b e = refl
and-left false b e = cc e

and-right : (a b : Bool) → (a && b) ≡ true → b ≡ true
and-right true b e = e
and-right false b e = cc e

pub same_key-refl : (a : FlowKey) → same_key a a ≡ true
same_key-refl a =
    both_true (eq-eqb a.source a.source refl)
    (both_true (eq-eqb a.destination a.destination refl)
    (both_true (eq-eqb a.source_port a.source_port refl)
    (both_true (eq-eqb a.destination_port a.destination_port refl) (eq-eqb a.protocol a.protocol refl))))

pub same_key-true : (a b : FlowKey) → same_key a b ≡ true → a ≡ b
same_key-true a b e =
    let rest1 = and-right (a.source == b.source) _ e in
    let rest2 = and-right (a.destination == b.destination) _ rest1 in
    let rest3 = and-right (a.source_port == b.source_port) _ rest2 in
    let source = eqb-true a.source b.source (and-left _ _ e) in
    let destination = eqb-true a.destination b.destination (and-left _ _ rest1) in
    let source_port = eqb-true a.source_port b.source_port (and-left _ _ rest2) in
    let destination_port = eqb-true a.destination_port b.destination_port (and-left _ _ rest3) in
    let protocol = eqb-true a.protocol b.protocol (and-right (a.destination_port == b.destination_port) _ rest3) in
    λ i. record {
      source = source i;
      destination = destination i;
      source_port = source_port i;
      destination_port = destination_port i;
      protocol = protocol i;
    }
