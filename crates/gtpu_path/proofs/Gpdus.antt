-- G-PDUs written and read.
use Rattle.std.proofs.Common.{◌≡◌, ℕ, ◌+◌, ◌*◌, ◌/◌, ◌%◌, ◌^◌, ◌<◌, ◌≤◌, ◌==◌, not, false, nat_lt, List, [], ◌∷◌, ◌++◌, length, Ok, refl, sym, ap, ◌∙◌, arith}
use Rattle.byteorder.specs.Endian.{big_number}
use Rattle.byteorder.specs.Numbers.{big_number-reads_back}
use Rattle.gtpu_path.specs.Octets.{AreOctets, octet_at, in_two, in_four}
use Rattle.gtpu_path.specs.declared.tunnel.GpduRefused.TheVariants.{Short}
use Rattle.gtpu_path.specs.Rules.{AreMet, rule}
use Rattle.gtpu_path.specs.Tunnel.{carried_in, gpdu_octets, gpdu_rules, length_in, teid_in, tunnel_in}
use Rattle.std.specs.Result.{result_unwrap_or}
use Rattle.std.proofs.Common.{Result}
use Rattle.gtpu_path.specs.declared.tunnel.GpduRefused.{GpduRefused}
use Rattle.gtpu_path.proofs.FirstBroken.{all_met, taken_exactly}

-- ---- written, then read

length_written : (teid : ℕ) (packet : List ℕ) → length packet ≤ 65535 → length_in (gpdu_octets teid packet) ≡ length packet
unfolding gpdu_octets
length_written teid packet few = big_number-reads_back 2 (length packet) (in_four teid ++ packet) (omega arith)

teid_written : (teid : ℕ) (packet : List ℕ) → teid < 2 ^ 32 → teid_in (gpdu_octets teid packet) ≡ teid
unfolding gpdu_octets
teid_written teid packet small = big_number-reads_back 4 teid packet small

pub carried_written : (teid : ℕ) (packet : List ℕ) → carried_in (gpdu_octets teid packet) ≡ packet
unfolding gpdu_octets
carried_written teid packet = refl

-- octets with these fields are read as their TEID
read_by_fields : (octets : List ℕ) → 8 ≤ length octets → octet_at 0 octets ≡ 0x30 → octet_at 1 octets ≡ 255
    → 8 + length_in octets ≡ length octets → tunnel_in octets ≡ Ok (teid_in octets)
unfolding tunnel_in
read_by_fields octets long flags kind counted = grind (arith, long, flags, kind, counted)

pub long_written : (teid : ℕ) (packet : List ℕ) → length (gpdu_octets teid packet) ≡ 8 + length packet
unfolding gpdu_octets
long_written teid packet = omega arith

flags_written : (teid : ℕ) (packet : List ℕ) → octet_at 0 (gpdu_octets teid packet) ≡ 0x30
unfolding gpdu_octets
flags_written teid packet = refl

kind_written : (teid : ℕ) (packet : List ℕ) → octet_at 1 (gpdu_octets teid packet) ≡ 255
unfolding gpdu_octets
kind_written teid packet = refl

pub written_reads : (teid : ℕ) (packet : List ℕ) → teid < 2 ^ 32 → length packet ≤ 65535
    → tunnel_in (gpdu_octets teid packet) ≡ Ok teid
written_reads teid packet small few =
    let long = long_written teid packet in
    let counted = length_written teid packet few in
    read_by_fields (gpdu_octets teid packet) (omega (arith, long)) (flags_written teid packet) (kind_written teid packet) (omega (arith, long, counted))
    ∙ ap Ok (teid_written teid packet small)

-- ---- read, then written

-- the octets of a number of two octets, and of four
two_again : (a b : ℕ) (rest : List ℕ) → a < 256 → b < 256 → in_two (big_number 2 (a ∷ b ∷ rest)) ≡ a ∷ b ∷ []
two_again a b rest la lb =
    let upper : (a * 256 + (b * 1 + 0)) / 256 % 256 ≡ a = omega (arith, la, lb) in
    let lower : (a * 256 + (b * 1 + 0)) % 256 ≡ b = omega (arith, la, lb) in
    rw (upper, lower) refl

four_again : (a b c d : ℕ) (rest : List ℕ) → a < 256 → b < 256 → c < 256 → d < 256
    → in_four (big_number 4 (a ∷ b ∷ c ∷ d ∷ rest)) ≡ a ∷ b ∷ c ∷ d ∷ []
four_again a b c d rest la lb lc ld =
    let first : (a * 16777216 + (b * 65536 + (c * 256 + (d * 1 + 0)))) / 16777216 % 256 ≡ a = omega (arith, la, lb, lc, ld) in
    let second : (a * 16777216 + (b * 65536 + (c * 256 + (d * 1 + 0)))) / 65536 % 256 ≡ b = omega (arith, la, lb, lc, ld) in
    let third : (a * 16777216 + (b * 65536 + (c * 256 + (d * 1 + 0)))) / 256 % 256 ≡ c = omega (arith, la, lb, lc, ld) in
    let fourth : (a * 16777216 + (b * 65536 + (c * 256 + (d * 1 + 0)))) % 256 ≡ d = omega (arith, la, lb, lc, ld) in
    rw (first, second, third, fourth) refl

-- what the rules of a G-PDU say
pub record HasFields (octets : List ℕ) : Type 0 where
  pub long : 8 ≤ length octets
  pub flags : octet_at 0 octets ≡ 0x30
  pub kind : octet_at 1 octets ≡ 255
  pub counted : 8 + length_in octets ≡ length octets

no_other : (a b : ℕ) → not (a == b) ≡ false → a ≡ b
no_other a b h = grind (arith, h)

fields_met : (octets : List ℕ) → AreMet (gpdu_rules octets) → HasFields octets
fields_met octets met =
    let short : nat_lt (length octets) 8 ≡ false = met 0 (rule false Short) (omega arith) in
    record {
      long = grind (arith, short);
      flags = no_other (octet_at 0 octets) 0x30 (met 1 (rule false Short) (omega arith));
      kind = no_other (octet_at 1 octets) 255 (met 2 (rule false Short) (omega arith));
      counted = no_other (8 + length_in octets) (length octets) (met 3 (rule false Short) (omega arith));
    }

again : (octets : List ℕ) → AreOctets octets → HasFields octets → octets ≡ gpdu_octets (teid_in octets) (carried_in octets)
unfolding gpdu_octets
again (o0 ∷ o1 ∷ o2 ∷ o3 ∷ o4 ∷ o5 ∷ o6 ∷ o7 ∷ packet) octets has =
    let flags : o0 ≡ 0x30 = has.flags in
    let kind : o1 ≡ 255 = has.kind in
    let told : big_number 2 (o2 ∷ o3 ∷ o4 ∷ o5 ∷ o6 ∷ o7 ∷ packet) ≡ length packet = let counted = has.counted in omega (arith, counted) in
    let two = two_again o2 o3 (o4 ∷ o5 ∷ o6 ∷ o7 ∷ packet) (octets 2) (octets 3) in
    let four = four_again o4 o5 o6 o7 packet (octets 4) (octets 5) (octets 6) (octets 7) in
    let length_octets : in_two (length packet) ≡ o2 ∷ o3 ∷ [] = ap in_two (sym told) ∙ two in
    let after : List ℕ = o4 ∷ o5 ∷ o6 ∷ o7 ∷ packet in
    ap (λ (octet : ℕ). octet ∷ o1 ∷ o2 ∷ o3 ∷ after) flags
    ∙ ap (λ (octet : ℕ). 0x30 ∷ octet ∷ o2 ∷ o3 ∷ after) kind
    ∙ ap (λ (two : List ℕ). 0x30 ∷ 255 ∷ (two ++ after)) (sym length_octets)
    ∙ ap (λ (four : List ℕ). 0x30 ∷ 255 ∷ (in_two (length packet) ++ (four ++ packet))) (sym four)
again [] octets has = let long = has.long in absurd (omega (arith, long))
again (o0 ∷ []) octets has = let long = has.long in absurd (omega (arith, long))
again (o0 ∷ o1 ∷ []) octets has = let long = has.long in absurd (omega (arith, long))
again (o0 ∷ o1 ∷ o2 ∷ []) octets has = let long = has.long in absurd (omega (arith, long))
again (o0 ∷ o1 ∷ o2 ∷ o3 ∷ []) octets has = let long = has.long in absurd (omega (arith, long))
again (o0 ∷ o1 ∷ o2 ∷ o3 ∷ o4 ∷ []) octets has = let long = has.long in absurd (omega (arith, long))
again (o0 ∷ o1 ∷ o2 ∷ o3 ∷ o4 ∷ o5 ∷ []) octets has = let long = has.long in absurd (omega (arith, long))
again (o0 ∷ o1 ∷ o2 ∷ o3 ∷ o4 ∷ o5 ∷ o6 ∷ []) octets has = let long = has.long in absurd (omega (arith, long))

-- octets that meet the rules are the G-PDU of what they tell and carry
pub met_again : (octets : List ℕ) → AreOctets octets → AreMet (gpdu_rules octets)
    → octets ≡ gpdu_octets (teid_in octets) (carried_in octets)
met_again octets are met = again octets are (fields_met octets met)

pub met_long : (octets : List ℕ) → AreMet (gpdu_rules octets) → 8 ≤ length octets
met_long octets met = (fields_met octets met).long

-- a length of two octets is at most 65,535
pub carries_few : (octets : List ℕ) → AreOctets octets → AreMet (gpdu_rules octets) → length (carried_in octets) ≤ 65535
carries_few octets are met = few octets are (fields_met octets met)
  where
    few : (octets : List ℕ) → AreOctets octets → HasFields octets → length (carried_in octets) ≤ 65535
    few octets are has =
        let a = are 2 in
        let b = are 3 in
        let counted = has.counted in
        let long = has.long in
        grind (arith, a, b, counted, long)

-- octets that are read are the G-PDU of their TEID and packet
pub read_again : (teid : ℕ) (octets : List ℕ) → AreOctets octets → tunnel_in octets ≡ Ok teid
    → octets ≡ gpdu_octets teid (carried_in octets)
unfolding tunnel_in
read_again teid octets are h =
    let met = (taken_exactly (gpdu_rules octets) (teid_in octets)).0 (rw h refl) in
    let same = same_teid (tunnel_in octets) (teid_in octets) teid (rw (all_met (gpdu_rules octets) met) refl) h in
    met_again octets are met ∙ ap (λ (t : ℕ). gpdu_octets t (carried_in octets)) same
  where
    same_teid : (r : Result ℕ GpduRefused) (a b : ℕ) → r ≡ Ok a → r ≡ Ok b → a ≡ b
    same_teid r a b is_a is_b = ap (λ (r : Result ℕ GpduRefused). result_unwrap_or r 0) (sym is_a ∙ is_b)
