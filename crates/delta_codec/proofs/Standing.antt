-- Octets that stand at a place, one part after another.
use Rattle.std.proofs.Common.{◌≡◌, ℕ, ◌+◌, ◌^◌, ◌<◌, ◌≤◌, List, [], ◌∷◌, ◌++◌, length, get_or, take, drop, refl, sym, ap, ◌∙◌, append_assoc, arith, length-append, length-take, length-drop, w16, w32, inl, inr}
use Rattle.std.specs.Int.{from_be_bytes}
use Rattle.std.proofs.lemmas.Bool.{cases_lt}
use Rattle.std.proofs.lemmas.List.{take-append-drop, drop-drop, drop_at, take_at, get_or-drop, get_or-take, get_or_past}
use Rattle.std.proofs.lemmas.Nat.{be_bytes_2, be_bytes_4, from_be_bytes-to_be_bytes_2}
use Rattle.flow_types.specs.declared.key.FlowKey.{FlowKey}
use Rattle.flow_types.specs.Key.{number, octets, IsKeyValue}
use Rattle.delta_codec.specs.Spelling.{Stand, two_octets, octets_of_word}
use Rattle.delta_codec.specs.Fields.{byte_at, two_at, key_number_at, number_of}
use Rattle.delta_codec.proofs.Keys.{octets-long, octets-number}

abbrev pub AreOctets : List ℕ → Type 0
AreOctets bytes = (i : ℕ) → get_or bytes i 0 < 256

pub AreOctets-drop : (n : ℕ) (bytes : List ℕ) → AreOctets bytes → AreOctets (drop n bytes)
AreOctets-drop n bytes h i = rw get_or-drop (h (n + i))

pub AreOctets-take : (n : ℕ) (bytes : List ℕ) → AreOctets bytes → AreOctets (take n bytes)
AreOctets-take n bytes h i =
    elim (cases_lt i n) [
      | inl lt ↦ rw (get_or-take n bytes i 0 lt) (h i)
      | inr le ↦ rw (get_or_past (take n bytes) i 0 (omega (arith, length-take n bytes))) (omega arith)
    ]

-- what stands at a place, and what follows
pub Stand-split : (bytes : List ℕ) (at : ℕ) (x : List ℕ) → Stand bytes at x → drop at bytes ≡ x ++ drop (at + length x) bytes
Stand-split bytes at x h =
    sym (take-append-drop (length x) (drop at bytes)) ∙ ap (λ (t : List ℕ). t ++ drop (length x) (drop at bytes)) h.same ∙ ap (λ (t : List ℕ). x ++ t) (drop-drop (length x) at bytes)

pub Stand-joined : (bytes : List ℕ) (at : ℕ) (x rest : List ℕ) → at ≤ length bytes → drop at bytes ≡ x ++ rest → Stand bytes at x
Stand-joined bytes at x rest le e = record {
  there = omega (arith, ap length e, length-drop at bytes, length-append x rest);
  same = ap (λ (t : List ℕ). take (length x) t) e ∙ take_at x rest (length x) refl;
}

pub Stand-append : (bytes : List ℕ) (at next : ℕ) (x y : List ℕ) → next ≡ at + length x → Stand bytes at x → Stand bytes next y → Stand bytes at (x ++ y)
Stand-append bytes at next x y next-is hx hy =
    let there = hx.there in
    let after : drop (at + length x) bytes ≡ y ++ drop (next + length y) bytes = ap (λ (n : ℕ). drop n bytes) (sym next-is) ∙ Stand-split bytes next y hy in
    Stand-joined bytes at (x ++ y) (drop (next + length y) bytes) (omega arith)
    (Stand-split bytes at x hx ∙ ap (λ (t : List ℕ). x ++ t) after ∙ sym (append_assoc x y (drop (next + length y) bytes)))

pub taken_stands : (bytes taken : List ℕ) (at count : ℕ) → taken ≡ take count (drop at bytes) → at + count ≤ length bytes → Stand bytes at taken
taken_stands bytes taken at count e le =
    let long : length taken ≡ count = omega (arith, ap length e, length-take count (drop at bytes), length-drop at bytes) in
    record { there = omega arith; same = ap (λ (n : ℕ). take n (drop at bytes)) long ∙ sym e }

pub two_stand : (bytes taken : List ℕ) (at n : ℕ) → AreOctets bytes → taken ≡ take 2 (drop at bytes) → at + 2 ≤ length bytes → n ≡ from_be_bytes w16 taken → Stand bytes at (two_octets n)
two_stand bytes taken at n fits e le n-is =
    let long : length taken ≡ 2 = omega (arith, ap length e, length-take 2 (drop at bytes), length-drop at bytes) in
    let octets : AreOctets taken = rw e (AreOctets-take 2 (drop at bytes) (AreOctets-drop at bytes fits)) in
    taken_stands bytes (two_octets n) at 2 (be_bytes_2 taken n long octets n-is ∙ e) le

pub four_stand : (bytes taken : List ℕ) (at n : ℕ) → AreOctets bytes → taken ≡ take 4 (drop at bytes) → at + 4 ≤ length bytes → n ≡ from_be_bytes w32 taken → Stand bytes at (octets_of_word n)
four_stand bytes taken at n fits e le n-is =
    let long : length taken ≡ 4 = omega (arith, ap length e, length-take 4 (drop at bytes), length-drop at bytes) in
    let octets : AreOctets taken = rw e (AreOctets-take 4 (drop at bytes) (AreOctets-drop at bytes fits)) in
    taken_stands bytes (octets_of_word n) at 4 (be_bytes_4 taken n long octets n-is ∙ e) le

-- ---- parts of what stands at a place

pub Stand-first : (bytes : List ℕ) (at : ℕ) (x y : List ℕ) → Stand bytes at (x ++ y) → Stand bytes at x
Stand-first bytes at x y h =
    let there = h.there in
    Stand-joined bytes at x (y ++ drop (at + length (x ++ y)) bytes) (omega arith)
    (Stand-split bytes at (x ++ y) h ∙ append_assoc x y (drop (at + length (x ++ y)) bytes))

pub Stand-second : (bytes : List ℕ) (at next : ℕ) (x y : List ℕ) → next ≡ at + length x → Stand bytes at (x ++ y) → Stand bytes next y
Stand-second bytes at next x y next-is h =
    let there = h.there in
    let after : drop next bytes ≡ y ++ drop (at + length (x ++ y)) bytes =
    ap (λ (n : ℕ). drop n bytes) next-is ∙ sym (drop-drop (length x) at bytes)
    ∙ ap (drop (length x)) (Stand-split bytes at (x ++ y) h ∙ append_assoc x y (drop (at + length (x ++ y)) bytes))
    ∙ drop_at x (y ++ drop (at + length (x ++ y)) bytes) (length x) refl in
    Stand-joined bytes next y (drop (at + length (x ++ y)) bytes) (omega (arith, length-append x y)) after

-- ---- what is read where octets stand

pub octet_read : (bytes : List ℕ) (at octet : ℕ) → Stand bytes at (octet ∷ []) → byte_at bytes at ≡ octet
octet_read bytes at octet h =
    let same : at + 0 ≡ at = omega arith in
    ap (λ (n : ℕ). get_or bytes n 0) (sym same) ∙ sym (get_or-drop at bytes 0 0) ∙ sym (get_or-take 1 (drop at bytes) 0 0 (omega arith)) ∙ ap (λ (t : List ℕ). get_or t 0 0) h.same

pub two_read : (bytes : List ℕ) (at n : ℕ) → n < 2 ^ 16 → Stand bytes at (two_octets n) → two_at bytes at ≡ n
two_read bytes at n low h = ap (from_be_bytes w16) h.same ∙ from_be_bytes-to_be_bytes_2 n low

pub key_read : (bytes : List ℕ) (at : ℕ) (key : FlowKey) → IsKeyValue key → Stand bytes at (octets key) → key_number_at bytes at ≡ number key
key_read bytes at key sized h =
    ap number_of (ap (λ (n : ℕ). take n (drop at bytes)) (sym (octets-long key)) ∙ h.same) ∙ octets-number key sized
