-- Four choices in an octet.
use Rattle.std.proofs.Common.{◌≡◌, ℕ, ◌+◌, ◌*◌, ◌/◌, ◌%◌, ◌^◌, ◌<◌, List, length, get_or, refl, sym, ◌∙◌, arith}
use Rattle.std.proofs.lemmas.List.FromFn.{length-map-range_with_len, get_or-map-range_with_len, fill_by_all}
use Rattle.block_layout.specs.Limits.{bucket_count}
use Rattle.block_layout.specs.Choices.{choice_at, choices_in, octet_at, choice_octets, AreOctets}

pub length-choices_in : (bytes : List ℕ) → length (choices_in bytes) ≡ bucket_count
unfolding choices_in
length-choices_in bytes = length-map-range_with_len (choice_at bytes) 0 bucket_count

pub choice_is : (bytes : List ℕ) (bucket : ℕ) → bucket < bucket_count → get_or (choices_in bytes) bucket 0 ≡ choice_at bytes bucket
unfolding choices_in
choice_is bytes bucket h = get_or-map-range_with_len (choice_at bytes) 0 bucket_count bucket bucket 0 h (omega arith)

-- the choice of a bucket whose place in its octet is known
choice_in_octet : (bytes : List ℕ) (bucket k i : ℕ) → k < 64 → i < 4 → bucket ≡ 4 * k + i → get_or (choices_in bytes) bucket 0 ≡ get_or bytes k 0 / 2 ^ (2 * i) % 4
choice_in_octet bytes bucket k i hk hi e =
    let octet : bucket / 4 ≡ k = omega arith in
    let place : bucket % 4 ≡ i = omega arith in
    choice_is bytes bucket (omega arith) ∙ rw (octet, place) refl

quarters : (octet a b c d : ℕ) → octet < 256 → a ≡ octet / 1 % 4 → b ≡ octet / 4 % 4 → c ≡ octet / 16 % 4 → d ≡ octet / 64 % 4 → octet ≡ a + 4 * b + 16 * c + 64 * d
quarters octet a b c d h ha hb hc hd = omega arith

pub octets_back : (bytes : List ℕ) → AreOctets bytes → choice_octets (choices_in bytes) ≡ bytes
unfolding choice_octets
octets_back bytes are =
    sym (fill_by_all (octet_at (choices_in bytes)) bytes 64 0 are.all (λ k h.
    quarters (get_or bytes k 0) _ _ _ _ (are.fit k 0 (omega arith))
    (choice_in_octet bytes (4 * k) k 0 h (omega arith) (omega arith))
    (choice_in_octet bytes (4 * k + 1) k 1 h (omega arith) (omega arith))
    (choice_in_octet bytes (4 * k + 2) k 2 h (omega arith) (omega arith))
    (choice_in_octet bytes (4 * k + 3) k 3 h (omega arith) (omega arith))))
