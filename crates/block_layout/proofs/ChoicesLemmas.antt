-- The choices of octets that are all zeros, and of octets of which one is written.
use Rattle.std.proofs.Common.{◌≡◌, ◌≢◌, ◌⊎◌, ℕ, zero, suc, ◌+◌, ◌-◌, ◌*◌, ◌/◌, ◌%◌, ◌^◌, ◌<◌, List, length, get_or, set, replicate, refl, sym, ap, ◌∙◌, subst, arith, inl, inr, lit<}
use Rattle.std.proofs.Math.Nat.{zero-div}
use Rattle.std.proofs.lemmas.Bool.{cases_order}
use Rattle.std.proofs.lemmas.Grind.{same_number_lists}
use Rattle.std.proofs.lemmas.List.{get_or-replicate, get_or-set_same, get_or-set_other, length-set}
use Rattle.block_layout.specs.Choices.{choice_at, choices_in, AreOctets, none_chosen, Replaces}
use Rattle.block_layout.specs.Packing.{length-choices_in, choice_is}

zero_fits : (n k d : ℕ) → k < n → get_or (replicate n 0) k d < 256
zero_fits n k d h = rw (get_or-replicate n k 0 d h) (lit< tt)

pub zeros_are_octets : AreOctets (replicate 64 0)
zeros_are_octets = record { all = refl; fit = zero_fits 64 }

no_part : (weight : ℕ) → 0 / weight % 4 ≡ 0
no_part weight = ap (λ n. n % 4) (zero-div weight)

zero_chosen : (n bucket : ℕ) → bucket < 256 → bucket / 4 < n → get_or (choices_in (replicate n 0)) bucket 0 ≡ 0
zero_chosen n bucket h within =
    choice_is (replicate n 0) bucket h ∙ rw (get_or-replicate {A = ℕ} n (bucket / 4) 0 0 within) (no_part (2 ^ (2 * (bucket % 4))))

pub zeros_are_none : choices_in (replicate 64 0) ≡ none_chosen
unfolding none_chosen
zeros_are_none =
    same_number_lists (choices_in (replicate 64 0)) (replicate 256 0) (length-choices_in (replicate 64 0)) (λ k h.
    let within : k < 256 = omega (arith, h, length-choices_in (replicate 64 0)) in
    zero_chosen 64 k within (omega arith) ∙ sym (get_or-replicate 256 k 0 0 within))

-- an octet with the choice at a place replaced
abbrev pub replaced : ℕ → ℕ → ℕ → ℕ
replaced octet place choice = octet - octet / 2 ^ (2 * place) % 4 * 2 ^ (2 * place) % 256 + choice * 2 ^ (2 * place) % 256

pub replaced_fits : (octet place choice : ℕ) → octet < 256 → place < 4 → choice < 4 → replaced octet place choice < 256
replaced_fits octet zero choice ho hp hc = omega arith
replaced_fits octet (suc zero) choice ho hp hc = omega arith
replaced_fits octet (suc (suc zero)) choice ho hp hc = omega arith
replaced_fits octet (suc (suc (suc zero))) choice ho hp hc = omega arith
replaced_fits octet (suc (suc (suc (suc more)))) choice ho hp hc = absurd (omega arith)

replaced_here : (octet place choice : ℕ) → octet < 256 → place < 4 → choice < 4 → replaced octet place choice / 2 ^ (2 * place) % 4 ≡ choice
replaced_here octet zero choice ho hp hc = omega arith
replaced_here octet (suc zero) choice ho hp hc = omega arith
replaced_here octet (suc (suc zero)) choice ho hp hc = omega arith
replaced_here octet (suc (suc (suc zero))) choice ho hp hc = omega arith
replaced_here octet (suc (suc (suc (suc more)))) choice ho hp hc = absurd (omega arith)

not_elsewhere : (octet choice : ℕ) → octet < 256 → choice < 4 → (place other : ℕ) → place < 4 → other < 4 → other ≢ place → replaced octet place choice / 2 ^ (2 * other) % 4 ≡ octet / 2 ^ (2 * other) % 4
not_elsewhere octet choice ho hc zero zero hp hq ne = absurd (ne refl)
not_elsewhere octet choice ho hc zero (suc zero) hp hq ne = omega arith
not_elsewhere octet choice ho hc zero (suc (suc zero)) hp hq ne = omega arith
not_elsewhere octet choice ho hc zero (suc (suc (suc zero))) hp hq ne = omega arith
not_elsewhere octet choice ho hc zero (suc (suc (suc (suc more)))) hp hq ne = absurd (omega arith)
not_elsewhere octet choice ho hc (suc zero) zero hp hq ne = omega arith
not_elsewhere octet choice ho hc (suc zero) (suc zero) hp hq ne = absurd (ne refl)
not_elsewhere octet choice ho hc (suc zero) (suc (suc zero)) hp hq ne = omega arith
not_elsewhere octet choice ho hc (suc zero) (suc (suc (suc zero))) hp hq ne = omega arith
not_elsewhere octet choice ho hc (suc zero) (suc (suc (suc (suc more)))) hp hq ne = absurd (omega arith)
not_elsewhere octet choice ho hc (suc (suc zero)) zero hp hq ne = omega arith
not_elsewhere octet choice ho hc (suc (suc zero)) (suc zero) hp hq ne = omega arith
not_elsewhere octet choice ho hc (suc (suc zero)) (suc (suc zero)) hp hq ne = absurd (ne refl)
not_elsewhere octet choice ho hc (suc (suc zero)) (suc (suc (suc zero))) hp hq ne = omega arith
not_elsewhere octet choice ho hc (suc (suc zero)) (suc (suc (suc (suc more)))) hp hq ne = absurd (omega arith)
not_elsewhere octet choice ho hc (suc (suc (suc zero))) zero hp hq ne = omega arith
not_elsewhere octet choice ho hc (suc (suc (suc zero))) (suc zero) hp hq ne = omega arith
not_elsewhere octet choice ho hc (suc (suc (suc zero))) (suc (suc zero)) hp hq ne = omega arith
not_elsewhere octet choice ho hc (suc (suc (suc zero))) (suc (suc (suc zero))) hp hq ne = absurd (ne refl)
not_elsewhere octet choice ho hc (suc (suc (suc zero))) (suc (suc (suc (suc more)))) hp hq ne = absurd (omega arith)
not_elsewhere octet choice ho hc (suc (suc (suc (suc more)))) other hp hq ne = absurd (omega arith)

pub is_replaced : (octet place choice : ℕ) → octet < 256 → place < 4 → choice < 4 → Replaces octet (replaced octet place choice) place choice
is_replaced octet place choice ho hp hc = record {
  fits = replaced_fits octet place choice ho hp hc;
  chosen = replaced_here octet place choice ho hp hc;
  others = λ other hq ne. not_elsewhere octet choice ho hc place other hp hq ne;
}

-- one bucket's choice after another's is replaced
after_set : (bytes : List ℕ) (bucket octet choice k : ℕ) → length bytes ≡ 64 → bucket < 256 → k < 256 → Replaces (get_or bytes (bucket / 4) 0) octet (bucket % 4) choice → choice_at (set bytes (bucket / 4) octet) k ≡ get_or (set (choices_in bytes) bucket choice) k 0
after_set bytes bucket octet choice k len hb hk by = go (cases_order (k / 4) (bucket / 4)) (cases_order (k % 4) (bucket % 4)) where
  within : bucket / 4 < length bytes
  within = omega arith

  unchanged : k ≢ bucket → get_or (set (choices_in bytes) bucket choice) k 0 ≡ choice_at bytes k
  unchanged ne = get_or-set_other (choices_in bytes) bucket k choice 0 ne ∙ choice_is bytes k hk

  elsewhere : k / 4 ≢ bucket / 4 → choice_at (set bytes (bucket / 4) octet) k ≡ get_or (set (choices_in bytes) bucket choice) k 0
  elsewhere ne = rw (get_or-set_other bytes (bucket / 4) (k / 4) octet 0 ne) (sym (unchanged (λ e. ne (ap (λ n. n / 4) e))))

  beside : k / 4 ≡ bucket / 4 → k % 4 ≢ bucket % 4 → choice_at (set bytes (bucket / 4) octet) k ≡ get_or (set (choices_in bytes) bucket choice) k 0
  beside e ne =
      let written : choice_at (set bytes (bucket / 4) octet) k ≡ octet / 2 ^ (2 * (k % 4)) % 4 =
      rw (e, get_or-set_same bytes (bucket / 4) octet 0 within) refl in
      let kept : octet / 2 ^ (2 * (k % 4)) % 4 ≡ choice_at bytes k = rw e (by.others (k % 4) (omega arith) ne) in
      written ∙ kept ∙ sym (unchanged (λ same. ne (ap (λ n. n % 4) same)))

  chosen : choice_at (set bytes (bucket / 4) octet) bucket ≡ get_or (set (choices_in bytes) bucket choice) bucket 0
  chosen =
      let place : bucket < length (choices_in bytes) = omega (arith, length-choices_in bytes) in
      rw (get_or-set_same bytes (bucket / 4) octet 0 within, get_or-set_same (choices_in bytes) bucket choice 0 place) by.chosen

  here : k / 4 ≡ bucket / 4 → k % 4 ≡ bucket % 4 → choice_at (set bytes (bucket / 4) octet) k ≡ get_or (set (choices_in bytes) bucket choice) k 0
  here e f =
      let same : bucket ≡ k = omega arith in
      let P : ℕ → Type 0 = λ j. choice_at (set bytes (bucket / 4) octet) j ≡ get_or (set (choices_in bytes) bucket choice) j 0 in
      subst P same chosen

  go : (k / 4 ≡ bucket / 4) ⊎ ((k / 4 < bucket / 4) ⊎ (bucket / 4 < k / 4)) → (k % 4 ≡ bucket % 4) ⊎ ((k % 4 < bucket % 4) ⊎ (bucket % 4 < k % 4)) → choice_at (set bytes (bucket / 4) octet) k ≡ get_or (set (choices_in bytes) bucket choice) k 0
  go (inl e) (inl f) = here e f
  go (inl e) (inr (inl f)) = beside e (λ same. omega arith)
  go (inl e) (inr (inr f)) = beside e (λ same. omega arith)
  go (inr (inl e)) f = elsewhere (λ same. omega arith)
  go (inr (inr e)) f = elsewhere (λ same. omega arith)

pub set_choice : (bytes : List ℕ) (bucket octet choice : ℕ) → AreOctets bytes → bucket < 256 → Replaces (get_or bytes (bucket / 4) 0) octet (bucket % 4) choice → choices_in (set bytes (bucket / 4) octet) ≡ set (choices_in bytes) bucket choice
set_choice bytes bucket octet choice are hb by =
    let len : length (choices_in (set bytes (bucket / 4) octet)) ≡ 256 = length-choices_in _ in
    same_number_lists _ _ (len ∙ sym (length-set (choices_in bytes) bucket choice ∙ length-choices_in bytes)) (λ k h.
    let within : k < 256 = omega arith in
    choice_is (set bytes (bucket / 4) octet) k within ∙ after_set bytes bucket octet choice k are.all hb within by)
