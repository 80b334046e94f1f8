-- The octets of a key, field by field.
use Rattle.std.proofs.Common.{◌≡◌, ℕ, ◌^◌, ◌<◌, List, [], ◌∷◌, length, get_or, ap, ◌∙◌, sym, arith, w16, w32}
use Rattle.std.specs.Int.{byte_at, from_be_bytes}
use Rattle.std.proofs.lemmas.Slice.Eq.{text_from_reads}
use Rattle.flow_types.specs.declared.key.FlowKey.{FlowKey}
use Rattle.flow_types.specs.Key.{IsKeyValue, number, octets}

source_3 : (k : FlowKey) → IsKeyValue k → byte_at 12 (number k) ≡ byte_at 3 k.source
source_3 k h = omega arith

source_2 : (k : FlowKey) → IsKeyValue k → byte_at 11 (number k) ≡ byte_at 2 k.source
source_2 k h = omega arith

source_1 : (k : FlowKey) → IsKeyValue k → byte_at 10 (number k) ≡ byte_at 1 k.source
source_1 k h = omega arith

source_0 : (k : FlowKey) → IsKeyValue k → byte_at 9 (number k) ≡ byte_at 0 k.source
source_0 k h = omega arith

destination_3 : (k : FlowKey) → IsKeyValue k → byte_at 8 (number k) ≡ byte_at 3 k.destination
destination_3 k h = omega arith

destination_2 : (k : FlowKey) → IsKeyValue k → byte_at 7 (number k) ≡ byte_at 2 k.destination
destination_2 k h = omega arith

destination_1 : (k : FlowKey) → IsKeyValue k → byte_at 6 (number k) ≡ byte_at 1 k.destination
destination_1 k h = omega arith

destination_0 : (k : FlowKey) → IsKeyValue k → byte_at 5 (number k) ≡ byte_at 0 k.destination
destination_0 k h = omega arith

source_port_1 : (k : FlowKey) → IsKeyValue k → byte_at 4 (number k) ≡ byte_at 1 k.source_port
source_port_1 k h = omega arith

source_port_0 : (k : FlowKey) → IsKeyValue k → byte_at 3 (number k) ≡ byte_at 0 k.source_port
source_port_0 k h = omega arith

destination_port_1 : (k : FlowKey) → IsKeyValue k → byte_at 2 (number k) ≡ byte_at 1 k.destination_port
destination_port_1 k h = omega arith

destination_port_0 : (k : FlowKey) → IsKeyValue k → byte_at 1 (number k) ≡ byte_at 0 k.destination_port
destination_port_0 k h = omega arith

last : (k : FlowKey) → IsKeyValue k → byte_at 0 (number k) ≡ k.protocol
last k h = omega arith

abbrev pub field_octets : FlowKey → List ℕ
field_octets k =
    byte_at 3 k.source ∷ byte_at 2 k.source ∷ byte_at 1 k.source ∷ byte_at 0 k.source ∷ byte_at 3 k.destination ∷ byte_at 2 k.destination ∷ byte_at 1 k.destination ∷ byte_at 0 k.destination ∷ byte_at 1 k.source_port ∷ byte_at 0 k.source_port ∷ byte_at 1 k.destination_port ∷ byte_at 0 k.destination_port ∷ k.protocol ∷ []

pub octets_are : (k : FlowKey) → IsKeyValue k → octets k ≡ field_octets k
unfolding octets
octets_are k h = cc (source_3 k h, source_2 k h, source_1 k h, source_0 k h, destination_3 k h, destination_2 k h, destination_1 k h, destination_0 k h, source_port_1 k h, source_port_0 k h, destination_port_1 k h, destination_port_0 k h, last k h)

-- the key that these octets make
pub record IsMadeOf (k : FlowKey) (bs : List ℕ) : Type 0 where
  pub source : k.source ≡ from_be_bytes w32 (get_or bs 0 0 ∷ get_or bs 1 0 ∷ get_or bs 2 0 ∷ get_or bs 3 0 ∷ [])
  pub destination : k.destination ≡ from_be_bytes w32 (get_or bs 4 0 ∷ get_or bs 5 0 ∷ get_or bs 6 0 ∷ get_or bs 7 0 ∷ [])
  pub source_port : k.source_port ≡ from_be_bytes w16 (get_or bs 8 0 ∷ get_or bs 9 0 ∷ [])
  pub destination_port : k.destination_port ≡ from_be_bytes w16 (get_or bs 10 0 ∷ get_or bs 11 0 ∷ [])
  pub protocol : k.protocol ≡ get_or bs 12 0

pub octets_back : (k : FlowKey) (bs : List ℕ) → IsMadeOf k bs → length bs ≡ 13 → ((i : ℕ) → get_or bs i 0 < 256) → octets k ≡ bs
octets_back k bs made len fits =
    octets_are k (record {
      source = omega (arith, fits 0, fits 1, fits 2, fits 3);
      destination = omega (arith, fits 4, fits 5, fits 6, fits 7);
      source_port = omega (arith, fits 8, fits 9);
      destination_port = omega (arith, fits 10, fits 11);
      protocol = omega (arith, fits 12);
    })
    ∙ sym (text_from_reads bs (field_octets k) len (
      omega (arith, fits 0, fits 1, fits 2, fits 3),
      (
        omega (arith, fits 0, fits 1, fits 2, fits 3),
        (
          omega (arith, fits 0, fits 1, fits 2, fits 3),
          (
            omega (arith, fits 0, fits 1, fits 2, fits 3),
            (
              omega (arith, fits 4, fits 5, fits 6, fits 7),
              (
                omega (arith, fits 4, fits 5, fits 6, fits 7),
                (
                  omega (arith, fits 4, fits 5, fits 6, fits 7),
                  (
                    omega (arith, fits 4, fits 5, fits 6, fits 7),
                    (
                      omega (arith, fits 8, fits 9),
                      (
                        omega (arith, fits 8, fits 9),
                        (
                          omega (arith, fits 10, fits 11),
                          (
                            omega (arith, fits 10, fits 11),
                            (omega arith, tt),
                          ),
                        ),
                      ),
                    ),
                  ),
                ),
              ),
            ),
          ),
        ),
      ),
    ))

same_long : (x y : ℕ) → x < 2 ^ 32 → y < 2 ^ 32 → byte_at 3 x ≡ byte_at 3 y → byte_at 2 x ≡ byte_at 2 y → byte_at 1 x ≡ byte_at 1 y → byte_at 0 x ≡ byte_at 0 y → x ≡ y
same_long x y hx hy b3 b2 b1 b0 = omega arith

same_short : (x y : ℕ) → x < 2 ^ 16 → y < 2 ^ 16 → byte_at 1 x ≡ byte_at 1 y → byte_at 0 x ≡ byte_at 0 y → x ≡ y
same_short x y hx hy b1 b0 = omega arith

made_of : ℕ → ℕ → ℕ → ℕ → ℕ → FlowKey
made_of s d sp dp p = record { source = s; destination = d; source_port = sp; destination_port = dp; protocol = p }

same_makes : (s s' d d' sp sp' dp dp' p p' : ℕ) → s ≡ s' → d ≡ d' → sp ≡ sp' → dp ≡ dp' → p ≡ p' → made_of s d sp dp p ≡ made_of s' d' sp' dp' p'
same_makes s s' d d' sp sp' dp dp' p p' hs hd hsp hdp hp = cc

same_fields : (k l : FlowKey) → k.source ≡ l.source → k.destination ≡ l.destination → k.source_port ≡ l.source_port → k.destination_port ≡ l.destination_port → k.protocol ≡ l.protocol → k ≡ l
unfolding made_of
same_fields k l s d sp dp p = same_makes _ _ _ _ _ _ _ _ _ _ s d sp dp p

pub same_octets : (k l : FlowKey) → IsKeyValue k → IsKeyValue l → octets k ≡ octets l → k ≡ l
same_octets k l hk hl e =
    let same : field_octets k ≡ field_octets l = sym (octets_are k hk) ∙ e ∙ octets_are l hl in
    let source = same_long k.source l.source hk.source hl.source (ap (λ bs. get_or bs 0 0) same) (ap (λ bs. get_or bs 1 0) same) (ap (λ bs. get_or bs 2 0) same) (ap (λ bs. get_or bs 3 0) same) in
    let destination = same_long k.destination l.destination hk.destination hl.destination (ap (λ bs. get_or bs 4 0) same) (ap (λ bs. get_or bs 5 0) same) (ap (λ bs. get_or bs 6 0) same) (ap (λ bs. get_or bs 7 0) same) in
    let source_port = same_short k.source_port l.source_port hk.source_port hl.source_port (ap (λ bs. get_or bs 8 0) same) (ap (λ bs. get_or bs 9 0) same) in
    let destination_port = same_short k.destination_port l.destination_port hk.destination_port hl.destination_port (ap (λ bs. get_or bs 10 0) same) (ap (λ bs. get_or bs 11 0) same) in
    let protocol = ap (λ bs. get_or bs 12 0) same in
    same_fields k l source destination source_port destination_port protocol
