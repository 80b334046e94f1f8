-- What two words keep of a row.
use Rattle.std.proofs.Common.{◌≡◌, ◌↔◌, ℕ, ◌+◌, ◌*◌, ◌/◌, ◌%◌, ◌^◌, ◌<◌, List, [], ◌∷◌, length, get_or, Option, Some, None, IsNone, sym, ◌∙◌, ap, refl, arith, subst}
use Rattle.std.proofs.lemmas.Option.{none-some}
use Rattle.flow_types.specs.declared.key.FlowKey.{FlowKey}
use Rattle.flow_types.specs.Key.{number, key_of}
use Rattle.group_search.specs.declared.rows.Row.{Row}
use Rattle.group_search.specs.Rows.{key_number}
use Rattle.group_search.specs.RowWords.{IsKey, SpellsOneRow, SpellsRow, row_words}

key_back : (k : FlowKey) → IsKey k → key_of (number k) ≡ k
key_back k h =
    let source : number k / 2 ^ 72 ≡ k.source = omega (arith, h.source, h.destination, h.source_port, h.destination_port, h.protocol) in
    let destination : number k / 2 ^ 40 % 2 ^ 32 ≡ k.destination = omega (arith, h.source, h.destination, h.source_port, h.destination_port, h.protocol) in
    let source_port : number k / 2 ^ 24 % 2 ^ 16 ≡ k.source_port = omega (arith, h.source, h.destination, h.source_port, h.destination_port, h.protocol) in
    let destination_port : number k / 2 ^ 8 % 2 ^ 16 ≡ k.destination_port = omega (arith, h.source, h.destination, h.source_port, h.destination_port, h.protocol) in
    let protocol : number k % 2 ^ 8 ≡ k.protocol = omega (arith, h.source, h.destination, h.source_port, h.destination_port, h.protocol) in
    λ i. record { source = source i; destination = destination i; source_port = source_port i; destination_port = destination_port i; protocol = protocol i }

number_below : (k : FlowKey) → IsKey k → number k < 2 ^ 104
number_below k h = omega (arith, h.source, h.destination, h.source_port, h.destination_port, h.protocol)

pub is_key : (n : ℕ) → n < 2 ^ 104 → IsKey (key_of n)
is_key n less = record { source = omega arith; destination = omega arith; source_port = omega arith; destination_port = omega arith; protocol = omega arith }

-- the parts of the second word
high_parts : (n m g h a b : ℕ) → n < 2 ^ 104 → m < 2 ^ 104 → a < 2 ^ 8 → b < 2 ^ 8
    → n / 2 ^ 64 + a * 2 ^ 40 + (g + 1) * 2 ^ 48 ≡ m / 2 ^ 64 + b * 2 ^ 40 + (h + 1) * 2 ^ 48 → (n / 2 ^ 64 ≡ m / 2 ^ 64) × (a ≡ b) × (g ≡ h)
high_parts n m g h a b n_less m_less a_less b_less e = (omega arith, omega arith, omega arith)

same_number : (n m : ℕ) → n % 2 ^ 64 ≡ m % 2 ^ 64 → n / 2 ^ 64 ≡ m / 2 ^ 64 → n ≡ m
same_number n m low high = omega arith

pub spells_one_row : SpellsOneRow
spells_one_row g h row another words s t =
    let same : row_words row g ≡ row_words another h = sym s.spelled ∙ t.spelled in
    let low : key_number row % 2 ^ 64 ≡ key_number another % 2 ^ 64 = ap (λ (ws : List ℕ). get_or ws 0 0) same in
    let n_less = number_below row.key s.key in let m_less = number_below another.key t.key in
    let parts = high_parts (key_number row) (key_number another) g h row.node another.node n_less m_less s.node t.node (ap (λ (ws : List ℕ). get_or ws 1 0) same) in
    let numbers = same_number (key_number row) (key_number another) low parts.0 in
    let keys : row.key ≡ another.key = sym (key_back row.key s.key) ∙ (ap key_of numbers ∙ key_back another.key t.key) in
    (parts.2, λ i. record { key = keys i; node = parts.1 i })

-- one more than the group stands above 48 bits
above : (n a g second : ℕ) → n < 2 ^ 104 → a < 2 ^ 8 → second ≡ n / 2 ^ 64 + a * 2 ^ 40 + (g + 1) * 2 ^ 48 → second / 2 ^ 48 ≡ g + 1
above n a g second less node is = omega arith

pub group_above : (g : ℕ) (row : Row) (words : List ℕ) → SpellsRow g row words → (get_or words 1 0 / 2 ^ 48 ≡ g + 1) × (g < 64)
group_above g row words s = (above (key_number row) row.node g (get_or words 1 0) (number_below row.key s.key) s.node (ap (λ (ws : List ℕ). get_or ws 1 0) s.spelled), s.one_of_64)

-- no row has these words, so none was found
pub none_spelled : (words : List ℕ) → ((g : ℕ) → g < 64 → get_or words 1 0 / 2 ^ 48 ≡ g + 1 → ⊥) → (g : ℕ) (row : Row) → SpellsRow g row words → ⊥
none_spelled words none g row s = let t = group_above g row words s in none g t.1 t.0

pub not_found : (words : List ℕ) (answer : Option (ℕ × Row)) → answer ≡ None → ((g : ℕ) (row : Row) → SpellsRow g row words → ⊥) → (g : ℕ) (row : Row) → (answer ≡ Some (g, row)) ↔ SpellsRow g row words
not_found words answer is none g row = (λ e. absurd (none-some (g, row) (sym is ∙ e)), λ s. absurd (none g row s))

abbrev the : ℕ × Row → Option (ℕ × Row) → ℕ × Row
the d None = d
the d (Some x) = x

-- these are the row and the group that the words spell
pub found_row : (words : List ℕ) (h : ℕ) (it : Row) → SpellsRow h it words → (g : ℕ) (row : Row) (answer : Option (ℕ × Row)) → answer ≡ Some (h, it) → (answer ≡ Some (g, row)) ↔ SpellsRow g row words
found_row words h it s g row answer is = (
  λ e. let same = ap (the (h, it)) (sym is ∙ e) in subst (λ (x : ℕ × Row). SpellsRow x.0 x.1 words) same s,
  λ t. let same = spells_one_row h g it row words s t in is ∙ (λ i. Some (same.0 i, same.1 i)),
)

pub none_exactly : (words : List ℕ) (answer : Option (ℕ × Row)) → answer ≡ None → ((g : ℕ) (row : Row) → SpellsRow g row words → ⊥) → IsNone answer ↔ ((g : ℕ) (row : Row) → ¬ SpellsRow g row words)
none_exactly words answer is none = (λ _. none, λ _. subst IsNone (sym is) refl)

pub two_words : (ws : List ℕ) → length ws ≡ 2 → ws ≡ get_or ws 0 0 ∷ get_or ws 1 0 ∷ []
two_words [] two = absurd (omega arith)
two_words (a ∷ []) two = absurd (omega arith)
two_words (a ∷ b ∷ []) two = refl
two_words (a ∷ b ∷ c ∷ ws) two = absurd (omega arith)

-- the row that these words spell, where the group is one of 64
pub spells : (first second g : ℕ) (key : FlowKey) → first < 2 ^ 64 → second < 2 ^ 64 → second / 2 ^ 48 ≡ g + 1 → g < 64 → key ≡ key_of (first + second % 2 ^ 40 * 2 ^ 64) → number key ≡ first + second % 2 ^ 40 * 2 ^ 64
    → SpellsRow g (record { key = key; node = second / 2 ^ 40 % 2 ^ 8 }) (first ∷ second ∷ [])
spells first second g key first_less second_less above few is same =
    let low : number key % 2 ^ 64 ≡ first = rw same (omega arith) in
    let high : number key / 2 ^ 64 ≡ second % 2 ^ 40 = rw same (omega arith) in
    let second_is : second % 2 ^ 40 + second / 2 ^ 40 % 2 ^ 8 * 2 ^ 40 + (g + 1) * 2 ^ 48 ≡ second = omega arith in record {
      one_of_64 = few;
      key = subst IsKey (sym is) (is_key (first + second % 2 ^ 40 * 2 ^ 64) (omega arith));
      node = omega arith;
      spelled = λ i. sym low i ∷ (sym second_is ∙ ap (λ (n : ℕ). n + second / 2 ^ 40 % 2 ^ 8 * 2 ^ 40 + (g + 1) * 2 ^ 48) (sym high)) i ∷ [];
    }

-- a key that comes back from its number is one whose fields are in range
pub is_key_back : (k : FlowKey) → number k < 2 ^ 104 → key_of (number k) ≡ k → IsKey k
is_key_back k less back = subst IsKey back (is_key (number k) less)

-- the words of a row
pub spelled_words : (g : ℕ) (row : Row) (number_is low high : ℕ) → g < 64 → IsKey row.key → row.node < 2 ^ 8 → number_is ≡ key_number row
    → low ≡ number_is % 2 ^ 64 → high ≡ number_is / 2 ^ 64 + row.node * 2 ^ 40 + (g + 1) * 2 ^ 48 → SpellsRow g row (low ∷ high ∷ [])
spelled_words g row number_is low high few key node_less same low_is high_is = record {
  one_of_64 = few;
  key = key;
  node = node_less;
  spelled = λ i. (low_is ∙ ap (λ (n : ℕ). n % 2 ^ 64) same) i ∷ (high_is ∙ ap (λ (n : ℕ). n / 2 ^ 64 + row.node * 2 ^ 40 + (g + 1) * 2 ^ 48) same) i ∷ [];
}
