-- One reader of a row of them is asked.
use Rattle.std.proofs.Common.{◌≡◌, ◌≢◌, ◌∙◌, ◌<◌, ◌≤◌, ℕ, List, [], length, get_or, set, Option, Some, None, refl, sym, ap, subst, arith, ⊎_elim}
use Rattle.std.specs.List.{slice_get}
use Rattle.std.proofs.lemmas.Bool.{cases_eq, cases_lt}
use Rattle.std.proofs.lemmas.List.{get_or-map, get_or-set_other, get_or-set_same, length-set}
use Rattle.std.proofs.lemmas.Option.{same_Some, get_or_from_slice_get, slice_get-get_or, slice_get_cases, slice_get_past, slice_get_read, slice_get_within}
use Rattle.flow_types.specs.Size.{Size}
use Rattle.partial_fib.specs.Ends.{IsLater, ReaderState, shared_after}
use Rattle.flow_types.proofs.Prefixes.{prefix_self}
use Rattle.packet_path.specs.Fibs.{AreFibsOf, AsksOne, IsFibOf, fib_seen, no_fib, opening_at, turns_at}

pub set-here : {A : Type 0} (xs : List A) (i : ℕ) (x : A) → i < length xs → slice_get (set xs i x) i ≡ Some x
set-here xs i x low = slice_get-get_or (set xs i x) i x (omega (arith, low, length-set xs i x)) ∙ ap Some (get_or-set_same xs i x x low)

pub set-elsewhere : {A : Type 0} (xs : List A) (i j : ℕ) (x : A) → j ≢ i → slice_get (set xs i x) j ≡ slice_get xs j
set-elsewhere xs i j x apart =
    ⊎_elim
    (λ (low : j < length xs).
    slice_get-get_or (set xs i x) j x (omega (arith, low, length-set xs i x)) ∙ ap Some (get_or-set_other xs i j x x apart) ∙ sym (slice_get-get_or xs j x low))
    (λ (past : length xs ≤ j). slice_get_past (set xs i x) j (omega (arith, past, length-set xs i x)) ∙ sym (slice_get_past xs j past))
    (cases_lt j (length xs))

pub later-itself : (reader : ReaderState) → IsLater reader reader
later-itself reader = record { same_book = refl; same_opening = refl; longer = prefix_self reader.turns }

pub asks-none : (readers : List ReaderState) → AsksOne None readers readers
asks-none readers = record {
  many = refl;
  later = λ node was now had has. subst (IsLater was) (same_Some was now (sym had ∙ has)) (later-itself was);
  others = λ node apart. refl;
}

module _ (readers : List ReaderState) (node : ℕ) (old new : ReaderState) (there : slice_get readers node ≡ Some old) (low : node < length readers) where
  abbrev after : List ReaderState
  after = set readers node new

  here : slice_get after node ≡ Some new
  here = set-here readers node new low

  module _ (is_later : IsLater old new) where
    pub asks-it : AsksOne (Some node) readers after
    asks-it = record {
      many = length-set readers node new;
      later = λ other was now had has.
          ⊎_elim
          (λ (same : other ≡ node).
          let was_is : old ≡ was = same_Some old was (sym there ∙ ap (slice_get readers) (sym same) ∙ had) in
          let now_is : new ≡ now = same_Some new now (sym here ∙ ap (slice_get after) (sym same) ∙ has) in
          subst (λ (p : ReaderState × ReaderState). IsLater p.0 p.1) (λ i. (was_is i, now_is i)) is_later)
          (λ (apart : other ≢ node).
          subst (IsLater was) (same_Some was now (sym had ∙ sym (set-elsewhere readers node other new apart) ∙ has)) (later-itself was))
          (cases_eq other node);
      others = λ other apart. set-elsewhere readers node other new (λ (same : other ≡ node). apart (ap Some (sym same)));
    }

-- ---- what readers say that are there

pub opening-is : (readers : List ReaderState) (node : ℕ) (reader : ReaderState) → slice_get readers node ≡ Some reader → opening_at readers node ≡ reader.opening
opening-is readers node reader there =
    get_or-map (λ (r : ReaderState). r.opening) readers node reader no_fib (slice_get_within readers node reader there)
    ∙ ap (λ (r : ReaderState). r.opening) (get_or_from_slice_get readers node reader reader there)

pub turns-is : (readers : List ReaderState) (node : ℕ) (reader : ReaderState) → slice_get readers node ≡ Some reader → turns_at readers node ≡ reader.turns
turns-is readers node reader there =
    get_or-map (λ (r : ReaderState). r.turns) readers node reader [] (slice_get_within readers node reader there)
    ∙ ap (λ (r : ReaderState). r.turns) (get_or_from_slice_get readers node reader reader there)

pub fib-is : (readers : List ReaderState) (node : ℕ) (reader : ReaderState) → slice_get readers node ≡ Some reader → fib_seen readers node ≡ shared_after reader.opening reader.turns
fib-is readers node reader there = λ i. shared_after (opening-is readers node reader there i) (turns-is readers node reader there i)

pub is-there : {A : Type 0} (xs : List A) (i : ℕ) → i < length xs → (x : A) × (slice_get xs i ≡ Some x)
is-there xs i low =
    ⊎_elim
    (λ (found : (x : _) × (i < length xs) × (slice_get xs i ≡ Some x) × (get_or xs i x ≡ x)). (found.0, found.2))
    (λ (past : (length xs ≤ i) × (slice_get xs i ≡ None)). absurd (omega (arith, low, past.0)))
    (slice_get_cases xs i).1

-- they stay readers of the same FIBs
pub still-fibs : (size : Size) (owner : ℕ) (asked : Option ℕ) (before after : List ReaderState) → AsksOne asked before after → AreFibsOf size owner before → AreFibsOf size owner after
still-fibs size owner asked before after asks are = record {
  one_each = asks.many ∙ are.one_each;
  each = λ node low.
      let was = is-there before node (omega (arith, low, are.one_each)) in
      let now = is-there after node (omega (arith, low, are.one_each, asks.many)) in
      let same = (asks.later node was.0 now.0 was.1 now.1).same_opening in
      subst (IsFibOf size owner node) (opening-is before node was.0 was.1 ∙ sym same ∙ sym (opening-is after node now.0 now.1)) (are.each node low);
}

-- ---- the reader of one node is asked

module _ (size : Size) (owner : ℕ) (readers : List ReaderState) (are : AreFibsOf size owner readers) (node : ℕ) (low : node < size.nodes)
    (old : ReaderState) (is : old ≡ get_or readers node old) where
  there : slice_get readers node ≡ Some old
  there = slice_get_read readers size.nodes node old (sym are.one_each) low is

  within : node < length readers
  within = omega (arith, low, are.one_each)

  pub its-fib : IsFibOf size owner node (get_or readers node old).opening
  its-fib = subst (IsFibOf size owner node) (opening-is readers node old there ∙ ap (λ (r : ReaderState). r.opening) is) (are.each node low)

  module _ (new : ReaderState) where
    pub asks-its : IsLater (get_or readers node old) new → AsksOne (Some node) readers (set readers node new)
    asks-its later = asks-it readers node old new there within (subst (λ (r : ReaderState). IsLater r new) (sym is) later)

    pub its-seen : fib_seen (set readers node new) node ≡ shared_after new.opening new.turns
    its-seen = fib-is (set readers node new) node new (set-here readers node new within)

    pub its-fibs : IsLater (get_or readers node old) new → AreFibsOf size owner (set readers node new)
    its-fibs later = still-fibs size owner (Some node) readers (set readers node new) (asks-its later) are
