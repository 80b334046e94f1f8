-- The records that a node has of the flows of an opening, flow by flow.
use Rattle.std.proofs.Common.{ℕ, ◌≡◌, ◌≢◌, ◌∙◌, ◌+◌, ◌<◌, ◌≤◌, ◌%◌, ◌==◌, ◌&&◌, Bool, true, false, cond, List, [], ◌∷◌, length, drop, get_or, Option, None, Some, ap, sym, refl, subst, arith, ⊎_elim}
use Rattle.std.specs.Prelude.{find, filter, option_map}
use Rattle.std.specs.List.{All}
use Rattle.std.proofs.lemmas.Bool.{and_from, cases_eq, cond-true, cond-false, eq-eqb, eqb-true, ne_eqb}
use Rattle.std.proofs.lemmas.List.{at_drop_all, at_drop_more, get_or_default}
use Rattle.std.proofs.lemmas.List.Elements.{All-head, All-tail}
use Rattle.flow_types.specs.declared.key.FlowKey.{FlowKey}
use Rattle.flow_types.specs.declared.record.Flow.{Flow}
use Rattle.flow_types.specs.declared.record.Record.{Record}
use Rattle.flow_types.specs.Key.{key_of, number, IsKeyValue}
use Rattle.flow_types.specs.Map.{AreDistinct, flow_at, is_of}
use Rattle.flow_types.specs.Size.{Size}
use Rattle.flow_types.proofs.KeyedFlows.{distinct-head, distinct-tail}
use Rattle.hash_family.specs.Hash.{place}
use Rattle.group_search.specs.Home.{Home, home, is_home, opening}
use Rattle.group_history.specs.History.{changed, now}
use Rattle.group_history.specs.Journal.{concerning}
use Rattle.group_history.specs.Routes.{handled_record}
use Rattle.partial_fib.specs.Fib.{is_handled_of, record_after}
use Rattle.flow_types.proofs.KeyNumbers.{key_is, number-key_of}

-- the flow is the one of this number that counts
abbrev pub counts_at : (Flow → Bool) → (key : ℕ) → Flow → Bool
counts_at own n flow = own flow && (n == number flow.key)

-- the record of the flow with this number that counts
abbrev pub first_record : (Flow → Bool) → List Flow → (key : ℕ) → Option Record
first_record own flows n = option_map (λ (flow : Flow). flow.info) (find (counts_at own n) flows)

-- the record that is there, or else one that comes later
abbrev pub or_later : Option Record → Option Record → Option Record
or_later (Some info) later = Some info
or_later None later = later

-- what is kept at a key once the flows before the i-th are looked at
pub record IsFilled (own : Flow → Bool) (flows : List Flow) (i : ℕ) (n : ℕ) (there : Option Record) : Type 0 where
  pub so_far : or_later there (first_record own (drop i flows) n) ≡ first_record own flows n
  pub passed : (info : Record) → there ≡ Some info → (k : ℕ) (d : Flow) → i ≤ k → k < length flows → number (get_or flows k d).key ≢ n

module _ (own : Flow → Bool) (flows : List Flow) where
  -- of no records
  pub filled_none : (n : ℕ) (there : Option Record) → there ≡ None → IsFilled own flows 0 n there
  filled_none n there none = record {
    so_far = ap (λ o. or_later o (first_record own flows n)) none;
    passed = λ info some. absurd cc;
  }

  pub filled_all : (i n : ℕ) (there : Option Record) → length flows ≤ i → IsFilled own flows i n there → there ≡ first_record own flows n
  filled_all i n there past filled = by there refl (sym (at_drop_all (λ fs. or_later there (first_record own fs n)) flows i past) ∙ filled.so_far)
    where
      by : (o : Option Record) → there ≡ o → or_later there (first_record own [] n) ≡ first_record own flows n → there ≡ first_record own flows n
      by None is e = let none : or_later there (first_record own [] n) ≡ None = ap (λ o. or_later o (first_record own [] n)) is in is ∙ sym none ∙ e
      by (Some info) is e = let same : or_later there (first_record own [] n) ≡ Some info = ap (λ o. or_later o (first_record own [] n)) is in is ∙ sym same ∙ e

-- the first of some flows is found, or left out
first_is : (own : Flow → Bool) (flow : Flow) (rest : List Flow) (n : ℕ) → counts_at own n flow ≡ true → first_record own (flow ∷ rest) n ≡ Some flow.info
first_is own flow rest n is = ap (λ b. option_map (λ (f : Flow). f.info) (cond b (Some flow) (find (counts_at own n) rest))) is

first_not : (own : Flow → Bool) (flow : Flow) (rest : List Flow) (n : ℕ) → counts_at own n flow ≡ false → first_record own (flow ∷ rest) n ≡ first_record own rest n
first_not own flow rest n isnt = ap (λ b. option_map (λ (f : Flow). f.info) (cond b (Some flow) (find (counts_at own n) rest))) isnt

module _ (own : Flow → Bool) (flows : List Flow) (distinct : AreDistinct flows) (i : ℕ) (d : Flow) (inside : i < length flows) (n : ℕ) (there : Option Record)
    (filled : IsFilled own flows i n there) where
  abbrev pub this : Flow
  this = get_or flows i d

  so_far : or_later there (first_record own (this ∷ drop (i + 1) flows) n) ≡ first_record own flows n
  so_far = sym (at_drop_more (λ fs. or_later there (first_record own fs n)) flows i d inside) ∙ filled.so_far

  later : (info : Record) → there ≡ Some info → (k : ℕ) (e : Flow) → i + 1 ≤ k → k < length flows → number (get_or flows k e).key ≢ n
  later info some k e past within = filled.passed info some k e (omega arith) within

  -- the flow doesn't count at this key
  left_out : counts_at own n this ≡ false → IsFilled own flows (i + 1) n there
  left_out isnt = record {
    so_far = sym (ap (or_later there) (first_not own this (drop (i + 1) flows) n isnt)) ∙ so_far;
    passed = later;
  }

  -- the flow is the one of this key, and none was there
  put_in : own this ≡ true → n ≡ number this.key → IsFilled own flows (i + 1) n (Some this.info)
  put_in counts same = record {
    so_far = by there refl so_far;
    passed = λ info some k e past within is.
        distinct i k d (omega arith) within (sym same ∙ sym is ∙ ap (λ (f : Flow). number f.key) (get_or_default flows k e d within));
  }
    where
      handled : counts_at own n this ≡ true
      handled = and_from _ _ counts (eq-eqb n (number this.key) same)

      by : (o : Option Record) → there ≡ o → or_later there (first_record own (this ∷ drop (i + 1) flows) n) ≡ first_record own flows n → Some this.info ≡ first_record own flows n
      by None is e = sym (ap (λ o. or_later o (first_record own (this ∷ drop (i + 1) flows) n)) is ∙ first_is own this (drop (i + 1) flows) n handled) ∙ e
      by (Some info) is e = absurd (filled.passed info is i d (omega arith) inside (sym same))

  -- a flow that counts is put at its key
  pub filled_put : own this ≡ true → IsFilled own flows (i + 1) n (cond (n == number this.key) (Some this.info) there)
  filled_put counts = by (n == number this.key) refl
    where
      by : (b : Bool) → (n == number this.key) ≡ b → IsFilled own flows (i + 1) n (cond (n == number this.key) (Some this.info) there)
      by true same = subst (IsFilled own flows (i + 1) n) (sym (cond-true _ (Some this.info) there same)) (put_in counts (eqb-true n (number this.key) same))
      by false same =
          let isnt : counts_at own n this ≡ false = rw (counts, same) refl in
          subst (IsFilled own flows (i + 1) n) (sym (cond-false _ (Some this.info) there same)) (left_out isnt)

  -- another flow is left out
  pub filled_left : own this ≡ false → IsFilled own flows (i + 1) n there
  filled_left other = left_out (rw other refl)

-- the flows before the next one are values, and so is this one
pub one_more_fits : (flows : List Flow) (i : ℕ) (e : Flow) → i < length flows → ((k : ℕ) (d : Flow) → k < i → IsKeyValue (get_or flows k d).key) → IsKeyValue (get_or flows i e).key
    → (k : ℕ) (d : Flow) → k < i + 1 → IsKeyValue (get_or flows k d).key
one_more_fits flows i e inside before this k d below =
    ⊎_elim
    (λ (same : k ≡ i). subst (λ (f : Flow). IsKeyValue f.key) (get_or_default flows i e d inside ∙ ap (λ (j : ℕ). get_or flows j d) (sym same)) this)
    (λ (other : k ≢ i). before k d (omega (arith, other)))
    (cases_eq k i)

-- ---- the records are those of the flows' groups

module _ (size : Size) (node owner : ℕ) where
  abbrev of_owner : FlowKey → Bool
  of_owner key = (place size.blocks key).block % size.nodes == owner

  abbrev picked : (key : ℕ) → Option Flow → Option Record
  picked n flow = cond (of_owner (key_of n)) (handled_record node flow) None

  none_first : (flows : List Flow) (n : ℕ) → All (λ (flow : Flow). n ≢ number flow.key) flows → first_record (is_handled_of size node owner) flows n ≡ None
  none_first [] n others = refl
  none_first (flow ∷ flows) n others =
      first_not (is_handled_of size node owner) flow flows n (isnt (is_handled_of size node owner flow))
      ∙ none_first flows n (All-tail (λ (f : Flow). n ≢ number f.key) flow flows others)
    where
      isnt : (b : Bool) → (b && (n == number flow.key)) ≡ false
      isnt true = ne_eqb n (number flow.key) (All-head (λ (f : Flow). n ≢ number f.key) flow flows others)
      isnt false = refl

  module _ (n : ℕ) (flow : Flow) (flows : List Flow) (distinct : AreDistinct (flow ∷ flows)) (fits : IsKeyValue flow.key) where
    rest : n ≡ number flow.key → first_record (is_handled_of size node owner) flows n ≡ None
    rest same = none_first flows n (λ k d within eq. distinct-head flow flows distinct k d within (sym same ∙ eq))

    here_case : n ≡ number flow.key → (handles owned : Bool) → (flow.node == node) ≡ handles → of_owner flow.key ≡ owned
        → first_record (is_handled_of size node owner) (flow ∷ flows) n ≡ cond owned (cond handles (Some flow.info) None) None
    here_case same true true h o = first_is (is_handled_of size node owner) flow flows n (and_from _ _ (and_from _ _ h o) (eq-eqb n _ same))
    here_case same true false h o = first_not (is_handled_of size node owner) flow flows n (rw (h, o) refl) ∙ rest same
    here_case same false true h o = first_not (is_handled_of size node owner) flow flows n (rw h refl) ∙ rest same
    here_case same false false h o = first_not (is_handled_of size node owner) flow flows n (rw h refl) ∙ rest same

    here : n ≡ number flow.key → first_record (is_handled_of size node owner) (flow ∷ flows) n ≡ picked n (flow_at (key_of n) (flow ∷ flows))
    unfolding flow_at
    here same =
        let found : is_of (key_of n) flow ≡ true = eq-eqb _ _ (sym same ∙ sym (number-key_of n)) in
        here_case same _ _ refl refl
        ∙ ap (λ (key : FlowKey). cond (of_owner key) (handled_record node (Some flow)) None) (key_is flow.key n fits (sym same))
        ∙ ap (picked n) (sym (cond-true _ (Some flow) (find (is_of (key_of n)) flows) found))

    elsewhere : n ≢ number flow.key → first_record (is_handled_of size node owner) flows n ≡ picked n (flow_at (key_of n) flows)
        → first_record (is_handled_of size node owner) (flow ∷ flows) n ≡ picked n (flow_at (key_of n) (flow ∷ flows))
    unfolding flow_at
    elsewhere other same =
        let isnt : is_of (key_of n) flow ≡ false = ne_eqb _ _ (λ e. other (sym (number-key_of n) ∙ sym e)) in
        first_not (is_handled_of size node owner) flow flows n (no (is_handled_of size node owner flow))
        ∙ same
        ∙ ap (picked n) (sym (cond-false _ (Some flow) (find (is_of (key_of n)) flows) isnt))
      where
        no : (b : Bool) → (b && (n == number flow.key)) ≡ false
        no true = ne_eqb n (number flow.key) other
        no false = refl

  -- the first flow of a number that counts is what the map has at the key, where it counts
  picks : (flows : List Flow) → AreDistinct flows → All (λ (flow : Flow). IsKeyValue flow.key) flows → (n : ℕ)
      → first_record (is_handled_of size node owner) flows n ≡ picked n (flow_at (key_of n) flows)
  unfolding flow_at
  picks [] distinct fit n = nothing (of_owner (key_of n))
    where
      nothing : (b : Bool) → let none : Option Record = None in none ≡ cond b None None
      nothing true = refl
      nothing false = refl
  picks (flow ∷ flows) distinct fit n =
      let fits = All-head (λ (f : Flow). IsKeyValue f.key) flow flows fit in
      ⊎_elim
      (λ (same : n ≡ number flow.key). here n flow flows distinct fits same)
      (λ (other : n ≢ number flow.key).
      elsewhere n flow flows distinct fits other (picks flows (distinct-tail flow flows distinct) (All-tail (λ (f : Flow). IsKeyValue f.key) flow flows fit) n))
      (cases_eq n (number flow.key))

  -- a key's flow is in the opening map of the key's home
  in_group : (home_of : FlowKey → Home) (key : FlowKey) (flows : List Flow)
      → All (λ (flow : Flow). number flow.key ≡ number key → flow.key ≡ key) flows
      → flow_at key (filter (λ (flow : Flow). is_home (home_of flow.key) (home_of key)) flows) ≡ flow_at key flows
  unfolding flow_at
  in_group home_of key [] one = refl
  in_group home_of key (flow ∷ flows) one =
      by _ _ refl refl (in_group home_of key flows (All-tail (λ (f : Flow). number f.key ≡ number key → f.key ≡ key) flow flows one))
    where
      by : (same inside : Bool) → is_of key flow ≡ same → is_home (home_of flow.key) (home_of key) ≡ inside
          → find (is_of key) (filter (λ (f : Flow). is_home (home_of f.key) (home_of key)) flows) ≡ find (is_of key) flows
          → find (is_of key) (filter (λ (f : Flow). is_home (home_of f.key) (home_of key)) (flow ∷ flows)) ≡ find (is_of key) (flow ∷ flows)
      by true true s h rest = rw (h, s) refl
      by true false s h rest =
          let is : flow.key ≡ key = All-head (λ (f : Flow). number f.key ≡ number key → f.key ≡ key) flow flows one (eqb-true _ _ s) in
          let at_home : is_home (home_of flow.key) (home_of key) ≡ true = rw is (and_from _ _ (eq-eqb (home_of key).block _ refl) (eq-eqb (home_of key).group _ refl)) in
          cc
      by false true s h rest = rw (h, s) rest
      by false false s h rest = rw (h, s) rest

  pub records_of_opening : (flows : List Flow) → AreDistinct flows → All (λ (flow : Flow). IsKeyValue flow.key) flows → (n : ℕ)
      → first_record (is_handled_of size node owner) flows n ≡ record_after size node owner flows [] n
  unfolding record_after now changed concerning home opening
  records_of_opening flows distinct fit n =
      picks flows distinct fit n
      ∙ ap (picked n) (sym (in_group (home size.blocks flows) (key_of n) flows
      (λ k d within same. key_is (get_or flows k d).key n (fit k d within) (same ∙ number-key_of n))))
