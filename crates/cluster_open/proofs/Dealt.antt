-- One more flow is dealt to its FIB, and a FIB is opened with what was dealt to it.
use Rattle.std.proofs.Common.{ℕ, ◌≡◌, ◌≢◌, ◌∙◌, ◌+◌, ◌<◌, ◌%◌, ◌==◌, Bool, true, false, List, [], ◌∷◌, ◌++◌, length, drop, get_or, set, ap, sym, refl, arith, add-one, append_assoc, drop-cons}
use Rattle.std.specs.Prelude.{filter}
use Rattle.std.specs.List.{All}
use Rattle.std.proofs.lemmas.Bool.{and_from, cond-true, cond-false, eqb-true, eqb-false}
use Rattle.std.proofs.lemmas.List.{get_or_default, get_or-set_other}
use Rattle.std.proofs.lemmas.Grind.{get_or-set_at}
use Rattle.flow_types.specs.declared.record.Flow.{Flow}
use Rattle.flow_types.specs.Map.{AreDistinct}
use Rattle.flow_types.specs.Size.{Size}
use Rattle.hash_family.specs.Hash.{place}
use Rattle.flow_types.specs.Key.{IsKeyValue}
use Rattle.partial_fib.specs.Fib.{fib_after, is_handled_of}
use Rattle.partial_fib.proofs.Own as own
use Rattle.cluster_open.specs.Dealing.{AreDealt, own_flows}

module _ (size : Size) (node owner i : ℕ) (flows : List Flow) (d : Flow) (inside : i < length flows) (found : List (List Flow))
    (so_far : get_or found owner [] ++ own_flows size node owner (drop i flows) ≡ own_flows size node owner flows) where
  abbrev this : Flow
  this = get_or flows i d

  abbrev later : List Flow
  later = own_flows size node owner (drop (i + 1) flows)

  next : drop i flows ≡ this ∷ drop (i + 1) flows
  next = rw add-one (drop-cons flows i d inside)

  taken : is_handled_of size node owner this ≡ true → own_flows size node owner (drop i flows) ≡ this ∷ later
  unfolding own_flows
  taken is = ap (filter (is_handled_of size node owner)) next ∙ cond-true _ (this ∷ later) later is

  left : is_handled_of size node owner this ≡ false → own_flows size node owner (drop i flows) ≡ later
  unfolding own_flows
  left isnt = ap (filter (is_handled_of size node owner)) next ∙ cond-false _ (this ∷ later) later isnt

  -- the flow is another node's
  pub passed_by : (this.node == node) ≡ false → get_or found owner [] ++ later ≡ own_flows size node owner flows
  passed_by other = ap (λ (l : List Flow). get_or found owner [] ++ l) (sym (left (rw other refl))) ∙ so_far

  -- the flow is the node's, and its block is of the owner at this place
  module _ (at : ℕ) (mine : (this.node == node) ≡ true) (is_at : at ≡ (place size.blocks this.key).block % size.nodes) (in_range : at < length found) where
    step : (here : Bool) → ((place size.blocks this.key).block % size.nodes == owner) ≡ here
        → get_or (set found at (get_or found at [] ++ this ∷ [])) owner [] ++ later ≡ own_flows size node owner flows
    step true here =
        let same : at ≡ owner = is_at ∙ eqb-true _ _ here in
        let got : get_or (set found at (get_or found at [] ++ this ∷ [])) owner [] ≡ get_or found owner [] ++ this ∷ [] =
        get_or-set_at found at owner _ [] (sym same) in_range ∙ ap (λ (o : ℕ). get_or found o [] ++ this ∷ []) same in
        ap (λ (l : List Flow). l ++ later) got
        ∙ append_assoc (get_or found owner []) (this ∷ []) later
        ∙ ap (λ (l : List Flow). get_or found owner [] ++ l) (sym (taken (and_from _ _ mine here))) ∙ so_far
    step false here =
        let other : owner ≢ at = λ e. eqb-false _ _ here (sym (e ∙ is_at)) in
        ap (λ (l : List Flow). l ++ later) (get_or-set_other found at owner _ [] other)
        ∙ ap (λ (l : List Flow). get_or found owner [] ++ l) (sym (left (rw (mine, here) refl))) ∙ so_far

    pub dealt_to : get_or (set found at (get_or found at [] ++ this ∷ [])) owner [] ++ later ≡ own_flows size node owner flows
    dealt_to = step ((place size.blocks this.key).block % size.nodes == owner) refl

module _ (size : Size) (node owner : ℕ) (flows : List Flow) (distinct : AreDistinct flows) where
  pub dealt_distinct : AreDistinct (own_flows size node owner flows)
  unfolding own_flows
  dealt_distinct = own.own_distinct size node owner flows distinct

  pub opened_by_dealt : All (λ (flow : Flow). IsKeyValue flow.key) flows → fib_after size node owner (own_flows size node owner flows) [] ≡ fib_after size node owner flows []
  unfolding own_flows
  opened_by_dealt fit = own.opened_by_own size node owner flows distinct fit

pub nothing_left : (size : Size) (node owner : ℕ) → own_flows size node owner [] ≡ []
unfolding own_flows
nothing_left size node owner = refl

-- what is read of the dealt flows at an owner's place
pub read_dealt : (size : Size) (node owner at : ℕ) (flows : List Flow) (dealt : List (List Flow)) (read d : List Flow) → AreDealt size node flows dealt
    → owner < size.nodes → at ≡ owner → read ≡ get_or dealt at d → read ≡ own_flows size node owner flows
read_dealt size node owner at flows dealt read d are within is got =
    got ∙ ap (λ (o : ℕ). get_or dealt o d) is ∙ get_or_default dealt owner d [] (omega (arith, within, are.one_each)) ∙ are.each owner within
