-- What a map has at a key, after one of its keys was set or removed.
use Rattle.std.proofs.Common.{◌≡◌, ◌≢◌, ◌∙◌, ℕ, zero, suc, Bool, true, false, cond, not, List, [], ◌∷◌, Option, Some, None, refl, sym, ap, ⊎_elim, arith}
use Rattle.std.specs.Prelude.{◌==◌, Contains, IsPermutation, filter, find}
use Rattle.std.specs.List.{All}
use Rattle.std.specs.Option.{option_or}
use Rattle.std.proofs.lemmas.Bool.{cases_eq, cond-true, cond-false, eqb-true, eqb-false, eq-eqb, ne_eqb, not-true}
use Rattle.std.proofs.lemmas.List.Elements.{All-tail, All-weaker, filter_passes}
use Rattle.std.proofs.lemmas.List.Folds.{find-append}
use Rattle.std.proofs.lemmas.List.Kept.{AllPairs-cons, AllPairs-filter}
use Rattle.std.proofs.lemmas.List.Quantifiers.{all_pairs_push}
use Rattle.std.proofs.lemmas.List.Sorted.{IsPermutation-refl, IsPermutation-cons, IsPermutation-sym, IsPermutation-trans, IsPermutation-middle, Contains-permutation}
use Rattle.flow_types.specs.declared.key.FlowKey.{FlowKey}
use Rattle.flow_types.specs.declared.record.Flow.{Flow}
use Rattle.flow_types.specs.Key.{number}
use Rattle.flow_types.specs.Map.{AreDistinct, IsSameMap, flow_at, is_of, put, without}

abbrev pub is_other : FlowKey → Flow → Bool
is_other key flow = not (is_of key flow)

abbrev pub HaveOtherKeys : Flow → Flow → Type 0
HaveOtherKeys a b = number a.key ≢ number b.key

-- ---- at a key that was removed, and at others

without-case : (k key : FlowKey) (flow : Flow) (flows : List Flow) (here asked same : Bool)
    → is_of key flow ≡ here → is_of k flow ≡ asked → (number k == number key) ≡ same
    → find (is_of k) (filter (is_other key) flows) ≡ cond same None (find (is_of k) flows)
    → find (is_of k) (filter (is_other key) (flow ∷ flows)) ≡ cond same None (find (is_of k) (flow ∷ flows))
without-case k key flow flows true true true eh ea es rest = rw eh rest
without-case k key flow flows true true false eh ea es rest = absurd (eqb-false _ _ es (sym (eqb-true _ _ ea) ∙ eqb-true _ _ eh))
without-case k key flow flows true false same eh ea es rest = rw (eh, ea) rest
without-case k key flow flows false true true eh ea es rest = absurd (eqb-false _ _ eh (eqb-true _ _ ea ∙ eqb-true _ _ es))
without-case k key flow flows false true false eh ea es rest = rw (eh, ea) refl
without-case k key flow flows false false same eh ea es rest = rw (eh, ea) rest

nothing : (same : Bool) → let none : Option Flow = None in none ≡ cond same None None
nothing true = refl
nothing false = refl

-- without a key a map has nothing there, and at all other keys what it had
pub flow_at-without : (k key : FlowKey) (flows : List Flow) → flow_at k (without key flows) ≡ cond (number k == number key) None (flow_at k flows)
unfolding flow_at without
flow_at-without k key [] = nothing (number k == number key)
flow_at-without k key (flow ∷ flows) = without-case k key flow flows _ _ _ refl refl refl (flow_at-without k key flows)

either : (k : FlowKey) (new : Flow) (before : Option Flow) (asked same : Bool) → is_of k new ≡ asked → (number k == number new.key) ≡ same
    → option_or (cond same None before) (cond asked (Some new) None) ≡ cond same (Some new) before
either k new before true true ea es = refl
either k new before true false ea es = absurd (eqb-false _ _ es (sym (eqb-true _ _ ea)))
either k new before false true ea es = absurd (eqb-false _ _ ea (sym (eqb-true _ _ es)))
either k new None false false ea es = refl
either k new (Some flow) false false ea es = refl

-- with a flow at its key a map has it there, and at all other keys what it had
pub flow_at-put : (k : FlowKey) (new : Flow) (flows : List Flow) → flow_at k (put new flows) ≡ cond (number k == number new.key) (Some new) (flow_at k flows)
unfolding flow_at put
flow_at-put k new flows =
    find-append (is_of k) (without new.key flows) (new ∷ [])
    ∙ ap (λ (o : Option Flow). option_or o (find (is_of k) (new ∷ []))) (flow_at-without k new.key flows)
    ∙ either k new (find (is_of k) flows) _ _ refl refl

-- ---- distinct keys

pub distinct-cons : (flow : Flow) (flows : List Flow) → All (HaveOtherKeys flow) flows → AreDistinct flows → AreDistinct (flow ∷ flows)
distinct-cons flow flows others rest = AllPairs-cons HaveOtherKeys flow flows others rest

pub distinct-head : (flow : Flow) (flows : List Flow) → AreDistinct (flow ∷ flows) → All (HaveOtherKeys flow) flows
distinct-head flow flows distinct k d within = distinct zero (suc k) d (omega arith) (omega arith)

pub distinct-tail : (flow : Flow) (flows : List Flow) → AreDistinct (flow ∷ flows) → AreDistinct flows
distinct-tail flow flows distinct i j d below within = distinct (suc i) (suc j) d (omega arith) (omega arith)

pub distinct-without : (key : FlowKey) (flows : List Flow) → AreDistinct flows → AreDistinct (without key flows)
unfolding without
distinct-without key flows distinct = AllPairs-filter HaveOtherKeys (is_other key) flows distinct

pub distinct-put : (new : Flow) (flows : List Flow) → AreDistinct flows → AreDistinct (put new flows)
unfolding put without
distinct-put new flows distinct =
    all_pairs_push HaveOtherKeys (filter (is_other new.key) flows) new (AllPairs-filter HaveOtherKeys (is_other new.key) flows distinct)
    (All-weaker (λ (flow : Flow). is_other new.key flow ≡ true) (λ (flow : Flow). HaveOtherKeys flow new)
    (λ flow other. eqb-false (number flow.key) (number new.key) (not-true _ other)) (filter (is_other new.key) flows) (filter_passes (is_other new.key) flows))

-- ---- maps that have the same at each key

-- what stands at no key of a list isn't found there
pub none_at : (key : FlowKey) (flows : List Flow) → All (λ (flow : Flow). number key ≢ number flow.key) flows → flow_at key flows ≡ None
unfolding flow_at
none_at key [] others = refl
none_at key (flow ∷ flows) others =
    rw (ne_eqb (number flow.key) (number key) (λ same. others 0 flow (omega arith) (sym same))) (none_at key flows (All-tail (λ (f : Flow). number key ≢ number f.key) flow flows others))

-- what is found at a key stands in the list, and has the key
found_first : (key : FlowKey) (flow first : Flow) (flows : List Flow) (here : Bool) → is_of key first ≡ here → cond here (Some first) (find (is_of key) flows) ≡ Some flow
    → (find (is_of key) flows ≡ Some flow → Contains flows flow × (number flow.key ≡ number key)) → Contains (first ∷ flows) flow × (number flow.key ≡ number key)
found_first key flow first flows true e same rest =
    let is : first ≡ flow = cc in
    ((zero, omega arith, is), ap (λ (f : Flow). number f.key) (sym is) ∙ eqb-true _ _ e)
found_first key flow first flows false e same rest =
    let later = rest same in
    ((suc later.0.0, omega (arith, later.0.1), later.0.2), later.1)

pub found_stands : (key : FlowKey) (flow : Flow) (flows : List Flow) → flow_at key flows ≡ Some flow → Contains flows flow × (number flow.key ≡ number key)
unfolding flow_at
found_stands key flow [] found = cc
found_stands key flow (first ∷ flows) found = found_first key flow first flows (is_of key first) refl found (found_stands key flow flows)

-- a flow of a map is found at its key
pub stands_found : (flow : Flow) (flows : List Flow) → AreDistinct flows → Contains flows flow → flow_at flow.key flows ≡ Some flow
unfolding flow_at
stands_found flow [] distinct (k, within, is) = absurd (omega arith)
stands_found flow (first ∷ flows) distinct (zero, within, is) = rw (eq-eqb (number first.key) (number flow.key) (ap (λ (f : Flow). number f.key) is)) (ap (λ (f : Flow). Some f) is)
stands_found flow (first ∷ flows) distinct (suc k, within, is) =
    let other : number first.key ≢ number flow.key = λ same. distinct-head first flows distinct k flow (omega arith) (same ∙ ap (λ (f : Flow). number f.key) (sym is)) in
    rw (ne_eqb (number first.key) (number flow.key) other) (stands_found flow flows (distinct-tail first flows distinct) (k, omega arith, is))

-- where nothing has the key nothing goes
pub without_none : (key : FlowKey) (flows : List Flow) → All (λ (flow : Flow). number key ≢ number flow.key) flows → without key flows ≡ flows
unfolding without
without_none key [] others = refl
without_none key (flow ∷ flows) others =
    rw (ne_eqb (number flow.key) (number key) (λ same. others 0 flow (omega arith) (sym same)))
    (ap (λ (fs : List Flow). flow ∷ fs) (without_none key flows (All-tail (λ (f : Flow). number key ≢ number f.key) flow flows others)))

-- the flow that is found goes, and no other
without_first : (key : FlowKey) (flow first : Flow) (flows : List Flow) (here : Bool) → AreDistinct (first ∷ flows) → is_of key first ≡ here
    → cond here (Some first) (find (is_of key) flows) ≡ Some flow
    → (find (is_of key) flows ≡ Some flow → IsPermutation flows (flow ∷ filter (is_other key) flows))
    → IsPermutation (first ∷ flows) (flow ∷ cond (not here) (first ∷ filter (is_other key) flows) (filter (is_other key) flows))
unfolding without
without_first key flow first flows true distinct e same rest =
    let is : flow ≡ first = cc in
    let others : All (λ (f : Flow). number key ≢ number f.key) flows = λ k d within eq. distinct-head first flows distinct k d within (eqb-true _ _ e ∙ eq) in
    rw (without_none key flows others, is) (IsPermutation-refl (first ∷ flows))
without_first key flow first flows false distinct e same rest =
    let left = filter (is_other key) flows in
    IsPermutation-trans (first ∷ flows) (first ∷ flow ∷ left) (flow ∷ first ∷ left)
    (IsPermutation-cons first flows (flow ∷ left) (rest same))
    (IsPermutation-middle (first ∷ []) flow left)

pub without_found : (key : FlowKey) (flow : Flow) (flows : List Flow) → AreDistinct flows → flow_at key flows ≡ Some flow → IsPermutation flows (flow ∷ without key flows)
unfolding flow_at without
without_found key flow [] distinct found = cc
without_found key flow (first ∷ flows) distinct found =
    without_first key flow first flows (is_of key first) distinct refl found (without_found key flow flows (distinct-tail first flows distinct))

first_found : (flow : Flow) (flows : List Flow) → flow_at flow.key (flow ∷ flows) ≡ Some flow
unfolding flow_at
first_found flow flows = rw (eq-eqb (number flow.key) (number flow.key) refl) refl

nothing_of_nothing : (flows : List Flow) → ((key : FlowKey) → flow_at key flows ≡ None) → flows ≡ []
nothing_of_nothing [] none = refl
nothing_of_nothing (flow ∷ flows) none =
    let there = first_found flow flows in
    let not_there = none flow.key in
    cc

-- the rest of a map has the same at each key as another map without the first's key
rest_at : (flow : Flow) (flows others : List Flow) (key : FlowKey) (here : Bool) → AreDistinct (flow ∷ flows) → flow_at key (flow ∷ flows) ≡ flow_at key others
    → (number flow.key == number key) ≡ here → (number key == number flow.key) ≡ here → flow_at key flows ≡ cond here None (flow_at key others)
unfolding flow_at
rest_at flow flows others key true distinct same e e' =
    none_at key flows (λ k d within eq. distinct-head flow flows distinct k d within (eqb-true _ _ e ∙ eq))
rest_at flow flows others key false distinct same e e' = rw e at same

rest_same : (flow : Flow) (flows others : List Flow) → AreDistinct (flow ∷ flows) → IsSameMap (flow ∷ flows) others → IsSameMap flows (without flow.key others)
rest_same flow flows others distinct same key =
    ⊎_elim
    (λ (eq : number flow.key ≡ number key).
    rest_at flow flows others key true distinct (same key) (eq-eqb _ _ eq) (eq-eqb _ _ (sym eq))
    ∙ sym (flow_at-without key flow.key others ∙ cond-true _ None (flow_at key others) (eq-eqb _ _ (sym eq))))
    (λ (ne : number flow.key ≢ number key).
    rest_at flow flows others key false distinct (same key) (ne_eqb _ _ ne) (ne_eqb _ _ (λ eq. ne (sym eq)))
    ∙ sym (flow_at-without key flow.key others ∙ cond-false _ None (flow_at key others) (ne_eqb _ _ (λ eq. ne (sym eq)))))
    (cases_eq (number flow.key) (number key))

-- maps with the same at each key have the same flows, in some order
pub same_permuted : (flows others : List Flow) → AreDistinct flows → AreDistinct others → IsSameMap flows others → IsPermutation flows others
same_permuted [] others distinct apart same =
    rw (nothing_of_nothing others (λ key. sym (same key) ∙ none_at key [] (λ k d within. absurd (omega arith)))) (IsPermutation-refl [])
same_permuted (flow ∷ flows) others distinct apart same =
    let left = without flow.key others in
    IsPermutation-trans (flow ∷ flows) (flow ∷ left) others
    (IsPermutation-cons flow flows left
    (same_permuted flows left (distinct-tail flow flows distinct) (distinct-without flow.key others apart) (rest_same flow flows others distinct same)))
    (IsPermutation-sym others (flow ∷ left) (without_found flow.key flow others apart (sym (same flow.key) ∙ first_found flow flows)))

-- a key is looked up by its number alone
same_number : (key other : FlowKey) → number key ≡ number other → (flows : List Flow) → flow_at key flows ≡ flow_at other flows
unfolding flow_at
same_number key other same [] = refl
same_number key other same (flow ∷ flows) =
    ap (λ (n : ℕ). cond (number flow.key == n) (Some flow) (find (is_of key) flows)) same
    ∙ ap (λ (o : Option Flow). cond (number flow.key == number other) (Some flow) o) (same_number key other same flows)

pub found_of_stands : (key : FlowKey) (flow : Flow) (flows : List Flow) → AreDistinct flows → Contains flows flow → number flow.key ≡ number key → flow_at key flows ≡ Some flow
found_of_stands key flow flows distinct there same = same_number key flow.key (sym same) flows ∙ stands_found flow flows distinct there

permuted_found : (key : FlowKey) (flow : Flow) (flows others : List Flow) → AreDistinct others → IsPermutation flows others
    → flow_at key flows ≡ Some flow → flow_at key others ≡ Some flow
permuted_found key flow flows others apart permuted found =
    let stands = found_stands key flow flows found in
    found_of_stands key flow others apart (Contains-permutation flows others flow permuted stands.0) stands.1

same_either : (a b : Option Flow) → ((flow : Flow) → a ≡ Some flow → b ≡ Some flow) → ((flow : Flow) → b ≡ Some flow → a ≡ Some flow) → a ≡ b
same_either None None there back = refl
same_either None (Some flow) there back = back flow refl
same_either (Some flow) b there back = sym (there flow refl)

-- maps with the same flows, in some order, have the same at each key
pub permuted_same : (flows others : List Flow) → AreDistinct flows → AreDistinct others → IsPermutation flows others → IsSameMap flows others
permuted_same flows others distinct apart permuted key =
    same_either (flow_at key flows) (flow_at key others)
    (λ flow found. permuted_found key flow flows others apart permuted found)
    (λ flow found. permuted_found key flow others flows distinct (IsPermutation-sym flows others permuted) found)
