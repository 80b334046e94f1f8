-- The map of each group along a journal: it is a map of flows at nodes of the cluster, and it has a canonical record.
use Rattle.std.proofs.Common.{◌≡◌, ◌≢◌, ◌<◌, ◌≤◌, ℕ, Bool, true, false, cond, List, [], ◌∷◌, ◌++◌, length, Option, Some, None, ⊎_elim, refl, sym, subst, arith}
use Rattle.std.proofs.lemmas.Bool.{and_parts, cases_lt, eqb-true}
use Rattle.std.proofs.lemmas.List.{take-append-le, take_all, length_push}
use Rattle.std.proofs.lemmas.List.Elements.{All-filter, All-push}
use Rattle.std.proofs.lemmas.List.Kept.{AllPairs-filter}
use Rattle.flow_types.specs.declared.record.Flow.{Flow}
use Rattle.flow_types.specs.Key.{number, IsKeyValue}
use Rattle.flow_types.specs.Map.{AreDistinct, put, without, HaveKeyValues}
use Rattle.flow_types.specs.Size.{Size, value_bits}
use Rattle.block_layout.specs.Candidate.{candidate}
use Rattle.group_search.specs.declared.record.GroupRecord.{GroupRecord}
use Rattle.group_search.specs.Build.{TellsTheFirst, needed, past_limit, rows_needed, rows_needed_in, rows_left}
use Rattle.group_search.specs.Canon.{canonical, is_separable}
use Rattle.group_search.specs.Home.{Home, home, is_home, opening}
use Rattle.group_search.specs.Records.{AreHandled, content_of, entries}
use Rattle.group_search.proofs.FirstPastLimit.{names_the_first}
use Rattle.group_search.proofs.NeededRows.{without_record, length-entries}
use Rattle.group_history.specs.declared.change.Change.{Change}
use Rattle.group_history.specs.Change.{concerns, flow_to, step}
use Rattle.group_history.specs.History.{changed, now, map_now}
use Rattle.group_history.specs.Journal.{concerning}
use Rattle.group_history.proofs.Versions.{distinct-step, now_other, now_own}
use Rattle.group_history.specs.declared.update.Update.{Update}
use Rattle.group_history.specs.declared.update.Update.TheVariants.{Set, Del}
use Rattle.group_history.specs.Acceptance.{Grounds, IsAccepted, change_at, change_of, free_beside, grounds, grounds_in, maps_now, refusal, updated_key}
use Rattle.group_history.proofs.OneCase.{one_case}
use Rattle.group_search.proofs.Sums.{part_of_sum}
use Rattle.group_history.proofs.Answers.{values-step}
pub use Rattle.run_model.specs.Sound.{AreSound, AreSoundAlong, IsSound}

-- ---- what has a canonical record

record HasContent (nodes : ℕ) (flows : List Flow) : Type 0 where
  there : GroupRecord
  is : content_of nodes flows ≡ Some there

no_content : (nodes : ℕ) (flows : List Flow) → content_of nodes flows ≡ None → canonical (value_bits nodes) (entries flows) ≡ None
unfolding content_of
no_content nodes flows is = is

content_there : (nodes : ℕ) (flows : List Flow) → rows_needed (value_bits nodes) (entries flows) ≤ 64 → HasContent nodes flows
content_there nodes flows few = by (content_of nodes flows) refl
  where
    by : (found : Option GroupRecord) → content_of nodes flows ≡ found → HasContent nodes flows
    by (Some content) is = record { there = content; is = is }
    by None is =
        let many = without_record (entries flows) (value_bits nodes) (no_content nodes flows is) in
        absurd (omega (arith, few, many.0, many.1))

sound : (nodes : ℕ) (flows : List Flow) → AreDistinct flows → AreHandled nodes flows → HaveKeyValues flows → rows_needed (value_bits nodes) (entries flows) ≤ 64 → IsSound nodes flows
sound nodes flows distinct handled values few =
    let has = content_there nodes flows few in
    record { distinct = distinct; handled = handled; values = values; content = has.there; content_is = has.is }

-- ---- the maps with which a cluster is opened

module _ (size : Size) (flows : List Flow) where
  few_rows : past_limit size flows ≡ None → (at : Home) → at.block < size.blocks → at.group < 64 → rows_needed_in size flows at.block at.group ≤ 64
  unfolding needed
  few_rows within at block group =
      let all : TellsTheFirst size flows None = subst (TellsTheFirst size flows) within (names_the_first size flows) in
      let few = (all at.block block).few_rows in
      omega (arith, few, part_of_sum (rows_needed_in size flows at.block) at.group 64 group)

  opening-sound : AreDistinct flows → AreHandled size.nodes flows → HaveKeyValues flows → past_limit size flows ≡ None → (at : Home) → at.block < size.blocks → at.group < 64
      → IsSound size.nodes (opening size.blocks flows at)
  unfolding opening
  opening-sound distinct handled values within at block group =
      sound size.nodes (opening size.blocks flows at)
      (AllPairs-filter (λ (a : Flow) (b : Flow). number a.key ≢ number b.key) (λ (flow : Flow). is_home (home size.blocks flows flow.key) at) flows distinct)
      (All-filter (λ (flow : Flow). is_home (home size.blocks flows flow.key) at) (λ (flow : Flow). flow.node < size.nodes) flows handled)
      (All-filter (λ (flow : Flow). is_home (home size.blocks flows flow.key) at) (λ (flow : Flow). IsKeyValue flow.key) flows values)
      (few_rows within at block group)

-- ---- one change

-- the node that an update names is one of the cluster
abbrev pub IsHandled : (nodes : ℕ) → Update → Type 0
IsHandled nodes (Set flow) = flow.node < nodes
IsHandled nodes (Del key) = Unit {0}

-- and its key is in range
pub record FitsMaps (nodes : ℕ) (update : Update) : Type 0 where
  pub handled : IsHandled nodes update
  pub value : IsKeyValue (updated_key update)

handled-step : (nodes : ℕ) (flows : List Flow) (at : Home) (update : Update) → AreHandled nodes flows → IsHandled nodes update
    → AreHandled nodes (step flows (change_at at update))
unfolding step put without
handled-step nodes flows at (Set flow) handled is =
    All-push (λ (f : Flow). f.node < nodes) (without flow.key flows) (flow_to flow.key (flow.node, flow.info))
    (All-filter _ (λ (f : Flow). f.node < nodes) flows handled) is
handled-step nodes flows at (Del key) handled is = All-filter _ (λ (f : Flow). f.node < nodes) flows handled

module _ (size : Size) (flows : List Flow) (update : Update) where
  at_home : Home
  at_home = home size.blocks flows (updated_key update)

  -- a map that needs no more rows than are free, if indexes don't serve it
  rows-case : (on : Grounds) → IsAccepted update on → on.free ≤ 64 → (served : Bool) → on.served ≡ served → cond served 0 on.needed ≤ 64
  rows-case on is free true e = omega arith
  rows-case on is free false e =
      ⊎_elim
      (λ (more : on.free < on.needed). absurd (is.rows (record { not_served = e; more = more })))
      (λ (few : on.needed ≤ on.free). omega arith)
      (cases_lt on.free on.needed)

  free-few : (maps : ℕ → List Flow) (group : ℕ) → free_beside (value_bits size.nodes) maps group ≤ 64
  unfolding rows_left
  free-few maps group = omega arith

  -- the new map of an accepted update's group has few enough rows
  accepted-rows : (changes : List Change) → refusal update (grounds size flows changes update) ≡ None
      → rows_needed (value_bits size.nodes) (entries (step (map_now size flows changes at_home) (change_of size flows update))) ≤ 64
  unfolding grounds grounds_in rows_needed at_home
  accepted-rows changes none =
      let on = grounds size flows changes update in
      let is : IsAccepted update on = (one_case update on None).1 (sym none) in
      let after = step (map_now size flows changes at_home) (change_of size flows update) in
      let few = rows-case on is (free-few (maps_now size flows changes at_home.block) at_home.group) (is_separable (value_bits size.nodes) (entries after)) refl in
      rw (length-entries after) few

  -- the home of a key is a group of a block of the table
  home-group : at_home.group < 64
  unfolding at_home home candidate
  home-group = omega arith

-- ---- the maps after a journal's changes

module _ (size : Size) (flows : List Flow) where
  pub sound-none : AreDistinct flows → AreHandled size.nodes flows → HaveKeyValues flows → past_limit size flows ≡ None → AreSound size flows []
  unfolding map_now now changed concerning
  sound-none distinct handled values within at block group = opening-sound size flows distinct handled values within at block group

  module _ (update : Update) (fits : FitsMaps size.nodes update) (changes : List Change) (sounds : AreSound size flows changes)
      (accepted : refusal update (grounds size flows changes update) ≡ None) where
    change : Change
    change = change_of size flows update

    home_is : (at : Home) → concerns at change ≡ true → at_home size flows update ≡ at
    unfolding change at_home
    home_is at own =
        let parts = and_parts _ _ own in
        let block = eqb-true _ _ parts.0 in
        let group = eqb-true _ _ parts.1 in
        λ i. record { block = block i; group = group i }

    sound-own : (at : Home) → at.block < size.blocks → at.group < 64 → concerns at change ≡ true → IsSound size.nodes (step (map_now size flows changes at) change)
    unfolding change
    sound-own at block group own =
        let before = sounds at block group in
        let new = step (map_now size flows changes at) change in
        sound size.nodes new (distinct-step (map_now size flows changes at) change before.distinct)
        (handled-step size.nodes (map_now size flows changes at) (home size.blocks flows (updated_key update)) update before.handled fits.handled)
        (values-step (map_now size flows changes at) change fits.value before.values)
        (subst (λ (h : Home). rows_needed (value_bits size.nodes) (entries (step (map_now size flows changes h) change)) ≤ 64) (home_is at own)
        (accepted-rows size flows update changes accepted))

    more-case : (at : Home) → at.block < size.blocks → at.group < 64 → (own : Bool) → concerns at change ≡ own
        → IsSound size.nodes (map_now size flows (changes ++ change ∷ []) at)
    unfolding map_now
    more-case at block group true own =
        rw (now_own at (opening size.blocks flows at) changes change own) (sound-own at block group own)
    more-case at block group false other =
        rw (now_other at (opening size.blocks flows at) changes change other) (sounds at block group)

    pub sound-more : AreSound size flows (changes ++ change_of size flows update ∷ [])
    unfolding change
    sound-more at block group = more-case at block group (concerns at change) refl

  -- ---- along a journal

  pub along-none : AreSound size flows [] → AreSoundAlong size flows []
  along-none sounds turns = subst (AreSound size flows) (sym (take_all turns [] (omega arith))) sounds

  pub along-more : (journal : List Change) (change : Change) → AreSoundAlong size flows journal → AreSound size flows (journal ++ change ∷ []) → AreSoundAlong size flows (journal ++ change ∷ [])
  along-more journal change along last turns =
      ⊎_elim
      (λ (past : length journal < turns).
      subst (AreSound size flows) (sym (take_all turns (journal ++ change ∷ []) (omega (arith, past, length_push journal change)))) last)
      (λ (within : turns ≤ length journal). subst (AreSound size flows) (sym (take-append-le turns journal (change ∷ []) within)) (along turns))
      (cases_lt (length journal) turns)
