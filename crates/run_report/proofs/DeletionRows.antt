-- In a cluster that can be opened no deletion is refused for rows.
use Rattle.std.proofs.Common.{◌≡◌, ◌≢◌, ◌∙◌, ◌+◌, ◌-◌, ◌<◌, ◌≤◌, ℕ, Bool, true, false, cond, List, [], ◌∷◌, ◌++◌, All, length, Option, Some, None, ⊎_elim, refl, sym, ap, subst, arith}
use Rattle.std.specs.List.{AllZip}
use Rattle.std.proofs.lemmas.Bool.{cases_eq, cases_lt, eq-eqb, ne_eqb}
use Rattle.std.proofs.lemmas.List.{get_or_past}
use Rattle.std.proofs.lemmas.List.Elements.{All-get_or, All-replicate, All-set}
use Rattle.flow_types.specs.declared.key.FlowKey.{FlowKey}
use Rattle.flow_types.specs.declared.record.Flow.{Flow}
use Rattle.flow_types.specs.Size.{Size, value_bits}
use Rattle.hash_family.specs.Hash.{place}
use Rattle.block_layout.specs.Candidate.{candidate}
use Rattle.group_search.specs.Build.{TellsTheFirst, needed, past_limit, rows_needed, rows_left}
use Rattle.group_search.specs.Canon.{is_separable}
use Rattle.group_search.specs.Home.{Home, home, opening}
use Rattle.group_search.specs.Records.{entries}
use Rattle.group_search.proofs.FirstPastLimit.{names_the_first}
use Rattle.group_history.specs.declared.change.Change.{Change}
use Rattle.group_history.specs.Change.{concerns, step}
use Rattle.group_history.specs.History.{changed, now, map_now}
use Rattle.group_history.specs.Journal.{concerning}
use Rattle.group_history.proofs.Versions.{now_other, now_own}
use Rattle.packet_reader.specs.declared.event.Event.{Event}
use Rattle.packet_reader.specs.declared.event.Event.TheVariants.{Set, Del, Packet, Carry, Sync}
use Rattle.group_history.specs.declared.refused.UpdateRefused.{UpdateRefused}
use Rattle.group_history.specs.declared.refused.UpdateRefused.TheVariants.{RowsFull}
use Rattle.group_history.specs.declared.update.Update.{Update}
use Rattle.group_history.specs.declared.update.Update.TheVariants as update
use Rattle.group_history.specs.Acceptance.{Grounds, IsAccepted, IsRowsFull, change_of, free_beside, grounds, grounds_in, refusal, updated_key}
use Rattle.group_history.proofs.OneCase.{one_case}
use Rattle.group_history.proofs.Removed.{fewer_rows, removed}
use Rattle.group_search.proofs.NeededRows.{length-entries}
use Rattle.group_history.proofs.Steps.{step_removed}
use Rattle.group_search.proofs.Sums.{beside_same, from_same, sum_apart, sum_beside, sum_from}
use Rattle.run_model.specs.declared.reply.Reply.{Reply}
use Rattle.run_model.specs.declared.reply.Reply.TheVariants.{Refused}
use Rattle.run_model.specs.Allowed.{AllowedFrom, Moment, beginning, phase_end}
use Rattle.run_model.specs.Carrying.{after_carry, after_sync}
use Rattle.run_model.specs.State.{ClusterOpening, Journals, journal_of}
use Rattle.run_model.specs.Updates.{after_update, journals_by, reply_by, update_owner, update_reply, verdict}
use Rattle.run_report.specs.Law.{DeletionsHaveRows, IsNotShortOfRows}
use Rattle.run_report.proofs.EventKinds.{goes_on}

module _ (size : Size) (flows : List Flow) where
  -- how many rows a group needs after these changes
  abbrev group_rows : List Change → (block group : ℕ) → ℕ
  group_rows changes block group = rows_needed (value_bits size.nodes) (entries (map_now size flows changes (record { block = block; group = group })))

  -- no block needs more rows than it has
  abbrev pub HaveFewRows : List Change → Type 0
  HaveFewRows changes = (block : ℕ) → block < size.blocks → sum_from (group_rows changes block) 0 64 ≤ 64

  pub few_none : past_limit size flows ≡ None → HaveFewRows []
  unfolding needed map_now now changed concerning
  few_none within block low =
      let all : TellsTheFirst size flows None = subst (TellsTheFirst size flows) within (names_the_first size flows) in
      (all block low).few_rows

  module _ (update : Update) (changes : List Change) where
    abbrev at_home : Home
    at_home = home size.blocks flows (updated_key update)

    abbrev change : Change
    change = change_of size flows update

    abbrev on : Grounds
    on = grounds size flows changes update

    abbrev map_before : List Flow
    map_before = map_now size flows changes at_home

    abbrev beside : ℕ
    beside = sum_beside (group_rows changes at_home.block) at_home.group 0 64

    home-group : at_home.group < 64
    unfolding home candidate
    home-group = omega arith

    home-block : 1 ≤ size.blocks → at_home.block < size.blocks
    unfolding home place
    home-block some = omega arith

    -- the rows that the block's other groups leave
    free_is : on.free ≡ 64 - beside
    unfolding grounds grounds_in rows_left
    free_is = refl

    -- the rows that the group's new map needs
    needed_is : rows_needed (value_bits size.nodes) (entries (step map_before change)) ≡ cond on.served 0 on.needed
    unfolding grounds grounds_in rows_needed
    needed_is =
        ap (λ (n : ℕ). cond (is_separable (value_bits size.nodes) (entries (step map_before change))) 0 n) (length-entries (step map_before change))

    rows-case : IsAccepted update on → (served : Bool) → on.served ≡ served → cond served 0 on.needed ≤ on.free
    rows-case accepted true e = omega arith
    rows-case accepted false e =
        ⊎_elim
        (λ (more : on.free < on.needed). absurd (accepted.rows (record { not_served = e; more = more })))
        (λ (few : on.needed ≤ on.free). few)
        (cases_lt on.free on.needed)

    accepted_rows : refusal update on ≡ None → rows_needed (value_bits size.nodes) (entries (step map_before change)) ≤ on.free
    accepted_rows none = rw needed_is (rows-case ((one_case update on None).1 (sym none)) on.served refl)

    -- what the block's groups need in all
    whole : sum_from (group_rows changes at_home.block) 0 64 ≡ beside + rows_needed (value_bits size.nodes) (entries map_before)
    whole = sum_apart (group_rows changes at_home.block) at_home.group 64 0 (omega arith) (omega (arith, home-group))

    -- ---- a change that was accepted

    concerns_own : concerns at_home change ≡ true
    concerns_own = rw (eq-eqb at_home.block at_home.block refl, eq-eqb at_home.group at_home.group refl) refl

    concerns_group : (group : ℕ) → group ≢ at_home.group → concerns (record { block = at_home.block; group = group }) change ≡ false
    concerns_group group other = rw (eq-eqb at_home.block at_home.block refl, ne_eqb at_home.group group (λ same. other (sym same))) refl

    concerns_block : (block group : ℕ) → block ≢ at_home.block → concerns (record { block = block; group = group }) change ≡ false
    concerns_block block group other = rw (ne_eqb at_home.block block (λ same. other (sym same))) refl

    rows_kept : (block group : ℕ) → concerns (record { block = block; group = group }) change ≡ false
        → group_rows (changes ++ change ∷ []) block group ≡ group_rows changes block group
    unfolding map_now
    rows_kept block group other =
        ap (λ (m : List Flow). rows_needed (value_bits size.nodes) (entries m))
        (now_other (record { block = block; group = group }) (opening size.blocks flows (record { block = block; group = group })) changes change other)

    rows_changed : group_rows (changes ++ change ∷ []) at_home.block at_home.group ≡ rows_needed (value_bits size.nodes) (entries (step map_before change))
    unfolding map_now
    rows_changed =
        ap (λ (m : List Flow). rows_needed (value_bits size.nodes) (entries m)) (now_own at_home (opening size.blocks flows at_home) changes change concerns_own)

    few_here : HaveFewRows changes → 1 ≤ size.blocks → refusal update on ≡ None → sum_from (group_rows (changes ++ change ∷ []) at_home.block) 0 64 ≤ 64
    few_here few some none =
        let new = sum_apart (group_rows (changes ++ change ∷ []) at_home.block) at_home.group 64 0 (omega arith) (omega (arith, home-group)) in
        let others = beside_same (group_rows (changes ++ change ∷ []) at_home.block) (group_rows changes at_home.block) at_home.group 64 0
        (λ x other. rows_kept at_home.block x (concerns_group x other)) in
        omega (arith, new, others, rows_changed, accepted_rows none, free_is, whole, few at_home.block (home-block some))

    pub few_more : HaveFewRows changes → 1 ≤ size.blocks → refusal update on ≡ None → HaveFewRows (changes ++ change ∷ [])
    few_more few some none block low =
        ⊎_elim
        (λ (same : block ≡ at_home.block).
        subst (λ (b : ℕ). sum_from (group_rows (changes ++ change ∷ []) b) 0 64 ≤ 64) (sym same) (few_here few some none))
        (λ (other : block ≢ at_home.block).
        omega (
          arith,
          few block low,
          from_same (group_rows (changes ++ change ∷ []) block) (group_rows changes block) 64 0 (λ x above below. rows_kept block x (concerns_block block x other)),
        ))
        (cases_eq block at_home.block)

  -- ---- a deletion

  pub deletion_fits : (key : FlowKey) (changes : List Change) → HaveFewRows changes → 1 ≤ size.blocks → (block needed free : ℕ)
      → refusal (update.Del key) (grounds size flows changes (update.Del key)) ≡ Some (RowsFull block needed free) → ⊥
  deletion_fits key changes few some block needed free full =
      let deletion = update.Del key in
      let on_it = grounds size flows changes deletion in
      let is : IsRowsFull deletion on_it block needed free = (one_case deletion on_it (Some (RowsFull block needed free))).1 (sym full) in
      let before = map_now size flows changes (home size.blocks flows key) in
      let after = step before (change_of size flows deletion) in
      let unserved : rows_needed (value_bits size.nodes) (entries after) ≡ on_it.needed =
      needed_is deletion changes ∙ ap (λ (served : Bool). cond served 0 on_it.needed) is.rows.not_served in
      let gone = removed before (change_of size flows deletion) refl in
      let shorter = fewer_rows (value_bits size.nodes) key before (omega (arith, ap length gone, step_removed before (change_of size flows deletion) refl)) in
      let fewer : rows_needed (value_bits size.nodes) (entries after) ≤ rows_needed (value_bits size.nodes) (entries before) = rw gone shorter in
      omega (arith, unserved, fewer, is.rows.more, free_is deletion changes, whole deletion changes, few (home size.blocks flows key).block (home-block deletion changes some))

-- ---- a run

module _ (opened : ClusterOpening) (some : 1 ≤ opened.size.blocks) (within : past_limit opened.size opened.flows ≡ None) where
  abbrev IsFew : List Change → Type 0
  IsFew changes = HaveFewRows opened.size opened.flows changes

  few_at : (journals : Journals) (owner : ℕ) → All IsFew journals → IsFew (journal_of journals owner)
  few_at journals owner few =
      ⊎_elim
      (λ (inside : owner < length journals). All-get_or IsFew journals owner [] inside few)
      (λ (past : length journals ≤ owner). subst IsFew (sym (get_or_past journals owner [] past)) (few_none opened.size opened.flows within))
      (cases_lt owner (length journals))

  few-case : (journals : Journals) (update : Update) (why : Option UpdateRefused) → verdict opened journals update ≡ why → All IsFew journals
      → All IsFew (journals_by journals (update_owner opened update) (change_of opened.size opened.flows update) why)
  few-case journals update None none few =
      let owner = update_owner opened update in
      All-set IsFew journals owner (journal_of journals owner ++ change_of opened.size opened.flows update ∷ [])
      (few_more opened.size opened.flows update (journal_of journals owner) (few_at journals owner few) some none) few
  few-case journals update (Some refused) why few = few

  few_update : (journals : Journals) (update : Update) → All IsFew journals → All IsFew (after_update opened journals update)
  unfolding after_update
  few_update journals update few = few-case journals update (verdict opened journals update) refl few

  deletion-case : (journals : Journals) (key : FlowKey) (owner turns : ℕ) (why : Option UpdateRefused) → verdict opened journals (update.Del key) ≡ why → All IsFew journals
      → (block needed free : ℕ) → reply_by owner turns why ≢ Refused (RowsFull block needed free)
  deletion-case journals key owner turns None is few block needed free same = cc
  deletion-case journals key owner turns (Some refused) is few block needed free same =
      let full : refused ≡ RowsFull block needed free = cc in
      deletion_fits opened.size opened.flows key (journal_of journals (update_owner opened (update.Del key))) (few_at journals (update_owner opened (update.Del key)) few) some
      block needed free (is ∙ ap (λ (r : UpdateRefused). Some r) full)

  deletion_has_rows : (journals : Journals) (key : FlowKey) → All IsFew journals → IsNotShortOfRows (Del key) (update_reply opened journals (update.Del key))
  unfolding update_reply
  deletion_has_rows journals key few = deletion-case journals key _ _ (verdict opened journals (update.Del key)) refl few

  module _ (lanes : ℕ) where
    have_rows : (script : List Event) (replies : List Reply) (m : Moment) → All IsFew m.now → AllowedFrom opened lanes m script replies → AllZip IsNotShortOfRows script replies
    have_rows [] [] m few allowed = tt
    have_rows [] (reply ∷ replies) m few allowed = absurd allowed
    have_rows (Set flow ∷ script) [] m few allowed = absurd allowed
    have_rows (Del key ∷ script) [] m few allowed = absurd allowed
    have_rows (Packet ingress key ∷ script) [] m few allowed = absurd allowed
    have_rows (Carry node owner turn part ∷ script) [] m few allowed = absurd allowed
    have_rows (Sync ∷ script) [] m few allowed = absurd allowed
    have_rows (Set flow ∷ script) (reply ∷ replies) m few allowed =
        (tt, have_rows script replies (record m { now = after_update opened m.now (update.Set flow) }) (few_update m.now (update.Set flow) few) allowed.1)
    have_rows (Del key ∷ script) (reply ∷ replies) m few allowed = (
      subst (IsNotShortOfRows (Del key)) (sym allowed.0) (deletion_has_rows m.now key few),
      have_rows script replies (record m { now = after_update opened m.now (update.Del key) }) (few_update m.now (update.Del key) few) allowed.1,
    )
    have_rows (Packet ingress key ∷ script) (reply ∷ replies) m few allowed =
        let Rest : Moment → Type 0 = λ next. AllowedFrom opened lanes next script replies in
        let after = goes_on opened lanes m (phase_end opened m.now script) ingress key reply Rest allowed in
        (tt, have_rows script replies after.next (subst (All IsFew) (sym after.now_is) few) after.rest)
    have_rows (Carry node owner turn part ∷ script) (reply ∷ replies) m few allowed =
        (tt, have_rows script replies (record m { nodes = after_carry m.now m.nodes node owner turn part }) few allowed.1)
    have_rows (Sync ∷ script) (reply ∷ replies) m few allowed =
        (tt, have_rows script replies (record m { start = m.now; nodes = after_sync m.now m.nodes }) few allowed.1)

pub deletions_have_rows : DeletionsHaveRows
deletions_have_rows opened lanes script replies can allowed =
    let few = All-replicate (HaveFewRows opened.size opened.flows) opened.size.nodes [] (few_none opened.size opened.flows can.within) in
    have_rows opened (omega (arith, can.shape)) can.within lanes script replies (beginning opened) few allowed
