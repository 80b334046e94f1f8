-- The numbers of allowed replies fit: those of records their types, and versions are no greater than turns.
use Rattle.std.proofs.Common.{◌≡◌, ◌≢◌, ◌^◌, ◌<◌, ◌≤◌, ℕ, List, [], ◌∷◌, ◌++◌, All, not, length, take, replicate, Option, Some, None, ⊎_elim, refl, sym, subst, arith}
use Rattle.std.proofs.lemmas.Bool.{cases_lt}
use Rattle.std.proofs.lemmas.List.{get_or_past, length_push}
use Rattle.std.proofs.lemmas.List.Elements.{All-contains, All-filter, All-get_or, All-head, All-nil, All-push, All-replicate, All-set, All-tail, All-take}
use Rattle.std.proofs.lemmas.List.Filters.{length-filter_both}
use Rattle.flow_types.specs.declared.key.FlowKey.{FlowKey}
use Rattle.flow_types.specs.declared.record.Flow.{Flow}
use Rattle.flow_types.specs.declared.record.Record.{Record}
use Rattle.flow_types.specs.Map.{Knows, put, without}
use Rattle.flow_types.specs.Limits.{most_turns}
use Rattle.group_search.specs.Home.{opening}
use Rattle.group_history.specs.declared.change.Change.{Change}
use Rattle.group_history.specs.Change.{concerns, flow_to, step, with_at}
use Rattle.group_history.specs.History.{changed}
use Rattle.group_history.specs.Journal.{change_count, concerning}
use Rattle.group_history.specs.Routes.{Route}
use Rattle.group_history.proofs.Versions.{version_is}
use Rattle.packet_reader.specs.declared.event.Event.{Event}
use Rattle.packet_reader.specs.declared.event.Event.TheVariants.{Set, Del, Packet, Carry, Sync}
use Rattle.group_history.specs.declared.refused.UpdateRefused.{UpdateRefused}
use Rattle.group_history.specs.declared.update.Update.{Update}
use Rattle.group_history.specs.declared.update.Update.TheVariants as update
use Rattle.group_history.specs.Acceptance.{IsAccepted, change_of, grounds, grounds_in}
use Rattle.group_history.proofs.OneCase.{one_case}
use Rattle.run_model.specs.declared.reply.Reply.{Reply}
use Rattle.run_model.specs.declared.reply.Reply.TheVariants.{Found, Unknown, Nowhere}
use Rattle.run_model.specs.Allowed.{IsAnswered, IsAtVersion, IsSeen, Moment, PathThen, changes_of_key, phase_end}
use Rattle.run_model.specs.State.{ClusterOpening, Journals, home_of_key, journal_of, owner_of_group}
use Rattle.run_model.specs.Updates.{after_update, journals_by, update_owner, verdict}
use Rattle.run_report.specs.Law.{FlowFits, SetFits}
use Rattle.run_report.proofs.SameLine.{IsShort, IsShortRecord}

-- ---- maps

-- what a change sets fits its types
abbrev pub ToFits : FlowKey → Option (ℕ × Record) → Type 0
ToFits key (Some to) = FlowFits (flow_to key to)
ToFits key None = Unit {0}

abbrev pub ChangeFits : Change → Type 0
ChangeFits change = ToFits change.key change.to

fits-with_at : (key : FlowKey) (to : Option (ℕ × Record)) (flows : List Flow) → ToFits key to → All FlowFits flows → All FlowFits (with_at key to flows)
unfolding put without
fits-with_at key (Some to) flows within all = All-push FlowFits (without key flows) (flow_to key to) (All-filter _ FlowFits flows all) within
fits-with_at key None flows within all = All-filter _ FlowFits flows all

fits-changed : (flows : List Flow) (changes : List Change) → All FlowFits flows → All ChangeFits changes → All FlowFits (changed flows changes)
unfolding changed step
fits-changed flows [] all each = all
fits-changed flows (change ∷ changes) all each =
    fits-changed (with_at change.key change.to flows) changes
    (fits-with_at change.key change.to flows (All-head ChangeFits change changes each) all)
    (All-tail ChangeFits change changes each)

-- ---- journals

-- no more changes than turns, and each fits its types
pub record IsShortJournal (changes : List Change) : Type 0 where
  pub few : length changes ≤ most_turns
  pub each : All ChangeFits changes

no_changes : IsShortJournal []
no_changes = record { few = omega arith; each = All-nil ChangeFits }

abbrev pub AreShort : Journals → Type 0
AreShort journals = All IsShortJournal journals

pub short_at : (journals : Journals) (owner : ℕ) → AreShort journals → IsShortJournal (journal_of journals owner)
short_at journals owner short =
    ⊎_elim
    (λ (within : owner < length journals). All-get_or IsShortJournal journals owner [] within short)
    (λ (past : length journals ≤ owner). subst IsShortJournal (sym (get_or_past journals owner [] past)) no_changes)
    (cases_lt owner (length journals))

pub short_none : (nodes : ℕ) → AreShort (replicate nodes [])
short_none nodes = All-replicate IsShortJournal nodes [] no_changes

module _ (opened : ClusterOpening) where
  -- an update that is accepted leaves room for its turn
  room_for_turn : (journals : Journals) (update : Update) → verdict opened journals update ≡ None → length (journal_of journals (update_owner opened update)) ≢ most_turns
  unfolding grounds grounds_in
  room_for_turn journals update none =
      let on = grounds opened.size opened.flows (journal_of journals (update_owner opened update)) update in
      let accepted : IsAccepted update on = (one_case update on None).1 (sym none) in
      accepted.not_spent

  short-case : (journals : Journals) (update : Update) (why : Option UpdateRefused) → verdict opened journals update ≡ why
      → ChangeFits (change_of opened.size opened.flows update) → AreShort journals
      → AreShort (journals_by journals (update_owner opened update) (change_of opened.size opened.flows update) why)
  short-case journals update None none within short =
      let owner = update_owner opened update in
      let change = change_of opened.size opened.flows update in
      let journal = journal_of journals owner in
      let before = short_at journals owner short in
      let room = room_for_turn journals update none in
      All-set IsShortJournal journals owner (journal ++ change ∷ [])
      (record { few = omega (arith, before.few, room, length_push journal change); each = All-push ChangeFits journal change before.each within }) short
  short-case journals update (Some refused) why within short = short

  pub short_set : (journals : Journals) (flow : Flow) → FlowFits flow → AreShort journals → AreShort (after_update opened journals (update.Set flow))
  unfolding after_update
  short_set journals flow within short = short-case journals (update.Set flow) (verdict opened journals (update.Set flow)) refl within short

  pub short_del : (journals : Journals) (key : FlowKey) → AreShort journals → AreShort (after_update opened journals (update.Del key))
  unfolding after_update
  short_del journals key short = short-case journals (update.Del key) (verdict opened journals (update.Del key)) refl tt short

  pub short_end : (script : List Event) (journals : Journals) → All SetFits script → AreShort journals → AreShort (phase_end opened journals script)
  unfolding phase_end
  short_end [] journals sets short = short
  short_end (Set flow ∷ script) journals sets short =
      short_end script (after_update opened journals (update.Set flow)) (All-tail SetFits (Set flow) script sets)
      (short_set journals flow (All-head SetFits (Set flow) script sets) short)
  short_end (Del key ∷ script) journals sets short =
      short_end script (after_update opened journals (update.Del key)) (All-tail SetFits (Del key) script sets) (short_del journals key short)
  short_end (Packet ingress key ∷ script) journals sets short = short_end script journals (All-tail SetFits (Packet ingress key) script sets) short
  short_end (Carry node owner turn part ∷ script) journals sets short = short_end script journals (All-tail SetFits (Carry node owner turn part) script sets) short
  short_end (Sync ∷ script) journals sets short = short

  -- ---- replies

  module _ (nodes_few : opened.size.nodes ≤ 2 ^ 8) (all : All FlowFits opened.flows) (end : Journals) (short : AreShort end) (key : FlowKey) where
    abbrev changes : List Change
    changes = changes_of_key opened end key

    journal : IsShortJournal changes
    journal = short_at end (owner_of_group opened (home_of_key opened key)) short

    few_versions : (version : ℕ) → version ≤ change_count (home_of_key opened key) changes → version < 2 ^ 64
    unfolding change_count concerning
    few_versions version low =
        let concerned = concerns (home_of_key opened key) in
        omega (arith, low, journal.few, length-filter_both concerned (λ (change : Change). not (concerned change)) (λ change. refl) changes)

    -- the flows of a group's map fit their types
    map_fits : (version : ℕ) (flows : List Flow) → IsAtVersion opened changes key version flows → All FlowFits flows
    unfolding opening concerning
    map_fits version flows at =
        let found = version_is (home_of_key opened key) (opening opened.size.blocks opened.flows (home_of_key opened key)) changes version flows at in
        subst (All FlowFits) found.1
        (fits-changed (opening opened.size.blocks opened.flows (home_of_key opened key)) (take version (concerning (home_of_key opened key) changes))
        (All-filter _ FlowFits opened.flows all)
        (All-take ChangeFits version (concerning (home_of_key opened key) changes) (All-filter _ ChangeFits changes journal.each)))

    -- a packet is sent to a node that a flow has, or to one of the cluster's
    few_nodes : (flows : List Flow) (node : ℕ) → All FlowFits flows → Route opened.size.nodes flows key (Some node) → node < 2 ^ 8
    few_nodes flows node within route =
        ⊎_elim
        (λ (low : node < 2 ^ 8). low)
        (λ (high : 2 ^ 8 ≤ node).
        let unknown : (at : ℕ) (info : Record) → ¬ Knows flows key at info =
        λ at info knows.
        let here : at < 2 ^ 8 = (All-contains FlowFits flows _ within knows).node in
        let same : Some node ≡ Some at = route.known at info knows in
        let is : node ≡ at = cc in
        omega (arith, here, is, high) in
        let below : node < opened.size.nodes = route.unknown unknown in
        absurd (omega (arith, below, nodes_few, high)))
        (cases_lt node (2 ^ 8))

    short_seen : (lanes : ℕ) (m : Moment) (ingress node seen cut : ℕ) → IsSeen opened lanes m end ingress key (Some node) seen cut → (node < 2 ^ 64) × (seen < 2 ^ 64)
    short_seen lanes m ingress node seen cut is =
        let few = few_nodes is.flows node (map_fits seen is.flows is.at) is.sends in
        (omega (arith, few), few_versions seen is.phase.early)

    short_record : (lanes : ℕ) (m : Moment) (node fib cut : ℕ) (info : Record) → IsAnswered opened lanes m end key node fib cut (Some info) → IsShortRecord info
    short_record lanes m node fib cut info is =
        let fits = All-contains FlowFits is.flows (record { key = key; node = node; info = info }) (map_fits fib is.flows is.at) is.answers in
        record { teid = omega (arith, fits.record_value.teid); base = fits.record_value.base }

    -- the numbers of an allowed reply to a packet of this key are ones that texts tell apart
    pub short_path : (lanes : ℕ) (m : Moment) (ingress : ℕ) (reply : Reply) (Rest : Moment → Type 0) → PathThen opened lanes m end ingress key reply Rest → IsShort reply
    short_path lanes m ingress (Found node seen fib info) Rest (cut, fib_cut, s, a, rest) =
        let path = short_seen lanes m ingress node seen cut s in
        (record { node_few = path.0; seen_few = path.1; fib_few = few_versions fib a.phase.early }, short_record lanes m node fib fib_cut info a)
    short_path lanes m ingress (Unknown node seen fib) Rest (cut, fib_cut, s, a, rest) =
        let path = short_seen lanes m ingress node seen cut s in
        record { node_few = path.0; seen_few = path.1; fib_few = few_versions fib a.phase.early }
    short_path lanes m ingress (Nowhere seen) Rest (cut, s, rest) = few_versions seen s.phase.early
    short_path lanes m ingress _ Rest path = absurd path
