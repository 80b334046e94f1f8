-- No lane goes back: its cuts only rise, and a version is a count up to a cut.
use Rattle.std.proofs.Common.{◌≡◌, ◌∙◌, ◌+◌, ◌%◌, ◌≤◌, ◌<◌, ℕ, Bool, true, false, cond, List, [], ◌∷◌, length, take, refl, sym, ap, subst, arith, ⊎_elim, eq-eqb}
use Rattle.std.specs.Prelude.{◌==◌, ◌&&◌}
use Rattle.std.proofs.lemmas.Bool.{and_parts, cases_lt, eqb-true}
use Rattle.std.proofs.lemmas.List.{take-take, take_all}
use mathlib.Core.List.{IsPrefix}
use Rattle.flow_types.specs.declared.key.FlowKey.{FlowKey}
use Rattle.group_search.specs.Home.{Home}
use Rattle.group_history.specs.declared.change.Change.{Change}
use Rattle.group_history.specs.Journal.{change_count}
use Rattle.packet_reader.specs.declared.event.Event.{Event}
use Rattle.packet_reader.specs.declared.event.Event.TheVariants.{Set, Del, Packet, Carry, Sync}
use Rattle.packet_reader.specs.declared.event.Part.{Part}
use Rattle.packet_reader.specs.declared.event.Part.TheVariants.{Table, Fib}
use Rattle.group_history.specs.declared.update.Update.TheVariants as update
use Rattle.run_model.specs.declared.reply.Reply.{Reply}
use Rattle.run_model.specs.declared.reply.Reply.TheVariants.{Found, Unknown, Nowhere}
use Rattle.run_model.specs.Allowed.{AllowedFrom, Cuts, Moment, PathThen, beginning, phase_end, with_cut}
use Rattle.run_model.specs.Carrying.{after_carry, after_sync}
use Rattle.run_model.specs.Lanes.{NeverFalls, StaysFrom, StoodAt}
use Rattle.run_model.specs.Laws.{NoLaneGoesBack}
use Rattle.run_model.specs.Paths.{cuts_of}
use Rattle.run_model.specs.State.{Journals, ClusterOpening, Taken, home_of_key, journal_of, owner_of_group}
use Rattle.run_model.specs.Updates.{after_update}
use Rattle.run_model.proofs.Accepting.{phase-grows}
use Rattle.run_model.proofs.Cuts.{count-grows, grown-take, grows-to-take, take-grows}

-- ---- counts up to a cut

module _ (at : Home) where
  -- no later cut has fewer changes before it
  later-counts : (changes : List Change) (cut later : ℕ) → cut ≤ later → change_count at (take cut changes) ≤ change_count at (take later changes)
  later-counts changes cut later low =
      count-grows at (take cut changes) (take later changes)
      (subst (λ (first : List Change). IsPrefix first (take later changes)) (take-take cut later changes low) (take-grows (take later changes) cut))

  -- nor has a cut fewer in a longer journal
  longer-counts : (before after : List Change) (cut : ℕ) → IsPrefix before after → change_count at (take cut before) ≤ change_count at (take cut after)
  longer-counts before after cut grows =
      ⊎_elim
      (λ (past : length before < cut).
      rw (take_all cut before (omega (arith, past))) (count-grows at before (take cut after) (grows-to-take before after cut grows (omega (arith, past)))))
      (λ (within : cut ≤ length before). rw (grown-take before after cut grows within) (omega arith))
      (cases_lt (length before) cut)

-- ---- cuts that move

with-cut-rises : (cuts : Cuts) (lane node owner cut : ℕ) → cuts lane node owner ≤ cut → (l n o : ℕ) → cuts l n o ≤ with_cut cuts lane node owner cut l n o
with-cut-rises cuts lane node owner cut rises l n o = by ((l == lane) && (n == node) && (o == owner)) refl
  where
    by : (moved : Bool) → ((l == lane) && (n == node) && (o == owner)) ≡ moved → cuts l n o ≤ cond moved cut (cuts l n o)
    by true is =
        let outer = and_parts ((l == lane) && (n == node)) (o == owner) is in
        let inner = and_parts (l == lane) (n == node) outer.0 in
        rw (eqb-true l lane inner.0, eqb-true n node inner.1, eqb-true o owner outer.1) rises
    by false is = omega arith

with-cut-here : (cuts : Cuts) (lane node owner cut : ℕ) → with_cut cuts lane node owner cut lane node owner ≡ cut
with-cut-here cuts lane node owner cut = rw (eq-eqb lane lane refl, eq-eqb node node refl, eq-eqb owner owner refl) refl

looked : (at : Home) (changes : List Change) (cuts : Cuts) (lane node owner cut by_node version at_version : ℕ) → node ≡ by_node → at_version ≡ version
    → change_count at (take cut changes) ≡ at_version → version ≡ change_count at (take (with_cut cuts lane node owner cut lane by_node owner) changes)
looked at changes cuts lane node owner cut by_node version at_version node_is version_is counts =
    sym version_is ∙ sym counts
    ∙ ap (λ (c : ℕ). change_count at (take c changes)) (sym (with-cut-here cuts lane node owner cut) ∙ ap (λ (n : ℕ). with_cut cuts lane node owner cut lane n owner) node_is)

same-cuts : (part : Part) (m : Moment) (start now : Journals) (nodes : List Taken) → cuts_of part (record m { start = start; now = now; nodes = nodes }) ≡ cuts_of part m
same-cuts Table m start now nodes = refl
same-cuts Fib m start now nodes = refl

module _ (opened : ClusterOpening) (lanes : ℕ) where
  -- how many of a group's changes there are up to a lane's cut
  abbrev up_to : Moment → Journals → Part → (lane node : ℕ) → Home → ℕ
  up_to m end part lane node at = change_count at (take (cuts_of part m lane node (owner_of_group opened at)) (journal_of end (owner_of_group opened at)))

  module _ (m : Moment) (end : Journals) (ingress : ℕ) (key : FlowKey) where
    abbrev at_home : Home
    at_home = home_of_key opened key

    abbrev owner : ℕ
    owner = owner_of_group opened at_home

    abbrev lane : ℕ
    lane = m.packets % lanes

    abbrev moved : Cuts → Cuts → Moment
    moved tables fibs = record m { packets = m.packets + 1; tables = tables; fibs = fibs }

    -- what a path makes of the cuts
    record After (reply : Reply) (Rest : Moment → Type 0) : Type 0 where
      tables : Cuts
      fibs : Cuts
      rest : Rest (moved tables fibs)
      tables_rise : (l n o : ℕ) → m.tables l n o ≤ tables l n o
      fibs_rise : (l n o : ℕ) → m.fibs l n o ≤ fibs l n o
      stood : (part : Part) (node version : ℕ) → StoodAt part ingress reply node version → version ≡ up_to (moved tables fibs) end part lane node at_home

    path-after : (reply : Reply) (Rest : Moment → Type 0) → PathThen opened lanes m end ingress key reply Rest → After reply Rest
    path-after (Found to seen fib info) Rest (cut, fib_cut, s, a, rest) = record {
      tables = with_cut m.tables lane ingress owner cut;
      fibs = with_cut m.fibs lane to owner fib_cut;
      rest = rest;
      tables_rise = with-cut-rises m.tables lane ingress owner cut s.cut_is.not_before;
      fibs_rise = with-cut-rises m.fibs lane to owner fib_cut a.cut_is.not_before;
      stood = stood;
    }
      where
        stood : (part : Part) (node version : ℕ) → StoodAt part ingress (Found to seen fib info) node version
            → version ≡ up_to (moved (with_cut m.tables lane ingress owner cut) (with_cut m.fibs lane to owner fib_cut)) end part lane node at_home
        stood Table node version is = looked at_home (journal_of end owner) m.tables lane ingress owner cut node version seen is.0 is.1 s.cut_is.counts
        stood Fib node version is = looked at_home (journal_of end owner) m.fibs lane to owner fib_cut node version fib is.0 is.1 a.cut_is.counts
    path-after (Unknown to seen fib) Rest (cut, fib_cut, s, a, rest) = record {
      tables = with_cut m.tables lane ingress owner cut;
      fibs = with_cut m.fibs lane to owner fib_cut;
      rest = rest;
      tables_rise = with-cut-rises m.tables lane ingress owner cut s.cut_is.not_before;
      fibs_rise = with-cut-rises m.fibs lane to owner fib_cut a.cut_is.not_before;
      stood = stood;
    }
      where
        stood : (part : Part) (node version : ℕ) → StoodAt part ingress (Unknown to seen fib) node version
            → version ≡ up_to (moved (with_cut m.tables lane ingress owner cut) (with_cut m.fibs lane to owner fib_cut)) end part lane node at_home
        stood Table node version is = looked at_home (journal_of end owner) m.tables lane ingress owner cut node version seen is.0 is.1 s.cut_is.counts
        stood Fib node version is = looked at_home (journal_of end owner) m.fibs lane to owner fib_cut node version fib is.0 is.1 a.cut_is.counts
    path-after (Nowhere seen) Rest (cut, s, rest) = record {
      tables = with_cut m.tables lane ingress owner cut;
      fibs = m.fibs;
      rest = rest;
      tables_rise = with-cut-rises m.tables lane ingress owner cut s.cut_is.not_before;
      fibs_rise = λ l n o. omega arith;
      stood = stood;
    }
      where
        stood : (part : Part) (node version : ℕ) → StoodAt part ingress (Nowhere seen) node version
            → version ≡ up_to (moved (with_cut m.tables lane ingress owner cut) m.fibs) end part lane node at_home
        stood Table node version is = looked at_home (journal_of end owner) m.tables lane ingress owner cut node version seen is.0 is.1 s.cut_is.counts
        stood Fib node version is = absurd is
    path-after _ Rest path = absurd path

    -- counts up to cuts only rise
    rises : (reply : Reply) (Rest : Moment → Type 0) (after : After reply Rest) (part : Part) (l node : ℕ) (at : Home)
        → up_to m end part l node at ≤ up_to (moved after.tables after.fibs) end part l node at
    rises reply Rest after Table l node at = later-counts at _ _ _ (after.tables_rise l node (owner_of_group opened at))
    rises reply Rest after Fib l node at = later-counts at _ _ _ (after.fibs_rise l node (owner_of_group opened at))

  -- ---- the rest of a script

  module _ (lane : ℕ) (part : Part) (node : ℕ) (at : Home) (version : ℕ) where
    later-stood : (m : Moment) (end : Journals) (ingress : ℕ) (key : FlowKey) (reply : Reply) (Rest : Moment → Type 0) (after : After m end ingress key reply Rest)
        → version ≤ up_to m end part lane node at → (later : ℕ) → m.packets % lanes ≡ lane → home_of_key opened key ≡ at → StoodAt part ingress reply node later → version ≤ later
    later-stood m end ingress key reply Rest after low later lane_is home_is stood =
        let is = after.stood part node later stood in
        let here : later ≡ up_to (moved m end ingress key after.tables after.fibs) end part lane node at =
        is ∙ ap (λ (l : ℕ). up_to (moved m end ingress key after.tables after.fibs) end part l node (home_of_key opened key)) lane_is
        ∙ ap (λ (h : Home). up_to (moved m end ingress key after.tables after.fibs) end part lane node h) home_is in
        omega (arith, low, rises m end ingress key reply Rest after part lane node at, here)

    -- what is not a packet moves no cut
    carried : (m : Moment) (start now : Journals) (nodes : List Taken) (end : Journals) → version ≤ up_to m end part lane node at
        → version ≤ up_to (record m { start = start; now = now; nodes = nodes }) end part lane node at
    carried m start now nodes end low =
        subst (λ (cuts : Cuts). version ≤ change_count at (take (cuts lane node (owner_of_group opened at)) (journal_of end (owner_of_group opened at))))
        (sym (same-cuts part m start now nodes)) low

    stays : (script : List Event) (replies : List Reply) (m : Moment) → AllowedFrom opened lanes m script replies
        → version ≤ up_to m (phase_end opened m.now script) part lane node at → StaysFrom opened lanes lane part node at version m.packets script replies
    unfolding phase_end
    stays [] replies m allowed low = tt
    stays (Set flow ∷ script) [] m allowed low = absurd allowed
    stays (Del key ∷ script) [] m allowed low = absurd allowed
    stays (Packet ingress key ∷ script) [] m allowed low = absurd allowed
    stays (Carry of whose turn which ∷ script) [] m allowed low = absurd allowed
    stays (Sync ∷ script) [] m allowed low = absurd allowed
    stays (Set flow ∷ script) (reply ∷ replies) m allowed low =
        let now = after_update opened m.now (update.Set flow) in
        stays script replies (record m { now = now }) allowed.1 (carried m m.start now m.nodes (phase_end opened now script) low)
    stays (Del key ∷ script) (reply ∷ replies) m allowed low =
        let now = after_update opened m.now (update.Del key) in
        stays script replies (record m { now = now }) allowed.1 (carried m m.start now m.nodes (phase_end opened now script) low)
    stays (Packet ingress key ∷ script) (reply ∷ replies) m allowed low =
        let end = phase_end opened m.now script in
        let Rest : Moment → Type 0 = λ next. AllowedFrom opened lanes next script replies in
        let after = path-after m end ingress key reply Rest allowed in
        let next = moved m end ingress key after.tables after.fibs in (
          later-stood m end ingress key reply Rest after low,
          stays script replies next after.rest (omega (arith, low, rises m end ingress key reply Rest after part lane node at)),
        )
    stays (Carry of whose turn which ∷ script) (reply ∷ replies) m allowed low =
        let nodes = after_carry m.now m.nodes of whose turn which in
        stays script replies (record m { nodes = nodes }) allowed.1 (carried m m.start m.now nodes (phase_end opened m.now script) low)
    stays (Sync ∷ script) (reply ∷ replies) m allowed low =
        let nodes = after_sync m.now m.nodes in
        let end = phase_end opened m.now script in
        let longer = longer-counts at (journal_of m.now (owner_of_group opened at)) (journal_of end (owner_of_group opened at)) (cuts_of part m lane node (owner_of_group opened at))
        (phase-grows opened script m.now (owner_of_group opened at)) in
        stays script replies (record m { start = m.now; nodes = nodes }) allowed.1 (carried m m.now m.now nodes end (omega (arith, low, longer)))

  never-falls : (script : List Event) (replies : List Reply) (m : Moment) → AllowedFrom opened lanes m script replies → NeverFalls opened lanes m.packets script replies
  never-falls [] replies m allowed = tt
  never-falls (Set flow ∷ script) [] m allowed = absurd allowed
  never-falls (Del key ∷ script) [] m allowed = absurd allowed
  never-falls (Packet ingress key ∷ script) [] m allowed = absurd allowed
  never-falls (Carry of whose turn which ∷ script) [] m allowed = absurd allowed
  never-falls (Sync ∷ script) [] m allowed = absurd allowed
  never-falls (Set flow ∷ script) (reply ∷ replies) m allowed = never-falls script replies (record m { now = after_update opened m.now (update.Set flow) }) allowed.1
  never-falls (Del key ∷ script) (reply ∷ replies) m allowed = never-falls script replies (record m { now = after_update opened m.now (update.Del key) }) allowed.1
  never-falls (Packet ingress key ∷ script) (reply ∷ replies) m allowed =
      let end = phase_end opened m.now script in
      let Rest : Moment → Type 0 = λ next. AllowedFrom opened lanes next script replies in
      let after = path-after m end ingress key reply Rest allowed in
      let next = moved m end ingress key after.tables after.fibs in (
        λ part node version stood.
            stays (m.packets % lanes) part node (home_of_key opened key) version script replies next after.rest (omega (arith, after.stood part node version stood)),
        never-falls script replies next after.rest,
      )
  never-falls (Carry of whose turn which ∷ script) (reply ∷ replies) m allowed =
      never-falls script replies (record m { nodes = after_carry m.now m.nodes of whose turn which }) allowed.1
  never-falls (Sync ∷ script) (reply ∷ replies) m allowed =
      never-falls script replies (record m { start = m.now; nodes = after_sync m.now m.nodes }) allowed.1

pub no_lane_goes_back : NoLaneGoesBack
no_lane_goes_back opened lanes script replies allowed = never-falls opened lanes script replies (beginning opened) allowed
