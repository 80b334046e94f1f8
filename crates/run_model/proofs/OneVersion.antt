-- Where ingress and node stand at one version, the reply tells of the group's map at this version.
use Rattle.std.proofs.Common.{◌≡◌, ◌∙◌, ℕ, List, [], ◌∷◌, Some, None, refl, sym, ap, subst}
use Rattle.flow_types.specs.declared.key.FlowKey.{FlowKey}
use Rattle.flow_types.specs.declared.record.Flow.{Flow}
use Rattle.flow_types.specs.declared.record.Record.{Record}
use Rattle.flow_types.specs.Map.{Knows}
use Rattle.group_search.specs.Home.{opening}
use Rattle.group_history.specs.declared.change.Change.{Change}
use Rattle.group_history.specs.History.{at_version}
use Rattle.packet_reader.specs.declared.event.Event.{Event}
use Rattle.packet_reader.specs.declared.event.Event.TheVariants.{Set, Del, Packet, Carry, Sync}
use Rattle.group_history.specs.declared.update.Update.TheVariants as update
use Rattle.run_model.specs.declared.reply.Reply.{Reply}
use Rattle.run_model.specs.declared.reply.Reply.TheVariants.{Found, Unknown, Nowhere}
use Rattle.run_model.specs.Allowed.{AllowedFrom, IsAnswered, IsAtVersion, IsSeen, Moment, PathThen, beginning, changes_of_key, phase_end}
use Rattle.run_model.specs.Carrying.{after_carry, after_sync}
use Rattle.run_model.specs.Laws.{OneVersionTells}
use Rattle.run_model.specs.State.{Journals, ClusterOpening, home_of_key}
use Rattle.run_model.specs.Told.{EachPacket, TellsAtOneVersion}
use Rattle.run_model.specs.Updates.{after_update}

-- a group has one map at a version
one_map : (opened : ClusterOpening) (changes : List Change) (key : FlowKey) (version other : ℕ) (flows others : List Flow) → IsAtVersion opened changes key version flows
    → IsAtVersion opened changes key other others → version ≡ other → flows ≡ others
one_map opened changes key version other flows others at too same =
    let both : Some flows ≡ Some others =
    sym at ∙ ap (λ (v : ℕ). at_version (opening opened.size.blocks opened.flows (home_of_key opened key)) changes (home_of_key opened key) v) same ∙ too in
    cc

module _ (opened : ClusterOpening) (lanes : ℕ) (m : Moment) (end : Journals) (ingress : ℕ) (key : FlowKey) where
  -- a packet that is sent to a node which doesn't know its flow has a key that the map doesn't know
  none-known : (node seen cut fib fib_cut : ℕ) (flows : List Flow) → (s : IsSeen opened lanes m end ingress key (Some node) seen cut)
      → (a : IsAnswered opened lanes m end key node fib fib_cut None) → s.flows ≡ flows → a.flows ≡ flows
      → (at : ℕ) (info : Record) → ¬ Knows flows key at info
  none-known node seen cut fib fib_cut flows s a seen_is fib_is at info knows =
      let sent : Some node ≡ Some at = s.sends.known at info (subst (λ (fs : List Flow). Knows fs key at info) (sym seen_is) knows) in
      let same : at ≡ node = cc in
      a.answers info (subst (λ (n : ℕ). Knows a.flows key n info) same (subst (λ (fs : List Flow). Knows fs key at info) (sym fib_is) knows))

  nowhere-known : (seen cut : ℕ) (flows : List Flow) → (s : IsSeen opened lanes m end ingress key None seen cut) → s.flows ≡ flows
      → (at : ℕ) (info : Record) → ¬ Knows flows key at info
  nowhere-known seen cut flows s seen_is at info knows =
      let sent : None ≡ Some at = s.sends.known at info (subst (λ (fs : List Flow). Knows fs key at info) (sym seen_is) knows) in cc

  -- a path tells of the map, and what comes after it goes on
  path-tells : (reply : Reply) (Rest : Moment → Type 0) → PathThen opened lanes m end ingress key reply Rest → TellsAtOneVersion opened end key reply
  path-tells (Found node seen fib info) Rest (cut, fib_cut, s, a, rest) version flows by at =
      let there = one_map opened (changes_of_key opened end key) key fib version a.flows flows a.at at by.1 in
      subst (λ (fs : List Flow). Knows fs key node info) there a.answers
  path-tells (Unknown node seen fib) Rest (cut, fib_cut, s, a, rest) version flows by at =
      none-known node seen cut fib fib_cut flows s a (one_map opened (changes_of_key opened end key) key seen version s.flows flows s.at at by.0)
      (one_map opened (changes_of_key opened end key) key fib version a.flows flows a.at at by.1)
  path-tells (Nowhere seen) Rest (cut, s, rest) version flows by at =
      nowhere-known seen cut flows s (one_map opened (changes_of_key opened end key) key seen version s.flows flows s.at at by)
  path-tells _ Rest path version flows by at = absurd path

  -- the moment after a path
  record GoesOn (Rest : Moment → Type 0) : Type 0 where
    next : Moment
    now_is : next.now ≡ m.now
    holds : Rest next

  path-goes_on : (reply : Reply) (Rest : Moment → Type 0) → PathThen opened lanes m end ingress key reply Rest → GoesOn Rest
  path-goes_on (Found node seen fib info) Rest (cut, fib_cut, s, a, rest) = record { next = _; now_is = refl; holds = rest }
  path-goes_on (Unknown node seen fib) Rest (cut, fib_cut, s, a, rest) = record { next = _; now_is = refl; holds = rest }
  path-goes_on (Nowhere seen) Rest (cut, s, rest) = record { next = _; now_is = refl; holds = rest }
  path-goes_on _ Rest path = absurd path

module _ (opened : ClusterOpening) (lanes : ℕ) where
  allowed-tells : (script : List Event) (replies : List Reply) (m : Moment) → AllowedFrom opened lanes m script replies
      → EachPacket opened (TellsAtOneVersion opened) m.now script replies
  allowed-tells [] [] m allowed = tt
  allowed-tells [] (reply ∷ replies) m allowed = allowed
  allowed-tells (event ∷ script) [] m allowed = by event allowed
    where
      by : (event : Event) → AllowedFrom opened lanes m (event ∷ script) [] → EachPacket opened (TellsAtOneVersion opened) m.now (event ∷ script) []
      by (Set flow) allowed = allowed
      by (Del key) allowed = allowed
      by (Packet ingress key) allowed = allowed
      by (Carry node owner turn part) allowed = allowed
      by Sync allowed = allowed
  allowed-tells (Set flow ∷ script) (reply ∷ replies) m allowed =
      allowed-tells script replies (record m { now = after_update opened m.now (update.Set flow) }) allowed.1
  allowed-tells (Del key ∷ script) (reply ∷ replies) m allowed =
      allowed-tells script replies (record m { now = after_update opened m.now (update.Del key) }) allowed.1
  allowed-tells (Packet ingress key ∷ script) (reply ∷ replies) m allowed =
      let Rest : Moment → Type 0 = λ next. AllowedFrom opened lanes next script replies in
      let after = path-goes_on opened lanes m (phase_end opened m.now script) ingress key reply Rest allowed in (
        path-tells opened lanes m (phase_end opened m.now script) ingress key reply Rest allowed,
        subst (λ (js : Journals). EachPacket opened (TellsAtOneVersion opened) js script replies) after.now_is (allowed-tells script replies after.next after.holds),
      )
  allowed-tells (Carry node owner turn part ∷ script) (reply ∷ replies) m allowed =
      allowed-tells script replies (record m { nodes = after_carry m.now m.nodes node owner turn part }) allowed.1
  allowed-tells (Sync ∷ script) (reply ∷ replies) m allowed =
      allowed-tells script replies (record m { start = m.now; nodes = after_sync m.now m.nodes }) allowed.1

pub one_version_tells : OneVersionTells
one_version_tells opened lanes script replies allowed = allowed-tells opened lanes script replies (beginning opened) allowed
