-- The reply to a packet by first turns of its key's owner that its lane may have seen is a path of the model.
use Rattle.std.proofs.Common.{◌≡◌, ◌∙◌, ◌+◌, ◌%◌, ◌<◌, ◌≤◌, ℕ, Bool, true, false, cond, List, length, Option, Some, None, refl, sym, ap, subst, arith}
use Rattle.std.specs.Prelude.{◌==◌, ◌&&◌, IfSome}
use Rattle.std.proofs.lemmas.Bool.{and_parts, eqb-true}
use Rattle.std.proofs.lemmas.List.Elements.{All-contains}
use Rattle.flow_types.proofs.Prefixes.{prefix_self}
use Rattle.flow_types.specs.declared.key.FlowKey.{FlowKey}
use Rattle.flow_types.specs.declared.record.Flow.{Flow}
use Rattle.flow_types.specs.declared.record.Record.{Record}
use Rattle.flow_types.specs.Map.{Knows, flow_at}
use Rattle.flow_types.specs.Size.{Size, IsShape}
use Rattle.hash_family.specs.Hash.{place}
use Rattle.block_layout.specs.Candidate.{candidate}
use Rattle.group_search.specs.Decoding.{decode, decoded}
use Rattle.group_search.specs.Home.{Home, home}
use Rattle.group_search.specs.Records.{content_of}
use Rattle.group_search.proofs.EachFlow.{gives_each_handler}
use Rattle.group_history.specs.declared.change.Change.{Change}
use Rattle.group_history.specs.Routes.{Answer, Route, handled_record}
use Rattle.flow_types.specs.Key.{IsKeyValue}
use Rattle.packet_reader.specs.declared.event.Part.{Part}
use Rattle.packet_reader.specs.declared.event.Part.TheVariants.{Table, Fib}
use Rattle.group_history.specs.History.{map_now}
use Rattle.group_search.proofs.NodesBelow.{decoded_below}
use Rattle.group_history.proofs.Answers.{map_answers}
use Rattle.run_model.specs.Allowed.{Cuts, IsAnswered, IsAtVersion, IsOfPhase, IsSeen, Moment, PathThen, after_answered, after_seen, changes_of_key, with_cut}
use Rattle.run_model.specs.Laws.{EachVersionIsAPath}
use Rattle.run_model.specs.Packets.{Stood, answer_of, first_changes, fib_record_after, reply_by_turns, reply_sent, version_after}
use Rattle.run_model.specs.Paths.{Stands, cuts_of}
use Rattle.run_model.specs.Sound.{AreSoundJournals, IsSound}
use Rattle.run_model.specs.State.{Journals, ClusterOpening, home_of_key, journal_of, owner_of_group}
use Rattle.run_model.proofs.Cuts.{HasCut, count-grows, grows-to-take, next-cut, take-grows}
use Rattle.run_model.proofs.Firsts.{at-first}
use Rattle.run_model.proofs.Parts.{sends_there, sent_after}
use Rattle.run_model.proofs.Records.{goes-by-record}

-- ---- a sound map

module _ (size : Size) (shape : IsShape size.nodes size.blocks) (flows : List Flow) (sound : IsSound size.nodes flows) (key : FlowKey) where
  to-handler : (to : Option ℕ) → decoded size key (content_of size.nodes flows) ≡ to → (node : ℕ) (info : Record) → Knows flows key node info → to ≡ Some node
  to-handler to is node info knows =
      let gives = gives_each_handler size flows sound.content shape sound.distinct sound.handled sound.content_is in
      sym is ∙ ap (decoded size key) sound.content_is
      ∙ All-contains (λ (flow : Flow). decode sound.content size.nodes flow.key ≡ Some flow.node) flows (record { key = key; node = node; info = info }) gives knows

  to-below : (to : Option ℕ) → decoded size key (content_of size.nodes flows) ≡ to → IfSome to (λ node. node < size.nodes)
  to-below None is = tt
  to-below (Some node) is = decoded_below size flows key node sound.handled is

  sends : (to : Option ℕ) → decoded size key (content_of size.nodes flows) ≡ to → Route size.nodes flows key to
  sends to is = record { known = to-handler to is; unknown = λ none. to-below to is }

  answers : IsKeyValue key → (node : ℕ) (said : Option Record) → handled_record node (flow_at key flows) ≡ said → Answer flows node key said
  answers value node said is = subst (Answer flows node key) is (map_answers flows sound.distinct sound.values node key value)

-- ---- cuts that move

with-cut-within : (cuts : Cuts) (most : (lane node owner : ℕ) → ℕ) (lane node owner cut : ℕ) → ((l n o : ℕ) → cuts l n o ≤ most l n o) → cut ≤ most lane node owner
    → (l n o : ℕ) → with_cut cuts lane node owner cut l n o ≤ most l n o
with-cut-within cuts most lane node owner cut all here l n o = by ((l == lane) && (n == node) && (o == owner)) refl
  where
    by : (moved : Bool) → ((l == lane) && (n == node) && (o == owner)) ≡ moved → cond moved cut (cuts l n o) ≤ most l n o
    by true is =
        let outer = and_parts ((l == lane) && (n == node)) (o == owner) is in
        let inner = and_parts (l == lane) (n == node) outer.0 in
        let lane_is = eqb-true l lane inner.0 in
        let node_is = eqb-true n node inner.1 in
        let owner_is = eqb-true o owner outer.1 in
        rw (lane_is, node_is, owner_is) here
    by false is = all l n o

-- ---- the packet

module _ (opened : ClusterOpening) (shape : IsShape opened.size.nodes opened.size.blocks) (ends : Journals) (sounds : AreSoundJournals opened ends)
    (m : Moment) (stood : (lane : ℕ) → Stood) (stands : Stands opened ends m stood) (key : FlowKey) (value : IsKeyValue key) where
  abbrev at_home : Home
  at_home = home_of_key opened key

  abbrev owner : ℕ
  owner = owner_of_group opened at_home

  abbrev first : (turns : ℕ) → List Change
  first turns = first_changes opened ends key turns

  abbrev flows_there : (turns : ℕ) → List Flow
  flows_there turns = map_now opened.size opened.flows (first turns) at_home

  at-there : (turns : ℕ) → IsAtVersion opened (changes_of_key opened ends key) key (version_after opened (first turns) key) (flows_there turns)
  at-there turns = at-first opened (journal_of ends owner) (journal_of ends owner) (prefix_self (journal_of ends owner)) key turns

  phase-there : (turns : ℕ) → length (journal_of m.start owner) ≤ turns → IsOfPhase opened m.start ends key (version_after opened (first turns) key)
  phase-there turns late = record {
    late = count-grows at_home (journal_of m.start owner) (first turns) (grows-to-take (journal_of m.start owner) (journal_of ends owner) turns (stands.grown owner) late);
    early = count-grows at_home (first turns) (changes_of_key opened ends key) (take-grows (journal_of ends owner) turns);
  }

  cut-there : (turns before : ℕ) → before ≤ turns → HasCut at_home (changes_of_key opened ends key) (version_after opened (first turns) key) before turns
  cut-there turns before low = next-cut at_home (changes_of_key opened ends key) (version_after opened (first turns) key) before turns low refl

  sound-there : (turns : ℕ) → IsSound opened.size.nodes (flows_there turns)
  unfolding home place candidate
  sound-there turns =
      let blocks = shape.enough_blocks in
      sounds owner turns at_home (omega arith) (omega arith)

  -- the moment with other cuts
  stands-with : (packets : ℕ) (tables fibs : Cuts) → ((l n o : ℕ) → tables l n o ≤ stood l Table n o) → ((l n o : ℕ) → fibs l n o ≤ stood l Fib n o)
      → Stands opened ends (record m { packets = packets; tables = tables; fibs = fibs }) stood
  stands-with packets tables fibs tables_within fibs_within = record { grown = stands.grown; late = stands.late; cuts = both }
    where
      both : (part : Part) (l n o : ℕ) → cuts_of part (record m { packets = packets; tables = tables; fibs = fibs }) l n o ≤ stood l part n o
      both Table = tables_within
      both Fib = fibs_within

  module _ (lanes ingress : ℕ) (entered : ingress < opened.size.nodes) where
    abbrev lane : ℕ
    lane = m.packets % lanes

    -- how many turns the lane's reader has seen
    abbrev turns : Part → (node : ℕ) → ℕ
    turns part node = stood lane part node owner

    abbrev cut-of : (part : Part) (node : ℕ) → HasCut at_home (changes_of_key opened ends key) (version_after opened (first (turns part node)) key) (cuts_of part m lane node owner) (turns part node)
    cut-of part node = cut-there (turns part node) (cuts_of part m lane node owner) (stands.cuts part lane node owner)

    abbrev seen : ℕ
    seen = version_after opened (first (turns Table ingress)) key

    is-seen : (to : Option ℕ) → sent_after opened (first (turns Table ingress)) key ≡ to → IsSeen opened lanes m ends ingress key to seen (cut-of Table ingress).cut
    is-seen to is = record {
      flows = flows_there (turns Table ingress);
      at = at-there (turns Table ingress);
      sends = sends opened.size shape (flows_there (turns Table ingress)) (sound-there (turns Table ingress)) key to (sends_there opened (first (turns Table ingress)) key ∙ is);
      phase = phase-there (turns Table ingress) (stands.late lane Table ingress owner entered);
      cut_is = (cut-of Table ingress).next;
    }

    tables-within : (l n o : ℕ) → with_cut m.tables lane ingress owner (cut-of Table ingress).cut l n o ≤ stood l Table n o
    tables-within = with-cut-within m.tables (λ l n o. stood l Table n o) lane ingress owner (cut-of Table ingress).cut (stands.cuts Table) (cut-of Table ingress).within

    stands-seen : Stands opened ends (after_seen opened lanes m ingress key (cut-of Table ingress).cut) stood
    stands-seen = stands-with (m.packets + 1) (with_cut m.tables lane ingress owner (cut-of Table ingress).cut) m.fibs tables-within (stands.cuts Fib)

    module _ (node : ℕ) (sent : sent_after opened (first (turns Table ingress)) key ≡ Some node) where
      node-low : node < opened.size.nodes
      node-low = decoded_below opened.size (flows_there (turns Table ingress)) key node (sound-there (turns Table ingress)).handled (sends_there opened (first (turns Table ingress)) key ∙ sent)

      abbrev fib : ℕ
      fib = version_after opened (first (turns Fib node)) key

      is-answered : (said : Option Record) → fib_record_after opened (first (turns Fib node)) node key ≡ said → IsAnswered opened lanes m ends key node fib (cut-of Fib node).cut said
      unfolding fib_record_after
      is-answered said is = record {
        flows = flows_there (turns Fib node);
        at = at-there (turns Fib node);
        answers = answers opened.size shape (flows_there (turns Fib node)) (sound-there (turns Fib node)) key value node said is;
        phase = phase-there (turns Fib node) (stands.late lane Fib node owner node-low);
        cut_is = (cut-of Fib node).next;
      }

      stands-answered : Stands opened ends (after_answered opened lanes m ingress node key (cut-of Table ingress).cut (cut-of Fib node).cut) stood
      stands-answered =
          stands-with (m.packets + 1) (with_cut m.tables lane ingress owner (cut-of Table ingress).cut) (with_cut m.fibs lane node owner (cut-of Fib node).cut) tables-within
          (with-cut-within m.fibs (λ l n o. stood l Fib n o) lane node owner (cut-of Fib node).cut (stands.cuts Fib) (cut-of Fib node).within)

    module _ (Rest : Moment → Type 0)
        (goes_on : (tables fibs : Cuts) → Stands opened ends (record m { packets = m.packets + 1; tables = tables; fibs = fibs }) stood
        → Rest (record m { packets = m.packets + 1; tables = tables; fibs = fibs })) where
      answered-path : (node : ℕ) (sent : sent_after opened (first (turns Table ingress)) key ≡ Some node) → (said : Option Record)
          → fib_record_after opened (first (turns Fib node)) node key ≡ said
          → PathThen opened lanes m ends ingress key (answer_of node seen (fib node sent) said) Rest
      answered-path node sent (Some info) is =
          ((cut-of Table ingress).cut, (cut-of Fib node).cut, is-seen (Some node) sent, is-answered node sent (Some info) is, goes_on _ _ (stands-answered node sent))
      answered-path node sent None is =
          ((cut-of Table ingress).cut, (cut-of Fib node).cut, is-seen (Some node) sent, is-answered node sent None is, goes_on _ _ (stands-answered node sent))

      sent-path : (to : Option ℕ) → sent_after opened (first (turns Table ingress)) key ≡ to
          → PathThen opened lanes m ends ingress key (reply_sent opened (first (turns Table ingress)) (λ (node : ℕ). first (turns Fib node)) key to) Rest
      sent-path (Some node) sent = answered-path node sent (fib_record_after opened (first (turns Fib node)) node key) refl
      sent-path None sent = ((cut-of Table ingress).cut, is-seen None sent, goes_on _ _ stands-seen)

      -- the reply to a packet is a path, and the run goes on from a moment that stands
      pub path-then : PathThen opened lanes m ends ingress key (reply_by_turns opened ends (stood lane) ingress key) Rest
      path-then = sent-path (sent_after opened (first (turns Table ingress)) key) refl

pub each_version_is_a_path : EachVersionIsAPath
each_version_is_a_path opened lanes ends m stood ingress key shape sounds stands entered value = record {
  path = path-then opened shape ends sounds m stood stands key value lanes ingress entered (λ (next : Moment). Unit {0})
      (λ (tables fibs : Cuts) (then : Stands opened ends (record m { packets = m.packets + 1; tables = tables; fibs = fibs }) stood). tt);
  by_record = goes-by-record opened ends (stood (m.packets % lanes)) ingress key;
}
