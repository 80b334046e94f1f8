-- What the readers of a lane have seen are the first turns of the owners, and their replies are those of the model.
use Rattle.std.proofs.Common.{◌≡◌, ◌∙◌, ◌%◌, ◌<◌, ◌≤◌, ℕ, true, List, [], length, take, Option, Some, None, refl, sym, ap, subst, arith, length-append}
use Rattle.std.specs.Prelude.{All, fold}
use Rattle.std.proofs.lemmas.Bool.{and_from, cond-true, eq-eqb}
use Rattle.std.proofs.lemmas.Bool.Decides.{nat_tests}
use Rattle.std.proofs.Math.Seq.{take-append_seam}
use mathlib.Core.List.{IsPrefix}
use Rattle.flow_types.specs.declared.key.FlowKey.{FlowKey}
use Rattle.flow_types.specs.declared.record.Flow.{Flow}
use Rattle.flow_types.specs.Key.{number, IsKeyValue}
use Rattle.flow_types.specs.Size.{Size, IsShape, owners_in}
use Rattle.hash_family.specs.Hash.{place}
use Rattle.block_layout.specs.Candidate.{candidate}
use Rattle.group_search.specs.declared.published.Publication.{Publication}
use Rattle.group_search.specs.Home.{Home, choices, group_of, home}
use Rattle.group_search.specs.Records.{AreHandled, content_of}
use Rattle.group_history.specs.declared.change.Change.{Change}
use Rattle.packet_reader.specs.declared.event.Event.{Event}
use Rattle.packet_reader.specs.declared.event.Event.TheVariants.{Packet}
use Rattle.packet_reader.specs.declared.event.Part.{Part}
use Rattle.packet_reader.specs.declared.event.Part.TheVariants.{Table, Fib}
use Rattle.group_history.specs.History.{map_now, content_after}
use Rattle.group_search.specs.Decoding.{decoded}
use Rattle.replica_shard.specs.Shard.{ShardState, home_in_state, is_owned_block, is_owned_group, route_in_state, shard_after}
use Rattle.replica_shard.specs.Store.{shard_state_of}
use Rattle.group_search.proofs.NodesBelow.{decoded_below}
use Rattle.partial_fib.specs.Ends.{shared_after}
use Rattle.partial_fib.specs.Fib.{FibState, fib_after, record_after, with_turn}
use Rattle.flow_types.proofs.Prefixes.{prefix_self, prefix_trans}
use Rattle.partial_fib.proofs.MapAnswers.{record_by_map}
use Rattle.partial_fib.proofs.TurnFacts.{turns_make}
use Rattle.run_model.specs.declared.reply.Reply.{Reply}
use Rattle.run_model.specs.Packets.{answer_of, fib_record_after, reply_sent, version_after}
use Rattle.run_model.specs.State.{Journals, ClusterOpening, home_of_key, journal_of, owner_of_group}
use Rattle.run_model.specs.Sound.{AreSoundJournals}
use Rattle.run_model.proofs.Parts.{sends_there, sent_after}
use Rattle.storm_model.specs.Lists.{AreTurns, IsLater, Lists, Parts, SaysByLists, WalksByLists, reply_by_lists, reply_routed, stood_at, with_list}
use Rattle.storm_model.specs.Merging.{owner_of_key}
use Rattle.storm_model.specs.Run.{IsRow}
use Rattle.storm_model.specs.Stood.{Rises, SaysByTurns, Stood, WalksByTurns, all_seen, reply_by_turns}
use Rattle.storm_model.proofs.Walks.{walk-as}

-- ---- lists that go on

prefix-length : {A : Type 0} (first second : List A) → IsPrefix first second → length first ≤ length second
prefix-length first second more = omega (arith, ap length more.1, length-append first more.0)

prefix-take : {A : Type 0} (first second : List A) → IsPrefix first second → first ≡ take (length first) second
prefix-take first second more = sym (ap (take (length first)) (sym more.1) ∙ take-append_seam first more.0)

pub later-same : (lists : Lists) → IsLater lists lists
later-same lists = record { tables = λ node owner. prefix_self (lists.tables node owner); fibs = λ node owner. prefix_self (lists.fibs node owner) }

pub later-on : (a b c : Lists) → IsLater a b → IsLater b c → IsLater a c
later-on a b c first second = record {
  tables = λ node owner. prefix_trans (a.tables node owner) (b.tables node owner) (c.tables node owner) (first.tables node owner) (second.tables node owner);
  fibs = λ node owner. prefix_trans (a.fibs node owner) (b.fibs node owner) (c.fibs node owner) (first.fibs node owner) (second.fibs node owner);
}

pub stood-rises : (a b : Lists) → IsLater a b → Rises (stood_at a) (stood_at b)
stood-rises a b later Table node owner = prefix-length (a.tables node owner) (b.tables node owner) (later.tables node owner)
stood-rises a b later Fib node owner = prefix-length (a.fibs node owner) (b.fibs node owner) (later.fibs node owner)

-- ---- a table and FIBs after changes of the key's owner

module _ (opened : ClusterOpening) (shape : IsShape opened.size.nodes opened.size.blocks) (key : FlowKey) where
  abbrev size : Size
  size = opened.size

  abbrev flows : List Flow
  flows = opened.flows

  abbrev owner : ℕ
  owner = owner_of_key size key

  block_low : (place size.blocks key).block < size.blocks
  unfolding place
  block_low = let blocks = shape.enough_blocks in omega (arith, blocks)

  mod-below : (a b n : ℕ) → 0 < n → a < b → a % n < b
  mod-below a b n some low = omega arith

  pub owner_has : owner < owners_in size
  owner_has =
      let some = shape.enough_nodes in
      let first : owner < size.nodes = omega arith in
      let second : owner < size.blocks = mod-below (place size.blocks key).block size.blocks size.nodes (omega arith) block_low in
      omega arith

  owner_same : owner_of_group opened (home_of_key opened key) ≡ owner
  unfolding home
  owner_same = refl

  -- the record that a node's FIB has of the key
  record_there : IsKeyValue key → (node : ℕ) (changes : List Change) → record_after size node owner flows changes (number key) ≡ fib_record_after opened changes node key
  unfolding fib_record_after map_now
  record_there value node changes = record_by_map size node owner flows changes key value owner_same

  group_low : (home_of_key opened key).group < 64
  unfolding home candidate
  group_low = omega arith

  owned_block : is_owned_block size owner (place size.blocks key).block ≡ true
  owned_block = and_from _ _ (grind (arith, nat_tests, block_low)) (eq-eqb owner owner refl)

  owned_group : is_owned_group size owner (home_of_key opened key) ≡ true
  unfolding home
  owned_group = and_from _ _ owned_block (let few = group_low in grind (arith, nat_tests, few))

  module _ (shard : ShardState) (changes : List Change) (stands : shard ≡ shard_after size owner flows changes) where
    home_there : home_in_state shard (place size.blocks key) ≡ home_of_key opened key
    unfolding home
    home_there =
        ap (λ (s : ShardState). home_in_state s (place size.blocks key)) stands
        ∙ ap (λ (chosen : List ℕ). let at : Home = record { block = (place size.blocks key).block; group = group_of chosen (place size.blocks key).bucket } in at)
        (cond-true _ (choices size.blocks (place size.blocks key).block flows) [] owned_block)

    content_there : shard.records (home_of_key opened key) ≡ content_of size.nodes (map_now size flows changes (home_of_key opened key))
    unfolding map_now
    content_there =
        ap (λ (s : ShardState). s.records (home_of_key opened key)) stands
        ∙ cond-true _ (content_after size flows changes (home_of_key opened key)) None owned_group

    version_there : (route_in_state shard (place size.blocks key) key).version ≡ version_after opened changes key
    version_there = ap shard.versions home_there ∙ ap (λ (s : ShardState). s.versions (home_of_key opened key)) stands

    node_there : (route_in_state shard (place size.blocks key) key).node ≡ sent_after opened changes key
    node_there =
        ap (λ (s : ShardState). decoded s.size key (shard.records (home_in_state shard (place size.blocks key)))) stands
        ∙ ap (decoded size key) (ap shard.records home_there ∙ content_there)
        ∙ sends_there opened changes key

    node_below : AreHandled size.nodes (map_now size flows changes (home_of_key opened key)) → (node : ℕ) → sent_after opened changes key ≡ Some node → node < size.nodes
    node_below handled node sent = decoded_below size (map_now size flows changes (home_of_key opened key)) key node handled (sends_there opened changes key ∙ sent)

    module _ (value : IsKeyValue key) (handled : AreHandled size.nodes (map_now size flows changes (home_of_key opened key)))
        (fib_of : ℕ → FibState) (here : ℕ → List Change) (fibs : (node : ℕ) → node < size.nodes → fib_of node ≡ fib_after size node owner flows (here node)) where
      routed-by : (to : Option ℕ) → sent_after opened changes key ≡ to
          → reply_routed (version_after opened changes key) to fib_of (home_of_key opened key) key ≡ reply_sent opened changes here key to
      routed-by None sent = refl
      routed-by (Some node) sent =
          let fib = fibs node (node_below handled node sent) in
          ap (λ (f : FibState). answer_of node (version_after opened changes key) (f.versions (home_of_key opened key)) (f.records (number key))) fib
          ∙ ap (answer_of node (version_after opened changes key) (version_after opened (here node) key))
          (record_there value node (here node))

      pub reply-there : reply_routed (route_in_state shard (place size.blocks key) key).version (route_in_state shard (place size.blocks key) key).node fib_of
          (home_in_state shard (place size.blocks key)) key ≡ reply_sent opened changes here key (sent_after opened changes key)
      reply-there =
          (λ i. reply_routed (version_there i) (node_there i) fib_of (home_there i) key)
          ∙ routed-by (sent_after opened changes key) refl

-- ---- the walk

module _ (opened : ClusterOpening) (shape : IsShape opened.size.nodes opened.size.blocks) (parts : Parts) (ends : Journals) (sounds : AreSoundJournals opened ends)
    (last : Lists) (turns : AreTurns opened parts ends last) where
  module _ (now : Lists) (later : IsLater now last) (node owner : ℕ) (low : node < opened.size.nodes) (has : owner < owners_in opened.size) where
    table-at : shard_state_of (with_list (parts.tables node owner) (now.tables node owner))
        ≡ shard_after opened.size owner opened.flows (take (stood_at now Table node owner) (journal_of ends owner))
    table-at =
        ap (λ (list : List Publication). shard_state_of (with_list (parts.tables node owner) list)) (prefix-take (now.tables node owner) (last.tables node owner) (later.tables node owner))
        ∙ turns.tables node owner low has (length (now.tables node owner))

    fib-at : shared_after (parts.fibs node owner) (now.fibs node owner) ≡ fib_after opened.size node owner opened.flows (take (stood_at now Fib node owner) (journal_of ends owner))
    fib-at =
        ap (λ (fib : FibState). fold with_turn fib (now.fibs node owner)) (turns.unturned node owner low has)
        ∙ ap (fold with_turn (fib_after opened.size node owner opened.flows []))
        (prefix-take (now.fibs node owner) (last.fibs node owner) (later.fibs node owner)
        ∙ ap (take (length (now.fibs node owner))) (turns.fibs node owner low has))
        ∙ turns_make opened.size node owner opened.flows (journal_of ends owner) (length (now.fibs node owner)) (turns.own owner has)

  says-so : (now : Lists) (ingress : ℕ) (key : FlowKey) (value : IsKeyValue key) (low : ingress < opened.size.nodes) → IsLater now last
      → reply_by_lists opened.size parts now ingress key ≡ reply_by_turns opened ends (stood_at now) ingress key
  unfolding home place candidate
  says-so now ingress key value low later =
      let owner = owner_of_key opened.size key in
      let has = owner_has opened shape key in
      let there = take (stood_at now Table ingress owner) (journal_of ends owner) in
      let blocks = shape.enough_blocks in
      reply-there opened shape key (shard_state_of (with_list (parts.tables ingress owner) (now.tables ingress owner))) there (table-at now later ingress owner low has) value
      (sounds owner (stood_at now Table ingress owner) (home_of_key opened key) (omega arith) (omega arith)).handled
      (λ (node : ℕ). shared_after (parts.fibs node owner) (now.fibs node owner)) (λ (node : ℕ). take (stood_at now Fib node owner) (journal_of ends owner))
      (λ (node : ℕ) (below : node < opened.size.nodes). fib-at now later node owner below has)

  -- the lane's walk by its readers' lists is one by the owners' turns
  pub walk-turns : (lanes lane : ℕ) (script : List Event) (from : Lists) (packets : ℕ) (replies : List Reply) → All (IsRow opened) script
      → WalksByLists opened.size parts lanes lane from packets script replies last → WalksByTurns opened ends lanes lane (stood_at from) packets script replies (stood_at last)
  walk-turns lanes lane script from packets replies rows walk =
      walk-as IsLater later-on (SaysByLists opened.size parts) lanes lane Rises (SaysByTurns opened ends) stood_at (IsRow opened) last
      (λ (a b : Lists) (later : IsLater a b) (before : IsLater b last). stood-rises a b later)
      (λ (now : Lists) (ingress : ℕ) (key : FlowKey) (reply : Reply) (row : IsRow opened (Packet ingress key)) (later : IsLater now last)
      (said : reply ≡ reply_by_lists opened.size parts now ingress key). said ∙ says-so now ingress key row.value row.in_range later)
      (later-same last) script from packets replies rows walk

-- what the readers have seen that have seen all turns
stood-all : (opened : ClusterOpening) (parts : Parts) (journals : Journals) (lists : Lists) → AreTurns opened parts journals lists → stood_at lists ≡ all_seen opened journals
stood-all opened parts journals lists turns = λ i part node owner. each part node owner i
  where
    each : (part : Part) (node owner : ℕ) → stood_at lists part node owner ≡ all_seen opened journals part node owner
    each Table node owner = turns.tables_many node owner
    each Fib node owner = turns.fibs_many node owner

-- a lane that had seen all turns of before the phase, and when all is told has seen all turns of its end
pub walk-of-phase : (opened : ClusterOpening) → IsShape opened.size.nodes opened.size.blocks → (parts : Parts) (journals ends : Journals) → AreSoundJournals opened ends
    → (from last : Lists) → AreTurns opened parts journals from → AreTurns opened parts ends last
    → (lanes lane : ℕ) (script : List Event) (packets : ℕ) (replies : List Reply) → All (IsRow opened) script
    → WalksByLists opened.size parts lanes lane from packets script replies last
    → WalksByTurns opened ends lanes lane (all_seen opened journals) packets script replies (all_seen opened ends)
walk-of-phase opened shape parts journals ends sounds from last before turns lanes lane script packets replies rows walk =
    subst (λ (s : Stood × Stood). WalksByTurns opened ends lanes lane s.0 packets script replies s.1)
    (λ i. (stood-all opened parts journals from before i, stood-all opened parts ends last turns i))
    (walk-turns opened shape parts ends sounds last turns lanes lane script from packets replies rows walk)
