-- Which messages nodes take, and which turn an update has.
use Rattle.std.proofs.Common.{◌≡◌, ◌≢◌, ◌∙◌, ◌+◌, ◌<◌, ◌≤◌, ℕ, Bool, true, false, cond, List, [], ◌∷◌, ◌++◌, length, map, set, replicate, Option, Some, None, ⊎_elim, refl, sym, ap, subst, arith}
use Rattle.std.specs.Prelude.{nat_le, nat_lt}
use Rattle.std.proofs.lemmas.Bool.{cases_eq, leb-true, leb-false, ltb-true, ltb-false}
use Rattle.std.proofs.lemmas.List.{get_or-map, get_or-replicate, get_or-set_other, get_or-set_same, length-map, length-replicate, length-set}
use Rattle.group_history.specs.declared.change.Change.{Change}
use Rattle.group_history.specs.declared.update.Update.{Update}
use Rattle.group_history.specs.declared.update.Update.TheVariants as update
use Rattle.group_history.specs.declared.refused.UpdateRefused.{UpdateRefused}
use Rattle.group_history.specs.Acceptance.{change_of}
use Rattle.packet_reader.specs.declared.event.Event.{Event}
use Rattle.packet_reader.specs.declared.event.Event.TheVariants.{Set, Del, Packet, Carry, Sync}
use Rattle.packet_reader.specs.declared.event.Part.{Part}
use Rattle.packet_reader.specs.declared.event.Part.TheVariants.{Table, Fib}
use Rattle.run_model.specs.declared.reply.Reply.TheVariants.{Applied, EarlyHave, RepeatHave, Unsent}
use Rattle.run_model.specs.Carrying.{after_carry, after_sync, carry_reply, nodes_by, turns_taken, with_taken}
use Rattle.run_model.specs.Laws.{CarriesTakeTheNextTurn, CarryCameTo, TookNextTurn, UpdateCameTo, UpdatesTakeTheNextTurn, state_after_all}
use Rattle.run_model.specs.Replaying.{fresh, fresh_node, reply_in, state_after}
use Rattle.run_model.specs.State.{ClusterOpening, ClusterState, Journals, Taken, journal_of, nothing_taken, taken_by}
use Rattle.run_model.specs.Updates.{after_update, journals_by, reply_by, update_owner, update_reply, verdict}
use Rattle.run_model.proofs.Taking.{at-node, turns_by, turns_in}

-- a node's lists have a number for each owner
record IsFull (owners : ℕ) (taken : Taken) : Type 0 where
  tables : length taken.tables ≡ owners
  fibs : length taken.fibs ≡ owners

-- ---- a message, and an update

module _ (taken : Taken) (owner turn : ℕ) where
  taken_here : (part : Part) (owners : ℕ) → IsFull owners taken → owner < owners → turns_in part (with_taken part taken owner turn) owner ≡ turn
  taken_here Table owners full low = get_or-set_same taken.tables owner turn 0 (omega (arith, low, full.tables))
  taken_here Fib owners full low = get_or-set_same taken.fibs owner turn 0 (omega (arith, low, full.fibs))

  taken_apart : (part other : Part) (whose : ℕ) → other ≢ part → turns_in other (with_taken part taken owner turn) whose ≡ turns_in other taken whose
  taken_apart Table Table whose apart = absurd (apart refl)
  taken_apart Table Fib whose apart = refl
  taken_apart Fib Table whose apart = refl
  taken_apart Fib Fib whose apart = absurd (apart refl)

  taken_away : (part : Part) (whose : ℕ) → whose ≢ owner → turns_in part (with_taken part taken owner turn) whose ≡ turns_in part taken whose
  taken_away Table whose away = get_or-set_other taken.tables owner whose turn 0 away
  taken_away Fib whose away = get_or-set_other taken.fibs owner whose turn 0 away

module _ (nodes : List Taken) (node owner turn : ℕ) (part : Part) (low : node < length nodes) where
  abbrev after : List Taken
  after = set nodes node (with_taken part (taken_by nodes node) owner turn)

  node_here : taken_by after node ≡ with_taken part (taken_by nodes node) owner turn
  node_here = get_or-set_same nodes node (with_taken part (taken_by nodes node) owner turn) nothing_taken low

  node_other : (at : ℕ) → at ≢ node → taken_by after at ≡ taken_by nodes at
  node_other at away = get_or-set_other nodes node at (with_taken part (taken_by nodes node) owner turn) nothing_taken away

  -- what holds of turns at the node that took the message holds at each node
  turns_at : (of : Part) (at whose : ℕ) → turns_in of (with_taken part (taken_by nodes node) owner turn) whose ≡ turns_in of (taken_by nodes node) whose
      → turns_taken of after at whose ≡ turns_taken of nodes at whose
  turns_at of at whose here =
      turns_by of after at whose
      ∙ ⊎_elim
      (λ (same : at ≡ node).
      ap (λ (n : ℕ). turns_in of (taken_by after n) whose) same ∙ ap (λ (t : Taken). turns_in of t whose) node_here ∙ here
      ∙ ap (λ (n : ℕ). turns_in of (taken_by nodes n) whose) (sym same))
      (λ (away : at ≢ node). ap (λ (t : Taken). turns_in of t whose) (node_other at away))
      (cases_eq at node)
      ∙ sym (turns_by of nodes at whose)

  took-next : (sent owners : ℕ) → IsFull owners (taken_by nodes node) → owner < owners → turn ≤ sent → turn ≡ turns_taken part nodes node owner + 1
      → TookNextTurn sent nodes after node owner turn part
  took-next sent owners full has was_sent next = record {
    was_sent = was_sent;
    next = next;
    taken = turns_by part after node owner ∙ ap (λ (t : Taken). turns_in part t owner) node_here ∙ taken_here (taken_by nodes node) owner turn part owners full has;
    other_parts = λ other at whose apart. turns_at other at whose (taken_apart (taken_by nodes node) owner turn part other whose apart);
    other_nodes = λ at whose away.
        turns_by part after at whose ∙ ap (λ (t : Taken). turns_in part t whose) (node_other at away) ∙ sym (turns_by part nodes at whose);
    other_owners = λ at whose away. turns_at part at whose (taken_away (taken_by nodes node) owner turn part whose away);
  }

  came-to : (sent owners : ℕ) → IsFull owners (taken_by nodes node) → owner < owners
      → (unsent repeat early : Bool) → nat_lt sent turn ≡ unsent → nat_le turn (turns_taken part nodes node owner) ≡ repeat
      → nat_lt (turns_taken part nodes node owner + 1) turn ≡ early
      → let have = turns_taken part nodes node owner in
      let reply = cond unsent Unsent (cond repeat (RepeatHave have) (cond early (EarlyHave have) Applied)) in
      CarryCameTo sent nodes (nodes_by nodes node owner turn part reply) node owner turn part reply
  came-to sent owners full has true repeat early u r e = (ltb-true _ _ u, refl)
  came-to sent owners full has false true early u r e =
      let within = ltb-false _ _ u in
      (leb-true _ _ r, record { was_sent = omega arith; have_is = refl; same = refl })
  came-to sent owners full has false false true u r e =
      let within = ltb-false _ _ u in
      (ltb-true _ _ e, record { was_sent = omega arith; have_is = refl; same = refl })
  came-to sent owners full has false false false u r e =
      let within = ltb-false _ _ u in
      let past = leb-false _ _ r in
      let no_gap = ltb-false _ _ e in
      took-next sent owners full has (omega arith) (omega arith)

carry-came-to : (owners : ℕ) (journals : Journals) (nodes : List Taken) (node owner turn : ℕ) (part : Part) → node < length nodes → IsFull owners (taken_by nodes node) → owner < owners
    → CarryCameTo (length (journal_of journals owner)) nodes (after_carry journals nodes node owner turn part) node owner turn part
    (carry_reply (length (journal_of journals owner)) (turns_taken part nodes node owner) turn)
unfolding after_carry carry_reply
carry-came-to owners journals nodes node owner turn part low full has =
    came-to nodes node owner turn part low (length (journal_of journals owner)) owners full has _ _ _ refl refl refl

update-case : (opened : ClusterOpening) (journals : Journals) (update : Update) → update_owner opened update < length journals
    → (said : Option UpdateRefused) → verdict opened journals update ≡ said
    → UpdateCameTo opened journals (journals_by journals (update_owner opened update) (change_of opened.size opened.flows update) said) update
    (reply_by (update_owner opened update) (length (journal_of journals (update_owner opened update))) said)
update-case opened journals update low None is =
    let owner = update_owner opened update in (
      is,
      record {
        owner_is = refl;
        next = refl;
        last = get_or-set_same journals owner (journal_of journals owner ++ change_of opened.size opened.flows update ∷ []) [] low;
        others = λ other away. get_or-set_other journals owner other (journal_of journals owner ++ change_of opened.size opened.flows update ∷ []) [] away;
      },
    )
update-case opened journals update low (Some refused) is = (is, refl)

update-came-to : (opened : ClusterOpening) (journals : Journals) (update : Update) → update_owner opened update < length journals
    → UpdateCameTo opened journals (after_update opened journals update) update (update_reply opened journals update)
unfolding after_update update_reply
update-came-to opened journals update low = update-case opened journals update low (verdict opened journals update) refl

-- ---- each node has a number of turns of each owner

full-with : (part : Part) (owners : ℕ) (taken : Taken) (owner turn : ℕ) → IsFull owners taken → IsFull owners (with_taken part taken owner turn)
full-with Table owners taken owner turn full = record { tables = length-set taken.tables owner turn ∙ full.tables; fibs = full.fibs }
full-with Fib owners taken owner turn full = record { tables = full.tables; fibs = length-set taken.fibs owner turn ∙ full.fibs }

-- each owner has a journal, and each node such lists
record AreFull (owners : ℕ) (journals : Journals) (nodes : List Taken) : Type 0 where
  owners_are : length journals ≡ owners
  nodes_are : length nodes ≡ owners
  each : (node : ℕ) → node < owners → IsFull owners (taken_by nodes node)

module _ (owners : ℕ) (journals : Journals) (nodes : List Taken) (full : AreFull owners journals nodes) where
  carried : (node owner turn : ℕ) (part : Part) → AreFull owners journals (set nodes node (with_taken part (taken_by nodes node) owner turn))
  carried node owner turn part = record {
    owners_are = full.owners_are;
    nodes_are = length-set nodes node (with_taken part (taken_by nodes node) owner turn) ∙ full.nodes_are;
    each = λ at low.
        at-node (IsFull owners) nodes node at (with_taken part (taken_by nodes node) owner turn) (full.each at low)
        (λ same. full-with part owners (taken_by nodes node) owner turn (subst (λ (n : ℕ). IsFull owners (taken_by nodes n)) (sym same) (full.each at low)));
  }

  carry-case : (node owner turn : ℕ) (part : Part) (have : ℕ) (unsent repeat early : Bool)
      → AreFull owners journals (nodes_by nodes node owner turn part (cond unsent Unsent (cond repeat (RepeatHave have) (cond early (EarlyHave have) Applied))))
  carry-case node owner turn part have true repeat early = full
  carry-case node owner turn part have false true early = full
  carry-case node owner turn part have false false true = full
  carry-case node owner turn part have false false false = carried node owner turn part

  full-carry : (node owner turn : ℕ) (part : Part) → AreFull owners journals (after_carry journals nodes node owner turn part)
  unfolding after_carry carry_reply
  full-carry node owner turn part = carry-case node owner turn part _ _ _ _

  full-sync : AreFull owners journals (after_sync journals nodes)
  unfolding after_sync
  full-sync =
      let all = map (λ (changes : List Change). length changes) journals in
      let whole : Taken = record { tables = all; fibs = all } in
      let one_each : length all ≡ owners = length-map journals (λ (changes : List Change). length changes) ∙ full.owners_are in
      record {
        owners_are = full.owners_are;
        nodes_are = length-map nodes (λ (t : Taken). whole) ∙ full.nodes_are;
        each = λ node low.
            subst (IsFull owners) (sym (get_or-map (λ (t : Taken). whole) nodes node nothing_taken nothing_taken (omega (arith, low, full.nodes_are))))
            (record { tables = one_each; fibs = one_each });
      }

  update-full : (opened : ClusterOpening) (owner : ℕ) (change : Change) (said : Option UpdateRefused) → AreFull owners (journals_by journals owner change said) nodes
  update-full opened owner change None = record {
    owners_are = length-set journals owner (journal_of journals owner ++ change ∷ []) ∙ full.owners_are;
    nodes_are = full.nodes_are;
    each = full.each;
  }
  update-full opened owner change (Some refused) = full

  full-update : (opened : ClusterOpening) (update : Update) → AreFull owners (after_update opened journals update) nodes
  unfolding after_update
  full-update opened update = update-full opened (update_owner opened update) (change_of opened.size opened.flows update) (verdict opened journals update)

full-fresh : (owners : ℕ) → AreFull owners (replicate owners []) (replicate owners (fresh_node owners))
full-fresh owners = record {
  owners_are = length-replicate {A = List Change} owners [];
  nodes_are = length-replicate owners (fresh_node owners);
  each = λ node low.
      subst (IsFull owners) (sym (get_or-replicate owners node (fresh_node owners) nothing_taken low))
      (record { tables = length-replicate {A = ℕ} owners 0; fibs = length-replicate {A = ℕ} owners 0 });
}

-- ---- after whatever events

abbrev AreFullIn : (owners : ℕ) → ClusterState → Type 0
AreFullIn owners state = AreFull owners state.journals state.nodes

full-after : (owners : ℕ) (state : ClusterState) (event : Event) → AreFullIn owners state → AreFullIn owners (state_after state event)
unfolding state_after
full-after owners state (Set flow) full = full-update owners state.journals state.nodes full state.opened (update.Set flow)
full-after owners state (Del key) full = full-update owners state.journals state.nodes full state.opened (update.Del key)
full-after owners state (Packet ingress key) full = full
full-after owners state (Carry node owner turn part) full = full-carry owners state.journals state.nodes full node owner turn part
full-after owners state Sync full = full-sync owners state.journals state.nodes full

full-after-all : (script : List Event) (owners : ℕ) (state : ClusterState) → AreFullIn owners state → AreFullIn owners (state_after_all state script)
unfolding state_after_all
full-after-all [] owners state full = full
full-after-all (event ∷ script) owners state full = full-after-all script owners (state_after state event) (full-after owners state event full)

full-there : (opened : ClusterOpening) (script : List Event) → AreFullIn opened.size.nodes (state_after_all (fresh opened) script)
unfolding fresh
full-there opened script = full-after-all script opened.size.nodes (fresh opened) (full-fresh opened.size.nodes)

pub carries_take_the_next_turn : CarriesTakeTheNextTurn
unfolding reply_in state_after
carries_take_the_next_turn opened script node owner turn part low has =
    let state = state_after_all (fresh opened) script in
    let full = full-there opened script in
    carry-came-to opened.size.nodes state.journals state.nodes node owner turn part (omega (arith, low, full.nodes_are)) (full.each node low) has

pub updates_take_the_next_turn : UpdatesTakeTheNextTurn
updates_take_the_next_turn opened script update some =
    let full = full-there opened script in
    update-came-to opened (state_after_all (fresh opened) script).journals update (omega (arith, some, full.owners_are))
