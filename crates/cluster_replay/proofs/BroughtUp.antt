-- What a cluster becomes as all nodes are told what they are missing.
use Rattle.std.proofs.Common.{◌≡◌, ◌≢◌, ◌∙◌, ◌+◌, ◌<◌, ◌≤◌, ℕ, Bool, true, false, List, [], length, map, get_or, set, inl, inr, ⊎_elim, refl, sym, ap, subst, arith}
use Rattle.std.specs.Prelude.{max, nat_le, nat_lt}
use Rattle.std.proofs.Math.Nat.{le-max_right, max-eq_left, max-eq_right, max-le, min-le_left}
use Rattle.std.proofs.lemmas.Bool.{cases_eq, cases_lt, leb-false, leb-true, ltb-true}
use Rattle.std.proofs.lemmas.List.{ext_get_or, get_or-map, get_or-set_other, get_or-set_same, length-map, length-set, set-get_or, set-set}
use Rattle.packet_reader.specs.declared.event.Part.{Part}
use Rattle.packet_reader.specs.declared.event.Part.TheVariants.{Fib, Table}
use Rattle.run_model.specs.Carrying.{after_carry, after_sync, nodes_by, turns_taken, with_taken}
use Rattle.flow_types.specs.Size.{owners_in}
use Rattle.run_model.specs.State.{Journals, Taken, journal_of, nothing_taken, taken_by}
use Rattle.cluster_replay.specs.Cluster.{IsSized, RunState, all_sent, with_nodes}
use Rattle.cluster_replay.specs.Turn.{counts, with_turn, with_turns}
use Rattle.cluster_replay.proofs.Carried.{reply_is, reply_of}

-- ---- one node

turns_by : (part : Part) (nodes : List Taken) (node owner : ℕ) → turns_taken part nodes node owner ≡ get_or (counts part (taken_by nodes node)) owner 0
turns_by Table nodes node owner = refl
turns_by Fib nodes node owner = refl

with_same : (part : Part) (taken : Taken) (owner turn : ℕ) → get_or (counts part taken) owner 0 ≡ turn → with_taken part taken owner turn ≡ taken
with_same Table taken owner turn is = ap (λ (tables : List ℕ). let t : Taken = record { tables = tables; fibs = taken.fibs } in t) (ap (set taken.tables owner) (sym is) ∙ set-get_or taken.tables owner 0)
with_same Fib taken owner turn is = ap (λ (fibs : List ℕ). let t : Taken = record { tables = taken.tables; fibs = fibs } in t) (ap (set taken.fibs owner) (sym is) ∙ set-get_or taken.fibs owner 0)

with_with : (part : Part) (taken : Taken) (owner turn later : ℕ) → with_taken part (with_taken part taken owner turn) owner later ≡ with_taken part taken owner later
with_with Table taken owner turn later = ap (λ (tables : List ℕ). let t : Taken = record { tables = tables; fibs = taken.fibs } in t) (set-set taken.tables owner turn later)
with_with Fib taken owner turn later = ap (λ (fibs : List ℕ). let t : Taken = record { tables = taken.tables; fibs = fibs } in t) (set-set taken.fibs owner turn later)

counts_with : (part : Part) (taken : Taken) (owner turn : ℕ) → owner < length (counts part taken) → get_or (counts part (with_taken part taken owner turn)) owner 0 ≡ turn
counts_with Table taken owner turn low = get_or-set_same taken.tables owner turn 0 low
counts_with Fib taken owner turn low = get_or-set_same taken.fibs owner turn 0 low

-- the greatest of three
later_of : (had turn later : ℕ) → turn ≤ later → max (max had turn) later ≡ max had later
later_of had turn later up = elim (cases_lt had later) [
  | inl below ↦
      let low : had ≤ later = omega arith in
      max-eq_right (max-le low up) ∙ sym (max-eq_right low)
  | inr above ↦
      let low : turn ≤ had = omega arith in
      ap (λ (m : ℕ). max m later) (max-eq_left low)
]

module _ (part : Part) (owner turn : ℕ) (taken : Taken) where
  abbrev had : ℕ
  had = get_or (counts part taken) owner 0

  -- who has the turn stays
  has_turn : turn ≤ had → with_turn part owner turn taken ≡ taken
  has_turn low = with_same part taken owner (max had turn) (sym (max-eq_left low))

  takes_turn : had ≤ turn → with_turn part owner turn taken ≡ with_taken part taken owner turn
  takes_turn low = ap (with_taken part taken owner) (max-eq_right low)

  module _ (there : owner < length (counts part taken)) where
    has_then : turn ≤ get_or (counts part (with_turn part owner turn taken)) owner 0
    has_then = subst (λ (n : ℕ). turn ≤ n) (sym (counts_with part taken owner (max had turn) there)) (le-max_right had turn)

    takes_later : (later : ℕ) → turn ≤ later → with_turn part owner later (with_turn part owner turn taken) ≡ with_turn part owner later taken
    takes_later later up =
        let first : Taken = with_turn part owner turn taken in
        ap (λ (n : ℕ). with_taken part first owner (max n later)) (counts_with part taken owner (max had turn) there)
        ∙ with_with part taken owner (max had turn) (max (max had turn) later)
        ∙ ap (with_taken part taken owner) (later_of had turn later up)

-- a message of a turn that is sent, where the node has the turn before it
module _ (journals : Journals) (nodes : List Taken) (node owner turn : ℕ) (part : Part)
    (sent : turn ≤ length (journal_of journals owner)) (next : turn ≤ turns_taken part nodes node owner + 1) where
  abbrev have : ℕ
  have = turns_taken part nodes node owner

  by_reply : (repeat early : Bool) → nat_le turn have ≡ repeat → nat_lt (have + 1) turn ≡ early
      → nodes_by nodes node owner turn part (reply_of have repeat early) ≡ set nodes node (with_turn part owner turn (taken_by nodes node))
  by_reply true early r e =
      let low = leb-true _ _ r in
      sym (ap (set nodes node) (has_turn part owner turn (taken_by nodes node) (omega (arith, low, turns_by part nodes node owner))) ∙ set-get_or nodes node nothing_taken)
  by_reply false true r e = let early = ltb-true _ _ e in absurd (omega (arith, early, next))
  by_reply false false r e =
      let more = leb-false _ _ r in
      ap (set nodes node) (sym (takes_turn part owner turn (taken_by nodes node) (omega (arith, more, turns_by part nodes node owner))))

  pub told : after_carry journals nodes node owner turn part ≡ set nodes node (with_turn part owner turn (taken_by nodes node))
  unfolding after_carry
  told = ap (nodes_by nodes node owner turn part) (reply_is (length (journal_of journals owner)) have turn sent) ∙ by_reply (nat_le turn have) (nat_lt (have + 1) turn) refl refl

-- ---- node by node

-- the run where what the nodes below this one have taken is raised
pub record AreRaised (run : RunState) (raise : Taken → Taken) (upto : ℕ) (now : RunState) : Type 0 where
  pub others : now ≡ with_nodes run now.cluster.nodes
  pub as_many : length now.cluster.nodes ≡ length run.cluster.nodes
  pub raised : (node : ℕ) → node < upto → taken_by now.cluster.nodes node ≡ raise (taken_by run.cluster.nodes node)
  pub left : (node : ℕ) → upto ≤ node → taken_by now.cluster.nodes node ≡ taken_by run.cluster.nodes node

less : (i upto : ℕ) → i < upto + 1 → i ≢ upto → i < upto
less i upto low away = ⊎_elim (λ (l : i < upto). l) (λ (m : upto ≤ i). absurd (away (omega arith))) (cases_lt i upto)

module _ (run : RunState) (raise : Taken → Taken) where
  pub none_raised : AreRaised run raise 0 run
  none_raised = record { others = refl; as_many = refl; raised = λ node low. absurd (omega arith); left = λ node past. refl }

  pub one_more_raised : (upto : ℕ) (now : RunState) → AreRaised run raise upto now → upto < length run.cluster.nodes
      → (next : RunState) → next ≡ with_nodes now (set now.cluster.nodes upto (raise (taken_by now.cluster.nodes upto))) → AreRaised run raise (upto + 1) next
  one_more_raised upto now is low next next_is =
      let here : Taken = raise (taken_by now.cluster.nodes upto) in
      let nodes : next.cluster.nodes ≡ set now.cluster.nodes upto here = ap (λ (r : RunState). r.cluster.nodes) next_is in
      record {
        others =
            next_is ∙ ap (λ (r : RunState). with_nodes r (set now.cluster.nodes upto here)) is.others ∙ ap (with_nodes run) (sym nodes);
        as_many = ap length nodes ∙ length-set now.cluster.nodes upto here ∙ is.as_many;
        raised = λ node early.
            ap (λ (all : List Taken). taken_by all node) nodes
            ∙ ⊎_elim
            (λ (same : node ≡ upto).
            ap (λ (n : ℕ). taken_by (set now.cluster.nodes upto here) n) same
            ∙ get_or-set_same now.cluster.nodes upto here nothing_taken (omega (arith, low, is.as_many))
            ∙ ap raise (is.left upto (omega arith)) ∙ ap (λ (n : ℕ). raise (taken_by run.cluster.nodes n)) (sym same))
            (λ (away : node ≢ upto).
            get_or-set_other now.cluster.nodes upto node here nothing_taken away ∙ is.raised node (less node upto early away))
            (cases_eq node upto);
        left = λ node past.
            ap (λ (all : List Taken). taken_by all node) nodes
            ∙ get_or-set_other now.cluster.nodes upto node here nothing_taken (λ same. absurd (omega arith)) ∙ is.left node (omega arith);
      }

  pub all_raised : (now : RunState) → AreRaised run raise (length run.cluster.nodes) now → now ≡ with_nodes run (map raise run.cluster.nodes)
  all_raised now is =
      is.others
      ∙ ap (with_nodes run)
      (ext_get_or nothing_taken now.cluster.nodes (map raise run.cluster.nodes) (is.as_many ∙ sym (length-map run.cluster.nodes raise))
      (λ node low.
      is.raised node (omega (arith, low, is.as_many))
      ∙ sym (get_or-map raise run.cluster.nodes node nothing_taken nothing_taken (omega (arith, low, is.as_many)))))

-- the next node is told a turn
module _ (run : RunState) (part : Part) (owner turn : ℕ) (sent : turn ≤ length (journal_of run.cluster.journals owner))
    (next : (node : ℕ) → node < length run.cluster.nodes → turn ≤ turns_taken part run.cluster.nodes node owner + 1) where
  pub one_more_told : (upto : ℕ) (now : RunState) → AreRaised run (with_turn part owner turn) upto now → upto < length run.cluster.nodes
      → (then : RunState) → then ≡ with_nodes now (after_carry now.cluster.journals now.cluster.nodes upto owner turn part)
      → AreRaised run (with_turn part owner turn) (upto + 1) then
  one_more_told upto now is low then then_is =
      let journals : now.cluster.journals ≡ run.cluster.journals = ap (λ (r : RunState). r.cluster.journals) is.others in
      let had : turns_taken part now.cluster.nodes upto owner ≡ turns_taken part run.cluster.nodes upto owner =
      turns_by part now.cluster.nodes upto owner ∙ ap (λ (t : Taken). get_or (counts part t) owner 0) (is.left upto (omega arith)) ∙ sym (turns_by part run.cluster.nodes upto owner) in
      let many : length (journal_of now.cluster.journals owner) ≡ length (journal_of run.cluster.journals owner) = ap (λ (j : Journals). length (journal_of j owner)) journals in
      let before = next upto low in
      one_more_raised run (with_turn part owner turn) upto now is low then
      (then_is ∙ ap (with_nodes now) (told now.cluster.journals now.cluster.nodes upto owner turn part (omega (arith, sent, many)) (omega (arith, had, before))))

-- ---- turn by turn

module _ (run : RunState) (sized : IsSized run) (part : Part) (owner : ℕ) (has : owner < owners_in run.cluster.opened.size) where
  there : (node : ℕ) → node < length run.cluster.nodes → owner < length (counts part (taken_by run.cluster.nodes node))
  there node low = of part
    where
      of : (p : Part) → owner < length (counts p (taken_by run.cluster.nodes node))
      of Table = omega (arith, has, low, sized.nodes_many, min-le_left run.cluster.opened.size.nodes run.cluster.opened.size.blocks, sized.tables_many node (omega (arith, low, sized.nodes_many)))
      of Fib = omega (arith, has, low, sized.nodes_many, min-le_left run.cluster.opened.size.nodes run.cluster.opened.size.blocks, sized.fibs_many node (omega (arith, low, sized.nodes_many)))

  pub first_turns : (turn : ℕ) → ((node : ℕ) → node < run.cluster.opened.size.nodes → turn ≤ turns_taken part run.cluster.nodes node owner) → run ≡ with_turns part owner turn run
  first_turns turn taken =
      sym (ap (with_nodes run)
      (ext_get_or nothing_taken (map (with_turn part owner turn) run.cluster.nodes) run.cluster.nodes (length-map run.cluster.nodes (with_turn part owner turn))
      (λ node early.
      let low : node < length run.cluster.nodes = omega (arith, early, length-map run.cluster.nodes (with_turn part owner turn)) in
      let enough = taken node (omega (arith, low, sized.nodes_many)) in
      get_or-map (with_turn part owner turn) run.cluster.nodes node nothing_taken nothing_taken low
      ∙ has_turn part owner turn (taken_by run.cluster.nodes node) (omega (arith, enough, turns_by part run.cluster.nodes node owner)))))

  pub next_turns : (turn : ℕ) → with_turns part owner (turn + 1) (with_turns part owner turn run) ≡ with_turns part owner (turn + 1) run
  next_turns turn =
      let first : List Taken = map (with_turn part owner turn) run.cluster.nodes in
      let long : length first ≡ length run.cluster.nodes = length-map run.cluster.nodes (with_turn part owner turn) in
      ap (with_nodes run)
      (ext_get_or nothing_taken (map (with_turn part owner (turn + 1)) first) (map (with_turn part owner (turn + 1)) run.cluster.nodes)
      (length-map first (with_turn part owner (turn + 1)) ∙ long ∙ sym (length-map run.cluster.nodes (with_turn part owner (turn + 1))))
      (λ node early.
      let low : node < length run.cluster.nodes = omega (arith, early, long, length-map first (with_turn part owner (turn + 1))) in
      get_or-map (with_turn part owner (turn + 1)) first node nothing_taken nothing_taken (omega (arith, low, long))
      ∙ ap (with_turn part owner (turn + 1)) (get_or-map (with_turn part owner turn) run.cluster.nodes node nothing_taken nothing_taken low)
      ∙ takes_later part owner turn (taken_by run.cluster.nodes node) (there node low) (turn + 1) (omega arith)
      ∙ sym (get_or-map (with_turn part owner (turn + 1)) run.cluster.nodes node nothing_taken nothing_taken low)))

  pub then_taken : (turn node : ℕ) → node < run.cluster.opened.size.nodes → turn ≤ turns_taken part (with_turns part owner turn run).cluster.nodes node owner
  then_taken turn node below =
      let low : node < length run.cluster.nodes = omega (arith, below, sized.nodes_many) in
      let is =
      turns_by part (with_turns part owner turn run).cluster.nodes node owner
      ∙ ap (λ (t : Taken). get_or (counts part t) owner 0) (get_or-map (with_turn part owner turn) run.cluster.nodes node nothing_taken nothing_taken low) in
      let enough = has_then part owner turn (taken_by run.cluster.nodes node) (there node low) in
      omega (arith, is, enough)

-- ---- owner by owner

-- the run where each node has taken all turns of the owners below this one
pub record AreBroughtUp (run : RunState) (upto : ℕ) (now : RunState) : Type 0 where
  pub others : now ≡ with_nodes run now.cluster.nodes
  pub as_many : length now.cluster.nodes ≡ length run.cluster.nodes
  pub as_long : (part : Part) (node : ℕ) → node < length run.cluster.nodes
      → length (counts part (taken_by now.cluster.nodes node)) ≡ length (counts part (taken_by run.cluster.nodes node))
  pub all_taken : (part : Part) (node owner : ℕ) → node < length run.cluster.nodes → owner < upto
      → get_or (counts part (taken_by now.cluster.nodes node)) owner 0 ≡ length (journal_of run.cluster.journals owner)
  pub as_before : (part : Part) (node owner : ℕ) → node < length run.cluster.nodes → upto ≤ owner
      → get_or (counts part (taken_by now.cluster.nodes node)) owner 0 ≡ get_or (counts part (taken_by run.cluster.nodes node)) owner 0

pub none_yet : (run : RunState) → AreBroughtUp run 0 run
none_yet run = record {
  others = refl;
  as_many = refl;
  as_long = λ part node there. refl;
  all_taken = λ part node owner there low. absurd (omega arith);
  as_before = λ part node owner there past. refl;
}

-- the run once both parts of each node have all turns of the owner
abbrev pub with_all_of : (owner : ℕ) → RunState → RunState
with_all_of owner run =
    let sent = length (journal_of run.cluster.journals owner) in
    with_turns Fib owner sent (with_turns Table owner sent run)

module _ (run : RunState) (sized : IsSized run) (upto : ℕ) (has : upto < owners_in run.cluster.opened.size) (now : RunState) (is : AreBroughtUp run upto now) where
  abbrev sent : ℕ
  sent = length (journal_of run.cluster.journals upto)

  same_journals : length (journal_of now.cluster.journals upto) ≡ sent
  same_journals = ap (λ (r : RunState). length (journal_of r.cluster.journals upto)) is.others

  abbrev before : (node : ℕ) → Taken
  before node = taken_by now.cluster.nodes node

  -- no node has more turns than there are
  not_ahead : (part : Part) (node : ℕ) → node < length run.cluster.nodes → get_or (counts part (before node)) upto 0 ≤ sent
  not_ahead part node low =
      let few = sized.none_ahead part node upto (omega (arith, low, sized.nodes_many)) has in
      omega (arith, few, is.as_before part node upto low (omega arith), turns_by part run.cluster.nodes node upto)

  there_now : (part : Part) (node : ℕ) → node < length run.cluster.nodes → upto < length (counts part (before node))
  there_now part node low = omega (arith, there run sized part upto has node low, is.as_long part node low)

  counts_both : (part : Part) (taken : Taken) (turn : ℕ) → counts part (with_turn Fib upto turn (with_turn Table upto turn taken)) ≡ set (counts part taken) upto (max (get_or (counts part taken) upto 0) turn)
  counts_both Table taken turn = refl
  counts_both Fib taken turn = refl

  pub one_more_owner : (next : RunState) → next ≡ with_all_of upto now → AreBroughtUp run (upto + 1) next
  one_more_owner next next_is =
      let turn : ℕ = length (journal_of now.cluster.journals upto) in
      let first : List Taken = map (with_turn Table upto turn) now.cluster.nodes in
      let nodes : next.cluster.nodes ≡ map (with_turn Fib upto turn) first = ap (λ (r : RunState). r.cluster.nodes) next_is in
      let long_first : length first ≡ length now.cluster.nodes = length-map now.cluster.nodes (with_turn Table upto turn) in
      let of_node : (node : ℕ) → node < length run.cluster.nodes → taken_by next.cluster.nodes node ≡ with_turn Fib upto turn (with_turn Table upto turn (before node)) =
      λ node low.
      ap (λ (all : List Taken). taken_by all node) nodes
      ∙ get_or-map (with_turn Fib upto turn) first node nothing_taken nothing_taken (omega (arith, low, long_first, is.as_many))
      ∙ ap (with_turn Fib upto turn) (get_or-map (with_turn Table upto turn) now.cluster.nodes node nothing_taken nothing_taken (omega (arith, low, is.as_many))) in
      let of_part : (part : Part) (node : ℕ) → node < length run.cluster.nodes → counts part (taken_by next.cluster.nodes node) ≡ set (counts part (before node)) upto sent =
      λ part node low.
      ap (counts part) (of_node node low) ∙ counts_both part (before node) turn
      ∙ ap (set (counts part (before node)) upto) (ap (max (get_or (counts part (before node)) upto 0)) same_journals ∙ max-eq_right (not_ahead part node low)) in
      record {
        others =
            next_is ∙ ap (λ (r : RunState). with_nodes r (map (with_turn Fib upto turn) first)) is.others ∙ ap (with_nodes run) (sym nodes);
        as_many = ap length nodes ∙ length-map first (with_turn Fib upto turn) ∙ long_first ∙ is.as_many;
        as_long = λ part node low. ap length (of_part part node low) ∙ length-set (counts part (before node)) upto sent ∙ is.as_long part node low;
        all_taken = λ part node owner low early.
            ap (λ (all : List ℕ). get_or all owner 0) (of_part part node low)
            ∙ ⊎_elim
            (λ (here : owner ≡ upto).
            ap (λ (o : ℕ). get_or (set (counts part (before node)) upto sent) o 0) here
            ∙ get_or-set_same (counts part (before node)) upto sent 0 (there_now part node low)
            ∙ ap (λ (o : ℕ). length (journal_of run.cluster.journals o)) (sym here))
            (λ (away : owner ≢ upto).
            get_or-set_other (counts part (before node)) upto owner sent 0 away
            ∙ is.all_taken part node owner low (less owner upto early away))
            (cases_eq owner upto);
        as_before = λ part node owner low past.
            ap (λ (all : List ℕ). get_or all owner 0) (of_part part node low)
            ∙ get_or-set_other (counts part (before node)) upto owner sent 0 (λ same. absurd (omega arith)) ∙ is.as_before part node owner low (omega arith);
      }

-- nodes that have all turns of the owners that accept anything have all that was sent
module _ (run : RunState) (sized : IsSized run) (now : RunState) (is : AreBroughtUp run (owners_in run.cluster.opened.size) now) where
  module _ (node : ℕ) (there : node < length run.cluster.nodes) where
    low : node < run.cluster.opened.size.nodes
    low = omega (arith, there, sized.nodes_many)

    long : (part : Part) → length (counts part (taken_by run.cluster.nodes node)) ≡ length run.cluster.journals
    long Table = sized.tables_many node low ∙ sym sized.journals_many
    long Fib = sized.fibs_many node low ∙ sym sized.journals_many

    idle : (part : Part) (owner : ℕ) → owners_in run.cluster.opened.size ≤ owner
        → get_or (counts part (taken_by run.cluster.nodes node)) owner 0 ≡ length (journal_of run.cluster.journals owner)
    idle Table owner past = sized.no_table_turns node owner low past ∙ sym (sized.accepts_nothing owner past)
    idle Fib owner past = sized.no_fib_turns node owner low past ∙ sym (sized.accepts_nothing owner past)

    each : (part : Part) → counts part (taken_by now.cluster.nodes node) ≡ map (λ changes. length changes) run.cluster.journals
    each part =
        ext_get_or 0 (counts part (taken_by now.cluster.nodes node)) (map (λ changes. length changes) run.cluster.journals)
        (is.as_long part node there ∙ long part ∙ sym (length-map run.cluster.journals (λ changes. length changes)))
        (λ owner early.
        ⊎_elim
        (λ (before : owner < owners_in run.cluster.opened.size). is.all_taken part node owner there before)
        (λ (past : owners_in run.cluster.opened.size ≤ owner). is.as_before part node owner there past ∙ idle part owner past)
        (cases_lt owner (owners_in run.cluster.opened.size))
        ∙ sym (get_or-map (λ changes. length changes) run.cluster.journals owner [] 0 (omega (arith, early, is.as_long part node there, long part))))

    has_all : taken_by now.cluster.nodes node ≡ all_sent run.cluster.journals
    has_all = λ i. record { tables = each Table i; fibs = each Fib i }

  pub all_brought_up : now ≡ with_nodes run (after_sync run.cluster.journals run.cluster.nodes)
  unfolding after_sync
  all_brought_up =
      is.others
      ∙ ap (with_nodes run)
      (ext_get_or nothing_taken now.cluster.nodes (map (λ (taken : Taken). all_sent run.cluster.journals) run.cluster.nodes)
      (is.as_many ∙ sym (length-map run.cluster.nodes (λ (taken : Taken). all_sent run.cluster.journals)))
      (λ node early.
      has_all node (omega (arith, early, is.as_many))
      ∙ sym (get_or-map (λ (taken : Taken). all_sent run.cluster.journals) run.cluster.nodes node nothing_taken nothing_taken (omega (arith, early, is.as_many)))))
