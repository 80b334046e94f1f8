-- What carries and syncs make of the turns that nodes have taken.
use Rattle.std.proofs.Common.{◌≡◌, ◌≢◌, ◌∙◌, ◌+◌, ◌<◌, ◌≤◌, ℕ, Bool, true, false, cond, List, [], length, map, get_or, set, ⊎_elim, refl, sym, ap, subst, arith}
use Rattle.std.specs.Prelude.{nat_le, nat_lt}
use Rattle.std.proofs.lemmas.Bool.{cases_eq, cases_lt, leb-false, ltb-false}
use Rattle.std.proofs.lemmas.List.{get_or-set_other, get_or-set_same, get_or-map, get_or_past, length-map, length-set, set_past}
use Rattle.std.proofs.Math.ListN as ListN
use Rattle.group_history.specs.declared.change.Change.{Change}
use Rattle.packet_reader.specs.declared.event.Part.{Part}
use Rattle.packet_reader.specs.declared.event.Part.TheVariants.{Table, Fib}
use Rattle.run_model.specs.declared.reply.Reply.TheVariants.{Applied, EarlyHave, RepeatHave, Unsent}
use Rattle.run_model.specs.State.{Journals, Taken, journal_of, nothing_taken, taken_by}
use Rattle.run_model.specs.Carrying.{after_carry, after_sync, carry_reply, nodes_by, turns_taken, with_taken}

-- a number of a list that is set to a greater one falls nowhere, and stays in its bound
set-rises : (xs : List ℕ) (i x j : ℕ) → get_or xs i 0 ≤ x → get_or xs j 0 ≤ get_or (set xs i x) j 0
set-rises xs i x j more =
    ⊎_elim
    (λ (same : j ≡ i).
    ⊎_elim
    (λ (within : i < length xs).
    let new : get_or (set xs i x) j 0 ≡ x = ap (λ (k : ℕ). get_or (set xs i x) k 0) same ∙ get_or-set_same xs i x 0 within in
    let old : get_or xs j 0 ≡ get_or xs i 0 = ap (λ (k : ℕ). get_or xs k 0) same in
    omega arith)
    (λ (past : length xs ≤ i). rw (set_past xs i x past) (omega arith))
    (cases_lt i (length xs)))
    (λ (other : j ≢ i). rw (get_or-set_other xs i j x 0 other) (omega arith))
    (cases_eq j i)

set-within : (xs : List ℕ) (i x j : ℕ) (most : ℕ → ℕ) → ((k : ℕ) → get_or xs k 0 ≤ most k) → x ≤ most i → get_or (set xs i x) j 0 ≤ most j
set-within xs i x j most all here =
    ⊎_elim
    (λ (same : j ≡ i).
    ⊎_elim
    (λ (within : i < length xs).
    let new : get_or (set xs i x) j 0 ≡ x = ap (λ (k : ℕ). get_or (set xs i x) k 0) same ∙ get_or-set_same xs i x 0 within in
    let bound : most j ≡ most i = ap most same in
    omega (arith, here))
    (λ (past : length xs ≤ i). rw (set_past xs i x past) (all j))
    (cases_lt i (length xs)))
    (λ (other : j ≢ i). rw (get_or-set_other xs i j x 0 other) (all j))
    (cases_eq j i)

-- the turns of an owner that a part of a node has taken
abbrev pub turns_in : Part → Taken → (owner : ℕ) → ℕ
turns_in Table taken owner = get_or taken.tables owner 0
turns_in Fib taken owner = get_or taken.fibs owner 0

pub turns_by : (part : Part) (nodes : List Taken) (node owner : ℕ) → turns_taken part nodes node owner ≡ turns_in part (taken_by nodes node) owner
turns_by Table nodes node owner = refl
turns_by Fib nodes node owner = refl

with-rises : (part of : Part) (taken : Taken) (owner turn at : ℕ) → turns_in part taken owner ≤ turn → turns_in of taken at ≤ turns_in of (with_taken part taken owner turn) at
with-rises Table Table taken owner turn at more = set-rises taken.tables owner turn at more
with-rises Table Fib taken owner turn at more = omega arith
with-rises Fib Table taken owner turn at more = omega arith
with-rises Fib Fib taken owner turn at more = set-rises taken.fibs owner turn at more

with-within : (part of : Part) (taken : Taken) (owner turn at : ℕ) (most : ℕ → ℕ) → ((o : ℕ) → turns_in of taken o ≤ most o) → turn ≤ most owner
    → turns_in of (with_taken part taken owner turn) at ≤ most at
with-within Table Table taken owner turn at most all here = set-within taken.tables owner turn at most all here
with-within Table Fib taken owner turn at most all here = all at
with-within Fib Table taken owner turn at most all here = all at
with-within Fib Fib taken owner turn at most all here = set-within taken.fibs owner turn at most all here

-- what holds of the node that took a message, and of a node that didn't
pub at-node : (Holds : Taken → Type 0) (nodes : List Taken) (node at : ℕ) (new : Taken) → Holds (taken_by nodes at) → (node ≡ at → Holds new) → Holds (taken_by (set nodes node new) at)
at-node Holds nodes node at new stays holds =
    ⊎_elim
    (λ (same : at ≡ node).
    ⊎_elim
    (λ (within : node < length nodes).
    subst Holds (sym (ap (λ (n : ℕ). taken_by (set nodes node new) n) same ∙ get_or-set_same nodes node new nothing_taken within)) (holds (sym same)))
    (λ (past : length nodes ≤ node). subst Holds (sym (ap (λ (ns : List Taken). taken_by ns at) (set_past nodes node new past))) stays)
    (cases_lt node (length nodes)))
    (λ (other : at ≢ node). subst Holds (sym (get_or-set_other nodes node at new nothing_taken other)) stays)
    (cases_eq at node)

-- ---- a message

-- a message that is taken is the next one of those that were sent
record IsNext (sent have turn : ℕ) : Type 0 where
  was_sent : turn ≤ sent
  past : have ≤ turn

-- what becomes of the turns that nodes have taken: none is lost, and none is there that wasn't sent
pub record Rises (journals : Journals) (before after : List Taken) : Type 0 where
  pub same_nodes : length after ≡ length before
  pub kept : (part : Part) (node owner : ℕ) → turns_taken part before node owner ≤ turns_taken part after node owner
  pub sent : (part : Part) (node owner : ℕ) → turns_taken part after node owner ≤ length (journal_of journals owner)

abbrev pub WereSent : Journals → List Taken → Type 0
WereSent journals nodes = (part : Part) (node owner : ℕ) → turns_taken part nodes node owner ≤ length (journal_of journals owner)

module _ (journals : Journals) (nodes : List Taken) (were_sent : WereSent journals nodes) where
  rises-not : Rises journals nodes nodes
  rises-not = record { same_nodes = refl; kept = λ part node owner. omega arith; sent = were_sent }

  module _ (node owner turn : ℕ) (part : Part) where
    taken : IsNext (length (journal_of journals owner)) (turns_taken part nodes node owner) turn
        → Rises journals nodes (set nodes node (with_taken part (taken_by nodes node) owner turn))
    taken next =
        let old = taken_by nodes node in
        let new = with_taken part old owner turn in
        record {
          same_nodes = length-set nodes node new;
          kept = λ of at whose.
              rw (turns_by of nodes at whose, turns_by of (set nodes node new) at whose)
              (at-node (λ (t : Taken). turns_in of (taken_by nodes at) whose ≤ turns_in of t whose) nodes node at new (omega arith)
              (λ same. subst (λ (n : ℕ). turns_in of (taken_by nodes n) whose ≤ turns_in of new whose) same
              (with-rises part of old owner turn whose (rw (← turns_by part nodes node owner) next.past))));
          sent = λ of at whose.
              rw (turns_by of (set nodes node new) at whose)
              (at-node (λ (t : Taken). turns_in of t whose ≤ length (journal_of journals whose)) nodes node at new
              (rw (← turns_by of nodes at whose) (were_sent of at whose))
              (λ same. with-within part of old owner turn whose (λ (o : ℕ). length (journal_of journals o))
              (λ o. rw (← turns_by of nodes node o) (were_sent of node o)) next.was_sent));
        }

    carry-case : (unsent repeat early : Bool) → nat_lt (length (journal_of journals owner)) turn ≡ unsent → nat_le turn (turns_taken part nodes node owner) ≡ repeat
        → nat_lt (turns_taken part nodes node owner + 1) turn ≡ early
        → Rises journals nodes (nodes_by nodes node owner turn part
        (cond unsent Unsent (cond repeat (RepeatHave (turns_taken part nodes node owner)) (cond early (EarlyHave (turns_taken part nodes node owner)) Applied))))
    carry-case true repeat early u r e = rises-not
    carry-case false true early u r e = rises-not
    carry-case false false true u r e = rises-not
    carry-case false false false u r e =
        let not_more = ltb-false _ _ u in
        let more = leb-false _ _ r in
        taken (record { was_sent = not_more; past = omega arith })

    pub carry-rises : Rises journals nodes (after_carry journals nodes node owner turn part)
    unfolding after_carry carry_reply
    carry-rises = carry-case _ _ _ refl refl refl

  -- ---- a sync

  all_sent : List ℕ
  all_sent = map (λ changes. length changes) journals

  all_taken : Taken
  all_taken = record { tables = all_sent; fibs = all_sent }

  sync-turns : (part : Part) (owner : ℕ) → turns_in part all_taken owner ≡ length (journal_of journals owner)
  unfolding all_taken all_sent
  sync-turns Table owner = ListN.get_or-map (λ (changes : List Change). length changes) journals owner []
  sync-turns Fib owner = ListN.get_or-map (λ (changes : List Change). length changes) journals owner []

  -- after a sync each node has taken all that was sent
  pub sync-all : (part : Part) (node owner : ℕ) → node < length nodes → turns_taken part (after_sync journals nodes) node owner ≡ length (journal_of journals owner)
  unfolding after_sync all_taken all_sent
  sync-all part node owner within =
      turns_by part (after_sync journals nodes) node owner
      ∙ ap (λ (t : Taken). turns_in part t owner) (get_or-map (λ (t : Taken). all_taken) nodes node nothing_taken nothing_taken within)
      ∙ sync-turns part owner

  sync-past : (part : Part) (node owner : ℕ) → length nodes ≤ node → turns_taken part (after_sync journals nodes) node owner ≡ turns_taken part nodes node owner
  unfolding after_sync all_taken all_sent
  sync-past part node owner past =
      turns_by part (after_sync journals nodes) node owner
      ∙ ap (λ (t : Taken). turns_in part t owner)
      (get_or_past (after_sync journals nodes) node nothing_taken (omega (arith, length-map nodes (λ (t : Taken). all_taken))) ∙ sym (get_or_past nodes node nothing_taken past))
      ∙ sym (turns_by part nodes node owner)

  pub sync-rises : Rises journals nodes (after_sync journals nodes)
  unfolding after_sync all_taken all_sent
  sync-rises = record {
    same_nodes = length-map nodes (λ (t : Taken). all_taken);
    kept = λ part node owner.
        ⊎_elim
        (λ (within : node < length nodes). rw (sync-all part node owner within) (were_sent part node owner))
        (λ (past : length nodes ≤ node). rw (sync-past part node owner past) (omega arith))
        (cases_lt node (length nodes));
    sent = λ part node owner.
        ⊎_elim
        (λ (within : node < length nodes). rw (sync-all part node owner within) (omega arith))
        (λ (past : length nodes ≤ node). rw (sync-past part node owner past) (were_sent part node owner))
        (cases_lt node (length nodes));
  }
