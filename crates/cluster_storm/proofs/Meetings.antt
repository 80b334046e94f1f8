-- What a lane has seen after one meeting after the other.
use Rattle.std.proofs.Common.{◌≡◌, ◌≢◌, ◌∙◌, ◌+◌, ◌<◌, ◌⊎◌, ℕ, zero, suc, List, [], ◌∷◌, Some, refl, sym, ap, subst, arith, inl, inr}
use Rattle.std.specs.List.{slice_get}
use Rattle.std.proofs.lemmas.Option.{same_Some}
use Rattle.group_search.specs.declared.published.Publication.{Publication}
use Rattle.delta_codec.specs.declared.message.FibMessage.{FibMessage}
use Rattle.storm_model.specs.Lists.{IsLater}
use Rattle.storm_model.proofs.Lists.{later-on, later-same}
use Rattle.storm_lane.specs.Lane.{LaneState, fib_book, lists_of, table_shard}
use Rattle.storm_lane.specs.Readers.{Seats}
use Rattle.storm_lane.specs.Work.{IsSameLane, MeetsAt}
use Rattle.turn_relay.specs.PartState.{ApplierState, PartState}
use Rattle.cluster_storm.specs.Meeting.{HasMet, IsReaderOf, MeetsNodes, MeetsParts, ReadsNodes, ReadsParts}
use Rattle.cluster_storm.specs.Rest.{part_at}

-- ---- the same lane

pub lane-self : (lane : LaneState) → IsSameLane lane lane
lane-self lane = record { size = refl; number = refl; lanes = refl; seats = refl }

pub lane-trans : (a b c : LaneState) → IsSameLane a b → IsSameLane b c → IsSameLane a c
lane-trans a b c first second = record {
  size = second.size ∙ first.size;
  number = second.number ∙ first.number;
  lanes = second.lanes ∙ first.lanes;
  seats = second.seats ∙ first.seats;
}

-- ---- its readers stay those of these parts

module _ (before after : LaneState) (same : IsSameLane before after) where
  still-reader : (node owner : ℕ) (part : PartState) → IsReaderOf before node owner part → IsReaderOf after node owner part
  still-reader node owner part is = record {
    shard = ap (λ (seats : List Seats). table_shard seats node owner) same.seats ∙ is.shard;
    book = ap (λ (seats : List Seats). fib_book seats node owner) same.seats ∙ is.book;
  }

  pub still-parts : (node owner : ℕ) (parts : List PartState) → ReadsParts before node owner parts → ReadsParts after node owner parts
  still-parts node owner [] reads = tt
  still-parts node owner (part ∷ parts) reads = (still-reader node owner part reads.0, still-parts node (owner + 1) parts reads.1)

  pub still-nodes : (node : ℕ) (appliers : List ApplierState) → ReadsNodes before node appliers → ReadsNodes after node appliers
  still-nodes node [] reads = tt
  still-nodes node (applier ∷ appliers) reads = (still-parts node 0 applier.parts reads.0, still-nodes (node + 1) appliers reads.1)

-- ---- what was met

-- what one node's parts gave a lane
record PartsMet (node owner : ℕ) (parts : List PartState) (before after : LaneState) : Type 0 where
  same : IsSameLane before after
  later : IsLater (lists_of before.readers) (lists_of after.readers)
  replies : after.replies ≡ before.replies
  failed : after.failed ≡ before.failed
  tables : (i : ℕ) (part : PartState) → slice_get parts i ≡ Some part → (lists_of after.readers).tables node (owner + i) ≡ part.table.list
  fibs : (i : ℕ) (part : PartState) → slice_get parts i ≡ Some part → (lists_of after.readers).fibs node (owner + i) ≡ part.fib.turns
  other_tables : (n o : ℕ) → (n ≢ node) ⊎ (o < owner) → (lists_of after.readers).tables n o ≡ (lists_of before.readers).tables n o
  other_fibs : (n o : ℕ) → (n ≢ node) ⊎ (o < owner) → (lists_of after.readers).fibs n o ≡ (lists_of before.readers).fibs n o

nothing-met : (node owner : ℕ) (lane : LaneState) → PartsMet node owner [] lane lane
nothing-met node owner lane = record {
  same = lane-self lane;
  later = later-same (lists_of lane.readers);
  replies = refl;
  failed = refl;
  tables = λ i part there. absurd cc;
  fibs = λ i part there. absurd cc;
  other_tables = λ n o apart. refl;
  other_fibs = λ n o apart. refl;
}

nearer : (node owner n o : ℕ) → (n ≢ node) ⊎ (o < owner) → (n ≢ node) ⊎ (o ≢ owner)
nearer node owner n o (inl far) = inl far
nearer node owner n o (inr low) = inr (λ (same : o ≡ owner). absurd (omega (arith, low, same)))

further : (node owner n o : ℕ) → (n ≢ node) ⊎ (o < owner) → (n ≢ node) ⊎ (o < owner + 1)
further node owner n o (inl far) = inl far
further node owner n o (inr low) = inr (omega (arith, low))

parts-met : (node owner : ℕ) (parts : List PartState) (before after : LaneState) → MeetsParts node owner parts before after → PartsMet node owner parts before after
parts-met node owner [] before after met = subst (PartsMet node owner [] before) (sym met) (nothing-met node owner before)
parts-met node owner (part ∷ parts) before after (between, one, more) =
    let rest = parts-met node (owner + 1) parts between after more in
    record {
      same = lane-trans before between after one.same rest.same;
      later = later-on (lists_of before.readers) (lists_of between.readers) (lists_of after.readers) one.later rest.later;
      replies = rest.replies ∙ one.replies;
      failed = rest.failed ∙ one.failed;
      tables = tables_at rest;
      fibs = fibs_at rest;
      other_tables = λ n o either. rest.other_tables n o (further node owner n o either) ∙ one.other_tables n o (nearer node owner n o either);
      other_fibs = λ n o either. rest.other_fibs n o (further node owner n o either) ∙ one.other_fibs n o (nearer node owner n o either);
    }
  where
    tables_at : PartsMet node (owner + 1) parts between after
        → (i : ℕ) (p : PartState) → slice_get (part ∷ parts) i ≡ Some p → (lists_of after.readers).tables node (owner + i) ≡ p.table.list
    tables_at rest zero p there =
        let same : owner + 0 ≡ owner = omega arith in
        let is : part ≡ p = same_Some part p there in
        ap (λ (o : ℕ). (lists_of after.readers).tables node o) same ∙ rest.other_tables node owner (inr (omega arith)) ∙ one.records ∙ ap (λ (q : PartState). q.table.list) is
    tables_at rest (suc i) p there =
        let same : owner + suc i ≡ owner + 1 + i = omega arith in
        ap (λ (o : ℕ). (lists_of after.readers).tables node o) same ∙ rest.tables i p there

    fibs_at : PartsMet node (owner + 1) parts between after
        → (i : ℕ) (p : PartState) → slice_get (part ∷ parts) i ≡ Some p → (lists_of after.readers).fibs node (owner + i) ≡ p.fib.turns
    fibs_at rest zero p there =
        let same : owner + 0 ≡ owner = omega arith in
        let is : part ≡ p = same_Some part p there in
        ap (λ (o : ℕ). (lists_of after.readers).fibs node o) same ∙ rest.other_fibs node owner (inr (omega arith)) ∙ one.turns ∙ ap (λ (q : PartState). q.fib.turns) is
    fibs_at rest (suc i) p there =
        let same : owner + suc i ≡ owner + 1 + i = omega arith in
        ap (λ (o : ℕ). (lists_of after.readers).fibs node o) same ∙ rest.fibs i p there

-- what the nodes from this one on gave a lane
record NodesMet (node : ℕ) (appliers : List ApplierState) (before after : LaneState) : Type 0 where
  same : IsSameLane before after
  later : IsLater (lists_of before.readers) (lists_of after.readers)
  replies : after.replies ≡ before.replies
  failed : after.failed ≡ before.failed
  tables : (j owner : ℕ) (part : PartState) → part_at appliers j owner ≡ Some part → (lists_of after.readers).tables (node + j) owner ≡ part.table.list
  fibs : (j owner : ℕ) (part : PartState) → part_at appliers j owner ≡ Some part → (lists_of after.readers).fibs (node + j) owner ≡ part.fib.turns
  other_tables : (n o : ℕ) → n < node → (lists_of after.readers).tables n o ≡ (lists_of before.readers).tables n o
  other_fibs : (n o : ℕ) → n < node → (lists_of after.readers).fibs n o ≡ (lists_of before.readers).fibs n o

apart : (n node : ℕ) → n < node → n ≢ node
apart n node low same = absurd (omega (arith, low, same))

all-met : (node : ℕ) (appliers : List ApplierState) (before after : LaneState) → MeetsNodes node appliers before after → NodesMet node appliers before after
all-met node [] before after met = subst (NodesMet node [] before) (sym met) (record {
  same = lane-self before;
  later = later-same (lists_of before.readers);
  replies = refl;
  failed = refl;
  tables = λ j owner part there. absurd cc;
  fibs = λ j owner part there. absurd cc;
  other_tables = λ n o low. refl;
  other_fibs = λ n o low. refl;
})
all-met node (applier ∷ appliers) before after (between, first, more) =
    let one = parts-met node 0 applier.parts before between first in
    let rest = all-met (node + 1) appliers between after more in
    record {
      same = lane-trans before between after one.same rest.same;
      later = later-on (lists_of before.readers) (lists_of between.readers) (lists_of after.readers) one.later rest.later;
      replies = rest.replies ∙ one.replies;
      failed = rest.failed ∙ one.failed;
      tables = tables_at one rest;
      fibs = fibs_at one rest;
      other_tables = λ n o low. rest.other_tables n o (omega (arith, low)) ∙ one.other_tables n o (inl (apart n node low));
      other_fibs = λ n o low. rest.other_fibs n o (omega (arith, low)) ∙ one.other_fibs n o (inl (apart n node low));
    }
  where
    tables_at : PartsMet node 0 applier.parts before between → NodesMet (node + 1) appliers between after
        → (j o : ℕ) (p : PartState) → part_at (applier ∷ appliers) j o ≡ Some p → (lists_of after.readers).tables (node + j) o ≡ p.table.list
    tables_at one rest zero o p there =
        let same : node + 0 ≡ node = omega arith in
        let whole : o ≡ 0 + o = omega arith in
        ap (λ (n : ℕ). (lists_of after.readers).tables n o) same ∙ rest.other_tables node o (omega arith)
        ∙ ap (λ (q : ℕ). (lists_of between.readers).tables node q) whole ∙ one.tables o p there
    tables_at one rest (suc j) o p there =
        let same : node + suc j ≡ node + 1 + j = omega arith in
        ap (λ (n : ℕ). (lists_of after.readers).tables n o) same ∙ rest.tables j o p there

    fibs_at : PartsMet node 0 applier.parts before between → NodesMet (node + 1) appliers between after
        → (j o : ℕ) (p : PartState) → part_at (applier ∷ appliers) j o ≡ Some p → (lists_of after.readers).fibs (node + j) o ≡ p.fib.turns
    fibs_at one rest zero o p there =
        let same : node + 0 ≡ node = omega arith in
        let whole : o ≡ 0 + o = omega arith in
        ap (λ (n : ℕ). (lists_of after.readers).fibs n o) same ∙ rest.other_fibs node o (omega arith)
        ∙ ap (λ (q : ℕ). (lists_of between.readers).fibs node q) whole ∙ one.fibs o p there
    fibs_at one rest (suc j) o p there =
        let same : node + suc j ≡ node + 1 + j = omega arith in
        ap (λ (n : ℕ). (lists_of after.readers).fibs n o) same ∙ rest.fibs j o p there

pub nodes_met : (appliers : List ApplierState) (before after : LaneState) → MeetsNodes 0 appliers before after → HasMet appliers before after
nodes_met appliers before after met =
    let all = all-met 0 appliers before after met in
    record {
      same = all.same;
      later = all.later;
      replies = all.replies;
      failed = all.failed;
      tables = λ n o p there. let whole : n ≡ 0 + n = omega arith in ap (λ (m : ℕ). (lists_of after.readers).tables m o) whole ∙ all.tables n o p there;
      fibs = λ n o p there. let whole : n ≡ 0 + n = omega arith in ap (λ (m : ℕ). (lists_of after.readers).fibs m o) whole ∙ all.fibs n o p there;
    }

-- ---- the readers of what is left

pub parts_still_read : (node owner : ℕ) (taken : List Publication) (published : List FibMessage) (parts : List PartState) (before after : LaneState)
    → MeetsAt node owner taken published before after → ReadsParts before node (owner + 1) parts → ReadsParts after node (owner + 1) parts
parts_still_read node owner taken published parts before after met = still-parts before after met.same node (owner + 1) parts

pub nodes_still_read : (node : ℕ) (parts : List PartState) (appliers : List ApplierState) (before after : LaneState) → MeetsParts node 0 parts before after
    → ReadsNodes before (node + 1) appliers → ReadsNodes after (node + 1) appliers
nodes_still_read node parts appliers before after met = still-nodes before after (parts-met node 0 parts before after met).same (node + 1) appliers
