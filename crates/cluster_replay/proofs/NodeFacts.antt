-- What a message makes of a node.
use Rattle.std.proofs.Common.{◌≡◌, ◌≢◌, ◌∙◌, ◌<◌, ℕ, List, length, get_or, set, ⊎_elim, sym, ap, subst, arith}
use Rattle.std.proofs.lemmas.Bool.{cases_eq}
use Rattle.std.proofs.lemmas.List.{get_or-set_other, get_or-set_same, length-set}
use Rattle.flow_types.specs.declared.record.Flow.{Flow}
use Rattle.flow_types.specs.Size.{Size, owners_in}
use Rattle.group_history.specs.declared.change.Change.{Change}
use Rattle.packet_reader.specs.declared.event.Part.TheVariants.{Fib, Table}
use Rattle.partial_fib.specs.Fib.{FibState}
use Rattle.run_model.specs.Carrying.{with_taken}
use Rattle.run_model.specs.State.{Taken}
use Rattle.replica_shard.specs.Shard.{ShardState}
use Rattle.cluster_open.specs.Opened.{by_number}
use Rattle.cluster_replay.specs.Cluster.{IsFibOf, IsNodeOf, IsTableOf, NodeState, fib_in, no_fib, no_shard, shard_in, taken_in}
use Rattle.cluster_open.proofs.Numbered.{set_number}

-- ---- how many turns it has taken

module _ (nodes : ℕ) (node : NodeState) (owner : ℕ) where
  set_turns : {X : Type 0} (turns : X → ℕ) (all : List X) (new d : X) → owner < length all
      → by_number nodes (λ (o : ℕ). turns (get_or (set all owner new) o d)) ≡ set (by_number nodes (λ (o : ℕ). turns (get_or all o d))) owner (turns new)
  set_turns turns all new d low =
      set_number nodes (λ (o : ℕ). turns (get_or all o d)) (λ (o : ℕ). turns (get_or (set all owner new) o d)) owner 0
      (λ i below away. ap turns (get_or-set_other all owner i new d away))
      ∙ ap (λ x. set (by_number nodes (λ (o : ℕ). turns (get_or all o d))) owner (turns x)) (get_or-set_same all owner new d low)

  -- a node whose table of an owner is another
  pub set_table_taken : (new : ShardState) → owner < length node.shards
      → taken_in nodes (record node { shards = set node.shards owner new }) ≡ with_taken Table (taken_in nodes node) owner new.taken
  unfolding taken_in
  set_table_taken new low =
      ap (λ (tables : List ℕ). let taken : Taken = record { tables = tables; fibs = by_number nodes (λ (o : ℕ). (fib_in node o).taken) } in taken)
      (set_turns (λ (s : ShardState). s.taken) node.shards new no_shard low)

  pub set_fib_taken : (new : FibState) → owner < length node.fibs
      → taken_in nodes (record node { fibs = set node.fibs owner new }) ≡ with_taken Fib (taken_in nodes node) owner new.taken
  unfolding taken_in
  set_fib_taken new low =
      ap (λ (fibs : List ℕ). let taken : Taken = record { tables = by_number nodes (λ (o : ℕ). (shard_in node o).taken); fibs = fibs } in taken)
      (set_turns (λ (f : FibState). f.taken) node.fibs new no_fib low)

-- ---- what stands in it

-- what holds of the element that is set, and of all others as before, holds of each
pub each_set : {X : Type 0} (P : ℕ → X → Type 0) (count : ℕ) (all : List X) (at : ℕ) (new d : X) → length all ≡ count
    → ((i : ℕ) → i < count → P i (get_or all i d)) → P at new → (i : ℕ) → i < count → P i (get_or (set all at new) i d)
each_set P count all at new d long each here i low =
    ⊎_elim
    (λ (same : i ≡ at).
    subst (λ (n : ℕ). P n (get_or (set all at new) n d)) (sym same)
    (subst (P at) (sym (get_or-set_same all at new d (omega (arith, long)))) here))
    (λ (away : i ≢ at). subst (P i) (sym (get_or-set_other all at i new d away)) (each i low))
    (cases_eq i at)

module _ (size : Size) (flows : List Flow) (journal : ℕ → List Change) (number : ℕ) (node : NodeState) (is : IsNodeOf size flows journal number node) (owner : ℕ) where
  pub set_table : (new : ShardState) → IsTableOf size owner flows (journal owner) new
      → IsNodeOf size flows journal number (record node { shards = set node.shards owner new })
  set_table new here = record {
    one_table_each = length-set node.shards owner new ∙ is.one_table_each;
    one_fib_each = is.one_fib_each;
    tables = each_set (λ (o : ℕ) (s : ShardState). IsTableOf size o flows (journal o) s) (owners_in size) node.shards owner new no_shard is.one_table_each is.tables here;
    fibs = is.fibs;
  }

  pub set_fib : (new : FibState) → IsFibOf size number owner flows (journal owner) new
      → IsNodeOf size flows journal number (record node { fibs = set node.fibs owner new })
  set_fib new here = record {
    one_table_each = is.one_table_each;
    one_fib_each = length-set node.fibs owner new ∙ is.one_fib_each;
    tables = is.tables;
    fibs = each_set (λ (o : ℕ) (f : FibState). IsFibOf size number o flows (journal o) f) (owners_in size) node.fibs owner new no_fib is.one_fib_each is.fibs here;
  }
