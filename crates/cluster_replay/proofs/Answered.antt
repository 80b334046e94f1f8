-- What a node's part replies to a message.
use Rattle.std.proofs.Common.{◌≡◌, ◌∙◌, ◌+◌, ◌<◌, ◌≤◌, ℕ, Bool, true, false, List, Ok, Err, length, map, get_or, set, inl, inr, sym, ap, arith}
use Rattle.std.specs.Prelude.{Result, nat_le, nat_lt}
use Rattle.std.proofs.lemmas.Bool.{cases_lt}
use Rattle.std.proofs.lemmas.Bool.Decides.{nat_tests}
use Rattle.std.proofs.lemmas.List.{get_or-map, map-set, set-get_or}
use Rattle.partial_fib.specs.Fib.{FibState}
use Rattle.partial_fib.specs.Store.{FibStore, state_of}
use Rattle.replica_shard.specs.Shard.{ShardState}
use Rattle.replica_shard.specs.Store.{ShardStore, shard_state_of}
use Rattle.run_model.specs.declared.reply.Reply.TheVariants.{Applied, EarlyHave, RepeatHave}
use Rattle.cluster_replay.specs.Cluster.{NodeState, NodeStore, fib_in, no_fib, no_shard, node_state_of, shard_in, taking_reply}
use Rattle.cluster_replay.proofs.Carried.{reply_is, reply_of}

module _ (have turn : ℕ) where
  by_tests : (repeat early : Bool) → nat_le turn have ≡ repeat → nat_lt (have + 1) turn ≡ early → reply_of have repeat early ≡ taking_reply have turn
  by_tests repeat early old later =
      sym (reply_is turn have turn (omega arith) ∙ ap (λ (r : Bool). reply_of have r (nat_lt (have + 1) turn)) old ∙ ap (reply_of have repeat) later)

  pub repeated : turn ≤ have → RepeatHave have ≡ taking_reply have turn
  repeated old = by_tests true false (grind (arith, nat_tests)) (grind (arith, nat_tests))

  pub too_early : have + 1 < turn → EarlyHave have ≡ taking_reply have turn
  too_early later = by_tests false true (grind (arith, nat_tests)) (grind (arith, nat_tests))

  pub applied : turn ≡ have + 1 → Applied ≡ taking_reply have turn
  applied next = by_tests false false (grind (arith, nat_tests)) (grind (arith, nat_tests))

  pub is_next : ¬ (turn ≤ have) → ¬ (have + 1 < turn) → turn ≡ have + 1
  is_next not_old not_early = elim (cases_lt have turn) [
    | inl past ↦ elim (cases_lt (have + 1) turn) [
      | inl early ↦ absurd (not_early early)
      | inr near ↦ omega arith
    ]
    | inr old ↦ absurd (not_old old)
  ]

-- a message that is taken is the next one
pub next_of_ok : {E : Type 0} (result : Result (Unit {0}) E) (repeat early : ℕ → E) (have turn : ℕ) (taken : Unit {0}) → result ≡ Ok taken
    → (turn ≤ have → result ≡ Err (repeat have)) → (have + 1 < turn → result ≡ Err (early have)) → turn ≡ have + 1
next_of_ok result repeat early have turn taken is if_old if_early =
    is_next have turn (λ old. not_both result taken (repeat have) is (if_old old)) (λ later. not_both result taken (early have) is (if_early later))
  where
    not_both : {E : Type 0} (result : Result (Unit {0}) E) (taken : Unit {0}) (why : E) → result ≡ Ok taken → result ≡ Err why → ⊥
    not_both result taken why ok err = cc

-- ---- a node's fields

module _ (node : NodeStore) (owner : ℕ) where
  pub shard_here : (shard : ShardStore) → owner < length node.shards → shard ≡ get_or node.shards owner shard → shard_state_of shard ≡ shard_in (node_state_of node) owner
  shard_here shard low is = ap shard_state_of is ∙ sym (get_or-map shard_state_of node.shards owner shard no_shard low)

  pub fib_here : (fib : FibStore) → owner < length node.fibs → fib ≡ get_or node.fibs owner fib → state_of fib ≡ fib_in (node_state_of node) owner
  fib_here fib low is = ap state_of is ∙ sym (get_or-map state_of node.fibs owner fib no_fib low)

  pub with_shard : (shard : ShardStore) (to : ShardState) → shard_state_of shard ≡ to
      → node_state_of (record node { shards = set node.shards owner shard }) ≡ record (node_state_of node) { shards = set (map shard_state_of node.shards) owner to }
  with_shard shard to is =
      ap (λ (shards : List ShardState). let said : NodeState = record { shards = shards; fibs = map state_of node.fibs } in said)
      (map-set shard_state_of node.shards owner shard ∙ ap (set (map shard_state_of node.shards) owner) is)

  pub same_shard : (shard old : ShardStore) → shard ≡ old → old ≡ get_or node.shards owner old → node_state_of (record node { shards = set node.shards owner shard }) ≡ node_state_of node
  same_shard shard old is old_is =
      ap (λ (shards : List ShardStore). node_state_of (record node { shards = shards }))
      (ap (set node.shards owner) (is ∙ old_is) ∙ set-get_or node.shards owner old)

  pub with_fib : (fib : FibStore) (to : FibState) → state_of fib ≡ to
      → node_state_of (record node { fibs = set node.fibs owner fib }) ≡ record (node_state_of node) { fibs = set (map state_of node.fibs) owner to }
  with_fib fib to is =
      ap (λ (fibs : List FibState). let said : NodeState = record { shards = map shard_state_of node.shards; fibs = fibs } in said)
      (map-set state_of node.fibs owner fib ∙ ap (set (map state_of node.fibs) owner) is)

  pub same_fib : (fib old : FibStore) → fib ≡ old → old ≡ get_or node.fibs owner old → node_state_of (record node { fibs = set node.fibs owner fib }) ≡ node_state_of node
  same_fib fib old is old_is =
      ap (λ (fibs : List FibStore). node_state_of (record node { fibs = fibs }))
      (ap (set node.fibs owner) (is ∙ old_is) ∙ set-get_or node.fibs owner old)
