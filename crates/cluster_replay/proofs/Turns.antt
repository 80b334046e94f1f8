-- What the message of a turn makes of a node's table and of its FIB.
use Rattle.std.proofs.Common.{◌≡◌, ◌∙◌, ◌+◌, ◌<◌, ◌≤◌, ℕ, suc, List, [], ◌∷◌, ◌++◌, length, take, Some, sym, ap, subst, arith}
use Rattle.std.specs.List.{slice_get}
use Rattle.std.proofs.Math.Seq.{take-suc}
use Rattle.std.proofs.lemmas.List.{length-take-le}
use Rattle.std.proofs.lemmas.Option.{get_or_from_slice_get, slice_get_within}
use Rattle.flow_types.specs.declared.record.Flow.{Flow}
use Rattle.flow_types.specs.Size.{IsShape, Size}
use Rattle.group_search.specs.Build.{rows_left}
use Rattle.group_search.specs.Canon.{rows_in}
use Rattle.group_history.specs.declared.change.Change.{Change}
use Rattle.group_history.specs.History.{map_now}
use Rattle.delta_codec.specs.declared.message.FibMessage.{FibMessage}
use Rattle.delta_codec.specs.declared.message.TableMessage.{TableMessage}
use Rattle.delta_codec.specs.Messages.{IsTableMessageOf, IsFibMessageOf}
use Rattle.replica_shard.proofs.TurnFacts.{goes_on as table_goes_on_by}
use Rattle.replica_shard.proofs.Opened.{of_owner_at_home}
use Rattle.replica_shard.proofs.Room.{has_room}
use Rattle.replica_shard.specs.Shard.{ShardState, free_rows, shard_after, with_content}
use Rattle.partial_fib.specs.Fib.{FibState, fib_after, with_turn}
use Rattle.delta_codec.specs.Journals.{IsJournalOf, IsOfOwner, IsOwnChange}
use Rattle.partial_fib.proofs.TurnFacts.{goes_on}
use Rattle.cluster_replay.specs.Cluster.{IsFibOf, IsTableOf}
use Rattle.turn_log.specs.Room.{HaveRows}

-- ---- a journal's changes

-- the first changes and the next one
next_taken : (changes : List Change) (before : ℕ) (change : Change) → slice_get changes before ≡ Some change → take (before + 1) changes ≡ take before changes ++ change ∷ []
next_taken changes before change there =
    ap (λ (n : ℕ). take n changes) (let n : before + 1 ≡ suc before = omega arith in n) ∙ take-suc changes before change (slice_get_within changes before change there)
    ∙ ap (λ (c : Change). take before changes ++ c ∷ []) (get_or_from_slice_get changes before change change there)

module _ (size : Size) (shape : IsShape size.nodes size.blocks) (owner : ℕ) (flows : List Flow) (changes : List Change) (own : IsJournalOf size owner flows changes)
    (before : ℕ) (change : Change) (there : slice_get changes before ≡ Some change) where
  is_own : IsOwnChange size owner flows change
  is_own = subst (IsOwnChange size owner flows) (get_or_from_slice_get changes before change change there) (own before change (slice_get_within changes before change there))

  -- it is of one of the owner's groups
  is_of_owner : IsOfOwner size owner change
  is_of_owner = let blocks = shape.enough_blocks in of_owner_at_home size owner flows change (omega (arith, blocks)) is_own.at_home is_own.owned

-- ---- a table

-- the table after the turns before this one has room for the message's record
room_there : (size : Size) (owner : ℕ) (flows : List Flow) (changes : List Change) (turn : ℕ) (message : TableMessage) (of : IsTableMessageOf size owner flows changes turn message)
    → HaveRows size flows changes → rows_in message.content ≤ free_rows (shard_after size owner flows (take of.before changes)) message.block message.group
unfolding rows_left map_now
room_there size owner flows changes turn message of rows =
    has_room size owner flows (take of.before changes) of.change message of.says (rows of.before of.change of.there)

module _ (size : Size) (shape : IsShape size.nodes size.blocks) (owner : ℕ) (flows : List Flow) (changes : List Change) (own : IsJournalOf size owner flows changes)
    (shard : ShardState) (is : IsTableOf size owner flows changes shard)
    (turn : ℕ) (message : TableMessage) (of : IsTableMessageOf size owner flows changes turn message) where
  pub table_owner : shard.owner ≡ message.owner
  table_owner = ap (λ (s : ShardState). s.owner) is.stands ∙ sym of.says.of_owner

  pub table_size : shard.size ≡ size
  table_size = ap (λ (s : ShardState). s.size) is.stands

  before_there : of.before < length changes
  before_there = slice_get_within changes of.before of.change of.there

  pub table_turn : message.turn ≡ turn
  table_turn = omega (arith, of.says.next, of.numbered, length-take-le of.before changes (omega (arith, before_there)))

  -- the next turn finds the table as its change found the journal
  at_next : turn ≡ shard.taken + 1 → shard ≡ shard_after size owner flows (take of.before changes)
  at_next next =
      is.stands ∙ ap (λ (n : ℕ). shard_after size owner flows (take n changes)) (let n : shard.taken ≡ of.before = omega (arith, of.numbered) in n)

  pub table_goes_on : turn ≡ shard.taken + 1 → IsTableOf size owner flows changes (with_content shard message)
  table_goes_on next = record {
    sent = omega (arith, of.numbered, before_there);
    stands =
        ap (λ (s : ShardState). with_content s message) (at_next next)
        ∙ table_goes_on_by size owner flows (take of.before changes) of.change message of.says
        (is_of_owner size shape owner flows changes own of.before of.change of.there)
        ∙ ap (shard_after size owner flows) (sym (next_taken changes of.before of.change of.there))
        ∙ ap (λ (n : ℕ). shard_after size owner flows (take n changes)) (let n : of.before + 1 ≡ shard.taken + 1 = omega (arith, of.numbered) in n);
  }

  -- its rows are there
  pub table_room : HaveRows size flows changes → message.turn ≡ shard.taken + 1 → rows_in message.content ≤ free_rows shard message.block message.group
  table_room rows next = rw (at_next (omega (arith, table_turn))) (room_there size owner flows changes turn message of rows)

-- ---- a FIB

module _ (size : Size) (node owner : ℕ) (flows : List Flow) (changes : List Change) (own : IsJournalOf size owner flows changes)
    (fib : FibState) (is : IsFibOf size node owner flows changes fib)
    (turn : ℕ) (message : FibMessage) (of : IsFibMessageOf size node owner flows changes turn message) where
  fib_before_there : of.before < length changes
  fib_before_there = slice_get_within changes of.before of.change of.there

  pub fib_owner : fib.owner ≡ message.owner
  fib_owner = ap (λ (f : FibState). f.owner) is.stands ∙ sym (ap (λ (m : FibMessage). m.owner) of.says)

  pub fib_size : fib.size ≡ size
  fib_size = ap (λ (f : FibState). f.size) is.stands

  pub fib_turn : message.turn ≡ turn
  fib_turn = omega (arith, ap (λ (m : FibMessage). m.turn) of.says, of.numbered, length-take-le of.before changes (omega (arith, fib_before_there)))

  pub fib_goes_on : turn ≡ fib.taken + 1 → IsFibOf size node owner flows changes (with_turn fib message)
  fib_goes_on next =
      let before : fib.taken ≡ of.before = omega (arith, of.numbered) in
      let mine : IsOwnChange size owner flows of.change = subst (IsOwnChange size owner flows) (get_or_from_slice_get changes of.before of.change of.change of.there) (own of.before of.change fib_before_there) in
      record {
        sent = omega (arith, of.numbered, fib_before_there);
        stands =
            ap (λ (f : FibState). with_turn f message) (is.stands ∙ ap (λ (n : ℕ). fib_after size node owner flows (take n changes)) before)
            ∙ ap (with_turn (fib_after size node owner flows (take of.before changes))) of.says
            ∙ goes_on size node owner flows (take of.before changes) of.change mine
            ∙ ap (fib_after size node owner flows) (sym (next_taken changes of.before of.change of.there))
            ∙ ap (λ (n : ℕ). fib_after size node owner flows (take n changes)) (let n : of.before + 1 ≡ fib.taken + 1 = omega (arith, of.numbered) in n);
      }
