-- What one more turn, and many, make of a FIB.
use Rattle.std.proofs.Common.{ℕ, ◌≡◌, ◌∙◌, ◌+◌, ◌-◌, ◌*◌, ◌/◌, ◌<◌, ◌≤◌, Bool, true, false, List, [], ◌∷◌, ◌++◌, length, refl, arith}
use Rattle.std.specs.Prelude.{slice_index_or}
use Rattle.std.proofs.Math.Nat.{div-mul-le_self}
use Rattle.std.proofs.lemmas.Nat.{le-div}
use Rattle.std.proofs.lemmas.List.{length-set}
use Rattle.std.proofs.lemmas.List.Sums.{fold-append}
use Rattle.block_layout.specs.Limits.{group_count}
use Rattle.group_search.specs.Home.{Home, is_home}
use Rattle.delta_codec.specs.declared.message.FibMessage.{FibMessage}
use Rattle.delta_codec.specs.Values.{IsOperation}
use Rattle.partial_fib.specs.Fib.{FibState, group_of_message, with_turn}
use Rattle.delta_codec.specs.Messages.{FibMessageFits}
use Rattle.partial_fib.specs.Store.{FibStore, IsUnturned, IsWhole, counts_with, slot_of, state_of, store_with}
use Rattle.partial_fib.specs.Turns.{after_turns, turn_count}
use Rattle.partial_fib.proofs.EntrySteps.{once_with, records_with}
use Rattle.partial_fib.proofs.Places.{IsCount, is_group, one_more_at, same_turn}

-- the place of a block's groups lies before the end of those of the last block
in_places : (nodes blocks : ℕ) (at : Home) → 1 ≤ nodes → at.block < blocks → at.group < group_count → slot_of nodes at < (blocks - 1) / nodes * group_count + group_count
in_places nodes blocks at some within low =
    let less : at.block / nodes ≤ (blocks - 1) / nodes = le-div (at.block / nodes) (blocks - 1) nodes some (omega (arith, div-mul-le_self at.block nodes)) in
    omega (arith, less)

module _ (fib : FibStore) (message : FibMessage) (whole : IsWhole fib) (fits : FibMessageFits fib.size message) (own : message.owner ≡ fib.owner) where
  abbrev at : Home
  at = group_of_message message

  abbrev place : ℕ
  place = slot_of fib.size.nodes at

  counted : IsCount fib at place (slice_index_or fib.counts place 0)
  counted =
      let some : 1 ≤ fib.size.nodes = omega (arith, fits.owner_is_node) in
      record {
        some_node = some;
        own = is_group fib.size fib.owner some at fits.in_table (fits.owned ∙ own) fits.in_block;
        place_is = refl;
        there = omega (arith, in_places fib.size.nodes fib.size.blocks at some fits.in_table fits.in_block, whole.places);
        count_is = refl;
      }

  -- what is kept after the turn says what the turn means
  pub turn_of_store : IsOperation message.op → state_of (store_with fib message) ≡ with_turn (state_of fib) message
  turn_of_store values =
      same_turn fib message _ (counts_with fib.counts place) (records_with fib.entries message.op values whole.once) (one_more_at fib at place _ counted)

  -- and is whole
  pub whole_with : IsWhole (store_with fib message)
  whole_with = record {
    once = once_with fib.entries message.op whole.once;
    places = length-set fib.counts place _ ∙ whole.places;
  }

-- ---- many turns

pub after_one_more : (fib : FibState) (turns : List FibMessage) (turn : FibMessage) → after_turns fib (turns ++ turn ∷ []) ≡ with_turn (after_turns fib turns) turn
after_one_more fib turns turn = fold-append with_turn fib turns (turn ∷ [])

-- each turn is counted
pub taken_after : (fib : FibState) (turns : List FibMessage) → (after_turns fib turns).taken ≡ fib.taken + length turns
taken_after fib [] = omega arith
taken_after fib (turn ∷ turns) = omega (arith, taken_after (with_turn fib turn) turns)

-- and is counted at its group
pub version_after : (fib : FibState) (turns : List FibMessage) (at : Home) → (after_turns fib turns).versions at ≡ fib.versions at + turn_count at turns
version_after fib [] at = omega arith
version_after fib (turn ∷ turns) at = by (is_home (group_of_message turn) at) refl (version_after (with_turn fib turn) turns at)
  where
    by : (here : Bool) → is_home (group_of_message turn) at ≡ here
        → (after_turns (with_turn fib turn) turns).versions at ≡ (with_turn fib turn).versions at + turn_count at turns
        → (after_turns fib (turn ∷ turns)).versions at ≡ fib.versions at + turn_count at (turn ∷ turns)
    by true e rest =
        let one : (with_turn fib turn).versions at ≡ fib.versions at + 1 = rw e refl in
        let more : turn_count at (turn ∷ turns) ≡ turn_count at turns + 1 = rw e (omega arith) in
        omega (arith, rest, one, more)
    by false e rest =
        let one : (with_turn fib turn).versions at ≡ fib.versions at = rw e refl in
        let more : turn_count at (turn ∷ turns) ≡ turn_count at turns = rw e refl in
        omega (arith, rest, one, more)

-- a FIB that was shared before its first turn has of each turn one version of its group
pub version_is_count : (fib : FibStore) (turns : List FibMessage) (at : Home) → IsUnturned fib → (after_turns (state_of fib) turns).versions at ≡ turn_count at turns
version_is_count fib turns at unturned = omega (arith, version_after (state_of fib) turns at, unturned.unversioned at)

pub taken_is_length : (fib : FibStore) (turns : List FibMessage) → IsUnturned fib → (after_turns (state_of fib) turns).taken ≡ length turns
taken_is_length fib turns unturned = omega (arith, taken_after (state_of fib) turns, unturned.untaken)
