-- The readers of one owner's FIBs, node by node, and what they have seen.
use Rattle.std.specs.Prelude.{◌≡◌, ◌≢◌, ℕ, ◌<◌, List, [], length, map, slice_index_or, Option, Some}
use Rattle.std.specs.List.{slice_get}
use Rattle.flow_types.specs.Size.{Size}
use Rattle.delta_codec.specs.declared.message.FibMessage.{FibMessage}
use Rattle.partial_fib.specs.Ends.{IsLater, ReaderState, shared_after}
use Rattle.partial_fib.specs.Fib.{FibState}
use Rattle.partial_fib.specs.Store.{FibStore}

abbrev pub no_fib : FibStore
no_fib = record { size = record { nodes = 0; blocks = 0 }; node = 0; owner = 0; entries = []; counts = []; taken = 0 }

-- the turns that the reader of a node's FIB has seen, and the FIB as it was shared
abbrev pub turns_at : List ReaderState → (node : ℕ) → List FibMessage
turns_at readers node = slice_index_or (map (λ (r : ReaderState). r.turns) readers) node []

abbrev pub opening_at : List ReaderState → (node : ℕ) → FibStore
opening_at readers node = slice_index_or (map (λ (r : ReaderState). r.opening) readers) node no_fib

-- what the node's FIB says after the turns that its reader has seen
abbrev pub fib_seen : List ReaderState → (node : ℕ) → FibState
fib_seen readers node = shared_after (opening_at readers node) (turns_at readers node)

-- it is the node's FIB of the owner
pub record IsFibOf (size : Size) (owner node : ℕ) (fib : FibStore) : Type 0 where
  pub size_is : fib.size ≡ size
  pub owner_is : fib.owner ≡ owner
  pub node_is : fib.node ≡ node

-- there is one reader for each node, of the node's FIB of the owner
pub record AreFibsOf (size : Size) (owner : ℕ) (readers : List ReaderState) : Type 0 where
  pub one_each : length readers ≡ size.nodes
  pub each : (node : ℕ) → node < size.nodes → IsFibOf size owner node (opening_at readers node)

-- the reader of a node was asked, or none was: the reader that was asked has seen the same, and perhaps more, and no other has
-- changed
pub record AsksOne (asked : Option ℕ) (before after : List ReaderState) : Type 0 where
  pub many : length after ≡ length before
  pub later : (node : ℕ) (was now : ReaderState) → slice_get before node ≡ Some was → slice_get after node ≡ Some now → IsLater was now
  pub others : (node : ℕ) → asked ≢ Some node → slice_get after node ≡ slice_get before node
