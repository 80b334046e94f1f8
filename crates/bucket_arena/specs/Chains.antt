-- How cells are linked into chains.
use Rattle.std.specs.Prelude.{◌≡◌, ℕ, zero, suc, ◌+◌, ◌-◌, ◌<◌, ◌≤◌, List, [], ◌∷◌, length, get_or, Option, Some, None, cond, ◌==◌}
use Rattle.std.specs.List.{sum_by}
use Rattle.bucket_arena.specs.Row.{IsWritten}
use Rattle.bucket_arena.specs.declared.chain.Cell.{Cell}
use Rattle.bucket_arena.specs.declared.chain.Chain.{Chain}

-- an arena has this number of lists
abbrev pub list_count : ℕ
list_count = 256

-- an arena has fewer cells than this number, so that 32 bits count them
abbrev pub cell_limit : ℕ
cell_limit = 4294967295

-- how often the number stands in the list
abbrev pub occurrences : ℕ → List ℕ → ℕ
occurrences number [] = 0
occurrences number (n ∷ ns) = cond (n == number) 1 0 + occurrences number ns

-- the last of these numbers is the one that the chain names, and those of its run count on from the first
pub record IsMarked (ns : List ℕ) (chain : Chain) : Type 0 where
  pub ends : 0 < chain.len → get_or ns (chain.len - 1) 0 ≡ chain.last
  pub runs : (place : ℕ) → place ≤ chain.run → place < chain.len → get_or ns place 0 ≡ chain.first + place
  pub within : chain.run ≤ chain.len - 1

module _ {X : Type 0} where
  -- what the cell of this number holds
  abbrev pub cell_at : List (Option (Cell X)) → ℕ → Option (Cell X)
  cell_at cells number = get_or cells number None

  -- the number of the next cell
  abbrev pub next_of : Option (Cell X) → ℕ
  next_of None = 0
  next_of (Some c) = c.next

  -- the numbers of `len` cells, from this one on
  abbrev pub numbers_from : (ℕ → Option (Cell X)) → ℕ → ℕ → List ℕ
  numbers_from cell zero number = []
  numbers_from cell (suc len) number = number ∷ numbers_from cell len (next_of (cell number))

  -- the numbers of a chain's cells, from the first to the last
  abbrev pub numbers : (ℕ → Option (Cell X)) → Chain → List ℕ
  numbers cell chain = numbers_from cell chain.len chain.first

  -- the item of a cell, and then these
  abbrev pub item_and : Option (Cell X) → List X → List X
  item_and None items = items
  item_and (Some c) items = c.item ∷ items

  -- the items of the cells of these numbers
  abbrev pub items_in : (ℕ → Option (Cell X)) → List ℕ → List X
  items_in cell [] = []
  items_in cell (number ∷ numbers) = item_and (cell number) (items_in cell numbers)

  -- the items of a chain's cells
  abbrev pub items : (ℕ → Option (Cell X)) → Chain → List X
  items cell chain = items_in cell (numbers cell chain)

  -- each of the numbers is of a cell that was written
  abbrev pub AllWritten : List (Option (Cell X)) → List ℕ → Type 0
  AllWritten cells ns = (number : ℕ) → 0 < occurrences number ns → IsWritten cells number

  -- each cell of the chain was written, none stands in it twice, and its marks are right
  pub record IsWhole (cells : List (Option (Cell X))) (chain : Chain) : Type 0 where
    pub written : AllWritten cells (numbers (cell_at cells) chain)
    pub once : (number : ℕ) → occurrences number (numbers (cell_at cells) chain) ≤ 1
    pub marked : IsMarked (numbers (cell_at cells) chain) chain

  -- the next free cell: the first of the free chain, or where that is empty the first cell that was never written
  pub record IsNextFree (cell : ℕ → Option (Cell X)) (free left : Chain) (made now_made number : ℕ) : Type 0 where
    pub fresh : free.len ≡ 0 → (number ≡ made) × (now_made ≡ made + 1) × (left ≡ free)
    pub again : 0 < free.len → (numbers cell free ≡ number ∷ numbers cell left) × (now_made ≡ made) × (left.len + 1 ≡ free.len)

-- a chain without cells
abbrev pub no_cells : Chain
no_cells = record { first = 0; last = 0; len = 0; run = 0 }

module _ {X : Type 0} where
  -- in how many places of the buckets' chains and the free chain the cell stands
  abbrev pub standings : (ℕ → Option (Cell X)) → List Chain → Chain → ℕ → ℕ
  standings cell chains free number = sum_by (λ chain. occurrences number (numbers cell chain)) chains + occurrences number (numbers cell free)

  -- The laws of an arena: its cells are numbered below `made`, each stands in exactly one chain, and the chains' lengths
  -- add up to the cells.
  pub record AreChains (cells : List (Option (Cell X))) (chains : List Chain) (free : Chain) (made : ℕ) : Type 0 where
    pub each_once : (number : ℕ) → number < made → standings (cell_at cells) chains free number ≡ 1
    pub no_other : (number : ℕ) → made ≤ number → standings (cell_at cells) chains free number ≡ 0
    pub lengths : sum_by (λ chain. chain.len) chains + free.len ≡ made
    pub written : (number : ℕ) → number < made → IsWritten cells number
    pub bare : (number : ℕ) → made ≤ number → get_or cells number None ≡ None
    pub marked : (bucket : ℕ) → bucket < length chains → let chain = get_or chains bucket no_cells in IsMarked (numbers (cell_at cells) chain) chain
    pub in_room : made ≤ length cells
    pub few : length cells < cell_limit
    pub chain_each : length chains ≡ list_count
