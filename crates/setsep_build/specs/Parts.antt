-- What is made of the blocks of a run, and of all runs.
use Rattle.std.specs.Prelude.{ℕ, ◌≡◌, ◌<◌, ◌≤◌, ◌+◌, ◌^◌, List, [], ◌∷◌, ◌++◌, length, Result, Ok, Err, IfSome, MatchResult, slice_index_or}
use Rattle.std.specs.List.{AllZip}
use Rattle.flow_types.specs.Map.{HaveDistinctKeys}
use Rattle.flow_types.specs.Size.{most_value_bits}
use Rattle.group_search.specs.Build.{PastLimit, block_of}
use Rattle.group_search.specs.Image.{Image}
use Rattle.setsep_build.specs.declared.cutting.Run.{Run}
use Rattle.setsep_build.specs.declared.placed.Placed.{Placed}
use Rattle.setsep_build.specs.declared.refused.BuildRefused.{BuildRefused}
use Rattle.setsep_build.specs.Block.{IsImageOf, IsPastIn, IsWithinIn}
use Rattle.setsep_build.specs.Placing.{AreInOrder, placed_in, placed_key}
use Rattle.setsep_build.specs.Refused.{named_limit}

-- flows of which images can be made: in order, no two with one key, with a possible number of value bits
pub record AreReady (bits : ℕ) (all : List Placed) : Type 0 where
  pub enough_bits : 1 ≤ bits
  pub few_bits : bits ≤ most_value_bits
  pub apart : HaveDistinctKeys placed_key all
  pub in_order : AreInOrder all

-- the blocks of the run have numbers
abbrev pub IsNumbered : Run → Type 0
IsNumbered run = run.first + run.count < 2 ^ 16

-- these are the images of `count` blocks from `first` on, in their order; none is past a limit
pub record AreImagesOf (bits : ℕ) (all : List Placed) (first count : ℕ) (images : List Image) : Type 0 where
  pub one_each : length images ≡ count
  pub each : (place : ℕ) (d : Image) → place < count → IsImageOf bits (placed_in (first + place) all) (slice_index_or images place d)

-- of `count` blocks from `first` on this is the first that is past a limit
pub record IsFirstPastIn (bits : ℕ) (all : List Placed) (first count : ℕ) (past : PastLimit) : Type 0 where
  pub from_first : first ≤ block_of past
  pub in_run : block_of past < first + count
  pub here : IsPastIn bits (block_of past) (placed_in (block_of past) all) past
  pub before : (block : ℕ) → first ≤ block → block < block_of past → IsWithinIn bits (placed_in block all)

-- these blocks are refused for what the first of them that is past a limit has too many of
abbrev pub RefusesBlocks : (bits : ℕ) → List Placed → (first count : ℕ) → BuildRefused → Type 0
RefusesBlocks bits all first count why = IfSome (named_limit why) (IsFirstPastIn bits all first count)

-- this is what a run gives: its images, or why it is refused
abbrev pub IsPartOf : {V : Type 0} → (V → List Image) → (bits : ℕ) → List Placed → Run → Result V BuildRefused → Type 0
IsPartOf shown bits all run part =
    MatchResult part (λ images. AreImagesOf bits all run.first run.count (shown images)) (λ why. RefusesBlocks bits all run.first run.count why)

-- these are what the runs give, one each
abbrev pub ArePartsOf : {V : Type 0} → (V → List Image) → (bits : ℕ) → List Placed → List Run → List (Result V BuildRefused) → Type 0
ArePartsOf shown bits all cut parts = AllZip (IsPartOf shown bits all) cut parts

abbrev pub before_all : List Image → Result (List Image) BuildRefused → Result (List Image) BuildRefused
before_all images (Ok later) = Ok (images ++ later)
before_all images (Err why) = Err why

-- the images of all parts in turn, or the refusal of the first part that is refused
abbrev pub joined : {V : Type 0} → (V → List Image) → List (Result V BuildRefused) → Result (List Image) BuildRefused
joined shown [] = Ok []
joined shown (Ok images ∷ parts) = before_all (shown images) (joined shown parts)
joined shown (Err why ∷ parts) = Err why
