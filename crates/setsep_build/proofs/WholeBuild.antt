-- What the runs give, one after the other, is the build of the flows.
use Rattle.std.proofs.Common.{ℕ, suc, ◌≡◌, ◌≢◌, ◌∙◌, ◌+◌, ◌-◌, ◌<◌, ◌≤◌, List, [], ◌∷◌, ◌++◌, length, get_or, map, Some, None, IfSome, ap, refl, sym, subst, arith, length-append, ⊎_elim}
use Rattle.std.specs.Prelude.{IsPermutation, IfErr, IfOk, MatchResult, Result, Ok, Err, ◌⊎◌, filter}
use Rattle.std.proofs.lemmas.Bool.{cases_lt}
use Rattle.std.proofs.lemmas.List.{get_or_append_left, get_or-append_right}
use Rattle.flow_types.specs.declared.record.Flow.{Flow}
use Rattle.flow_types.specs.Key.{number}
use Rattle.flow_types.specs.Map.{AreDistinct, HaveDistinctKeys}
use Rattle.flow_types.specs.Size.{Size, value_bits}
use Rattle.group_search.specs.Build.{IsBuild, IsImage, PastLimit, block_of, first_past_limit, past_limit, past_limit_at}
use Rattle.group_search.specs.Build.PastLimit.{TooManyFlows, TooManyRows}
use Rattle.group_search.specs.Home.{flows_of}
use Rattle.group_search.specs.Image.{Image}
use Rattle.group_search.proofs.Distinct.{AllPairs-permutation}
use Rattle.group_search.proofs.Mapped.{all_pairs_mapped}
use Rattle.setsep_build.specs.declared.cutting.Run.{Run}
use Rattle.setsep_build.specs.declared.placed.Placed.{Placed}
use Rattle.setsep_build.specs.declared.refused.BuildRefused.{BuildRefused}
use Rattle.setsep_build.specs.declared.refused.BuildRefused.TheVariants.{BlockFull, RowsFull, OutOfMemory}
use Rattle.setsep_build.specs.Block.{IsWithinIn}
use Rattle.setsep_build.specs.Cut.{Cover}
use Rattle.setsep_build.specs.Parts.{AreImagesOf, ArePartsOf, IsFirstPastIn, RefusesBlocks, before_all, joined}
use Rattle.setsep_build.specs.Placing.{is_block, placed, placed_in, placed_key}
use Rattle.setsep_build.specs.Refused.{Refuses, named_limit}
use Rattle.setsep_build.proofs.CutFacts.{cover_up}
use Rattle.setsep_build.proofs.FirstPast.{first_is, first_of_none, found_first, later_decide, past_none, past_some}
use Rattle.setsep_build.proofs.Lifted.{apart, lifted_image, no_flow, opened}
use Rattle.setsep_build.proofs.Lists.{filter_mapped}
use Rattle.setsep_build.proofs.Permuted.{filter_permuted, image_alike, past_alike, within_alike}

-- the images of `count` blocks from `from` on, none of which is past a limit
pub record AreBuilt (size : Size) (flows : List Flow) (from count : ℕ) (images : List Image) : Type 0 where
  pub within : first_past_limit count from size flows ≡ None
  pub one_each : length images ≡ count
  pub each : (place : ℕ) (d : Image) → place < count → IsImage size flows (from + place) (get_or images place d)

-- what `count` blocks from `from` on give
abbrev pub IsMade : Size → List Flow → (from count : ℕ) → Result (List Image) BuildRefused → Type 0
IsMade size flows from count made =
    MatchResult made (AreBuilt size flows from count) (λ why. IfSome (named_limit why) (λ (past : PastLimit). first_past_limit count from size flows ≡ Some past))

none_made : (size : Size) (flows : List Flow) (from : ℕ) → AreBuilt size flows from 0 []
unfolding first_past_limit
none_made size flows from = record { within = refl; one_each = refl; each = λ place d low. absurd (omega arith) }

module _ (size : Size) (flows : List Flow) (all : List Placed) (are : IsPermutation (map (placed size.blocks) flows) all) (distinct : AreDistinct flows) where
  -- all flows where they stand have keys of their own
  pub all_apart : HaveDistinctKeys placed_key all
  all_apart =
      AllPairs-permutation (λ (a : Placed) (b : Placed). number a.key ≢ number b.key) (λ a b other same. other (sym same)) (map (placed size.blocks) flows) all are
      (all_pairs_mapped (λ (a : Placed) (b : Placed). number a.key ≢ number b.key) (placed size.blocks) no_flow flows distinct)

  same_flows : (block : ℕ) → IsPermutation (opened size.blocks block flows) (placed_in block all)
  unfolding opened placed_in flows_of
  same_flows block =
      subst (λ (l : List Placed). IsPermutation l (filter (is_block block) all)) (filter_mapped (placed size.blocks) (is_block block) flows)
      (filter_permuted (is_block block) (map (placed size.blocks) flows) all are)

  none_past : (block : ℕ) → IsWithinIn (value_bits size.nodes) (placed_in block all) → past_limit_at size flows block ≡ None
  none_past block is =
      past_none size flows block
      (within_alike (opened size.blocks block flows) (placed_in block all) (same_flows block) (value_bits size.nodes) (apart size.blocks block flows distinct) is)

  images_built : (from count : ℕ) (images : List Image) → AreImagesOf (value_bits size.nodes) all from count images → AreBuilt size flows from count images
  images_built from count images is = record {
    within = first_of_none size flows count from (λ block high low.
        let at : from + (block - from) ≡ block = omega arith in
        let here = is.each (block - from) no_image (omega arith) in
        none_past block (subst (λ (b : ℕ). IsWithinIn (value_bits size.nodes) (placed_in b all)) at (record { few = here.few; few_rows = here.few_rows })));
    one_each = is.one_each;
    each = λ place d low.
        lifted_image size (from + place) flows (get_or images place d)
        (image_alike (opened size.blocks (from + place) flows) (placed_in (from + place) all) (same_flows (from + place)) (value_bits size.nodes)
        (apart size.blocks (from + place) flows distinct) (get_or images place d) (is.each place d low));
  } where
    no_image : Image
    no_image = record { choices = []; records = [] }

  is_first : (from count : ℕ) (past : PastLimit) → IsFirstPastIn (value_bits size.nodes) all from count past → first_past_limit count from size flows ≡ Some past
  is_first from count past is =
      let before : ℕ = block_of past - from in
      let rest : ℕ = count - before - 1 in
      let at : from + before ≡ block_of past = omega (arith, is.from_first) in
      let whole : before + suc rest ≡ count = omega (arith, is.from_first, is.in_run) in
      let here : past_limit_at size flows (block_of past) ≡ Some past =
      past_some size flows (block_of past) past
      (past_alike (opened size.blocks (block_of past) flows) (placed_in (block_of past) all) (same_flows (block_of past)) (value_bits size.nodes)
      (apart size.blocks (block_of past) flows distinct) (block_of past) past is.here) in
      subst (λ (n : ℕ). first_past_limit n from size flows ≡ Some past) whole
      (first_is size flows before rest from past
      (λ block high low. none_past block (is.before block high (omega (arith, at))))
      (ap (past_limit_at size flows) at ∙ here))

  blocks_refused : (from count : ℕ) (why : BuildRefused) → RefusesBlocks (value_bits size.nodes) all from count why
      → IfSome (named_limit why) (λ (past : PastLimit). first_past_limit count from size flows ≡ Some past)
  blocks_refused from count (BlockFull block) is = is_first from count (TooManyFlows block) is
  blocks_refused from count (RowsFull block needed) is = is_first from count (TooManyRows block needed) is
  blocks_refused from count OutOfMemory is = tt

  still_refused : (from count more : ℕ) (why : BuildRefused) → IfSome (named_limit why) (λ (past : PastLimit). first_past_limit count from size flows ≡ Some past)
      → IfSome (named_limit why) (λ (past : PastLimit). first_past_limit (count + more) from size flows ≡ Some past)
  still_refused from count more (BlockFull block) is = found_first size flows count more from (TooManyFlows block) is
  still_refused from count more (RowsFull block needed) is = found_first size flows count more from (TooManyRows block needed) is
  still_refused from count more OutOfMemory is = tt

  later_refused : (from count more : ℕ) (why : BuildRefused) → first_past_limit count from size flows ≡ None
      → IfSome (named_limit why) (λ (past : PastLimit). first_past_limit more (from + count) size flows ≡ Some past)
      → IfSome (named_limit why) (λ (past : PastLimit). first_past_limit (count + more) from size flows ≡ Some past)
  later_refused from count more (BlockFull block) none is = later_decide size flows count more from none ∙ is
  later_refused from count more (RowsFull block needed) none is = later_decide size flows count more from none ∙ is
  later_refused from count more OutOfMemory none is = tt

  built_after : (from count more : ℕ) (images later : List Image) → AreBuilt size flows from count images → AreBuilt size flows (from + count) more later
      → AreBuilt size flows from (count + more) (images ++ later)
  built_after from count more images later here there = record {
    within = later_decide size flows count more from here.within ∙ there.within;
    one_each = omega (arith, length-append images later, here.one_each, there.one_each);
    each = λ place d low.
        ⊎_elim
        (λ (early : place < count). rw (get_or_append_left images later d place (omega (arith, here.one_each))) (here.each place d early))
        (λ (late : count ≤ place).
        let at : from + count + (place - count) ≡ from + place = omega arith in
        rw (get_or-append_right images later count place d here.one_each late)
        (subst (λ (b : ℕ). IsImage size flows b (get_or later (place - count) d)) at (there.each (place - count) d (omega arith))))
        (cases_lt place count);
  }

  made_after : (from count more : ℕ) (images : List Image) (made : Result (List Image) BuildRefused) → AreBuilt size flows from count images
      → IsMade size flows (from + count) more made → IsMade size flows from (count + more) (before_all images made)
  made_after from count more images (Ok later) here there = built_after from count more images later here there
  made_after from count more images (Err why) here there = later_refused from count more why here.within there

  -- runs that follow one another make what all their blocks give
  pub all_made : {V : Type 0} (shown : V → List Image) (from end : ℕ) (cut : List Run) (parts : List (Result V BuildRefused)) → Cover from end cut
      → ArePartsOf shown (value_bits size.nodes) all cut parts → IsMade size flows from (end - from) (joined shown parts)
  all_made shown from end [] [] covers are =
      let none : end - from ≡ 0 = omega (arith, covers) in
      rw none (none_made size flows from)
  all_made shown from end [] (part ∷ parts) covers are = absurd are
  all_made shown from end (run ∷ cut) [] covers are = absurd are
  all_made shown from end (run ∷ cut) (Ok images ∷ parts) covers are =
      let up = cover_up (from + run.count) end cut covers.1 in
      let whole : run.count + (end - (from + run.count)) ≡ end - from = omega (arith, up) in
      let here : AreBuilt size flows from run.count (shown images) = subst (λ (first : ℕ). AreBuilt size flows first run.count (shown images)) covers.0 (images_built run.first run.count (shown images) are.0) in
      subst (λ (count : ℕ). IsMade size flows from count (before_all (shown images) (joined shown parts))) whole
      (made_after from run.count (end - (from + run.count)) (shown images) (joined shown parts) here (all_made shown (from + run.count) end cut parts covers.1 are.1))
  all_made shown from end (run ∷ cut) (Err why ∷ parts) covers are =
      let up = cover_up (from + run.count) end cut covers.1 in
      let whole : run.count + (end - (from + run.count)) ≡ end - from = omega (arith, up) in
      let here = subst (λ (first : ℕ). IfSome (named_limit why) (λ (past : PastLimit). first_past_limit run.count first size flows ≡ Some past)) covers.0 (blocks_refused run.first run.count why are.0) in
      subst (λ (count : ℕ). IfSome (named_limit why) (λ (past : PastLimit). first_past_limit count from size flows ≡ Some past)) whole
      (still_refused from run.count (end - (from + run.count)) why here)

module _ (size : Size) (flows : List Flow) where
  -- what all blocks give is the build
  is_build : (images : List Image) → AreBuilt size flows 0 size.blocks images → IsBuild size flows images
  unfolding past_limit
  is_build images is = record {
    within = is.within;
    one_each = is.one_each;
    each = λ block d low. let at : 0 + block ≡ block = omega arith in subst (λ (b : ℕ). IsImage size flows b (get_or images block d)) at (is.each block d low);
  }

  is_refused : (why : BuildRefused) → IfSome (named_limit why) (λ (past : PastLimit). first_past_limit size.blocks 0 size flows ≡ Some past) → Refuses size flows why
  unfolding past_limit
  is_refused (BlockFull block) is = is
  is_refused (RowsFull block needed) is = is
  is_refused OutOfMemory is = tt

-- the runs cover all blocks, and these are what they give
module _ (size : Size) (flows : List Flow) (all : List Placed) (are : IsPermutation (map (placed size.blocks) flows) all) (distinct : AreDistinct flows) {V : Type 0} (shown : V → List Image)
    (cut : List Run) (parts : List (Result V BuildRefused)) (covers : Cover 0 size.blocks cut) (parts_are : ArePartsOf shown (value_bits size.nodes) all cut parts) where
  made : IsMade size flows 0 size.blocks (joined shown parts)
  made = let whole : size.blocks - 0 ≡ size.blocks = omega arith in
      subst (λ (count : ℕ). IsMade size flows 0 count (joined shown parts)) whole (all_made size flows all are distinct shown 0 size.blocks cut parts covers parts_are)

  pub whole_built : (found : Result V BuildRefused) → IfOk found (λ images. joined shown parts ≡ Ok (shown images)) → IfOk found (λ images. IsBuild size flows (shown images))
  whole_built (Ok images) is = is_build size flows (shown images) (subst (IsMade size flows 0 size.blocks) is made)
  whole_built (Err why) is = tt

  pub whole_refused : (found : Result V BuildRefused) → IfErr found (λ why. (why ≡ OutOfMemory) ⊎ (joined shown parts ≡ Err why)) → IfErr found (Refuses size flows)
  whole_refused (Ok images) is = tt
  whole_refused (Err why) is =
      ⊎_elim
      (λ (out : why ≡ OutOfMemory). subst (Refuses size flows) (sym out) tt)
      (λ (refused : joined shown parts ≡ Err why). is_refused size flows why (subst (IsMade size flows 0 size.blocks) refused made))
      is
