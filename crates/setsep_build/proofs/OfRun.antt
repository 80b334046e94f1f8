-- What a run gives of its own flows in order is what it gives of all flows.
use Rattle.std.proofs.Common.{ℕ, ◌≡◌, ◌≢◌, ◌∙◌, ◌+◌, ◌<◌, ◌≤◌, ◌&&◌, Bool, true, false, List, [], ◌++◌, ◌∷◌, length, take, get_or, map, ap, refl, sym, subst, arith}
use Rattle.std.specs.Prelude.{IsPermutation, Result, Ok, Err, filter}
use Rattle.std.proofs.lemmas.Bool.Decides.{nat_tests}
use Rattle.std.proofs.lemmas.List.{get_or-map, map-append, take_more}
use Rattle.std.proofs.lemmas.List.Elements.{filter-append}
use Rattle.std.proofs.lemmas.List.Kept.{AllPairs-filter}
use Rattle.flow_types.specs.declared.record.Flow.{Flow}
use Rattle.flow_types.specs.Key.{number}
use Rattle.flow_types.specs.Map.{HaveDistinctKeys}
use Rattle.hash_family.specs.declared.bucket.Place.{Place}
use Rattle.hash_family.specs.Hash.{place}
use Rattle.group_search.specs.Build.{PastLimit, block_of}
use Rattle.group_search.specs.Build.PastLimit.{TooManyFlows, TooManyRows}
use Rattle.group_search.specs.Image.{Image}
use Rattle.group_search.proofs.Distinct.{AllPairs-permutation}
use Rattle.setsep_build.specs.declared.cutting.Run.{Run}
use Rattle.setsep_build.specs.declared.placed.Placed.{Placed}
use Rattle.setsep_build.specs.declared.refused.BuildRefused.{BuildRefused}
use Rattle.setsep_build.specs.declared.refused.BuildRefused.TheVariants.{BlockFull, RowsFull, OutOfMemory}
use Rattle.setsep_build.specs.Parts.{AreImagesOf, IsFirstPastIn, IsPartOf, RefusesBlocks}
use Rattle.setsep_build.specs.Placing.{has_block, is_block, is_in_run, place_of, placed, placed_at, placed_by, placed_in, placed_key}
use Rattle.setsep_build.proofs.Lists.{filter_both}
use Rattle.setsep_build.proofs.Permuted.{filter_permuted, image_alike, past_alike, within_alike}
use Rattle.setsep_build.proofs.RunFacts.{block_apart}

-- ---- the flows of a run

-- one flow more is looked at
pub placed_more : (blocks : ℕ) (run : Run) (flows : List Flow) (i : ℕ) (d : Flow) → i < length flows
    → placed_by blocks run (take (i + 1) flows) ≡ placed_by blocks run (take i flows) ++ filter (is_in_run run) (placed blocks (get_or flows i d) ∷ [])
unfolding placed_by
placed_more blocks run flows i d inside =
    ap (λ (l : List Flow). filter (is_in_run run) (map (placed blocks) l)) (take_more flows i d inside)
    ∙ ap (filter (is_in_run run)) (map-append (placed blocks) (take i flows) (get_or flows i d ∷ []))
    ∙ filter-append (is_in_run run) (map (placed blocks) (take i flows)) (placed blocks (get_or flows i d) ∷ [])

-- one flow more is looked at, with its place
pub one_placed : (blocks : ℕ) (run : Run) (flows : List Flow) (places : List Place) (i : ℕ) (d : Flow) (e : Place) (so_far : List Placed)
    → places ≡ map (place_of blocks) flows → i < length flows → so_far ≡ placed_by blocks run (take i flows)
    → so_far ++ filter (is_in_run run) (placed_at (get_or places i e) (get_or flows i d) ∷ []) ≡ placed_by blocks run (take (i + 1) flows)
one_placed blocks run flows places i d e so_far are inside is =
    let here : get_or places i e ≡ place_of blocks (get_or flows i d) = ap (λ (l : List Place). get_or l i e) are ∙ get_or-map (place_of blocks) flows i d e inside in
    rw (here, is) (sym (placed_more blocks run flows i d inside))

pub none_placed : (blocks : ℕ) (run : Run) → placed_by blocks run [] ≡ []
unfolding placed_by
none_placed blocks run = refl

in_whole : (blocks : ℕ) (flow : Flow) → 0 < blocks → has_block (record { first = 0; count = blocks }) (place blocks flow.key).block ≡ true
unfolding place
in_whole blocks flow some = grind (arith, nat_tests, some)

all_in_whole : (blocks : ℕ) → 0 < blocks → (flows : List Flow) → filter (is_in_run (record { first = 0; count = blocks })) (map (placed blocks) flows) ≡ map (placed blocks) flows
all_in_whole blocks some [] = refl
all_in_whole blocks some (flow ∷ flows) = rw (in_whole blocks flow some) (ap (λ (l : List Placed). placed blocks flow ∷ l) (all_in_whole blocks some flows))

-- a run of all blocks has all flows
pub whole_run : (blocks : ℕ) (flows : List Flow) → 0 < blocks → placed_by blocks (record { first = 0; count = blocks }) flows ≡ map (placed blocks) flows
unfolding placed_by
whole_run blocks flows some = all_in_whole blocks some flows

-- ---- what they give

module _ (all mine : List Placed) (run : Run) (same : IsPermutation (filter (is_in_run run) all) mine) (apart : HaveDistinctKeys placed_key all) where
  pub run_apart : HaveDistinctKeys placed_key mine
  run_apart =
      AllPairs-permutation (λ (a : Placed) (b : Placed). number a.key ≢ number b.key) (λ a b other is. other (sym is)) (filter (is_in_run run) all) mine same
      (AllPairs-filter (λ (a : Placed) (b : Placed). number a.key ≢ number b.key) (is_in_run run) all apart)

  module _ (block : ℕ) (from : run.first ≤ block) (inside : block < run.first + run.count) where
    here_case : (one : Placed) (is : Bool) → is_block block one ≡ is → is ≡ is_in_run run one && is
    here_case one true is =
        let at : has_block run one.block ≡ true = grind (arith, nat_tests, is, from, inside) in
        rw at refl
    here_case one false is = sym (no (is_in_run run one)) where
      no : (b : Bool) → b && false ≡ false
      no true = refl
      no false = refl

    block_same : IsPermutation (placed_in block all) (placed_in block mine)
    unfolding placed_in
    block_same =
        subst (λ (l : List Placed). IsPermutation l (filter (is_block block) mine))
        (filter_both (is_in_run run) (is_block block) (is_block block) (λ one. here_case one (is_block block one) refl) all)
        (filter_permuted (is_block block) (filter (is_in_run run) all) mine same)

  module _ (bits : ℕ) where
    images_alike : (images : List Image) → AreImagesOf bits mine run.first run.count images → AreImagesOf bits all run.first run.count images
    images_alike images are = record {
      one_each = are.one_each;
      each = λ at d low.
          image_alike (placed_in (run.first + at) all) (placed_in (run.first + at) mine) (block_same (run.first + at) (omega arith) (omega arith)) bits
          (block_apart (run.first + at) all apart) (get_or images at d) (are.each at d low);
    }

    first_alike : (past : PastLimit) → IsFirstPastIn bits mine run.first run.count past → IsFirstPastIn bits all run.first run.count past
    first_alike past is = record {
      from_first = is.from_first;
      in_run = is.in_run;
      here = past_alike (placed_in (block_of past) all) (placed_in (block_of past) mine) (block_same (block_of past) is.from_first is.in_run) bits
          (block_apart (block_of past) all apart) (block_of past) past is.here;
      before = λ block high low.
          within_alike (placed_in block all) (placed_in block mine) (block_same block high (omega (arith, is.in_run))) bits (block_apart block all apart) (is.before block high low);
    }

    refused_alike : (why : BuildRefused) → RefusesBlocks bits mine run.first run.count why → RefusesBlocks bits all run.first run.count why
    refused_alike (BlockFull block) is = first_alike (TooManyFlows block) is
    refused_alike (RowsFull block needed) is = first_alike (TooManyRows block needed) is
    refused_alike OutOfMemory is = tt

    pub part_alike : {V : Type 0} (shown : V → List Image) (part : Result V BuildRefused) → IsPartOf shown bits mine run part → IsPartOf shown bits all run part
    part_alike shown (Ok images) is = images_alike (shown images) is
    part_alike shown (Err why) is = refused_alike why is
