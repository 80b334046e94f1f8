-- The images of a run so far, and one block more.
use Rattle.std.proofs.Common.{ℕ, ◌≡◌, ◌≢◌, ◌∙◌, ◌+◌, ◌-◌, ◌<◌, ◌≤◌, List, [], ◌∷◌, ◌++◌, length, ap, sym, subst, arith, length-append, ⊎_elim}
use Rattle.std.specs.Prelude.{IfOk, Result, Ok, Err}
use Rattle.std.proofs.lemmas.Bool.{cases_eq}
use Rattle.std.proofs.lemmas.List.{get_or_append_left, get_or_push}
use Rattle.std.proofs.lemmas.List.Kept.{AllPairs-filter}
use Rattle.flow_types.specs.Key.{number}
use Rattle.flow_types.specs.Map.{HaveDistinctKeys}
use Rattle.group_search.specs.Build.{PastLimit, block_of}
use Rattle.group_search.specs.Build.PastLimit.{TooManyFlows, TooManyRows}
use Rattle.group_search.specs.Image.{Image}
use Rattle.setsep_build.specs.declared.placed.Placed.{Placed}
use Rattle.setsep_build.specs.declared.refused.BuildRefused.{BuildRefused}
use Rattle.setsep_build.specs.declared.refused.BuildRefused.TheVariants.{BlockFull, RowsFull, OutOfMemory}
use Rattle.setsep_build.specs.Block.{IsImageOf, IsPastIn, IsWithinIn, RefusesBlock}
use Rattle.setsep_build.specs.Parts.{AreImagesOf, IsFirstPastIn, RefusesBlocks}
use Rattle.setsep_build.specs.Placing.{is_block, placed_in, placed_key}

-- the flows of a block have keys of their own where all have
pub block_apart : (block : ℕ) (all : List Placed) → HaveDistinctKeys placed_key all → HaveDistinctKeys placed_key (placed_in block all)
unfolding placed_in
block_apart block all apart = AllPairs-filter (λ (a : Placed) (b : Placed). number a.key ≢ number b.key) (is_block block) all apart

module _ (bits : ℕ) (all : List Placed) (first : ℕ) where
  pub none_so_far : (images : List Image) → images ≡ [] → AreImagesOf bits all first (first - first) images
  none_so_far images none = record { one_each = omega (arith, ap length none); each = λ place d low. absurd (omega arith) }

  pub one_more : (block : ℕ) (image : Image) (images : List Image) → first ≤ block → AreImagesOf bits all first (block - first) images
      → IsImageOf bits (placed_in block all) image → AreImagesOf bits all first (block + 1 - first) (images ++ image ∷ [])
  one_more block image images from so_far is = record {
    one_each = omega (arith, length-append images (image ∷ []), so_far.one_each);
    each = λ place d low.
        ⊎_elim
        (λ (same : place ≡ block - first).
        let here : first + place ≡ block = omega arith in
        rw (get_or_push images image d place (so_far.one_each ∙ sym same), here) is)
        (λ (other : place ≢ block - first).
        rw (get_or_append_left images (image ∷ []) d place (omega (arith, so_far.one_each))) (so_far.each place d (omega arith)))
        (cases_eq place (block - first));
  }

  all_within : (block : ℕ) (images : List Image) → AreImagesOf bits all first (block - first) images → (lesser : ℕ) → first ≤ lesser → lesser < block
      → IsWithinIn bits (placed_in lesser all)
  all_within block images so_far lesser from before =
      let at : first + (lesser - first) ≡ lesser = omega arith in
      let here = so_far.each (lesser - first) no_image (omega arith) in
      subst (λ (b : ℕ). IsWithinIn bits (placed_in b all)) at (record { few = here.few; few_rows = here.few_rows })
    where
      no_image : Image
      no_image = record { choices = []; records = [] }

  is_first : (count block : ℕ) (images : List Image) (past : PastLimit) → first ≤ block → block < first + count → AreImagesOf bits all first (block - first) images
      → block_of past ≡ block → IsPastIn bits block (placed_in block all) past → IsFirstPastIn bits all first count past
  is_first count block images past from inside so_far named is = record {
    from_first = omega (arith, named);
    in_run = omega (arith, named);
    here = subst (λ (b : ℕ). IsPastIn bits b (placed_in b all) past) (sym named) is;
    before = λ lesser high low. all_within block images so_far lesser high (omega (arith, named));
  }

  -- where the lesser blocks have images, what is wrong with a block refuses the run
  pub run_refused : (count block : ℕ) (images : List Image) (why : BuildRefused) → first ≤ block → block < first + count → AreImagesOf bits all first (block - first) images
      → RefusesBlock bits block (placed_in block all) why → RefusesBlocks bits all first count why
  run_refused count block images (BlockFull named) from inside so_far is = is_first count block images (TooManyFlows named) from inside so_far is.named_is is
  run_refused count block images (RowsFull named needed) from inside so_far is = is_first count block images (TooManyRows named needed) from inside so_far is.named_is is
  run_refused count block images OutOfMemory from inside so_far is = tt

-- two facts of the value of an `Ok`
pub both_ok : {T E : Type 0} (r : Result T E) (P Q S : T → Type 0) → IfOk r P → IfOk r Q → ((v : T) → P v → Q v → S v) → IfOk r S
both_ok (Ok v) P Q S p q both = both v p q
both_ok (Err e) P Q S p q both = tt
