-- The images of one owner's blocks, gathered one after the other.
use Rattle.std.proofs.Common.{◌≡◌, ◌∙◌, ℕ, ◌+◌, ◌*◌, ◌<◌, inl, inr, List, [], ◌∷◌, ◌++◌, length, get_or, Some, sym, ap, subst, arith}
use Rattle.std.specs.Prelude.{All}
use Rattle.std.specs.List.{slice_get}
use Rattle.std.proofs.lemmas.Bool.{cases_lt}
use Rattle.std.proofs.lemmas.Option.{get_or_from_slice_get, slice_get-get_or, slice_get_within}
use Rattle.flow_types.proofs.Elements.{length_pushed, pushed_before, pushed_last}
use Rattle.flow_types.specs.Size.{Size}
use Rattle.group_search.specs.Image.{Image}
use Rattle.replica_shard.specs.Store.{AreOwnersImages}

-- the images so far are those of the owner's first blocks
abbrev pub AreFirst : (nodes owner : ℕ) → (images own : List Image) → Type 0
AreFirst nodes owner images own = (i : ℕ) → i < length own → slice_get own i ≡ slice_get images (owner + nodes * i)

pub next_block : (nodes owner number : ℕ) (own : List Image) (image : Image) → number ≡ owner + nodes * length own
    → number + nodes ≡ owner + nodes * length (own ++ image ∷ [])
next_block nodes owner number own image at = omega (arith, at, ap (λ (n : ℕ). nodes * n) (length_pushed own image))

pub one_more : (nodes owner number : ℕ) (images own : List Image) (image : Image) → AreFirst nodes owner images own
    → number ≡ owner + nodes * length own → slice_get images number ≡ Some image → AreFirst nodes owner images (own ++ image ∷ [])
one_more nodes owner number images own image first at is = λ i low.
    elim (cases_lt i (length own)) [
      | inl before ↦ pushed_before own image i before ∙ first i before
      | inr past ↦
          let last : i ≡ length own = omega (arith, length_pushed own image) in
          pushed_last own image i last ∙ sym (ap (slice_get images) (ap (λ (n : ℕ). owner + nodes * n) last ∙ sym at) ∙ is)
    ]

-- what holds of each image holds of each of the owner's
pub each_of_owner : (P : Image → Type 0) (size : Size) (owner : ℕ) (images own : List Image) → AreOwnersImages size owner images own → All P images → All P own
each_of_owner P size owner images own are all = λ i d low.
    let there : slice_get images (owner + size.nodes * i) ≡ Some (get_or own i d) = sym (are.each i low) ∙ slice_get-get_or own i d low in
    subst P (get_or_from_slice_get images (owner + size.nodes * i) (get_or own i d) d there)
    (all (owner + size.nodes * i) d (slice_get_within images (owner + size.nodes * i) (get_or own i d) there))

-- an owner with a block has an image
pub some_image : (size : Size) (owner : ℕ) (images own : List Image) → AreOwnersImages size owner images own → owner < size.blocks → 0 < length own
some_image size owner images own are has =
    elim (cases_lt 0 (length own)) [
      | inl some ↦ some
      | inr none ↦
          let enough = are.enough in
          let empty : length own ≡ 0 = omega arith in
          absurd (omega (arith, enough, ap (λ (n : ℕ). size.nodes * n) empty))
    ]
