-- One more flow of a block is looked at, and its entry goes into its group.
use Rattle.std.proofs.Common.{ℕ, ◌≡◌, ◌≢◌, ◌∙◌, ◌+◌, ◌<◌, Bool, true, false, cond, List, [], ◌∷◌, ◌++◌, length, take, get_or, set, map, ap, sym, refl, arith, eq-eqb, ⊎_elim, inl, inr}
use Rattle.std.specs.Prelude.{All, filter}
use Rattle.std.proofs.lemmas.Bool.{cases_eq, cases_lt, ne_eqb}
use Rattle.std.proofs.lemmas.Grind.{get_or-set_at}
use Rattle.std.proofs.lemmas.List.{append-nil, get_or-set_other, get_or_past, map-append}
use Rattle.std.proofs.lemmas.List.Elements.{filter_more}
use Rattle.group_search.specs.declared.entry.Entry.{Entry}
use Rattle.setsep_build.specs.declared.placed.Placed.{Placed}
use Rattle.setsep_build.specs.Placing.{is_group, entry_in, gathered}

-- what is read past the end of a list of placed flows
abbrev pub nobody : Placed
nobody = record {
  key = record { source = 0; destination = 0; source_port = 0; destination_port = 0; protocol = 0 };
  block = 0;
  bucket = 0;
  node = 0;
}

module _ (groups : List ℕ) (group : ℕ) (all : List Placed) (i : ℕ) (d : Placed) (inside : i < length all) where
  gathered_more : (is : Bool) → is_group groups group (get_or all i d) ≡ is
      → gathered groups group (take (i + 1) all) ≡ gathered groups group (take i all) ++ map entry_in (cond is (get_or all i d ∷ []) [])
  unfolding gathered
  gathered_more is e =
      ap (map entry_in) (filter_more (is_group groups group) all i d inside)
      ∙ map-append entry_in (filter (is_group groups group) (take i all)) (cond (is_group groups group (get_or all i d)) (get_or all i d ∷ []) [])
      ∙ ap (λ (b : Bool). map entry_in (filter (is_group groups group) (take i all)) ++ map entry_in (cond b (get_or all i d ∷ []) [])) e

  pub gathered_yes : is_group groups group (get_or all i d) ≡ true
      → gathered groups group (take (i + 1) all) ≡ gathered groups group (take i all) ++ entry_in (get_or all i d) ∷ []
  gathered_yes e = gathered_more true e

  pub gathered_no : is_group groups group (get_or all i d) ≡ false → gathered groups group (take (i + 1) all) ≡ gathered groups group (take i all)
  gathered_no e = gathered_more false e ∙ append-nil (gathered groups group (take i all))

-- nothing is gathered of no flows
pub gathered_none : (groups : List ℕ) (group : ℕ) → gathered groups group [] ≡ []
unfolding gathered
gathered_none groups group = refl

-- an entry goes into the group of its bucket
module _ (groups : List ℕ) (all : List Placed) (i at : ℕ) (found : List (List Entry)) (inside : i < length all) (is_at : at ≡ get_or groups (get_or all i nobody).bucket 0) (in_range : at < length found)
    (so_far : (group : ℕ) → group < 64 → get_or found group [] ≡ gathered groups group (take i all)) where
  pub one_gathered : (group : ℕ) → group < 64 → get_or (set found at (get_or found at [] ++ entry_in (get_or all i nobody) ∷ [])) group [] ≡ gathered groups group (take (i + 1) all)
  one_gathered group low =
      ⊎_elim
      (λ (same : group ≡ at).
      let yes : is_group groups group (get_or all i nobody) ≡ true = eq-eqb _ _ (sym is_at ∙ sym same) in
      get_or-set_at found at group _ [] same in_range ∙ ap (λ (g : ℕ). get_or found g [] ++ entry_in (get_or all i nobody) ∷ []) (sym same)
      ∙ ap (λ (l : List Entry). l ++ entry_in (get_or all i nobody) ∷ []) (so_far group low) ∙ sym (gathered_yes groups group all i nobody inside yes))
      (λ (other : group ≢ at).
      let no : is_group groups group (get_or all i nobody) ≡ false = ne_eqb _ _ (λ e. other (sym e ∙ sym is_at)) in
      get_or-set_other found at group _ [] other ∙ so_far group low ∙ sym (gathered_no groups group all i nobody inside no))
      (cases_eq group at)

-- the group of any bucket is below 64; past the end 0 is read
pub known_below : (groups : List ℕ) (bucket : ℕ) → All (λ (group : ℕ). group < 64) groups → get_or groups bucket 0 < 64
known_below groups bucket known =
    elim (cases_lt bucket (length groups)) [
      | inl low ↦ known bucket 0 low
      | inr high ↦ let past : get_or groups bucket 0 ≡ 0 = get_or_past groups bucket 0 high in omega arith
    ]
