-- What threads do together, and what nobody does.
use Rattle.std.proofs.Common.{◌≡◌, ◌∙◌, ℕ, Bool, true, false, List, [], ◌∷◌, ◌++◌, take, drop, refl, sym, subst}
use Rattle.std.specs.Prelude.{⊤}
use Rattle.std.proofs.lemmas.List.{take-append-drop}
use Rattle.flow_types.specs.declared.record.Flow.{Flow}
use Rattle.packet_reader.specs.declared.event.Event.{Event}
use Rattle.turn_relay.specs.Each.{Each}
use Rattle.turn_relay.specs.Follow.{ApplierDid, PartDid, works}
use Rattle.turn_relay.specs.OwnerState.{OwnerState}
use Rattle.turn_relay.specs.PartState.{ApplierState, PartState}
use Rattle.cluster_storm.specs.Crew.{OwnerTook}

-- ---- what holds of each element of two parts holds of each of the whole

module _ {A B : Type 0} (R : A → B → Type 0) where
  joined : (xs ys : List A) (us vs : List B) → Each R xs us → Each R ys vs → Each R (xs ++ ys) (us ++ vs)
  joined [] ys [] vs none rest = rest
  joined [] ys (u ∷ us) vs none rest = absurd none
  joined (x ∷ xs) ys [] vs none rest = absurd none
  joined (x ∷ xs) ys (u ∷ us) vs (first, more) rest = (first, joined xs ys us vs more rest)

  pub each_of_parts : (n : ℕ) (xs : List A) (us vs : List B) → Each R (take n xs) us → Each R (drop n xs) vs → Each R xs (us ++ vs)
  each_of_parts n xs us vs front back = subst (λ all. Each R all (us ++ vs)) (take-append-drop n xs) (joined (take n xs) (drop n xs) us vs front back)

-- owners that don't work are as they were
pub owners_rest : (flows : List Flow) (events : List Event) (working : List Bool) (owners : List OwnerState) → ((owner : ℕ) → works working owner ≡ false)
    → Each (OwnerTook flows events working) owners owners
owners_rest flows events working [] none = tt
owners_rest flows events working (owner ∷ owners) none =
    (record { rests = λ _. refl; works_on = λ is. absurd (true-not-false (sym is ∙ none owner.number)) }, owners_rest flows events working owners none)
  where
    true-not-false : true ≡ false → ⊥
    true-not-false e = subst is_it e tt
      where
        is_it : Bool → Type 0
        is_it true = ⊤
        is_it false = ⊥

part_rests : (working : List Bool) (parts : List PartState) → Each (PartDid working) parts parts
part_rests working [] = tt
part_rests working (part ∷ parts) = (
  record {
    on = record { same = record { size = refl; owner = refl; shard = refl; book = refl; opening = refl; link = refl }; follows = λ follows. follows };
    rests = λ _. refl;
  },
  part_rests working parts,
)

-- appliers that nobody starts are as they were
pub appliers_rest : (working : List Bool) (appliers : List ApplierState) → Each (ApplierDid working) appliers appliers
appliers_rest working [] = tt
appliers_rest working (applier ∷ appliers) = ((refl, part_rests working applier.parts), appliers_rest working appliers)
