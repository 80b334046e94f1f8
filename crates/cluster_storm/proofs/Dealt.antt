-- Who is marked, and how many are.
use Rattle.std.proofs.Common.{◌≡◌, ◌≢◌, ◌↔◌, ◌∙◌, ℕ, zero, suc, ◌+◌, ◌<◌, ◌≤◌, Bool, true, false, List, ◌∷◌, drop, get_or, length, replicate, refl, sym, ap, subst, slice_set}
use Rattle.std.proofs.lemmas.List.{drop_more, get_or-set_other, get_or-set_same}
use Rattle.std.proofs.lemmas.List.Elements.{All-cons, All-head, All-nil, All-tail}
use Rattle.std.proofs.Math.ListN.{drop_of_length-le}
use Rattle.flow_types.specs.Size.{Size}
use Rattle.packet_reader.specs.declared.event.Event.{Event}
use Rattle.storm_model.specs.Owners.{HasNoUpdate, IsNotOf}
use Rattle.turn_relay.specs.Follow.{works}
use Rattle.cluster_storm.specs.Dealing.{IsMarked}

-- where the first doesn't work and no other does, none works
pub none_more : (first : Bool) (others : List Bool) → first ≡ false → ((owner : ℕ) → works others owner ≡ false) → (owner : ℕ) → works (first ∷ others) owner ≡ false
none_more first others is none zero = is
none_more first others is none (suc owner) = none owner

-- before the first event none works
pub none_yet : (nodes owner : ℕ) → works (replicate nodes false) owner ≡ false
none_yet zero owner = refl
none_yet (suc nodes) zero = refl
none_yet (suc nodes) (suc owner) = none_yet nodes owner

pub begins : (size : Size) (events : List Event) (nodes : ℕ) (working : List Bool) → working ≡ replicate nodes false → (owner : ℕ)
    → ((works working owner ≡ false) × HasNoUpdate size owner events) ↔ HasNoUpdate size owner events
begins size events nodes working none owner = (λ now. now.1, λ all. (ap (λ (w : List Bool). works w owner) none ∙ none_yet nodes owner, all))

-- after the last event none is left
pub ends : (size : Size) (events : List Event) (i : ℕ) → length events ≤ i → (working : List Bool)
    → ((owner : ℕ) → ((works working owner ≡ false) × HasNoUpdate size owner (drop i events)) ↔ HasNoUpdate size owner events)
    → (owner : ℕ) → (works working owner ≡ false) ↔ HasNoUpdate size owner events
ends size events i past working so_far owner = (
  λ idle. (so_far owner).0 (idle, subst (HasNoUpdate size owner) (sym (drop_of_length-le events past)) (All-nil (IsNotOf size owner))),
  λ none. ((so_far owner).1 none).0,
)

-- who isn't marked is another than who was, and wasn't marked before
pub unmarked : (working : List Bool) (marked owner : ℕ) → marked < length working → works (slice_set working marked true) owner ≡ false
    → (works working owner ≡ false) × (marked ≢ owner)
unmarked working marked owner low is = (before, apart)
  where
    apart : marked ≢ owner
    apart same = absurd (let e : works (slice_set working marked true) marked ≡ true = get_or-set_same working marked true false low in cc)

    before : works working owner ≡ false
    before = sym (get_or-set_other working marked owner true false (λ e. apart (sym e))) ∙ is

-- one event more was marked
pub goes-on : (size : Size) (events : List Event) (i : ℕ) → i < length events → (d : Event) (before after : List Bool)
    → ((owner : ℕ) → ((works before owner ≡ false) × HasNoUpdate size owner (drop i events)) ↔ HasNoUpdate size owner events)
    → IsMarked size (get_or events i d) before after
    → (owner : ℕ) → ((works after owner ≡ false) × HasNoUpdate size owner (drop (i + 1) events)) ↔ HasNoUpdate size owner events
goes-on size events i low d before after so_far marked owner = (
  λ now.
      let here = (marked owner).0 now.0 in
      (so_far owner).0 (here.0, subst (HasNoUpdate size owner) (sym (drop_more events i d low)) (All-cons (IsNotOf size owner) (get_or events i d) (drop (i + 1) events) here.1 now.1)),
  λ none.
      let was = (so_far owner).1 none in
      let all = subst (HasNoUpdate size owner) (drop_more events i d low) was.1 in
      ((marked owner).1 (was.0, All-head (IsNotOf size owner) (get_or events i d) (drop (i + 1) events) all), All-tail (IsNotOf size owner) (get_or events i d) (drop (i + 1) events) all),
)
