-- Steps keep the rule of a shared FIB.
use Rattle.std.proofs.Common.{◌≡◌, ◌≢◌, ℕ, ◌+◌, List, [], ◌∷◌, ◌++◌, Option, None, Some, set, refl, sym, ap, subst, ⊎_elim, ◌∙◌, fold}
use Rattle.std.specs.Prelude.{replicate}
use Rattle.std.proofs.lemmas.List.{replicate-append-replicate}
use mathlib.Core.Option as maybe
use lib.ListN.{get_elem?}
use Rattle.left_right.specs.Register.{Admits, TurnsAt, Forks, Merges}
use Rattle.atomic_table.proofs.Lists.{at_set, at_snoc}
use Rattle.delta_codec.specs.Values.{IsOperation}
use Rattle.partial_fib.specs.declared.sharing.shown.Shown.{Shown}
use Rattle.partial_fib.specs.declared.sharing.turn.Turn.{Turn}
use Rattle.partial_fib.specs.Ends.{IsLater, ReaderState, shared_after}
use Rattle.partial_fib.specs.Fib.{with_turn}
use Rattle.delta_codec.specs.Messages.{FibMessageFits}
use Rattle.partial_fib.specs.Rule.{IsBefore, IsKept, IsRight, KnowsBefore, Sees, opening_of, shown_after}
use Rattle.partial_fib.specs.History.{shared_fib}
use Rattle.partial_fib.specs.Store.{FibStore, IsUnturned, IsWhole, state_of}
use Rattle.flow_types.proofs.Prefixes.{prefix_self, prefix_trans}
use Rattle.partial_fib.proofs.TurnSteps.{after_one_more, turn_of_store, whole_with}

pub before_self : (x : Shown) → IsBefore x x
before_self x = record { book = refl; origin = refl; turns = prefix_self x.past.log }

before_trans : (x y z : Shown) → IsBefore x y → IsBefore y z → IsBefore x z
before_trans x y z p q = record { book = p.book ∙ q.book; origin = p.origin ∙ q.origin; turns = prefix_trans x.past.log y.past.log z.past.log p.turns q.turns }

knows_before : (view : Option Shown) (x y : Shown) → KnowsBefore view x → IsBefore x y → KnowsBefore view y
knows_before None x y h up = tt
knows_before (Some known) x y h up = before_trans known x y h up

-- a new reader knows nothing
pub admits : Admits IsKept None
admits x views h = record {
  right = h.right;
  known = λ seat view at. ⊎_elim (h.known seat view) (λ (e : None ≡ view). subst (λ (v : Option Shown). KnowsBefore v x) e tt) (at_snoc views None view seat at);
}

-- a step to what goes on from what was shown
pub turns : (seat : ℕ) (view : Option Shown) (x y : Shown) → (IsRight x → IsRight y × IsBefore x y) → TurnsAt IsKept seat view x y Sees
turns seat view x y on views h at =
    let up = on h.right in (
      Some y,
      record {
        right = up.0;
        known = λ j u e. ⊎_elim (λ (t : (j ≡ seat) × (Some y ≡ u)). subst (λ (v : Option Shown). KnowsBefore v y) t.1 (before_self y))
            (λ (t : (j ≢ seat) × (get_elem? views j ≡ maybe.some u)). knows_before u x y (h.known j u t.1) up.1) (at_set views seat j (Some y) u e);
      },
      record { known = refl; later = knows_before view x y (h.known seat view at) up.1; right = up.0 },
    )

set_kept : (x : Shown) (views : List (Option Shown)) (seat : ℕ) (view : Option Shown) → IsKept x views → KnowsBefore view x → IsKept x (set views seat view)
set_kept x views seat view h low = record {
  right = h.right;
  known = λ j u e. ⊎_elim (λ (t : (j ≡ seat) × (view ≡ u)). subst (λ (v : Option Shown). KnowsBefore v x) t.1 low)
      (λ (t : (j ≢ seat) × (get_elem? views j ≡ maybe.some u)). h.known j u t.1) (at_set views seat j view u e);
}

-- the writer tells what it knows, and knows it still
pub forks : (seat : ℕ) (view : Option Shown) → Forks IsKept seat view view view
forks seat view x views h at =
    let mine = h.known seat view at in
    let kept = set_kept x views seat view h mine in
    record {
      right = h.right;
      known = λ j u e. ⊎_elim (kept.known j u) (λ (same : view ≡ u). subst (λ (v : Option Shown). KnowsBefore v x) same mine) (at_snoc (set views seat view) view u j e);
    }

-- a reader that is told something knows it
pub merges : (seat : ℕ) (view : Option Shown) (other : ℕ) (told : Option Shown) → Merges IsKept seat view other told told None
merges seat view other told x views h at apart there =
    let theirs : KnowsBefore told x = ⊎_elim (λ (t : (other ≡ seat) × (told ≡ told)). absurd (apart t.0))
    (λ (t : (other ≢ seat) × (get_elem? views other ≡ maybe.some told)). h.known other told t.1) (at_set views seat other told told there) in
    set_kept x (set views seat told) other None (set_kept x views seat told h theirs) tt

-- what was known of an end comes before what is shown
pub before_one : (view : Option Shown) (x y : Shown) → view ≡ Some x → KnowsBefore view y → IsBefore x y
before_one view x y e h = subst (λ (v : Option Shown). KnowsBefore v y) e h

-- ---- one more turn

-- the turn is the next of what is shown
pub record IsNext (x : Shown) (turn : Turn) : Type 0 where
  pub fits : FibMessageFits x.fib.size turn.message
  pub own : turn.message.owner ≡ x.fib.owner
  pub values : IsOperation turn.message.op
  pub book : turn.past.book ≡ x.past.book
  pub log : turn.past.log ≡ x.past.log ++ turn.message ∷ []

pub right_after : (x : Shown) (turn : Turn) → IsNext x turn → IsRight x → IsRight (shown_after x turn)
right_after x turn next right = record {
  unturned = right.unturned;
  whole = whole_with x.fib turn.message right.whole next.fits next.own;
  size = right.size;
  owner = right.owner;
  turned = turn_of_store x.fib turn.message right.whole next.fits next.own next.values
      ∙ ap (λ fib. with_turn fib turn.message) right.turned
      ∙ sym (after_one_more (state_of (opening_of x)) x.past.log turn.message)
      ∙ ap (shared_after (opening_of x)) (sym next.log);
}

pub before_after : (x : Shown) (turn : Turn) → IsNext x turn → IsBefore x (shown_after x turn)
before_after x turn next = record { book = sym next.book; origin = refl; turns = (turn.message ∷ [], sym next.log) }

pub steps : (seat : ℕ) (view : Option Shown) (x y : Shown) (turn : Turn) (pending : List Turn) → pending ≡ turn ∷ [] → IsNext x turn → y ≡ fold shown_after x pending
    → TurnsAt IsKept seat view x y Sees
steps seat view x y turn pending one next is =
    let e : y ≡ shown_after x turn = is ∙ ap (λ l. fold shown_after x l) one in
    turns seat view x y (λ right. subst (λ (z : Shown). IsRight z × IsBefore x z) (sym e) (right_after x turn next right, before_after x turn next))

-- ---- readers

pub later_self : (a : ReaderState) → IsLater a a
later_self a = record { same_book = refl; same_opening = refl; longer = prefix_self a.turns }

pub later_trans : (a b c : ReaderState) → IsLater a b → IsLater b c → IsLater a c
later_trans a b c p q = record {
  same_book = q.same_book ∙ p.same_book;
  same_opening = q.same_opening ∙ p.same_opening;
  longer = prefix_trans a.turns b.turns c.turns p.longer q.longer;
}

-- ---- what is shared

-- before the first turn the FIB that is shown is the one that was shared
pub right_at_first : (x : Shown) (fib : FibStore) → x.fib ≡ fib → x.origin.log ≡ fib ∷ [] → x.past.log ≡ [] → IsUnturned fib → IsRight x
right_at_first x fib is origin none unturned =
    let opening : opening_of x ≡ fib = ap shared_fib origin in
    let same : x.fib ≡ opening_of x = is ∙ sym opening in
    record {
      unturned = subst IsUnturned (sym opening) unturned;
      whole = subst IsWhole (sym is) unturned.whole;
      size = ap (λ (f : FibStore). f.size) same;
      owner = ap (λ (f : FibStore). f.owner) same;
      turned = ap state_of same ∙ ap (shared_after (opening_of x)) (sym none);
    }

pub one_more_alike : {A : Type 0} (n : ℕ) (a : A) → replicate n a ++ a ∷ [] ≡ replicate (n + 1) a
one_more_alike n a = replicate-append-replicate n 1 a
