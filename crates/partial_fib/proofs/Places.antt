-- The versions of an owner's groups, once one of them has one more.
use Rattle.std.proofs.Common.{ℕ, zero, suc, ◌≡◌, ◌∙◌, ◌+◌, ◌-◌, ◌*◌, ◌/◌, ◌%◌, ◌<◌, ◌≤◌, Bool, true, false, cond, List, [], length, replicate, get_or, set, refl, sym, ap, arith}
use Rattle.std.specs.Prelude.{nat_lt, slice_index_or}
use Rattle.std.proofs.lemmas.Bool.{and_parts, and_from, eq-eqb, eqb-true, lt-ltb, ltb-true, true≢false}
use Rattle.std.proofs.lemmas.List.{get_or-set_other, get_or-set_same, get_or_default}
use Rattle.block_layout.specs.Limits.{group_count}
use Rattle.flow_types.specs.declared.key.FlowKey.{FlowKey}
use Rattle.flow_types.specs.declared.record.Record.{Record}
use Rattle.flow_types.specs.Size.{Size}
use Rattle.group_search.specs.Home.{Home, is_home}
use Rattle.group_history.specs.Journal.{change_count, concerning, with_next_version}
use Rattle.delta_codec.specs.declared.message.FibMessage.{FibMessage}
use Rattle.partial_fib.specs.Fib.{group_of_message, with_op, with_turn}
use Rattle.delta_codec.specs.Messages.{FibMessageFits}
use Rattle.partial_fib.specs.Store.{FibStore, KeepsVersions, is_group_of, record_among, slot_count, slot_of, state_of, version_in}

-- two blocks of one owner at one place among its blocks are one block
same_block : (nodes a b : ℕ) → 1 ≤ nodes → a % nodes ≡ b % nodes → a / nodes ≡ b / nodes → a ≡ b
same_block nodes a b some rest place =
    let whole : nodes * (a / nodes) ≡ nodes * (b / nodes) = ap (λ (q : ℕ). nodes * q) place in
    omega arith

module _ (size : Size) (owner : ℕ) (some : 1 ≤ size.nodes) where
  pub owned_of : (at : Home) → is_group_of size owner at ≡ true → (at.block % size.nodes ≡ owner) × (at.group < group_count)
  owned_of at is =
      let rest = (and_parts _ _ (and_parts (nat_lt at.block size.blocks) _ is).1) in
      (eqb-true _ _ rest.0, ltb-true _ _ rest.1)

  pub is_group : (at : Home) → at.block < size.blocks → at.block % size.nodes ≡ owner → at.group < group_count → is_group_of size owner at ≡ true
  is_group at within owned low = and_from _ _ (lt-ltb _ _ within) (and_from _ _ (eq-eqb _ _ owned) (lt-ltb _ _ low))

  -- groups of the owner at one place are one group
  one_group : (a b : Home) → is_group_of size owner a ≡ true → is_group_of size owner b ≡ true → slot_of size.nodes b ≡ slot_of size.nodes a → is_home a b ≡ true
  one_group a b of_a of_b same =
      let in_a = owned_of a of_a in
      let in_b = owned_of b of_b in
      let groups : a.group ≡ b.group = omega (arith, in_a.1, in_b.1, same) in
      let places : a.block / size.nodes ≡ b.block / size.nodes = omega (arith, in_a.1, in_b.1, same) in
      and_from _ _ (eq-eqb a.block b.block (same_block size.nodes a.block b.block some (in_a.0 ∙ sym in_b.0) places)) (eq-eqb a.group b.group groups)

  module _ (counts : List ℕ) (changed : Home) (own : is_group_of size owner changed ≡ true) (there : slot_of size.nodes changed < length counts) (next : ℕ)
      (next_is : next ≡ slice_index_or counts (slot_of size.nodes changed) 0 + 1) where
    beside : (asked : Home) (of_owner : Bool) → is_home changed asked ≡ false → is_group_of size owner asked ≡ of_owner
        → version_in size owner (set counts (slot_of size.nodes changed) next) asked ≡ version_in size owner counts asked
    beside asked false other e = rw e refl
    beside asked true other e =
        rw e (get_or-set_other counts (slot_of size.nodes changed) (slot_of size.nodes asked) next 0
        (λ same. true≢false (sym (one_group changed asked own e same) ∙ other)))

    at_home : (asked : Home) (here : Bool) → is_home changed asked ≡ here
        → version_in size owner (set counts (slot_of size.nodes changed) next) asked ≡ cond here (version_in size owner counts asked + 1) (version_in size owner counts asked)
    at_home asked true here =
        let parts = and_parts _ _ here in
        let is : changed ≡ asked = λ i. record { block = eqb-true changed.block asked.block parts.0 i; group = eqb-true changed.group asked.group parts.1 i } in
        ap (version_in size owner (set counts (slot_of size.nodes changed) next)) (sym is)
        ∙ rw own (get_or-set_same counts (slot_of size.nodes changed) next 0 there ∙ next_is)
        ∙ sym (ap (λ (b : Bool). cond b (slice_index_or counts (slot_of size.nodes changed) 0) 0 + 1) own)
        ∙ ap (λ (at : Home). version_in size owner counts at + 1) is
    at_home asked false here = beside asked _ here refl

    -- the group has one version more, and each other what it had
    one_more : version_in size owner (set counts (slot_of size.nodes changed) next) ≡ with_next_version (version_in size owner counts) changed
    one_more = λ i asked. at_home asked (is_home changed asked) refl i

-- a group of the owner has at most as many versions as turns were taken
pub low_version : (size : Size) (owner taken : ℕ) (counts : List ℕ) (at : Home) → KeepsVersions size owner taken counts → is_group_of size owner at ≡ true
    → slice_index_or counts (slot_of size.nodes at) 0 ≤ taken
low_version size owner taken counts at keeps own = rw own at (keeps.few at)

-- the count of a group of the owner
pub record IsCount (fib : FibStore) (at : Home) (place count : ℕ) : Type 0 where
  pub some_node : 1 ≤ fib.size.nodes
  pub own : is_group_of fib.size fib.owner at ≡ true
  pub place_is : place ≡ slot_of fib.size.nodes at
  pub there : slot_of fib.size.nodes at < length fib.counts
  pub count_is : count ≡ slice_index_or fib.counts (slot_of fib.size.nodes at) 0

-- what is read at the place of a message's group is the group's count
pub count_of_message : (fib now : FibStore) (message : FibMessage) (place count : ℕ) → fib ≡ now → FibMessageFits now.size message → message.owner ≡ fib.owner
    → KeepsVersions fib.size fib.owner fib.taken fib.counts → place ≡ slot_of fib.size.nodes (group_of_message message)
    → place < slot_count fib.size → count ≡ get_or fib.counts place count
    → IsCount fib (group_of_message message) place count
count_of_message fib now message place count is fits owner_is keeps place_is within read =
    let some : 1 ≤ fib.size.nodes = omega (arith, fits.owner_is_node, ap (λ (f : FibStore). f.size.nodes) is) in
    let in_table : message.block < fib.size.blocks = omega (arith, fits.in_table, ap (λ (f : FibStore). f.size.blocks) is) in
    let owned : message.block % fib.size.nodes ≡ fib.owner = ap (λ (f : FibStore). message.block % f.size.nodes) is ∙ fits.owned ∙ owner_is in
    let there : place < length fib.counts = omega (arith, within, keeps.places) in
    record {
      some_node = some;
      own = is_group fib.size fib.owner some (group_of_message message) in_table owned fits.in_block;
      place_is = place_is;
      there = omega (arith, there, place_is);
      count_is = read ∙ get_or_default fib.counts place count 0 there ∙ ap (λ (p : ℕ). get_or fib.counts p 0) place_is;
    }

-- with one more there its group has one version more, and each other what it had
pub one_more_at : (fib : FibStore) (at : Home) (place count : ℕ) → IsCount fib at place count
    → version_in fib.size fib.owner (set fib.counts place (count + 1)) ≡ with_next_version (version_in fib.size fib.owner fib.counts) at
one_more_at fib at place count is =
    ap (λ (p : ℕ). version_in fib.size fib.owner (set fib.counts p (count + 1))) is.place_is
    ∙ one_more fib.size fib.owner is.some_node fib.counts at is.own is.there (count + 1) (ap (λ (n : ℕ). n + 1) is.count_is)

-- before the first turn each group is at version 0
zeros : ℕ → List ℕ
zeros n = replicate n 0

zero_at : (n i none : ℕ) → none ≡ 0 → get_or (zeros n) i none ≡ none
unfolding zeros
zero_at zero i none is = refl
zero_at (suc n) zero none is = sym is
zero_at (suc n) (suc i) none is = zero_at n i none is

zero_version : (n place none : ℕ) (own : Bool) → none ≡ 0 → cond own (get_or (zeros n) place none) none ≡ none
zero_version n place none true is = zero_at n place none is
zero_version n place none false is = refl

pub no_versions : (size : Size) (owner n : ℕ) (counts : List ℕ) → counts ≡ replicate n 0 → version_in size owner counts ≡ (λ at. change_count at [])
unfolding change_count concerning zeros
no_versions size owner n counts are = λ i at.
    (ap (λ (cs : List ℕ). version_in size owner cs at) are ∙ zero_version n (slot_of size.nodes at) 0 (is_group_of size owner at) refl) i

-- a FIB that has a turn's record and version has taken the turn
pub same_turn : (fib : FibStore) (message : FibMessage) (entries : List (FlowKey × Record)) (counts : List ℕ)
    → record_among entries ≡ with_op (record_among fib.entries) message.op
    → version_in fib.size fib.owner counts ≡ with_next_version (version_in fib.size fib.owner fib.counts) (group_of_message message)
    → state_of (record fib { entries = entries; counts = counts; taken = fib.taken + 1 }) ≡ with_turn (state_of fib) message
same_turn fib message entries counts records versions = λ i. record {
  size = fib.size;
  node = fib.node;
  owner = fib.owner;
  records = records i;
  versions = versions i;
  taken = fib.taken + 1;
}
