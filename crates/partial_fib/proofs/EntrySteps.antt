-- What a turn makes of the entries: each key has what the turn means for it, and none has two.
use Rattle.std.proofs.Common.{ℕ, ◌≡◌, ◌∙◌, Bool, true, false, cond, List, [], ◌∷◌, position, Option, None, Some, refl, sym, ap, subst}
use Rattle.std.proofs.lemmas.Bool.{true≢false}
use Rattle.std.proofs.lemmas.Map.Keys.{IsDistinct-push}
use Rattle.std.proofs.lemmas.Option.{slice_get-get_or}
use Rattle.std.specs.Cmp.{IsEquivalence}
use Rattle.std.specs.List.{IsDistinct, list_any}
use Rattle.std.specs.Map.{keys_of, lookup}
use Rattle.std.specs.Prelude.{get_or}
use Rattle.indexmap.specs.IndexMap.{insert_entry, swap_remove_entry}
use Rattle.indexmap.specs.IndexSet.{insert_key}
use Rattle.indexmap.proofs.MapLemmas.{Found-position, swap_remove_entry-found, swap_remove_entry-missing}
use Rattle.indexmap.proofs.RemoveLemmas.{none_out, swap_out}
use Rattle.indexmap.proofs.SetLemmas.{keys_insert_entry}
use Rattle.flow_types.specs.declared.key.FlowKey.{FlowKey}
use Rattle.flow_types.specs.declared.record.Record.{Record}
use Rattle.flow_types.specs.Key.{same_key}
use Rattle.flow_types.proofs.SameKeys.{same_key-refl, same_key-true}
use Rattle.delta_codec.specs.declared.message.FibOp.{FibOp}
use Rattle.delta_codec.specs.declared.message.FibOp.TheVariants.{Nothing, Put, Drop}
use Rattle.delta_codec.specs.Values.{IsOperation}
use Rattle.partial_fib.specs.Fib.{with_op}
use Rattle.partial_fib.specs.Store.{HasEachKeyOnce, entries_with, record_among}
use Rattle.partial_fib.proofs.KeyNumbers.{updated}

keys_turn : (a b : FlowKey) → same_key a b ≡ same_key b a
keys_turn a b = by (same_key a b) (same_key b a) refl refl
  where
    by : (x y : Bool) → same_key a b ≡ x → same_key b a ≡ y → same_key a b ≡ same_key b a
    by true y p q = ap (λ (k : FlowKey). same_key k b) (same_key-true a b p) ∙ ap (λ (k : FlowKey). same_key b k) (sym (same_key-true a b p))
    by false true p q = absurd (true≢false (sym (same_key-refl a) ∙ ap (λ (k : FlowKey). same_key a k) (sym (same_key-true b a q)) ∙ p))
    by false false p q = p ∙ sym q

pub equal_keys : IsEquivalence same_key
equal_keys = record {
  refl = same_key-refl;
  symm = keys_turn;
  congr = λ x y z same. ap (λ (k : FlowKey). same_key k z) (same_key-true x y same);
}

abbrev Entries : Type 0
Entries = List (FlowKey × Record)

-- what an asked key has after a key is put
inserted : (key : FlowKey) (info : Record) (entries : Entries) (q : FlowKey)
    → lookup (same_key q) (insert_entry same_key entries key info) ≡ cond (same_key key q) (Some info) (lookup (same_key q) entries)
inserted key info [] q = ap (λ (b : Bool). cond b (Some info) None) (keys_turn q key)
inserted key info (e ∷ es) q = by (same_key key e.0) (same_key q e.0) refl refl (inserted key info es q)
  where
    goal : Bool → Type 0
    goal there = lookup (same_key q) (cond there ((e.0, info) ∷ es) (e ∷ insert_entry same_key es key info)) ≡ cond (same_key key q) (Some info) (lookup (same_key q) (e ∷ es))

    by : (there asked : Bool) → same_key key e.0 ≡ there → same_key q e.0 ≡ asked
        → lookup (same_key q) (insert_entry same_key es key info) ≡ cond (same_key key q) (Some info) (lookup (same_key q) es) → goal (same_key key e.0)
    by true true p a rest =
        let is : same_key key q ≡ true = ap (λ (k : FlowKey). same_key k q) (same_key-true key e.0 p ∙ sym (same_key-true q e.0 a)) ∙ same_key-refl q in
        subst goal (sym p) (rw (a, is) refl)
    by true false p a rest =
        let isnt : same_key key q ≡ false = ap (λ (k : FlowKey). same_key k q) (same_key-true key e.0 p) ∙ keys_turn e.0 q ∙ a in
        subst goal (sym p) (rw (a, isnt) refl)
    by false true p a rest =
        let isnt : same_key key q ≡ false = ap (same_key key) (same_key-true q e.0 a) ∙ p in
        subst goal (sym p) (rw (a, isnt) refl)
    by false false p a rest = subst goal (sym p) (rw a rest)

inserted_once : (key : FlowKey) (info : Record) (entries : Entries) → HasEachKeyOnce entries → HasEachKeyOnce (insert_entry same_key entries key info)
inserted_once key info entries once = subst (IsDistinct same_key) (sym (keys_insert_entry same_key entries key info)) (by (list_any (same_key key) (keys_of entries)) refl)
  where
    by : (there : Bool) → list_any (same_key key) (keys_of entries) ≡ there → IsDistinct same_key (insert_key same_key (keys_of entries) key)
    by true is = rw is once
    by false is = rw is (IsDistinct-push equal_keys (keys_of entries) key once is)

-- the entries after a key is dropped
record Dropped (key : FlowKey) (entries left : Entries) : Type 0 where
  looked : (q : FlowKey) → lookup (same_key q) left ≡ cond (same_key key q) None (lookup (same_key q) entries)
  once : HasEachKeyOnce left

dropped : (key : FlowKey) (entries : Entries) → HasEachKeyOnce entries → Dropped key entries (swap_remove_entry (same_key key) entries)
dropped key [] once = record {
  looked = (none_out same_key equal_keys (same_key key) (equal_keys.congr key) [] [] refl refl).0;
  once = once;
}
dropped key (e ∷ es) once = by (position (same_key key) (keys_of (e ∷ es))) refl
  where
    all : Entries
    all = e ∷ es

    by : (found : Option ℕ) → position (same_key key) (keys_of all) ≡ found → Dropped key all (swap_remove_entry (same_key key) all)
    by None is =
        let stays = swap_remove_entry-missing (same_key key) all is in
        record {
          looked = (none_out same_key equal_keys (same_key key) (equal_keys.congr key) all (swap_remove_entry (same_key key) all) is stays).0;
          once = subst HasEachKeyOnce (sym stays) once;
        }
    by (Some i) is =
        let there = slice_get-get_or all i e (Found-position (same_key key) all i is).within in
        let out = swap_out same_key equal_keys (same_key key) (equal_keys.congr key) all i (get_or all i e) is there once
        (swap_remove_entry (same_key key) all) (swap_remove_entry-found (same_key key) all i (get_or all i e) is) in
        record { looked = out.updated.0; once = out.unique }

-- no key gets a second entry
pub once_with : (entries : Entries) (op : FibOp) → HasEachKeyOnce entries → HasEachKeyOnce (entries_with entries op)
once_with entries Nothing once = once
once_with entries (Put key info) once = inserted_once key info entries once
once_with entries (Drop key) once = (dropped key entries once).once

-- each key has what the turn means for it
pub records_with : (entries : Entries) (op : FibOp) → IsOperation op → HasEachKeyOnce entries → record_among (entries_with entries op) ≡ with_op (record_among entries) op
records_with entries Nothing value once = refl
records_with entries (Put key info) value once = updated key (Some info) entries _ value.0 (inserted key info entries)
records_with entries (Drop key) value once = updated key None entries _ value (dropped key entries once).looked
