-- The canonical record gives the key of each entry its node.
use Rattle.std.proofs.Common.{◌≡◌, ◌==◌, ℕ, zero, suc, ◌+◌, ◌*◌, ◌/◌, ◌%◌, ◌^◌, ◌<◌, ◌≤◌, Bool, true, false, cond, List, [], ◌∷◌, length, map, get_or, Option, Some, None, sym, ◌∙◌, ap, refl, arith, add-one, add-zero, zero-add, ⊎_elim}
use Rattle.std.specs.Prelude.{Contains, find}
use Rattle.std.specs.Int.{bit_at}
use Rattle.std.proofs.Math.Nat.{mod-eq_of_lt}
use Rattle.std.proofs.lemmas.Bool.{cases_Bool, eq-eqb, eqb-true, false≢true, lt-ltb}
use Rattle.std.proofs.lemmas.List.{get_or-map, length-map}
use Rattle.std.proofs.lemmas.List.Sums.{AllPass-from_list_all}
use Rattle.std.proofs.lemmas.List.Sorted.{Contains-permutation}
use Rattle.std.proofs.lemmas.Nat.{mod-pow-add, shr-shr}
use Rattle.flow_types.specs.declared.key.FlowKey.{FlowKey}
use Rattle.flow_types.specs.Key.{number}
use Rattle.hash_family.specs.Hash.{pair, position}
use Rattle.hash_family.specs.declared.pairing.HashPair.{HashPair}
use Rattle.group_search.specs.declared.entry.Entry.{Entry}
use Rattle.group_search.specs.declared.entry.Pair.{Pair}
use Rattle.group_search.specs.declared.rows.Row.{Row}
use Rattle.group_search.specs.declared.record.GroupRecord.{GroupRecord}
use Rattle.group_search.specs.declared.record.GroupRecord.TheVariants.{Served, Fallback}
use Rattle.group_search.specs.Served.{zero_pair}
use Rattle.group_search.specs.Serving.{reads}
use Rattle.group_search.specs.Rows.{IsRising, key_number, row_of, rows_of}
use Rattle.group_search.specs.Canon.{canonical, fallback, least_pairs}
use Rattle.group_search.specs.Decoding.{decode, value_of}
use Rattle.group_search.specs.Laws.{AreEntries, GivesEachNode}
use Rattle.group_search.proofs.Scan.{same_of_reads}
use Rattle.group_search.proofs.Chosen.{are_least}
use Rattle.group_search.proofs.Rising.{later_member, rising_tail, rows_permuted, rows_rising}
use Rattle.flow_types.proofs.Elements.{Contains_cases}

-- ---- served

-- the pairs read the bits of the node from `bit` on
record ReadBits (hashes : HashPair) (node count bit : ℕ) (pairs : List Pair) : Type 0 where
  one_each : length pairs ≡ count
  each : (b : ℕ) → b < count → bit_at (get_or pairs b zero_pair).array (position hashes (get_or pairs b zero_pair).index) ≡ bit_at node (bit + b)

later : (hashes : HashPair) (node count bit : ℕ) (p : Pair) (pairs : List Pair) → ReadBits hashes node (suc count) bit (p ∷ pairs) → ReadBits hashes node count (bit + 1) pairs
later hashes node count bit p pairs h = record {
  one_each = omega (arith, h.one_each);
  each = λ b low. let same : bit + suc b ≡ bit + 1 + b = omega arith in rw same at (h.each (suc b) (omega arith));
}

value_is : (hashes : HashPair) (node count bit : ℕ) (pairs : List Pair) → ReadBits hashes node count bit pairs → value_of hashes pairs ≡ node / 2 ^ bit % 2 ^ count
unfolding value_of
value_is hashes node zero bit [] h = omega arith
value_is hashes node zero bit (p ∷ pairs) h = absurd (omega (arith, h.one_each))
value_is hashes node (suc count) bit [] h = absurd (omega (arith, h.one_each))
value_is hashes node (suc count) bit (p ∷ pairs) h =
    let first : bit_at p.array (position hashes p.index) ≡ bit_at node bit = rw add-zero at (h.each 0 (omega arith)) in
    let rest = value_is hashes node count (bit + 1) pairs (later hashes node count bit p pairs h) in
    let shifted : node / 2 ^ bit / 2 ≡ node / 2 ^ (bit + 1) = shr-shr node bit 1 in
    let split : node / 2 ^ bit % 2 ^ suc count ≡ (node / 2 ^ bit / 2 % 2 ^ count) * 2 + node / 2 ^ bit % 2 = rw add-one at (mod-pow-add (node / 2 ^ bit) count 1) in
    rw (split, shifted, ← rest, ← first) (omega arith)

-- ---- rows

find_row : (key : FlowKey) (r : Row) (rows : List Row) → key_number r ≡ number key → IsRising rows → Contains rows r → find (λ row. key_number row == number key) rows ≡ Some r
find_row key r [] same rising h = absurd (omega (arith, h.1))
find_row key r (row ∷ rows) same rising h =
    ⊎_elim
    (λ hit. rw hit (⊎_elim (λ here. ap Some here)
    (λ after. let above = later_member row r rows rising after in let equal = eqb-true _ _ hit in absurd (omega arith))
    (Contains_cases row r rows h)))
    (λ miss. rw miss (⊎_elim
    (λ here. absurd (false≢true (sym miss ∙ eq-eqb _ _ (ap key_number here ∙ same))))
    (λ after. find_row key r rows same (rising_tail row rows rising) after)
    (Contains_cases row r rows h)))
    (cases_Bool (key_number row == number key))

-- ---- the law

record_if : (b : Bool) (made content : GroupRecord) → cond b (Some made) None ≡ Some content → made ≡ content
record_if true made content e = cc
record_if false made content e = cc

module _ (bits nodes : ℕ) (entries : List Entry) (content : GroupRecord) (fits : nodes ≤ 2 ^ bits) (h : AreEntries nodes entries) where
  served : (pairs : List Pair) → least_pairs bits 0 entries ≡ Some pairs → (k : ℕ) (d : Entry) → k < length entries
      → decode (Served pairs) nodes (get_or entries k d).key ≡ Some (get_or entries k d).node
  unfolding decode
  served pairs found k d low =
      let e : Entry = get_or entries k d in
      let all = are_least entries bits pairs found in
      let read : ReadBits e.pair e.node bits 0 pairs = record {
        one_each = all.one_each;
        each = λ b lower.
            let least = all.least b lower in
            let one = AllPass-from_list_all (reads (get_or pairs b zero_pair).index (get_or pairs b zero_pair).array b) entries least.serves_here k d low in
            rw zero-add (same_of_reads _ _ b e one);
      } in
      let known = h.known k d low in
      let whole : e.node % 2 ^ bits ≡ e.node = mod-eq_of_lt (omega arith) in
      let start : e.node / 2 ^ 0 ≡ e.node = omega arith in
      let value : value_of (pair e.key) pairs ≡ e.node = rw (← h.hashed k d low, value_is e.pair e.node bits 0 pairs read, start) whole in
      rw (value, lt-ltb _ _ known)

  fallen_back : (k : ℕ) (d : Entry) → k < length entries → decode (Fallback (rows_of entries)) nodes (get_or entries k d).key ≡ Some (get_or entries k d).node
  unfolding decode
  fallen_back k d low =
      let e : Entry = get_or entries k d in
      let there : Contains (map row_of entries) (row_of e) = (k, omega (arith, length-map entries row_of), get_or-map row_of entries k d (row_of e) low) in
      let in_rows : Contains (rows_of entries) (row_of e) = Contains-permutation _ _ _ (rows_permuted entries) there in
      rw (find_row e.key (row_of e) (rows_of entries) refl (rows_rising entries h.distinct) in_rows)

  each_node : (found : Option (List Pair)) → least_pairs bits 0 entries ≡ found → canonical bits entries ≡ Some content
      → (k : ℕ) (d : Entry) → k < length entries → decode content nodes (get_or entries k d).key ≡ Some (get_or entries k d).node
  unfolding canonical fallback
  each_node (Some pairs) e is k d low =
      let content_is : Served pairs ≡ content = record_if true _ _ (rw e at is) in
      rw (← content_is) (served pairs e k d low)
  each_node None e is k d low =
      let content_is : Fallback (rows_of entries) ≡ content = record_if _ _ _ (rw e at is) in
      rw (← content_is) (fallen_back k d low)

pub gives_each_node : GivesEachNode
gives_each_node bits nodes entries content fits h is = each_node bits nodes entries content fits h (least_pairs bits 0 entries) refl is
