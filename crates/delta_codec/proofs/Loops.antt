-- Pairs and rows, read one after another.
use Rattle.std.proofs.Common.{◌≡◌, ℕ, suc, ◌+◌, ◌-◌, ◌*◌, ◌<◌, ◌≤◌, List, [], ◌∷◌, ◌++◌, length, take, drop, set, replicate, length-set, Option, Some, None, option_map, refl, sym, ap, ◌∙◌, subst, arith}
use Rattle.std.specs.Prelude.{All}
use Rattle.std.specs.List.{flat_map}
use Rattle.std.proofs.lemmas.List.{take_more_set, drop-set-lt, drop-drop, drop-replicate, length-append, length-take}
use Rattle.std.proofs.lemmas.List.Elements.{All-nil, All-push}
use Rattle.flow_types.specs.declared.key.FlowKey.{FlowKey}
use Rattle.flow_types.specs.Key.{number, IsKeyValue}
use Rattle.group_search.specs.declared.entry.Pair.{Pair}
use Rattle.group_search.specs.declared.rows.Row.{Row}
use Rattle.group_search.specs.declared.limits.TheConstants.{MOST_BITS}
use Rattle.group_search.specs.Served.{zero_pair}
use Rattle.group_search.specs.Words.{IsPair}
use Rattle.delta_codec.specs.declared.refused.DecodeRefused.{DecodeRefused}
use Rattle.delta_codec.specs.Spelling.{Stand, pair_octets, row_octets}
use Rattle.delta_codec.specs.Fields.{field_fault, first_fault, free, key_number_at, key_field, row_node_field, pair_fields, row_fields}
use Rattle.delta_codec.proofs.Faults.{passed, stops}
use Rattle.delta_codec.proofs.Lengths.{pairs-long, rows-long, row-long, flat_map-push}
use Rattle.delta_codec.proofs.Standing.{Stand-append, Stand-joined}

nothing_stands : (bytes : List ℕ) (at : ℕ) → at ≤ length bytes → Stand bytes at []
nothing_stands bytes at le = Stand-joined bytes at [] (drop at bytes) le refl

-- ---- pairs

-- the first pairs are read, and the others are zero
pub record ReadPairs (bytes : List ℕ) (at bits done : ℕ) (pairs : List Pair) (place : ℕ) : Type 0 where
  pub width : length pairs ≡ MOST_BITS
  pub rest : drop done pairs ≡ replicate (MOST_BITS - done) zero_pair
  pub sized : All IsPair (take done pairs)
  pub stands : Stand bytes at (flat_map pair_octets (take done pairs))
  pub place_is : place ≡ at + 3 * done
  pub there : place ≤ length bytes
  pub faults : first_fault bytes (pair_fields bits at) ≡ first_fault bytes (pair_fields (bits - done) place)

pub pairs_start : (bytes : List ℕ) (at bits : ℕ) → at ≤ length bytes → ReadPairs bytes at bits 0 (replicate MOST_BITS zero_pair) at
pairs_start bytes at bits le = record {
  width = refl;
  rest = refl;
  sized = All-nil IsPair;
  stands = nothing_stands bytes at le;
  place_is = omega arith;
  there = le;
  faults = let same : bits - 0 ≡ bits = omega arith in rw same;
}

module _ (bytes : List ℕ) (at bits done : ℕ) (pairs : List Pair) (place : ℕ) (so_far : ReadPairs bytes at bits done pairs place) (low : done < bits) where
  left : bits - done ≡ suc (bits - (done + 1))
  left = omega arith

  pub pairs_more : (pair : Pair) → bits ≤ MOST_BITS → Stand bytes place (pair_octets pair) → IsPair pair → first_fault bytes (pair_fields 1 place) ≡ None
      → ReadPairs bytes at bits (done + 1) (set pairs done pair) (place + 3)
  pairs_more pair few stands sized sound =
      let inside : done < length pairs = omega (arith, so_far.width) in
      let more : take (done + 1) (set pairs done pair) ≡ take done pairs ++ pair ∷ [] = take_more_set pairs done pair inside in
      let shorter : MOST_BITS - done - 1 ≡ MOST_BITS - (done + 1) = omega arith in
      let long : length (take done pairs) ≡ done = omega (arith, length-take done pairs) in
      let next : place ≡ at + length (flat_map pair_octets (take done pairs)) = omega (arith, so_far.place_is, pairs-long (take done pairs), long) in
      let joined = Stand-append bytes at place (flat_map pair_octets (take done pairs)) (pair_octets pair) next so_far.stands stands in
      record {
        width = length-set pairs done pair ∙ so_far.width;
        rest = drop-set-lt (done + 1) pairs done pair (omega arith) ∙ sym (drop-drop 1 done pairs) ∙ ap (drop 1) so_far.rest
            ∙ drop-replicate 1 (MOST_BITS - done) zero_pair ∙ ap (λ n. replicate n zero_pair) shorter;
        sized = subst (All IsPair) (sym more) (All-push IsPair (take done pairs) pair so_far.sized sized);
        stands = subst (Stand bytes at) (sym (ap (flat_map pair_octets) more ∙ flat_map-push pair_octets (take done pairs) pair)) joined;
        place_is = omega (arith, so_far.place_is);
        there = omega (arith, stands.there);
        faults = so_far.faults ∙ ap (λ n. first_fault bytes (pair_fields n place)) left
            ∙ passed (field_fault bytes (free place 2)) (field_fault bytes (free (place + 2) 1)) _ sound;
      }

  pub pairs_stop : (refused : DecodeRefused) → first_fault bytes (pair_fields 1 place) ≡ Some refused → first_fault bytes (pair_fields bits at) ≡ Some refused
  pairs_stop refused fault =
      so_far.faults ∙ ap (λ n. first_fault bytes (pair_fields n place)) left
      ∙ stops (field_fault bytes (free place 2)) (field_fault bytes (free (place + 2) 1)) _ refused fault

pub pairs_done : (bytes : List ℕ) (at bits : ℕ) (pairs : List Pair) (place : ℕ) → ReadPairs bytes at bits bits pairs place → first_fault bytes (pair_fields bits at) ≡ None
pairs_done bytes at bits pairs place h =
    let none : bits - bits ≡ 0 = omega arith in
    h.faults ∙ ap (λ n. first_fault bytes (pair_fields n place)) none

-- ---- rows

-- the first rows are read
pub record ReadRows (nodes : ℕ) (bytes : List ℕ) (at count done : ℕ) (rows : List Row) (before : Option FlowKey) (place : ℕ) : Type 0 where
  pub counted : length rows ≡ done
  pub sized : All (λ (row : Row). IsKeyValue row.key) rows
  pub stands : Stand bytes at (flat_map row_octets rows)
  pub place_is : place ≡ at + 14 * done
  pub there : place ≤ length bytes
  pub faults : first_fault bytes (row_fields nodes bytes count None at) ≡ first_fault bytes (row_fields nodes bytes (count - done) (option_map number before) place)

pub rows_start : (nodes : ℕ) (bytes : List ℕ) (at count : ℕ) → at ≤ length bytes → ReadRows nodes bytes at count 0 [] None at
rows_start nodes bytes at count le = record {
  counted = refl;
  sized = All-nil _;
  stands = nothing_stands bytes at le;
  place_is = omega arith;
  there = le;
  faults = let same : count - 0 ≡ count = omega arith in rw same;
}

module _ (nodes : ℕ) (bytes : List ℕ) (at count done : ℕ) (rows : List Row) (before : Option FlowKey) (place : ℕ) (so_far : ReadRows nodes bytes at count done rows before place) (low : done < count) where
  rows_left : count - done ≡ suc (count - (done + 1))
  rows_left = omega arith

  pub rows_more : (row : Row) → Stand bytes place (row_octets row) → IsKeyValue row.key → number row.key ≡ key_number_at bytes place → first_fault bytes (row_fields nodes bytes 1 (option_map number before) place) ≡ None
      → ReadRows nodes bytes at count (done + 1) (rows ++ row ∷ []) (Some row.key) (place + 14)
  rows_more row stands sized value sound =
      let next : place ≡ at + length (flat_map row_octets rows) = omega (arith, so_far.place_is, so_far.counted, rows-long rows) in
      let joined = Stand-append bytes at place (flat_map row_octets rows) (row_octets row) next so_far.stands stands in
      record {
        counted = omega (arith, so_far.counted, length-append rows (row ∷ []));
        sized = All-push (λ (r : Row). IsKeyValue r.key) rows row so_far.sized sized;
        stands = subst (Stand bytes at) (sym (flat_map-push row_octets rows row)) joined;
        place_is = omega (arith, so_far.place_is);
        there = omega (arith, stands.there, row-long row);
        faults = so_far.faults ∙ ap (λ n. first_fault bytes (row_fields nodes bytes n (option_map number before) place)) rows_left
            ∙ passed (field_fault bytes (key_field bytes (option_map number before) place)) (field_fault bytes (row_node_field nodes bytes (place + 13))) _ sound
            ∙ ap (λ k. first_fault bytes (row_fields nodes bytes (count - (done + 1)) (Some k) (place + 14))) (sym value);
      }

  pub rows_stop : (refused : DecodeRefused) → first_fault bytes (row_fields nodes bytes 1 (option_map number before) place) ≡ Some refused → first_fault bytes (row_fields nodes bytes count None at) ≡ Some refused
  rows_stop refused fault =
      so_far.faults ∙ ap (λ n. first_fault bytes (row_fields nodes bytes n (option_map number before) place)) rows_left
      ∙ stops (field_fault bytes (key_field bytes (option_map number before) place)) (field_fault bytes (row_node_field nodes bytes (place + 13))) _ refused fault

pub rows_done : (nodes : ℕ) (bytes : List ℕ) (at count : ℕ) (rows : List Row) (before : Option FlowKey) (place : ℕ) → ReadRows nodes bytes at count count rows before place
    → first_fault bytes (row_fields nodes bytes count None at) ≡ None
rows_done nodes bytes at count rows before place h =
    let none : count - count ≡ 0 = omega arith in
    h.faults ∙ ap (λ n. first_fault bytes (row_fields nodes bytes n (option_map number before) place)) none
