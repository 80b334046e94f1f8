-- Entries whose keys' numbers rise by one.
use Rattle.std.proofs.Common.{◌≡◌, ◌≢◌, ℕ, ◌+◌, ◌*◌, ◌^◌, ◌<◌, List, [], ◌∷◌, ◌++◌, length, get_or, arith, ⊎_elim}
use Rattle.std.proofs.lemmas.Bool.{cases_eq}
use Rattle.std.proofs.lemmas.List.{length_push, get_or_append_left}
use Rattle.std.proofs.Math.Seq.{get_or-append_seam}
use Rattle.flow_types.specs.Key.{number}
use Rattle.flow_types.specs.Map.{HaveDistinctKeys}
use Rattle.group_search.specs.Rows.{entry_key}
use Rattle.group_search.specs.declared.entry.Entry.{Entry}

-- a number of entries with this source, numbered from 1 up
pub record AreNumbered (source count : ℕ) (entries : List Entry) : Type 0 where
  pub all : length entries ≡ count
  pub at : (k : ℕ) (d : Entry) → k < length entries → number (get_or entries k d).key ≡ source * 2 ^ 72 + k + 1

pub numbered_distinct : (source count : ℕ) (entries : List Entry) → AreNumbered source count entries → HaveDistinctKeys entry_key entries
numbered_distinct source count entries h = λ i j d low high same.
    let a = h.at i d (omega arith) in
    let b = h.at j d high in
    omega arith

pub numbered_more : (source count : ℕ) (entries : List Entry) (e : Entry) → number e.key ≡ source * 2 ^ 72 + count + 1 → AreNumbered source count entries
    → AreNumbered source (count + 1) (entries ++ e ∷ [])
numbered_more source count entries e numbered h = record {
  all = omega (arith, length_push entries e, h.all);
  at = λ k d low.
      let long = length_push entries e in
      ⊎_elim
      (λ (last : k ≡ length entries).
      let same : get_or (entries ++ e ∷ []) k d ≡ e = rw last (get_or-append_seam entries e [] d) in
      rw same (omega (arith, h.all)))
      (λ (before : k ≢ length entries).
      let inside : k < length entries = omega arith in
      rw (get_or_append_left entries (e ∷ []) d k inside) (h.at k d inside))
      (cases_eq k (length entries));
}
