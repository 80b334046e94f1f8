-- A cell linked at the end of a chain.
use Rattle.std.specs.Prelude.{◌≡◌, ◌≢◌, ◌⊎◌, ℕ, suc, ◌+◌, ◌-◌, ◌<◌, ◌≤◌, List, [], ◌∷◌, ◌++◌, length, get_or, set, Option, Some, None}
use Rattle.std.proofs.Common.{sym, ◌∙◌, ap, subst, inl, inr, arith}
use Rattle.std.proofs.Math.Seq.{get_or-append_seam}
use Rattle.std.proofs.lemmas.List.{get_or_append_left}
use Rattle.bucket_arena.specs.declared.chain.Cell.{Cell}
use Rattle.bucket_arena.specs.declared.chain.Chain.{Chain}
use Rattle.bucket_arena.specs.Row.{IsWritten}
use Rattle.bucket_arena.specs.Chains.{occurrences, cell_at, next_of, numbers_from, numbers, item_and, items_in, items, IsMarked, IsWhole}
use Rattle.bucket_arena.proofs.Counts.{same, same_or_not, same_self, occurrences-append, stands}
use Rattle.bucket_arena.proofs.Links.{after, after_is, follow, length-numbers, followed, cut, relinked, same_items, items-append}
use Rattle.bucket_arena.proofs.Written.{within, wrote_there, wrote_else, still_written}

module _ {X : Type 0} (cells : List (Option (Cell X))) (chain : Chain) where
  abbrev cell : ℕ → Option (Cell X)
  cell = cell_at cells

  abbrev ns : List ℕ
  ns = numbers cell chain

  pub long : length ns ≡ chain.len
  long = length-numbers cell chain.len chain.first

  -- each place's cell stands in the chain
  pub at_place : (p : ℕ) → p < chain.len → 0 < occurrences (get_or ns p 0) ns
  at_place p l = let l' : p < length ns = omega (arith, long) in stands ns p l'

  -- the number of a place in the run, and its cell was written
  module _ (whole : IsWhole cells chain) (p : ℕ) (in_run : p ≤ chain.run) (l : p < chain.len) where
    pub near : get_or ns p 0 ≡ chain.first + p
    near = whole.marked.runs p in_run l

    pub near_written : IsWritten cells (chain.first + p)
    near_written = subst (IsWritten cells) near (whole.written _ (at_place p l))

    pub near_within : chain.first + p < length cells
    near_within = within cells _ near_written.0 near_written.1

  -- the cell that ends a whole chain stands there once, after the others
  module _ (whole : IsWhole cells chain) (some : 0 < chain.len) where
    pub last_stands : 0 < occurrences chain.last ns
    last_stands = let l : chain.len - 1 < chain.len = omega arith in subst (λ n. 0 < occurrences n ns) (whole.marked.ends some) (at_place (chain.len - 1) l)

  -- the marks of the chain with the cell number linked to its end
  pub first_marked : (number : ℕ) → chain.len ≡ 0 → IsMarked (ns ++ number ∷ []) (record { first = number; last = number; len = 1; run = 0 })
  first_marked number none = let at_start : length ns ≡ 0 = omega (arith, long, none) in let here = get_or-append_seam ns number [] 0 in record {
    ends = λ some. ap (λ k. get_or (ns ++ number ∷ []) k 0) (sym at_start) ∙ here;
    runs = λ place in_run l. let e : place ≡ length ns = omega (arith, in_run, at_start) in let sum : number ≡ number + place = omega (arith, in_run) in
        ap (λ k. get_or (ns ++ number ∷ []) k 0) e ∙ here ∙ sum;
    within = omega arith;
  }

  pub later_marked : (number run : ℕ) → IsMarked ns chain → 0 < chain.len → (run ≡ chain.run) ⊎ ((run ≡ chain.len) × (chain.run + 1 ≡ chain.len) × (number ≡ chain.last + 1))
      → IsMarked (ns ++ number ∷ []) (record { first = chain.first; last = number; len = chain.len + 1; run = run })
  later_marked number run marked some longer =
      let seam : get_or (ns ++ number ∷ []) chain.len 0 ≡ number = ap (λ k. get_or (ns ++ number ∷ []) k 0) (sym long) ∙ get_or-append_seam ns number [] 0 in
      let before : (place : ℕ) → place < chain.len → get_or (ns ++ number ∷ []) place 0 ≡ get_or ns place 0 = λ place l. get_or_append_left ns (number ∷ []) 0 place (omega (arith, l, long)) in
      let in_old : (place : ℕ) → place ≤ chain.run → get_or (ns ++ number ∷ []) place 0 ≡ chain.first + place
      = λ place l. let l' : place < chain.len = omega (arith, l, some, marked.within) in before place l' ∙ marked.runs place l l' in
      record {
        ends = λ any. let e : chain.len + 1 - 1 ≡ chain.len = omega arith in ap (λ k. get_or (ns ++ number ∷ []) k 0) e ∙ seam;
        runs = λ place in_run l. elim longer [
          | inl same ↦ in_old place (omega (arith, in_run, same))
          | inr more ↦ elim (same_or_not place chain.len) [
            | inl t ↦ let at = t.0 in let up = more.2 in let short = more.1 in let l' : chain.len - 1 < chain.len = omega (arith, some) in
                let last = marked.runs (chain.len - 1) (omega (arith, short)) l' in let is_last = marked.ends some in
                let sum : number ≡ chain.first + place = omega (arith, at, up, last, is_last, some) in
                ap (λ k. get_or (ns ++ number ∷ []) k 0) at ∙ seam ∙ sum
            | inr f ↦ let ne = f.0 in let up = more.0 in let short = more.1 in in_old place (omega (arith, in_run, ne, up, short))
          ]
        ];
        within = elim longer [ inl same ↦ omega (arith, same, marked.within) | inr more ↦ (let up = more.0 in omega (arith, up)) ];
      }

  -- the chain after the cell number, which is not in it, was linked to its end
  module _ (now : List (Option (Cell X))) (grown : Chain) (number : ℕ) (item : X) (whole : IsWhole cells chain)
      (linked : numbers (cell_at now) grown ≡ ns ++ number ∷ []) (marked : IsMarked (ns ++ number ∷ []) grown)
      (apart : occurrences number ns ≡ 0) (kept : (m : ℕ) → IsWritten cells m → IsWritten now m) (here : IsWritten now number) where
    shared : (m : ℕ) → occurrences m (numbers (cell_at now) grown) ≡ occurrences m ns + same number m
    shared m = let all = ap (occurrences m) linked in omega (arith, all, occurrences-append m ns (number ∷ []))

    pub whole_grown : IsWhole now grown
    whole_grown = record {
      written = λ m l. elim (same_or_not number m) [ inl t ↦ subst (IsWritten now) t.0 here | inr f ↦ kept m (whole.written m (omega (arith, shared m, f.1))) ];
      once = λ m. elim (same_or_not number m) [
        | inl t ↦ let none : occurrences m ns ≡ 0 = subst (λ k. occurrences k ns ≡ 0) t.0 apart in omega (arith, shared m, t.1, none)
        | inr f ↦ omega (arith, shared m, f.1, whole.once m)
      ];
      marked = subst (λ l. IsMarked l grown) (sym linked) marked;
    }

module _ {X : Type 0} (cells between now : List (Option (Cell X))) (chain : Chain) (number : ℕ) (item : X) (old : Cell X)
    (whole : IsWhole cells chain) (apart : occurrences number (numbers (cell_at cells) chain) ≡ 0) (room : number < length cells) (some : 0 < chain.len)
    (run : ℕ) (longer : (run ≡ chain.run) ⊎ ((run ≡ chain.len) × (chain.run + 1 ≡ chain.len) × (number ≡ chain.last + 1)))
    (first : between ≡ set cells number (Some (record { item = item; next = number }))) (read : get_or between chain.last None ≡ Some old)
    (second : now ≡ set between chain.last (Some (record { item = old.item; next = number }))) where
  abbrev all : List ℕ
  all = numbers (cell_at cells) chain

  abbrev cell' : ℕ → Option (Cell X)
  cell' = cell_at now

  abbrev grown : Chain
  grown = record { first = chain.first; last = number; len = chain.len + 1; run = run }

  last_in : 0 < occurrences chain.last all
  last_in = last_stands cells chain whole some

  two : number ≢ chain.last
  two e = let none : occurrences chain.last all ≡ 0 = subst (λ k. occurrences k all ≡ 0) e apart in omega (arith, none, last_in)

  room_between : chain.last < length between
  room_between = within between chain.last old read

  at_last : cell' chain.last ≡ Some (record { item = old.item; next = number })
  at_last = wrote_there between now chain.last (record { item = old.item; next = number }) second room_between

  at_number : cell' number ≡ Some (record { item = item; next = number })
  at_number = wrote_else between now chain.last (record { item = old.item; next = number }) second number two ∙ wrote_there cells between number (record { item = item; next = number }) first room

  pub else_same : (m : ℕ) → m ≢ number → m ≢ chain.last → cell' m ≡ cell_at cells m
  else_same m n1 n2 = wrote_else between now chain.last (record { item = old.item; next = number }) second m n2 ∙ wrote_else cells between number (record { item = item; next = number }) first m n1

  was_last : cell_at cells chain.last ≡ Some old
  was_last = sym (wrote_else cells between number (record { item = item; next = number }) first chain.last (λ e. two (sym e))) ∙ read

  abbrev p : ℕ
  p = chain.len - 1

  split : all ≡ numbers_from (cell_at cells) p chain.first ++ chain.last ∷ []
  split =
      let len : after p 1 ≡ chain.len = omega (arith, after_is p 1) in
      let there : follow (cell_at cells) p chain.first ≡ chain.last = sym (followed (cell_at cells) chain.len chain.first p (omega arith)) ∙ whole.marked.ends some in
      ap (λ k. numbers_from (cell_at cells) k chain.first) (sym len) ∙ cut (cell_at cells) p 1 chain.first ∙ ap (λ n. numbers_from (cell_at cells) p chain.first ++ n ∷ []) there

  others_of : (m : ℕ) → occurrences m all ≡ occurrences m (numbers_from (cell_at cells) p chain.first) + same chain.last m
  others_of m = let e = ap (occurrences m) split in omega (arith, e, occurrences-append m (numbers_from (cell_at cells) p chain.first) (chain.last ∷ []))

  pub linked : numbers cell' grown ≡ all ++ number ∷ []
  linked =
      let agree : (m : ℕ) → 0 < occurrences m (numbers_from (cell_at cells) p chain.first) → cell' m ≡ cell_at cells m
      = λ m l. else_same m (λ e. let none : occurrences m all ≡ 0 = subst (λ k. occurrences k all ≡ 0) (sym e) apart in omega (arith, none, others_of m))
      (λ e. let once : occurrences chain.last all ≤ 1 = whole.once chain.last in let l' : 0 < occurrences chain.last (numbers_from (cell_at cells) p chain.first) = subst (λ k. 0 < occurrences k (numbers_from (cell_at cells) p chain.first)) e l in omega (arith, once, others_of chain.last, same_self chain.last, l')) in
      let len : after (suc p) 1 ≡ chain.len + 1 = omega (arith, after_is p 1) in
      let there : follow (cell_at cells) p chain.first ≡ chain.last = sym (followed (cell_at cells) chain.len chain.first p (omega arith)) ∙ whole.marked.ends some in
      let next : next_of (cell' (follow (cell_at cells) p chain.first)) ≡ number = ap (λ k. next_of (cell' k)) there ∙ ap next_of at_last in
      let same_len : suc p ≡ chain.len = omega arith in
      ap (λ k. numbers_from cell' k chain.first) (sym len) ∙ relinked (cell_at cells) cell' p 1 chain.first agree
      ∙ (λ i. numbers_from (cell_at cells) (same_len i) chain.first ++ next i ∷ [])

  pub items_now : items cell' grown ≡ items (cell_at cells) chain ++ item ∷ []
  items_now =
      let kept : items_in cell' all ≡ items_in (cell_at cells) all
      = same_items (cell_at cells) cell' all (λ m l xs. elim (same_or_not m chain.last) [
        | inl t ↦ ap (λ k. item_and (cell' k) xs) t.0 ∙ ap (λ c. item_and c xs) at_last ∙ sym (ap (λ c. item_and c xs) was_last) ∙ sym (ap (λ k. item_and (cell_at cells k) xs) t.0)
        | inr f ↦ ap (λ c. item_and c xs) (else_same m (λ e. let none : occurrences m all ≡ 0 = subst (λ k. occurrences k all ≡ 0) (sym e) apart in omega (arith, none, l)) f.0)
      ]) in
      ap (items_in cell') linked ∙ items-append cell' all (number ∷ []) ∙ (λ i. kept i ++ item_and (at_number i) [])

  pub still : (m : ℕ) → IsWritten cells m → IsWritten now m
  still m w = still_written between now chain.last (record { item = old.item; next = number }) second room_between m (still_written cells between number (record { item = item; next = number }) first room m w)

  pub whole_now : IsWhole now grown
  whole_now = whole_grown cells chain now grown number item whole linked (later_marked cells chain number run whole.marked some longer) apart still (record { item = item; next = number }, at_number)

  pub others : (m : ℕ) → m ≢ number → occurrences m all ≡ 0 → cell' m ≡ cell_at cells m
  others m ne none = else_same m ne (λ e. let some_of : 0 < occurrences m all = subst (λ k. 0 < occurrences k all) (sym e) last_in in omega (arith, some_of, none))
