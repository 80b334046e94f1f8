-- The laws of an arena after a move to a larger piece, a push, a write and a take.
use Rattle.std.specs.Prelude.{◌≡◌, ◌≢◌, ◌⊎◌, ℕ, zero, suc, ◌+◌, ◌-◌, ◌<◌, ◌≤◌, List, [], ◌∷◌, ◌++◌, length, replicate, get_or, set, remove, Option, None, refl}
use Rattle.std.proofs.Common.{sym, ◌∙◌, ap, subst, inl, inr, arith, length-set}
use Rattle.std.proofs.lemmas.List.{length-replicate, set-get_or}
use Rattle.std.specs.List.{sum_by}
use Rattle.std.proofs.lemmas.List.Sums.{sum_by-set, sum_by-cons}
use Rattle.bucket_arena.specs.declared.chain.Cell.{Cell}
use Rattle.bucket_arena.specs.declared.chain.Chain.{Chain}
use Rattle.bucket_arena.specs.Row.{IsWritten}
use Rattle.bucket_arena.specs.Arena.{lists_of}
use Rattle.bucket_arena.specs.Chains.{occurrences, cell_at, numbers, numbers_from, item_and, items_in, items, IsMarked, IsWhole, IsNextFree, standings, AreChains, no_cells}
use Rattle.bucket_arena.proofs.Counts.{same, same_or_not, same_self, occurrences-append, occurrences-remove}
use Rattle.bucket_arena.proofs.Links.{same_numbers, same_items}
use Rattle.bucket_arena.proofs.Appending.{long, last_stands}
use Rattle.bucket_arena.proofs.Standing.{items_counted, in_chain, nth, at_most, below_made, part, whole, apart, apart_free, free_apart, numbers_else, lists_now, sums_now, marked_now}

none_long : (n : ℕ) → sum_by (λ (c : Chain). c.len) (replicate n no_cells) ≡ 0
none_long zero = refl
none_long (suc n) = omega (arith, none_long n, sum_by-cons (λ (c : Chain). c.len) no_cells (replicate n no_cells))

none_first : (n b : ℕ) → get_or (replicate n no_cells) b no_cells ≡ no_cells
none_first zero zero = refl
none_first zero (suc b) = refl
none_first (suc n) zero = refl
none_first (suc n) (suc b) = none_first n b

none_marked : IsMarked [] no_cells
none_marked = record {
  ends = λ some. refl;
  runs = λ place l within. absurd (omega arith);
  within = omega arith;
}

-- empty chains over bare cells
module _ {X : Type 0} (cells : List (Option (Cell X))) where
  none_standing : (n m : ℕ) → sum_by (λ c. occurrences m (numbers (cell_at cells) c)) (replicate n no_cells) ≡ 0
  none_standing zero m = refl
  none_standing (suc n) m = omega (arith, none_standing n m, sum_by-cons (λ c. occurrences m (numbers (cell_at cells) c)) no_cells (replicate n no_cells))

  pub empty_lists : (n : ℕ) → lists_of cells (replicate n no_cells) ≡ replicate n []
  empty_lists zero = refl
  empty_lists (suc n) = ap (λ l. [] ∷ l) (empty_lists n)

  pub empty_chains : ((m : ℕ) → get_or cells m None ≡ None) → length cells < 4294967295 → (n : ℕ) → n ≡ 256 → AreChains cells (replicate n no_cells) no_cells 0
  empty_chains bare few n e = record {
    each_once = λ m l. absurd (omega arith);
    no_other = λ m l. omega (arith, none_standing n m);
    lengths = omega (arith, none_long n);
    written = λ m l. absurd (omega arith);
    bare = λ m l. bare m;
    marked = λ b l. subst (λ c. IsMarked (numbers (cell_at cells) c) c) (sym (none_first n b)) none_marked;
    in_room = omega arith;
    few = few;
    chain_each = length-replicate n no_cells ∙ e;
  }

module _ {X : Type 0} (cells now : List (Option (Cell X))) (chains : List Chain) (free : Chain) (made : ℕ) (sound : AreChains cells chains free made) where
  -- an item written over another in the chain of the bucket b
  module _ (b : ℕ) (lb : b < length chains)
      (numbers_stay : numbers (cell_at now) (get_or chains b no_cells) ≡ numbers (cell_at cells) (get_or chains b no_cells))
      (others : (m : ℕ) → occurrences m (numbers (cell_at cells) (get_or chains b no_cells)) ≡ 0 → cell_at now m ≡ cell_at cells m)
      (kept : (m : ℕ) → IsWritten cells m → IsWritten now m) (room : length now ≡ length cells) where
    agree : (m : ℕ) → m ≢ made → in_chain cells chains free made sound m (nth cells chains free made sound b) ≡ 0 → cell_at now m ≡ cell_at cells m
    agree m ne none = others m none

    fresh_out : (i : ℕ) → i < length chains → i ≢ b → in_chain cells chains free made sound made (nth cells chains free made sound i) ≡ 0
    fresh_out i li ne = omega (arith, sound.no_other made (omega arith), part cells chains free made sound made i li)

    back : set chains b (get_or chains b no_cells) ≡ chains
    back = set-get_or chains b no_cells

    numbers_all : (m : ℕ) → standings (cell_at now) chains free m ≡ standings (cell_at cells) chains free m
    numbers_all m =
        let s = sums_now cells chains free made sound now b made lb agree fresh_out (get_or chains b no_cells) m in
        let t = ap (λ cs. sum_by (λ c. occurrences m (numbers (cell_at now) c)) cs) back in
        let u = ap (occurrences m) numbers_stay in
        let v = ap (occurrences m) (same_numbers (cell_at cells) (cell_at now) free.len free.first (λ k some. others k (apart_free cells chains free made sound k b lb some))) in
        omega (arith, s, t, u, v)

    pub written_over : AreChains now chains free made
    written_over = record {
      each_once = λ m l. numbers_all m ∙ sound.each_once m l;
      no_other = λ m l. numbers_all m ∙ sound.no_other m l;
      lengths = sound.lengths;
      written = λ m l. kept m (sound.written m l);
      bare = λ m l. others m (let none = sound.no_other m l in omega (arith, none, part cells chains free made sound m b lb)) ∙ sound.bare m l;
      marked = λ i li. elim (same_or_not i b) [
        | inl t ↦ subst (λ k. let c = get_or chains k no_cells in IsMarked (numbers (cell_at now) c) c) (sym t.0) (subst (λ ns. IsMarked ns (get_or chains b no_cells)) (sym numbers_stay) (sound.marked b lb))
        | inr f ↦ subst (λ ns. IsMarked ns (get_or chains i no_cells)) (sym (numbers_else cells chains free made sound now b made lb agree fresh_out i li f.0)) (sound.marked i li)
      ];
      in_room = omega (arith, room, sound.in_room);
      few = omega (arith, room, sound.few);
      chain_each = sound.chain_each;
    }

    pub count_over : sum_by length (lists_of now chains) ≡ sum_by length (lists_of cells chains)
    count_over = omega (arith, items_counted now chains free made written_over, items_counted cells chains free made sound)

    pub lists_over : (xs : List X) → items (cell_at now) (get_or chains b no_cells) ≡ xs → lists_of now chains ≡ set (lists_of cells chains) b xs
    lists_over xs e = ap (lists_of now) (sym back) ∙ lists_now cells chains free made sound now b made lb agree fresh_out (get_or chains b no_cells) xs e

  -- the next free cell, linked at the end of the chain of the bucket b
  module _ (b : ℕ) (lb : b < length chains) (left grown : Chain) (now_made number : ℕ) (spare : 0 < free.len + (length cells - made))
      (next : IsNextFree (cell_at cells) free left made now_made number) where
    -- which of the two it is
    which : (free.len ≡ 0) ⊎ (0 < free.len)
    which = elim (same_or_not free.len 0) [ inl t ↦ inl t.0 | inr f ↦ inr (let ne = f.0 in omega (arith, ne)) ]

    pub number_out : (i : ℕ) → i < length chains → in_chain cells chains free made sound number (nth cells chains free made sound i) ≡ 0
    number_out i li = elim which [
      | inl z ↦ let e = (next.fresh z).0 in subst (λ k. in_chain cells chains free made sound k (nth cells chains free made sound i) ≡ 0) (sym e) (let none = sound.no_other made (omega arith) in omega (arith, none, part cells chains free made sound made i li))
      | inr s ↦ let e = ap (occurrences number) (next.again s).0 in apart_free cells chains free made sound number i li (omega (arith, e, same_self number))
    ]

    pub number_in_room : number < length cells
    number_in_room = elim which [
      | inl z ↦ let e = (next.fresh z).0 in omega (arith, e, z, spare)
      | inr s ↦ let e = ap (occurrences number) (next.again s).0 in let l : number < made = below_made cells chains free made sound number (omega (arith, e, same_self number)) in omega (arith, l, sound.in_room)
    ]

    module _ (appended : numbers (cell_at now) grown ≡ numbers (cell_at cells) (get_or chains b no_cells) ++ number ∷ []) (whole_now : IsWhole now grown) (longer : grown.len ≡ (get_or chains b no_cells).len + 1)
        (others : (m : ℕ) → m ≢ number → occurrences m (numbers (cell_at cells) (get_or chains b no_cells)) ≡ 0 → cell_at now m ≡ cell_at cells m)
        (kept : (m : ℕ) → IsWritten cells m → IsWritten now m) (room : length now ≡ length cells) where
      out : (i : ℕ) → i < length chains → i ≢ b → in_chain cells chains free made sound number (nth cells chains free made sound i) ≡ 0
      out i li ne = number_out i li

      elim_empty : (c : Chain) → c.len ≡ 0 → (k : ℕ) → 0 < occurrences k (numbers (cell_at cells) c) → ⊥
      elim_empty c z k some = let e : occurrences k (numbers (cell_at cells) c) ≡ 0 = ap (λ j. occurrences k (numbers_from (cell_at cells) j c.first)) z in omega (arith, e, some)

      left_stays : (m : ℕ) → occurrences m (numbers (cell_at now) left) ≡ occurrences m (numbers (cell_at cells) left)
      left_stays m = ap (occurrences m) (same_numbers (cell_at cells) (cell_at now) left.len left.first (λ k some. elim which [
        | inl z ↦ let len = ap (λ (c : Chain). c.len) (next.fresh z).2 in absurd (elim_empty left (omega (arith, len, z)) k some)
        | inr s ↦ let e = ap (occurrences k) (next.again s).0 in
            others k (λ ek. let e' = ap (occurrences number) (next.again s).0 in let some' : 0 < occurrences number (numbers (cell_at cells) left) = subst (λ j. 0 < occurrences j (numbers (cell_at cells) left)) ek some in
            omega (arith, e', some', same_self number, at_most cells chains free made sound number))
            (apart_free cells chains free made sound k b lb (omega (arith, e, some)))
      ]))

      -- a cell stands where it stood, and the next free one in the bucket's chain
      one_more : (m : ℕ) → standings (cell_at now) (set chains b grown) left m ≡ sum_by (λ c. occurrences m (numbers (cell_at cells) c)) chains + same number m + occurrences m (numbers (cell_at cells) left)
      one_more m =
          let s = sums_now cells chains free made sound now b number lb others out grown m in
          let a = ap (occurrences m) appended in
          omega (arith, s, a, occurrences-append m (numbers (cell_at cells) (get_or chains b no_cells)) (number ∷ []), left_stays m)

      fresh_each : (m : ℕ) → number ≡ made → now_made ≡ made + 1 → occurrences m (numbers (cell_at cells) left) ≡ 0 → occurrences m (numbers (cell_at cells) free) ≡ 0
          → ((m < now_made → standings (cell_at now) (set chains b grown) left m ≡ 1) × (now_made ≤ m → standings (cell_at now) (set chains b grown) left m ≡ 0))
      fresh_each m is up none was = elim (same_or_not number m) [
        | inl t ↦ (let at = t.0 in let here = t.1 in let no = sound.no_other m (omega (arith, at, is)) in ((λ l. omega (arith, one_more m, none, was, no, here)), (λ l. absurd (omega (arith, l, up, at, is)))))
        | inr f ↦ (let ne = f.0 in let here = f.1 in (
          (λ l. let lower : m < made = omega (arith, l, up, ne, is) in let once = sound.each_once m lower in omega (arith, one_more m, none, was, once, here)),
          (λ l. let no = sound.no_other m (omega (arith, l, up)) in omega (arith, one_more m, none, was, no, here)),
        ))
      ]

      each : (m : ℕ) → ((m < now_made → standings (cell_at now) (set chains b grown) left m ≡ 1) × (now_made ≤ m → standings (cell_at now) (set chains b grown) left m ≡ 0))
      each m = elim which [
        | inl z ↦ (let f = next.fresh z in
            let none : occurrences m (numbers (cell_at cells) left) ≡ 0 = ap (λ (c : Chain). occurrences m (numbers (cell_at cells) c)) f.2 ∙ ap (λ j. occurrences m (numbers_from (cell_at cells) j free.first)) z in
            let was : occurrences m (numbers (cell_at cells) free) ≡ 0 = ap (λ j. occurrences m (numbers_from (cell_at cells) j free.first)) z in
            fresh_each m f.0 f.1 none was)
        | inr s ↦ (let f = next.again s in let e = ap (occurrences m) f.0 in
            ((λ l. let once = sound.each_once m (omega (arith, l, f.1)) in omega (arith, one_more m, e, once)), (λ l. let no = sound.no_other m (omega (arith, l, f.1)) in omega (arith, one_more m, e, no))))
      ]

      here_written : IsWritten now number
      here_written = whole_now.written number (let a = ap (occurrences number) appended in omega (arith, a, same_self number, occurrences-append number (numbers (cell_at cells) (get_or chains b no_cells)) (number ∷ [])))

      made_fits : made ≤ now_made
      made_fits = elim which [ inl z ↦ (let up = (next.fresh z).1 in omega (arith, up)) | inr s ↦ (let up = (next.again s).1 in omega (arith, up)) ]

      below_now : (m : ℕ) → m < now_made → (m < made) ⊎ (m ≡ number)
      below_now m l = elim which [
        | inl z ↦ (let f = next.fresh z in let is = f.0 in let up = f.1 in elim (same_or_not m number) [ inl t ↦ inr t.0 | inr ne ↦ (let ne' = ne.0 in inl (omega (arith, l, up, is, ne'))) ])
        | inr s ↦ (let up = (next.again s).1 in inl (omega (arith, l, up)))
      ]

      number_made : number < now_made
      number_made = elim which [
        | inl z ↦ (let f = next.fresh z in let is = f.0 in let up = f.1 in omega (arith, is, up))
        | inr s ↦ (let e = ap (occurrences number) (next.again s).0 in let up = (next.again s).1 in let l : number < made = below_made cells chains free made sound number (omega (arith, e, same_self number)) in omega (arith, l, up))
      ]

      spare_less : left.len + (length now - now_made) + 1 ≡ free.len + (length cells - made)
      spare_less = elim which [
        | inl z ↦ (let f = next.fresh z in let up = f.1 in let len = ap (λ (c : Chain). c.len) f.2 in omega (arith, up, len, z, room, spare))
        | inr s ↦ (let f = next.again s in let up = f.1 in let len = f.2 in omega (arith, up, len, room))
      ]

      lengths_now : sum_by (λ c. c.len) (set chains b grown) + left.len ≡ now_made
      lengths_now =
          let sums = sum_by-set (λ (c : Chain). c.len) chains b grown no_cells lb in
          elim which [
            | inl z ↦ (let f = next.fresh z in let up = f.1 in let len = ap (λ (c : Chain). c.len) f.2 in omega (arith, sums, up, len, longer, sound.lengths))
            | inr s ↦ (let f = next.again s in let up = f.1 in let len = f.2 in omega (arith, sums, up, len, longer, sound.lengths))
          ]

      pub pushed : AreChains now (set chains b grown) left now_made
      pushed = record {
        each_once = λ m l. (each m).0 l;
        no_other = λ m l. (each m).1 l;
        lengths = lengths_now;
        written = λ m l. elim (below_now m l) [ inl lower ↦ kept m (sound.written m lower) | inr is ↦ subst (IsWritten now) (sym is) here_written ];
        bare = λ m l. (let lower : made ≤ m = omega (arith, l, made_fits) in
            others m (λ e. omega (arith, l, e, number_made)) (let none = sound.no_other m lower in omega (arith, none, part cells chains free made sound m b lb)) ∙ sound.bare m lower);
        marked = marked_now cells chains free made sound now b number lb others out grown whole_now.marked;
        in_room = (let less = spare_less in elim which [
          | inl z ↦ (let up = (next.fresh z).1 in omega (arith, up, room, spare, z, sound.in_room))
          | inr s ↦ (let up = (next.again s).1 in omega (arith, up, room, sound.in_room))
        ]);
        few = omega (arith, room, sound.few);
        chain_each = length-set chains b grown ∙ sound.chain_each;
      }

      pub spare_pushed : left.len + (length now - now_made) + 1 ≡ free.len + (length cells - made)
      spare_pushed = spare_less

      pub count_pushed : sum_by length (lists_of now (set chains b grown)) ≡ sum_by length (lists_of cells chains) + 1
      count_pushed = (let after = items_counted now (set chains b grown) left now_made pushed in let before = items_counted cells chains free made sound in elim which [
        | inl z ↦ (let f = next.fresh z in let up = f.1 in let len = ap (λ (c : Chain). c.len) f.2 in omega (arith, after, before, up, len))
        | inr s ↦ (let f = next.again s in let up = f.1 in let len = f.2 in omega (arith, after, before, up, len))
      ])

      pub lists_pushed : (xs : List X) → items (cell_at now) grown ≡ xs → lists_of now (set chains b grown) ≡ set (lists_of cells chains) b xs
      lists_pushed xs e = lists_now cells chains free made sound now b number lb others out grown xs e

  -- the last cell of the chain of the bucket b, taken off it and linked before the free chain
  module _ (b : ℕ) (lb : b < length chains) (some : 0 < (get_or chains b no_cells).len) (shrunk freed : Chain) (mid : List (Option (Cell X)))
      (cut : numbers (cell_at mid) shrunk ≡ remove (numbers (cell_at cells) (get_or chains b no_cells)) ((get_or chains b no_cells).len - 1))
      (others : (m : ℕ) → occurrences m (numbers (cell_at cells) (get_or chains b no_cells)) ≡ 0 → cell_at mid m ≡ cell_at cells m) where
    abbrev number : ℕ
    number = (get_or chains b no_cells).last

    pub number_in : 0 < occurrences number (numbers (cell_at cells) (get_or chains b no_cells))
    number_in = last_stands cells (get_or chains b no_cells) (whole cells chains free made sound b lb) some

    pub number_written : IsWritten cells number
    number_written = (whole cells chains free made sound b lb).written number number_in

    free_mid : numbers (cell_at mid) free ≡ numbers (cell_at cells) free
    free_mid = same_numbers (cell_at cells) (cell_at mid) free.len free.first (λ m some. others m (apart_free cells chains free made sound m b lb some))

    pub number_not_free : occurrences number (numbers (cell_at mid) free) ≡ 0
    number_not_free = ap (occurrences number) free_mid ∙ free_apart cells chains free made sound number b lb number_in

    counts : (m : ℕ) → occurrences m (numbers (cell_at mid) shrunk) + same number m ≡ occurrences m (numbers (cell_at cells) (get_or chains b no_cells))
    counts m =
        let place = (get_or chains b no_cells).len - 1 in
        let l : place < length (numbers (cell_at cells) (get_or chains b no_cells)) = omega (arith, long cells (get_or chains b no_cells), some) in
        let e = ap (occurrences m) cut in let i = ap (λ k. same k m) ((whole cells chains free made sound b lb).marked.ends some) in
        omega (arith, e, i, occurrences-remove m (numbers (cell_at cells) (get_or chains b no_cells)) place l)

    module _ (whole_mid : IsWhole mid shrunk) (shorter : shrunk.len + 1 ≡ (get_or chains b no_cells).len) (kept_mid : (m : ℕ) → IsWritten cells m → IsWritten mid m) (room_mid : length mid ≡ length cells)
        (released : numbers (cell_at now) freed ≡ number ∷ numbers (cell_at mid) free) (longer : freed.len ≡ free.len + 1)
        (else : (m : ℕ) → m ≢ number → cell_at now m ≡ cell_at mid m) (kept : (m : ℕ) → IsWritten mid m → IsWritten now m) (room : length now ≡ length mid) where
      stands_else : (m : ℕ) → m ≢ number → occurrences m (numbers (cell_at cells) (get_or chains b no_cells)) ≡ 0 → cell_at now m ≡ cell_at cells m
      stands_else m ne none = else m ne ∙ others m none

      number_alone : (i : ℕ) → i < length chains → i ≢ b → in_chain cells chains free made sound number (nth cells chains free made sound i) ≡ 0
      number_alone i li ne = elim (same_or_not (in_chain cells chains free made sound number (nth cells chains free made sound i)) 0) [
        | inl t ↦ t.0
        | inr f ↦ (let ne' = f.0 in let none = apart cells chains free made sound number b i lb li ne (omega (arith, ne')) in omega (arith, none, number_in))
      ]

      not_number : (m : ℕ) → 0 < occurrences m (numbers (cell_at mid) shrunk) → m ≢ number
      not_number m some e =
          let some' : 0 < occurrences number (numbers (cell_at mid) shrunk) = subst (λ k. 0 < occurrences k (numbers (cell_at mid) shrunk)) e some in
          omega (arith, some', counts number, same_self number, (whole cells chains free made sound b lb).once number)

      shrunk_stays : numbers (cell_at now) shrunk ≡ numbers (cell_at mid) shrunk
      shrunk_stays = same_numbers (cell_at mid) (cell_at now) shrunk.len shrunk.first (λ m some. else m (not_number m some))

      pub shrunk_items : items (cell_at now) shrunk ≡ items (cell_at mid) shrunk
      shrunk_items = ap (items_in (cell_at now)) shrunk_stays ∙ same_items (cell_at mid) (cell_at now) (numbers (cell_at mid) shrunk) (λ m some xs. ap (λ c. item_and c xs) (else m (not_number m some)))

      -- a cell stands as often as it stood
      as_before : (m : ℕ) → standings (cell_at now) (set chains b shrunk) freed m ≡ standings (cell_at cells) chains free m
      as_before m =
          let s = sums_now cells chains free made sound now b number lb stands_else number_alone shrunk m in
          let t = ap (occurrences m) shrunk_stays in let u = ap (occurrences m) released in let v = ap (occurrences m) free_mid in
          omega (arith, s, t, u, v, counts m)

      pub taken_out : AreChains now (set chains b shrunk) freed made
      taken_out = record {
        each_once = λ m l. as_before m ∙ sound.each_once m l;
        no_other = λ m l. as_before m ∙ sound.no_other m l;
        lengths = (let sums = sum_by-set (λ (c : Chain). c.len) chains b shrunk no_cells lb in omega (arith, sums, shorter, longer, sound.lengths));
        written = λ m l. kept m (kept_mid m (sound.written m l));
        bare = λ m l. (let none = sound.no_other m l in
            stands_else m (λ e. let in_made : number < made = below_made cells chains free made sound number (omega (arith, number_in, part cells chains free made sound number b lb)) in omega (arith, e, in_made, l)) (omega (arith, none, part cells chains free made sound m b lb)) ∙ sound.bare m l);
        marked = marked_now cells chains free made sound now b number lb stands_else number_alone shrunk (subst (λ ns. IsMarked ns shrunk) (sym shrunk_stays) whole_mid.marked);
        in_room = omega (arith, room, room_mid, sound.in_room);
        few = omega (arith, room, room_mid, sound.few);
        chain_each = length-set chains b shrunk ∙ sound.chain_each;
      }

      pub count_taken : sum_by length (lists_of now (set chains b shrunk)) + 1 ≡ sum_by length (lists_of cells chains)
      count_taken = omega (arith, items_counted now (set chains b shrunk) freed made taken_out, items_counted cells chains free made sound, longer)

      pub lists_taken : (xs : List X) → items (cell_at mid) shrunk ≡ xs → lists_of now (set chains b shrunk) ≡ set (lists_of cells chains) b xs
      lists_taken xs e = lists_now cells chains free made sound now b number lb stands_else number_alone shrunk xs (shrunk_items ∙ e)

      pub spare_taken : freed.len + (length now - made) ≡ free.len + (length cells - made) + 1
      spare_taken = omega (arith, longer, room, room_mid)
