-- The items behind a place moved up by a cell each, and a chain without its last cell.
use Rattle.std.specs.Prelude.{◌≡◌, ℕ, zero, suc, ◌-◌, ◌<◌, ◌≤◌, List, [], ◌∷◌, length, get_or, slice_get, set, remove, Option, Some, None, refl}
use Rattle.std.proofs.Common.{sym, ◌∙◌, ap, subst, arith}
use Rattle.std.proofs.lemmas.List.Edits.{get_or-remove_below}
use Rattle.bucket_arena.specs.declared.chain.Cell.{Cell}
use Rattle.bucket_arena.specs.declared.chain.Chain.{Chain}
use Rattle.bucket_arena.specs.Row.{IsWritten}
use Rattle.bucket_arena.specs.Chains.{occurrences, cell_at, next_of, numbers_from, numbers, item_and, items_in, items, IsMarked, IsWhole}
use Rattle.bucket_arena.proofs.Counts.{same_self, occurrences-remove}
use Rattle.bucket_arena.proofs.Links.{AllWritten, next_number, item_there}
use Rattle.bucket_arena.proofs.Written.{within, wrote_else, still_written, wrote_length}
use Rattle.bucket_arena.proofs.Writing.{same_chain, items_now}
use Rattle.bucket_arena.proofs.Appending.{long, at_place}

-- a value that stands twice side by side may go at either place
doubled : {X : Type 0} (xs : List X) (i : ℕ) (x : X) → slice_get xs (suc i) ≡ Some x → remove (set xs i x) (suc i) ≡ remove xs i
doubled [] zero x e = refl
doubled [] (suc i) x e = refl
doubled (y ∷ []) zero x e = cc
doubled (y ∷ z ∷ ys) zero x e = cc
doubled (y ∷ ys) (suc i) x e = ap (λ l. y ∷ l) (doubled ys i x e)

module _ {X : Type 0} where
  shorter : (cell : ℕ → Option (Cell X)) (k n : ℕ) → numbers_from cell k n ≡ remove (numbers_from cell (suc k) n) k
  shorter cell zero n = refl
  shorter cell (suc k) n = ap (λ l. n ∷ l) (shorter cell k (next_of (cell n)))

  fewer_items : (cell : ℕ → Option (Cell X)) (k n : ℕ) → AllWritten cell (numbers_from cell (suc k) n) → items_in cell (numbers_from cell k n) ≡ remove (items_in cell (numbers_from cell (suc k) n)) k
  fewer_items cell zero n all =
      let got = all n (omega (arith, same_self n)) in
      subst (λ (a : Option (Cell X)). [] ≡ remove (item_and a []) 0) (sym got.1) refl
  fewer_items cell (suc k) n all =
      let got = all n (omega (arith, same_self n)) in
      let rest = fewer_items cell k (next_of (cell n)) (λ m l. all m (omega arith)) in
      subst (λ (a : Option (Cell X)). item_and a (items_in cell (numbers_from cell k (next_of (cell n)))) ≡ remove (item_and a (items_in cell (numbers_from cell (suc k) (next_of (cell n))))) (suc k)) (sym got.1)
      (ap (λ l. got.0.item ∷ l) rest)

-- a chain whose cells behind a place were moved up as far as the hole, whose number is known
pub record IsMoved {X : Type 0} (cells now : List (Option (Cell X))) (chain : Chain) (place hole number : ℕ) : Type 0 where
  pub whole : IsWhole now chain
  pub here : number ≡ get_or (numbers (cell_at now) chain) hole 0
  pub linked : numbers (cell_at now) chain ≡ numbers (cell_at cells) chain
  pub closed : remove (items (cell_at now) chain) hole ≡ remove (items (cell_at cells) chain) place
  pub others : (m : ℕ) → occurrences m (numbers (cell_at cells) chain) ≡ 0 → cell_at now m ≡ cell_at cells m
  pub written : (m : ℕ) → IsWritten cells m → IsWritten now m
  pub room : length now ≡ length cells

module _ {X : Type 0} (cells : List (Option (Cell X))) (chain : Chain) where
  pub unmoved : (place number : ℕ) → IsWhole cells chain → number ≡ get_or (numbers (cell_at cells) chain) place 0 → IsMoved cells cells chain place place number
  unmoved place number whole here = record {
    whole = whole;
    here = here;
    linked = refl;
    closed = refl;
    others = λ m none. refl;
    written = λ m w. w;
    room = refl;
  }

  module _ (now : List (Option (Cell X))) (place hole number : ℕ) (moved : IsMoved cells now chain place hole number) (l : suc hole < chain.len) where
    abbrev cell : ℕ → Option (Cell X)
    cell = cell_at now

    abbrev ns : List ℕ
    ns = numbers cell chain

    pub here_written : IsWritten now number
    here_written = subst (IsWritten now) (sym moved.here) (moved.whole.written _ (at_place now chain hole (omega (arith, l))))

    module _ (a : Cell X) (read : get_or now number None ≡ Some a) where
      pub next_is : a.next ≡ get_or ns (suc hole) 0
      next_is = sym (ap next_of read) ∙ ap (λ n. next_of (cell n)) moved.here ∙ sym (next_number cell chain.len chain.first hole l)

      pub next_written : IsWritten now a.next
      next_written = subst (IsWritten now) (sym next_is) (moved.whole.written _ (at_place now chain (suc hole) l))

      module _ (b : Cell X) (read_next : get_or now a.next None ≡ Some b) (after : List (Option (Cell X))) (wrote : after ≡ set now number (Some (record { item = b.item; next = a.next }))) where
        stays : numbers (cell_at after) chain ≡ ns
        stays = same_chain now after number b.item a read wrote chain

        still : (m : ℕ) → IsWritten now m → IsWritten after m
        still = still_written now after number (record { item = b.item; next = a.next }) wrote (within now number a read)

        one_closed : remove (items (cell_at after) chain) (suc hole) ≡ remove (items cell chain) hole
        one_closed =
            let at_hole : hole < length ns = omega (arith, long now chain, l) in
            let at_next : suc hole < length ns = omega (arith, long now chain, l) in
            let there = item_there cell ns moved.whole.written (suc hole) at_next b (ap cell (sym next_is) ∙ read_next) in
            ap (λ xs. remove xs (suc hole)) (items_now now after number b.item a read wrote chain moved.whole hole at_hole moved.here)
            ∙ doubled (items cell chain) hole b.item there

        stands : 0 < occurrences number (numbers (cell_at cells) chain)
        stands = subst (λ k. 0 < occurrences k (numbers (cell_at cells) chain)) (sym (moved.here ∙ ap (λ ms. get_or ms hole 0) moved.linked)) (at_place cells chain hole (omega (arith, l)))

        pub moved_on : IsMoved cells after chain place (suc hole) a.next
        moved_on = record {
          whole = record {
            written = λ m some. still m (moved.whole.written m (subst (λ ms. 0 < occurrences m ms) stays some));
            once = λ m. subst (λ ms. occurrences m ms ≤ 1) (sym stays) (moved.whole.once m);
            marked = subst (λ ms. IsMarked ms chain) (sym stays) moved.whole.marked;
          };
          here = next_is ∙ ap (λ ms. get_or ms (suc hole) 0) (sym stays);
          linked = stays ∙ moved.linked;
          closed = one_closed ∙ moved.closed;
          others = λ m none. wrote_else now after number (record { item = b.item; next = a.next }) wrote m (λ e. let none' : occurrences number (numbers (cell_at cells) chain) ≡ 0 = subst (λ k. occurrences k (numbers (cell_at cells) chain) ≡ 0) e none in omega (arith, none', stands)) ∙ moved.others m none;
          written = λ m w. still m (moved.written m w);
          room = wrote_length now after number (record { item = b.item; next = a.next }) wrote ∙ moved.room;
        }

module _ {X : Type 0} (cells : List (Option (Cell X))) (chain : Chain) (whole : IsWhole cells chain) (some : 0 < chain.len) where
  abbrev pub cut_to : ℕ → ℕ → Chain
  cut_to last run = record { first = chain.first; last = last; len = chain.len - 1; run = run }

  len_is : suc (chain.len - 1) ≡ chain.len
  len_is = omega (arith, some)

  pub numbers_cut : (last run : ℕ) → numbers (cell_at cells) (cut_to last run) ≡ remove (numbers (cell_at cells) chain) (chain.len - 1)
  numbers_cut last run = shorter (cell_at cells) (chain.len - 1) chain.first ∙ ap (λ k. remove (numbers_from (cell_at cells) k chain.first) (chain.len - 1)) len_is

  pub items_cut : (last run : ℕ) → items (cell_at cells) (cut_to last run) ≡ remove (items (cell_at cells) chain) (chain.len - 1)
  items_cut last run =
      let all : AllWritten (cell_at cells) (numbers_from (cell_at cells) (suc (chain.len - 1)) chain.first)
      = subst (λ k. AllWritten (cell_at cells) (numbers_from (cell_at cells) k chain.first)) (sym len_is) whole.written in
      fewer_items (cell_at cells) (chain.len - 1) chain.first all ∙ ap (λ k. remove (items_in (cell_at cells) (numbers_from (cell_at cells) k chain.first)) (chain.len - 1)) len_is

  module _ (last run : ℕ) (is_last : last ≡ get_or (numbers (cell_at cells) chain) (chain.len - 1 - 1) 0) (near : run ≤ chain.run) (short : run ≤ chain.len - 1 - 1) where
    abbrev ms : List ℕ
    ms = numbers (cell_at cells) chain

    in_list : chain.len - 1 < length ms
    in_list = omega (arith, long cells chain, some)

    fewer : (m : ℕ) → occurrences m (numbers (cell_at cells) (cut_to last run)) ≤ occurrences m ms
    fewer m = let e = ap (occurrences m) (numbers_cut last run) in omega (arith, e, occurrences-remove m ms (chain.len - 1) in_list)

    marked : IsMarked (remove ms (chain.len - 1)) (cut_to last run)
    marked = record {
      ends = λ more. get_or-remove_below ms (chain.len - 1) 0 (chain.len - 1 - 1) (omega (arith, more)) in_list ∙ sym is_last;
      runs = λ k in_run l. get_or-remove_below ms (chain.len - 1) 0 k l in_list ∙ whole.marked.runs k (omega (arith, in_run, near)) (omega (arith, l));
      within = short;
    }

    pub whole_cut : IsWhole cells (cut_to last run)
    whole_cut = record {
      written = λ m l. whole.written m (omega (arith, l, fewer m));
      once = λ m. omega (arith, fewer m, whole.once m);
      marked = subst (λ ns. IsMarked ns (cut_to last run)) (sym (numbers_cut last run)) marked;
    }
