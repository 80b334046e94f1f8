-- What is found of a key in a group's places, and what the record says of it.
use Rattle.std.proofs.Common.{◌≡◌, ℕ, zero, suc, ◌+◌, ◌<◌, ◌≢◌, inl, inr, Bool, true, false, cond, eqb, eq-eqb, ne_eqb, List, [], ◌∷◌, ◌++◌, length, get_or, refl, sym, ap, ◌∙◌, subst, arith, Option, Some, None, option_map}
use mathlib.Core.Logic.{dite}
use native.Mathlib.Decide.{ℕ_discrete}
use mathlib.Core.Option.{some, some-injective, some-ne-none}
use lib.ListN.{get_elem?}
use Rattle.atomic_table.proofs.Lists.{at_longer, at_last}
use Rattle.std.specs.Prelude.{find}
use Rattle.flow_types.specs.declared.key.FlowKey.{FlowKey}
use Rattle.flow_types.specs.Key.{number}
use Rattle.group_search.specs.declared.record.GroupRecord.{GroupRecord}
use Rattle.group_search.specs.declared.record.GroupRecord.TheVariants.{Served, Fallback}
use Rattle.group_search.specs.declared.rows.Row.{Row}
use Rattle.group_search.specs.Home.{Home}
use Rattle.group_search.specs.Decoding.{node_of}
use Rattle.group_search.specs.Rows.{key_number, IsRising}
use Rattle.group_search.specs.RowWords.{SpellsRow}
use Rattle.group_search.proofs.RowWordLemmas.{spells_one_row}
use Rattle.group_cell.specs.declared.view.Load.{Load}
use Rattle.group_cell.specs.Layout.{low_word, high_word, low, high, place_words, tag}
use Rattle.group_cell.specs.Rule.{HasLoad, Holds, IsFresh, IsRow, RowsStand}
use Rattle.group_cell.specs.Plays.{load}
use Rattle.group_cell.proofs.Groups.{tag_of_row}
use Rattle.group_cell.specs.Seating.{IsFound, StandsFound, LacksKey, GivesNode, RowsGive}

pub loads_more : (loads more : List Load) (x : Load) → HasLoad loads x → HasLoad (loads ++ more) x
loads_more loads more x h = (h.0, at_longer loads more h.0 x h.1)

pub loads_last : (loads : List Load) (x : Load) → HasLoad (loads ++ x ∷ []) x
loads_last loads x = (length loads, at_last loads x (length loads) refl)

-- what was found stays found over more loads, where the next place is known
module _ (loads loads' : List Load) (at : Home) (k : ℕ) (key : FlowKey) (kept : (x : Load) → HasLoad loads x → HasLoad loads' x) where
  abbrev Lacks : ℕ → Type 0
  Lacks i = (h : ℕ) × HasLoad loads' (load (high_word at.block i) h) × (tag h ≡ at.group + 1 → (l : ℕ) × HasLoad loads' (load (low_word at.block i) l) × LacksKey key l h)

  pub found_on : (found : Option ℕ) → IsFound loads at k key found → Lacks k → IsFound loads' at (k + 1) key found
  found_on None none last = λ i less. dite (ℕ_discrete i k)
      (λ e. subst Lacks (sym e) last)
      (λ other. let t = none i (omega arith) in (t.0, kept _ t.1, λ tagged. let u = t.2 tagged in (u.0, kept _ u.1, u.2)))
  found_on (Some node) t last = (t.0, (let less = t.1 in omega arith), t.2, kept _ t.3, t.4, t.5, kept _ t.6, t.7)

  pub found_here : (node high low : ℕ) → HasLoad loads' (load (high_word at.block k) high) → tag high ≡ at.group + 1 → HasLoad loads' (load (low_word at.block k) low) → GivesNode key low high node
      → IsFound loads' at (k + 1) key (Some node)
  found_here node high low there tagged here gives = (k, omega arith, high, there, tagged, low, here, gives)

-- what the loaded words say is what the words say that they are of
pub stands_found : (words : List ℕ) (loads : List Load) (at : Home) (key : FlowKey) (found : Option ℕ) → ((x : Load) → HasLoad loads x → IsFresh words at x) → IsFound loads at 64 key found → StandsFound words at 64 key found
stands_found words loads at key None fresh none = λ i less tagged.
    let t = none i less in let same : t.0 ≡ high words at.block i = (fresh _ t.1).tags i less refl (inr tagged) in
    let u = t.2 (ap tag same ∙ tagged) in let low_same : u.0 ≡ low words at.block i = (fresh _ u.1).rows i less refl tagged in
    subst (λ (x : ℕ × ℕ). LacksKey key x.0 x.1) (λ j. (low_same j, same j)) u.2
stands_found words loads at key (Some node) fresh t =
    let same : t.2 ≡ high words at.block t.0 = (fresh _ t.3).tags t.0 t.1 refl (inl t.4) in
    let tagged : tag (high words at.block t.0) ≡ at.group + 1 = ap tag (sym same) ∙ t.4 in
    let low_same : t.5 ≡ low words at.block t.0 = (fresh _ t.6).rows t.0 t.1 refl tagged in
    (t.0, t.1, tagged, subst (λ (x : ℕ × ℕ). GivesNode key x.0 x.1 node) (λ j. (low_same j, same j)) t.7)

-- rows with rising keys have each key once
rising_tail : (row : Row) (rows : List Row) → IsRising (row ∷ rows) → IsRising rows
rising_tail row rows r = λ k d less. subst (λ (i : ℕ). key_number (get_or rows k d) < key_number (get_or (row ∷ rows) i d)) (let e : suc k + 1 ≡ suc (k + 1) = omega arith in e) (r (suc k) d (omega arith))

above_first : (row : Row) (rows : List Row) → IsRising (row ∷ rows) → (i : ℕ) (x : Row) → get_elem? rows i ≡ some x → key_number row < key_number x
above_first row [] r i x e = absurd (some-ne-none x (sym e))
above_first row (y ∷ rows) r zero x e = let less : key_number row < key_number y = r 0 row (omega arith) in subst (λ (z : Row). key_number row < key_number z) (some-injective y x e) less
above_first row (y ∷ rows) r (suc i) x e = let less : key_number row < key_number y = r 0 row (omega arith) in let more = above_first y rows (rising_tail row (y ∷ rows) r) i x e in omega arith

by_test : (b : Bool) (row : Row) (rest : Option Row) → option_map (λ (r : Row). r.node) (cond b (Some row) rest) ≡ cond b (Some row.node) (option_map (λ (r : Row). r.node) rest)
by_test true row rest = refl
by_test false row rest = refl

-- the row stands in the list
abbrev pub HasRow : List Row → Row → Type 0
HasRow rows row = (i : ℕ) × IsRow rows i row

pub node_of_row : (key : FlowKey) (rows : List Row) → IsRising rows → (x : Row) → HasRow rows x → key_number x ≡ number key → node_of key rows ≡ Some x.node
node_of_row key rows rising x h is = go rows rising h.0 h.1
  where
    go : (rows : List Row) → IsRising rows → (i : ℕ) → get_elem? rows i ≡ some x → node_of key rows ≡ Some x.node
    go [] r i e = absurd (some-ne-none x (sym e))
    go (row ∷ rows) r zero e = let same = some-injective row x e in
        by_test (eqb (key_number row) (number key)) row (find (λ row. eqb (key_number row) (number key)) rows)
        ∙ (ap (λ (b : Bool). cond b (Some row.node) (node_of key rows)) (eq-eqb (key_number row) (number key) (ap key_number same ∙ is)) ∙ ap (λ (y : Row). Some y.node) same)
    go (row ∷ rows) r (suc i) e = let less = above_first row rows r i x e in
        by_test (eqb (key_number row) (number key)) row (find (λ row. eqb (key_number row) (number key)) rows)
        ∙ (ap (λ (b : Bool). cond b (Some row.node) (node_of key rows)) (ne_eqb (key_number row) (number key) (λ same. omega arith)) ∙ go rows (rising_tail row rows r) i e)

pub node_of_none : (key : FlowKey) (rows : List Row) → ((x : Row) → HasRow rows x → key_number x ≢ number key) → node_of key rows ≡ None
node_of_none key [] none = refl
node_of_none key (row ∷ rows) none =
    by_test (eqb (key_number row) (number key)) row (find (λ row. eqb (key_number row) (number key)) rows)
    ∙ (ap (λ (b : Bool). cond b (Some row.node) (node_of key rows)) (ne_eqb (key_number row) (number key) (none row (zero, refl))) ∙ node_of_none key rows (λ x h. none x (suc h.0, h.1)))

-- the node found is the one that the rows give
pub rows_give : (words : List ℕ) (at : Home) (rows : List Row) (key : FlowKey) (found : Option ℕ) → RowsStand words at rows → IsRising rows → StandsFound words at 64 key found → node_of key rows ≡ found
rows_give words at rows key None s rising none = node_of_none key rows (λ x has. let k : ℕ = s.place_of has.0 in let held = s.holds has.0 x has.1 in
    none k (s.inside has.0 x has.1) (tag_of_row at.group x (low words at.block k) (high words at.block k) held) at.group x held)
rows_give words at rows key (Some node) s rising t =
    let u = s.tagged t.0 t.1 t.2 in let g = t.3 in
    let held = subst (λ (k : ℕ). SpellsRow at.group u.1 (place_words words at.block k)) u.3 (s.holds u.0 u.1 u.2) in
    let same = spells_one_row at.group g.0 u.1 g.1 (place_words words at.block t.0) held g.2 in
    node_of_row key rows rising u.1 (u.0, u.2) (ap key_number same.1 ∙ g.3) ∙ ap Some (ap (λ (x : Row). x.node) same.1 ∙ g.4)

pub gives : (nodes : ℕ) (words : List ℕ) (at : Home) (content : GroupRecord) (key : FlowKey) (found : Option ℕ) → Holds nodes words at content → StandsFound words at 64 key found → RowsGive content key found
gives nodes words at (Served pairs) key found h t = tt
gives nodes words at (Fallback rows) key found h t = rows_give words at rows key found h.rows h.sound.rising t
