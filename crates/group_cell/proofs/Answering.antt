-- The node that a look answers is the one that the record gives.
use Rattle.std.proofs.Common.{◌≡◌, ℕ, zero, suc, ◌+◌, ◌/◌, ◌%◌, ◌^◌, ◌<◌, ◌≤◌, List, [], ◌∷◌, ◌++◌, length, get_or, set, append_assoc, le_refl, refl, sym, ap, ◌∙◌, subst, arith, if◌then◌else◌, eq-eqb, Bool, Option, Some, None, IfSome, get_or-set_other, get_or-set_same}
use mathlib.Core.Logic.{dite}
use native.Mathlib.Decide.{ℕ_discrete}
use Rattle.atomic_table.specs.Table.{Me}
use Rattle.flow_types.specs.declared.key.FlowKey.{FlowKey}
use Rattle.flow_types.specs.Size.{Size, value_bits}
use Rattle.group_search.specs.declared.published.Publication.{Publication}
use Rattle.group_search.specs.declared.record.GroupRecord.{GroupRecord}
use Rattle.group_search.specs.declared.record.GroupRecord.TheVariants.{Served, Fallback}
use Rattle.group_search.specs.Decoding.{decode}
use Rattle.group_search.specs.Home.{Home}
use Rattle.group_search.specs.Published.{count, record_at}
use Rattle.group_search.specs.declared.entry.Pair.{Pair}
use Rattle.group_search.specs.Words.{AreServedWords, PacksTo, packed_of, pair_at, words_of}
use Rattle.group_search.proofs.WordLemmas.{pair_at_sized, word_below}
use Rattle.group_cell.specs.declared.view.Load.{Load}
use Rattle.group_cell.specs.declared.view.Sight.{Sight}
use Rattle.group_cell.specs.declared.view.ReaderView.{ReaderView}
use Rattle.group_cell.specs.declared.view.View.{View}
use Rattle.group_cell.specs.Opening.{Opened}
use Rattle.group_cell.specs.Layout.{data_words, address, data_word, datum}
use Rattle.group_cell.specs.Rule.{HasLoad, HasLoaded, Holds, IsEven, nodes_of, latest}
use Rattle.group_cell.specs.Plays.{reader_view, IsReader, load, begun_look, ended_in, looked}
use Rattle.group_cell.specs.Seating.{CellSeat, GoesOn, HasBegun, IsLooking, IsFound, Reads, StandsFound, RowsGive, data_loads, forgotten, last_look, loads_of, look_in, the_look}
use Rattle.group_search.proofs.Below.{answer_below}
use Rattle.group_cell.proofs.Finding.{gives, loads_last, loads_more, stands_found}

two_items : (words : List ℕ) (content : GroupRecord) → length words ≡ 2 → ((j : ℕ) → j < data_words → get_or words j 0 ≡ get_or (words_of content) j 0) → words ≡ words_of content
two_items [] content two each = absurd (omega arith)
two_items (a ∷ []) content two each = absurd (omega arith)
two_items (a ∷ b ∷ []) (Served pairs) two each = λ i. each 0 (omega arith) i ∷ each 1 (omega arith) i ∷ []
two_items (a ∷ b ∷ []) (Fallback rows) two each = λ i. each 0 (omega arith) i ∷ each 1 (omega arith) i ∷ []
two_items (a ∷ b ∷ c ∷ words) content two each = absurd (omega arith)

-- the first data word of a record with rows says so
rows_given : (nodes : ℕ) (ws : List ℕ) (at : Home) (content : GroupRecord) (words : List ℕ) (key : FlowKey) (found : Option ℕ) → Holds nodes ws at content → words ≡ words_of content
    → (2 ^ 48 ≤ get_or words 0 0 → StandsFound ws at 64 key found) → RowsGive content key found
rows_given nodes ws at (Served pairs) words key found h same stands = tt
rows_given nodes ws at (Fallback rows) words key found h same stands =
    gives nodes ws at (Fallback rows) key found h (stands (let e : get_or words 0 0 ≡ 2 ^ 48 + length rows = ap (λ (l : List ℕ). get_or l 0 0) same in omega arith))

-- what is decoded of a record's words is what the record says
pub own_answer : (nodes : ℕ) (ws : List ℕ) (at : Home) (content : GroupRecord) (words : List ℕ) (key : FlowKey) (found result : Option ℕ) → Holds nodes ws at content → length words ≡ 2
    → ((j : ℕ) → j < data_words → get_or words j 0 ≡ datum ws at j) → (2 ^ 48 ≤ get_or words 0 0 → StandsFound ws at 64 key found)
    → ((c : GroupRecord) → PacksTo (value_bits nodes) (packed_of c) words → RowsGive c key found → result ≡ decode c nodes key) → result ≡ decode content nodes key
own_answer nodes ws at content words key found result h two each stands decoded =
    let same = two_items words content two (λ j less. each j less ∙ h.data_words j less) in
    decoded content (subst (PacksTo (value_bits nodes) (packed_of content)) (sym same) h.packs) (rows_given nodes ws at content words key found h same stands)

-- and what is decoded of loaded words is what the record says that they are of
pub loaded_answer : (nodes : ℕ) (loads : List Load) (at : Home) (content : GroupRecord) (words : List ℕ) (key : FlowKey) (found result : Option ℕ) → HasLoaded nodes loads at content → length words ≡ 2
    → ((j : ℕ) → j < data_words → HasLoad loads (load (data_word at j) (get_or words j 0))) → (2 ^ 48 ≤ get_or words 0 0 → IsFound loads at 64 key found)
    → ((c : GroupRecord) → PacksTo (value_bits nodes) (packed_of c) words → RowsGive c key found → result ≡ decode c nodes key) → result ≡ decode content nodes key
loaded_answer nodes loads at content words key found result h two each found_is decoded =
    own_answer nodes h.words at content words key found result h.holds two (λ j less. (h.fresh _ (each j less)).data_words j less refl)
    (λ many. stands_found h.words loads at key found h.fresh (found_is many)) decoded

-- the loads of the data words below a number
abbrev pub first_loads : Home → (found : List ℕ) → (number : ℕ) → List Load
first_loads at found zero = []
first_loads at found (suc number) = first_loads at found number ++ load (data_word at number) (get_or found number 0) ∷ []

-- a later word that is found doesn't change them
first_loads-kept : (at : Home) (words : List ℕ) (number found k : ℕ) → k ≤ number → first_loads at (set words number found) k ≡ first_loads at words k
first_loads-kept at words number found zero le = refl
first_loads-kept at words number found (suc k) le = λ i. first_loads-kept at words number found k (omega arith) i
    ++ load (data_word at k) (get_or-set_other words number k found 0 (λ (e : k ≡ number). let less = le in absurd (omega arith)) i) ∷ []

-- one more data word is loaded
pub one_more_load : (before loads loads' : List Load) (at : Home) (number word found : ℕ) (words : List ℕ) → number < length words → word ≡ data_word at number
    → loads ≡ before ++ first_loads at words number → loads' ≡ loads ++ load word found ∷ [] → loads' ≡ before ++ first_loads at (set words number found) (number + 1)
one_more_load before loads loads' at number word found words room here was is =
    let kept = first_loads-kept at words number found number (le_refl number) in let same = get_or-set_same words number found 0 room in let next : suc number ≡ number + 1 = omega arith in
    is ∙ ((λ i. was i ++ load (here i) found ∷ []) ∙ (append_assoc before (first_loads at words number) (load (data_word at number) found ∷ [])
    ∙ ((λ i. before ++ (sym kept i ++ load (data_word at number) (sym same i) ∷ [])) ∙ ap (λ (n : ℕ). before ++ first_loads at (set words number found) n) next)))

-- each data word is loaded
pub has_datum : (before loads : List Load) (at : Home) (words : List ℕ) → loads ≡ before ++ data_loads at words → (j : ℕ) → j < data_words → HasLoad loads (load (data_word at j) (get_or words j 0))
has_datum before loads at words is j less = subst (λ (ls : List Load). HasLoad ls (x j)) (sym is) (dite (ℕ_discrete j 0)
    (λ e. subst (λ (k : ℕ). HasLoad (before ++ x 0 ∷ x 1 ∷ []) (x k)) (sym e) (subst (λ (ls : List Load). HasLoad ls (x 0)) parts (loads_more (before ++ x 0 ∷ []) (x 1 ∷ []) (x 0) (loads_last before (x 0)))))
    (λ other. let one : j ≡ 1 = omega arith in
    subst (λ (k : ℕ). HasLoad (before ++ x 0 ∷ x 1 ∷ []) (x k)) (sym one) (subst (λ (ls : List Load). HasLoad ls (x 1)) parts (loads_last (before ++ x 0 ∷ []) (x 1)))))
  where
    x : ℕ → Load
    x k = load (data_word at k) (get_or words k 0)

    parts : (before ++ x 0 ∷ []) ++ x 1 ∷ [] ≡ before ++ x 0 ∷ x 1 ∷ []
    parts = append_assoc before (x 0 ∷ []) (x 1 ∷ [])

-- one more data word is loaded by the writer
pub one_more_own : (ws : List ℕ) (at : Home) (number found : ℕ) (words : List ℕ) → number < length words → found ≡ datum ws at number → ((j : ℕ) → j < number → get_or words j 0 ≡ datum ws at j)
    → (j : ℕ) → j < number + 1 → get_or (set words number found) j 0 ≡ datum ws at j
one_more_own ws at number found words room is before j less = dite (ℕ_discrete j number)
    (λ e. ap (λ (k : ℕ). get_or (set words number found) k 0) e ∙ (get_or-set_same words number found 0 room ∙ (is ∙ ap (λ (k : ℕ). datum ws at k) (sym e))))
    (λ other. get_or-set_other words number j found 0 other ∙ before j (omega arith))

-- a look has begun at an even number
module _ (s t : CellSeat) (at : Home) (first : ℕ) (h : HasBegun s t at first) where
  pub last_begun : last_look t ≡ Some (begun_look at first)
  last_begun = ap (λ (m : Me ℕ View). (reader_view m.0).last) h.me

  pub look_begun : the_look t ≡ begun_look at first
  look_begun = ap look_in last_begun

  open_second : first % 2 ≡ 0 → (begun_look at first).second ≡ None
  open_second even = ap (λ (b : Bool). if b then None else Some first) (eq-eqb (first % 2) 0 even)

  pub is_looking : first % 2 ≡ 0 → IsLooking t
  is_looking even = record {
    reads = subst (λ (m : Me ℕ View). IsReader m.0) (sym h.me) refl;
    last = last_begun ∙ ap Some (sym look_begun);
    goes_on = ap (λ (l : Sight). l.second) look_begun ∙ open_second even;
  }

-- a look has ended with these two numbers
module _ (s0 s1 s3 t : CellSeat) (at : Home) (first second : ℕ) (h : HasBegun s0 s1 at first) (g : GoesOn s1 s3) (l : IsLooking s3) (e : Reads s3 t (looked second (reader_view s3.me.0))) where
  at_is : (the_look s3).at ≡ address at
  at_is = g.at ∙ ap (λ (q : Sight). q.at) (look_begun s0 s1 at first h)

  pub first_is : (the_look s3).first ≡ first
  first_is = g.first ∙ ap (λ (q : Sight). q.first) (look_begun s0 s1 at first h)

  pub has_looked : last_look t ≡ Some (record { at = address at; first = first; second = Some second; loads = loads_of s3 })
  has_looked = ap (λ (m : Me ℕ View). (reader_view m.0).last) e.me ∙ (ap (ended_in second) l.last ∙ (λ i. Some record { at = at_is i; first = first_is i; second = Some second; loads = loads_of s3 }))

  pub view_then : forgotten s3 ≡ record (reader_view s0.me.0) { seen = (reader_view s1.me.0).seen; looks = (reader_view s0.me.0).looks + 1; last = None }
  view_then = g.view ∙ ap (λ (m : Me ℕ View). record (reader_view m.0) { last = None }) h.me

  pub seen_then : (reader_view s3.me.0).seen ≡ (reader_view s1.me.0).seen
  seen_then = ap (λ (r : ReaderView). r.seen) view_then

  pub opening_then : (reader_view s3.me.0).opening ≡ (reader_view s0.me.0).opening
  opening_then = ap (λ (r : ReaderView). r.opening) view_then

  pub seen_now : (reader_view t.me.0).seen ≡ (reader_view s3.me.0).seen
  seen_now = ap (λ (m : Me ℕ View). (reader_view m.0).seen) e.me

  pub counted_now : first / 2 ≡ count (reader_view t.me.0).seen at
  counted_now = sym (ap (λ (ps : List Publication). count ps at) (seen_now ∙ seen_then) ∙ h.counted)

  -- where they are one even number, all that was loaded is of the record of that version
  pub loaded_whole : (opening : Opened) → (reader_view s0.me.0).opening ≡ opening → IsEven first → second ≡ first
      → (IsEven (the_look s3).first → second ≡ (the_look s3).first → let r = reader_view s3.me.0 in HasLoaded (nodes_of r.opening) (loads_of s3) at (latest r.opening r.seen at))
      → HasLoaded opening.size.nodes (loads_of s3) at (record_at opening.images (reader_view t.me.0).seen at (first / 2))
  loaded_whole opening one_opening even again whole =
      subst (λ (n : ℕ). HasLoaded opening.size.nodes (loads_of s3) at (record_at opening.images (reader_view t.me.0).seen at n)) (sym counted_now)
      (subst (λ (x : Opened × List Publication). HasLoaded (nodes_of x.0) (loads_of s3) at (latest x.0 x.1 at)) (λ i. ((opening_then ∙ one_opening) i, sym seen_now i))
      (whole (subst IsEven (sym first_is) even) (again ∙ sym first_is)))

-- the node that a look answers, and that it is one of the cluster's
module _ (opening : Opened) (size : Size) (content : GroupRecord) (words : List ℕ) (key : FlowKey) (found result : Option ℕ) (one_size : opening.size ≡ size) (two : length words ≡ 2)
    (answers : (c : GroupRecord) → PacksTo (value_bits size.nodes) (packed_of c) words → RowsGive c key found → result ≡ decode c size.nodes key) where
  by_opening : (c : GroupRecord) → PacksTo (value_bits opening.size.nodes) (packed_of c) words → RowsGive c key found → result ≡ decode c opening.size.nodes key
  by_opening = subst (λ (z : Size). (c : GroupRecord) → PacksTo (value_bits z.nodes) (packed_of c) words → RowsGive c key found → result ≡ decode c z.nodes key) (sym one_size) answers

  module _ (loads : List Load) (at : Home) (whole : HasLoaded opening.size.nodes loads at content) (each : (j : ℕ) → j < data_words → HasLoad loads (load (data_word at j) (get_or words j 0)))
      (found_in : 2 ^ 48 ≤ get_or words 0 0 → IsFound loads at 64 key found) where
    pub node_is : result ≡ decode content opening.size.nodes key
    node_is = loaded_answer opening.size.nodes loads at content words key found result whole two each found_in by_opening

    pub node_below : IfSome result (λ node. node < opening.size.nodes)
    node_below = answer_below opening.size.nodes content key result whole.holds.in_cluster node_is

  module _ (ws : List ℕ) (at : Home) (holds : Holds opening.size.nodes ws at content) (each : (j : ℕ) → j < data_words → get_or words j 0 ≡ datum ws at j)
      (stands : 2 ^ 48 ≤ get_or words 0 0 → StandsFound ws at 64 key found) where
    pub own_node : result ≡ decode content opening.size.nodes key
    own_node = own_answer opening.size.nodes ws at content words key found result holds two each stands by_opening

    pub own_node_below : IfSome result (λ node. node < opening.size.nodes)
    own_node_below = answer_below opening.size.nodes content key result holds.in_cluster own_node

-- the first data word tells whether the record has rows
pub served_below : (bits : ℕ) (pairs : List Pair) (words : List ℕ) → AreServedWords bits pairs words → get_or words 0 0 < 2 ^ 48
served_below bits pairs words h = subst (λ (n : ℕ). n < 2 ^ 48) (sym (ap (λ (ws : List ℕ). get_or ws 0 0) h.spelled))
    (word_below (pair_at pairs 0) (pair_at pairs 1) (pair_at_sized pairs 0 h.sized) (pair_at_sized pairs 1 h.sized))

-- and so does the one that a look has loaded of the record that stood there
pub few_loaded : (nodes : ℕ) (loads : List Load) (at : Home) (pairs : List Pair) (found : ℕ) → HasLoaded nodes loads at (Served pairs) → HasLoad loads (load (data_word at 0) found) → found < 2 ^ 48
few_loaded nodes loads at pairs found h it = subst (λ (n : ℕ). n < 2 ^ 48) (sym ((h.fresh _ it).data_words 0 (omega arith) refl ∙ h.holds.data_words 0 (omega arith)))
    (served_below (value_bits nodes) pairs (words_of (Served pairs)) h.holds.packs)

pub found_is : (bits nodes : ℕ) (words : List ℕ) (key : FlowKey) (found : Option ℕ) → 2 ^ 48 ≤ get_or words 0 0 → (content : GroupRecord) → PacksTo bits (packed_of content) words → RowsGive content key found → found ≡ decode content nodes key
unfolding decode
found_is bits nodes words key found many (Served pairs) h give = let less = served_below bits pairs words h in absurd (omega arith)
found_is bits nodes words key found many (Fallback rows) h give = sym give

pub served_is : (bits nodes : ℕ) (words : List ℕ) (key : FlowKey) (found result : Option ℕ) → get_or words 0 0 < 2 ^ 48 → ((pairs : List Pair) → AreServedWords bits pairs words → result ≡ decode (Served pairs) nodes key)
    → (content : GroupRecord) → PacksTo bits (packed_of content) words → RowsGive content key found → result ≡ decode content nodes key
served_is bits nodes words key found result few served (Served pairs) h give = served pairs h
served_is bits nodes words key found result few served (Fallback rows) h give = let e : get_or words 0 0 ≡ 2 ^ 48 + length rows = ap (λ (ws : List ℕ). get_or ws 0 0) h.spelled in absurd (omega arith)
