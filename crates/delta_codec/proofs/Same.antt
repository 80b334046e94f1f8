-- Messages that stand at the beginning of the same octets are the same.
use Rattle.std.proofs.Common.{◌≡◌, ℕ, ◌+◌, ◌^◌, ◌<◌, List, [], ◌∷◌, ◌++◌, length, take, drop, refl, sym, ap, ◌∙◌, arith}
use Rattle.std.specs.Prelude.{All}
use Rattle.std.specs.List.{flat_map}
use Rattle.std.specs.Int.{w32, from_be_bytes}
use Rattle.std.proofs.lemmas.Nat.{from_be_bytes-to_be_bytes_4}
use Rattle.std.proofs.lemmas.List.Elements.{All-head, All-tail}
use Rattle.flow_types.specs.declared.key.FlowKey.{FlowKey}
use Rattle.flow_types.specs.declared.record.Record.{Record}
use Rattle.flow_types.specs.Key.{octets, IsKeyValue}
use Rattle.flow_types.specs.Size.{Size}
use Rattle.flow_types.proofs.Octets.{same_octets}
use Rattle.group_search.specs.declared.entry.Pair.{Pair}
use Rattle.group_search.specs.declared.rows.Row.{Row}
use Rattle.group_search.specs.declared.record.GroupRecord.{GroupRecord}
use Rattle.group_search.specs.declared.record.GroupRecord.TheVariants.{Served, Fallback}
use Rattle.group_search.specs.Words.{IsPair}
use Rattle.delta_codec.specs.declared.message.FibOp.{FibOp}
use Rattle.delta_codec.specs.declared.message.FibOp.TheVariants.{Nothing, Put, Drop}
use Rattle.delta_codec.specs.declared.message.Message.{Message}
use Rattle.delta_codec.specs.declared.message.Message.TheVariants.{Table, Fib}
use Rattle.delta_codec.specs.declared.message.TableMessage.{TableMessage}
use Rattle.delta_codec.specs.declared.message.FibMessage.{FibMessage}
use Rattle.flow_types.specs.Map.{IsRecordValue}
use Rattle.delta_codec.specs.Values.{IsContent, IsMessage, IsOperation}
use Rattle.delta_codec.specs.Fits.{ContentFits, Fits}
use Rattle.delta_codec.specs.Spelling.{Stand, octets_of_word, two_octets, pair_octets, row_octets, content_octets, operation_octets, spelling}
use Rattle.delta_codec.specs.Fields.{byte_at}
use Rattle.delta_codec.proofs.Keys.{octets-long}
use Rattle.delta_codec.proofs.Lengths.{row-long}
use Rattle.delta_codec.proofs.Sound.{head_read}
use Rattle.delta_codec.proofs.Standing.{Stand-first, Stand-second, octet_read, two_read}

module _ (bytes : List ℕ) (at : ℕ) where
  same_stand : (x y : List ℕ) → length x ≡ length y → Stand bytes at x → Stand bytes at y → x ≡ y
  same_stand x y e hx hy = sym hx.same ∙ ap (λ (n : ℕ). take n (drop at bytes)) e ∙ hy.same

  pub same_key : (k l : FlowKey) → IsKeyValue k → IsKeyValue l → Stand bytes at (octets k) → Stand bytes at (octets l) → k ≡ l
  same_key k l fits_k fits_l hk hl = same_octets k l fits_k fits_l (same_stand (octets k) (octets l) (octets-long k ∙ sym (octets-long l)) hk hl)

  pub same_four : (n m : ℕ) → n < 2 ^ 32 → m < 2 ^ 32 → Stand bytes at (octets_of_word n) → Stand bytes at (octets_of_word m) → n ≡ m
  same_four n m fits_n fits_m hn hm =
      sym (from_be_bytes-to_be_bytes_4 n fits_n) ∙ ap (from_be_bytes w32) (same_stand (octets_of_word n) (octets_of_word m) refl hn hm) ∙ from_be_bytes-to_be_bytes_4 m fits_m

  pub same_two : (n m : ℕ) → n < 2 ^ 16 → m < 2 ^ 16 → Stand bytes at (two_octets n) → Stand bytes at (two_octets m) → n ≡ m
  same_two n m fits_n fits_m hn hm = sym (two_read bytes at n fits_n hn) ∙ two_read bytes at m fits_m hm

  pub same_octet : (n m : ℕ) → Stand bytes at (n ∷ []) → Stand bytes at (m ∷ []) → n ≡ m
  same_octet n m hn hm = sym (octet_read bytes at n hn) ∙ octet_read bytes at m hm

pair_of : ℕ → ℕ → Pair
pair_of index array = record { index = index; array = array }

row_of : FlowKey → ℕ → Row
row_of key node = record { key = key; node = node }

module _ (bytes : List ℕ) where
  same_pair : (at : ℕ) (p q : Pair) → IsPair p → IsPair q → Stand bytes at (pair_octets p) → Stand bytes at (pair_octets q) → p ≡ q
  unfolding pair_of
  same_pair at p q fits_p fits_q hp hq =
      let index = same_two bytes at p.index q.index fits_p.index fits_q.index (Stand-first bytes at (two_octets p.index) (p.array ∷ []) hp) (Stand-first bytes at (two_octets q.index) (q.array ∷ []) hq) in
      let array = same_octet bytes (at + 2) p.array q.array (Stand-second bytes at (at + 2) (two_octets p.index) (p.array ∷ []) refl hp) (Stand-second bytes at (at + 2) (two_octets q.index) (q.array ∷ []) refl hq) in
      ap (λ (i : ℕ). pair_of i p.array) index ∙ ap (pair_of q.index) array

  same_pairs : (at : ℕ) (ps qs : List Pair) → length ps ≡ length qs → All IsPair ps → All IsPair qs → Stand bytes at (flat_map pair_octets ps) → Stand bytes at (flat_map pair_octets qs) → ps ≡ qs
  same_pairs at [] [] e fits_p fits_q hp hq = refl
  same_pairs at [] (q ∷ qs) e fits_p fits_q hp hq = absurd (omega arith)
  same_pairs at (p ∷ ps) [] e fits_p fits_q hp hq = absurd (omega arith)
  same_pairs at (p ∷ ps) (q ∷ qs) e fits_p fits_q hp hq =
      let first = same_pair at p q (All-head IsPair p ps fits_p) (All-head IsPair q qs fits_q) (Stand-first bytes at (pair_octets p) (flat_map pair_octets ps) hp) (Stand-first bytes at (pair_octets q) (flat_map pair_octets qs) hq) in
      let later = same_pairs (at + 3) ps qs (omega arith) (All-tail IsPair p ps fits_p) (All-tail IsPair q qs fits_q)
      (Stand-second bytes at (at + 3) (pair_octets p) (flat_map pair_octets ps) refl hp) (Stand-second bytes at (at + 3) (pair_octets q) (flat_map pair_octets qs) refl hq) in
      ap (λ (x : Pair). x ∷ ps) first ∙ ap (λ (xs : List Pair). q ∷ xs) later

  same_row : (at : ℕ) (r s : Row) → IsKeyValue r.key → IsKeyValue s.key → Stand bytes at (row_octets r) → Stand bytes at (row_octets s) → r ≡ s
  unfolding row_of
  same_row at r s fits_r fits_s hr hs =
      let key = same_key bytes at r.key s.key fits_r fits_s (Stand-first bytes at (octets r.key) (r.node ∷ []) hr) (Stand-first bytes at (octets s.key) (s.node ∷ []) hs) in
      let node = same_octet bytes (at + 13) r.node s.node (Stand-second bytes at (at + 13) (octets r.key) (r.node ∷ []) (omega (arith, octets-long r.key)) hr)
      (Stand-second bytes at (at + 13) (octets s.key) (s.node ∷ []) (omega (arith, octets-long s.key)) hs) in
      ap (λ (k : FlowKey). row_of k r.node) key ∙ ap (row_of s.key) node

  same_rows : (at : ℕ) (rs ss : List Row) → length rs ≡ length ss → All (λ (r : Row). IsKeyValue r.key) rs → All (λ (r : Row). IsKeyValue r.key) ss → Stand bytes at (flat_map row_octets rs) → Stand bytes at (flat_map row_octets ss) → rs ≡ ss
  same_rows at [] [] e fits_r fits_s hr hs = refl
  same_rows at [] (s ∷ ss) e fits_r fits_s hr hs = absurd (omega arith)
  same_rows at (r ∷ rs) [] e fits_r fits_s hr hs = absurd (omega arith)
  same_rows at (r ∷ rs) (s ∷ ss) e fits_r fits_s hr hs =
      let first = same_row at r s (All-head (λ (r : Row). IsKeyValue r.key) r rs fits_r) (All-head (λ (r : Row). IsKeyValue r.key) s ss fits_s) (Stand-first bytes at (row_octets r) (flat_map row_octets rs) hr) (Stand-first bytes at (row_octets s) (flat_map row_octets ss) hs) in
      let later = same_rows (at + 14) rs ss (omega arith) (All-tail (λ (r : Row). IsKeyValue r.key) r rs fits_r) (All-tail (λ (r : Row). IsKeyValue r.key) s ss fits_s)
      (Stand-second bytes at (at + 14) (row_octets r) (flat_map row_octets rs) (omega (arith, row-long r)) hr) (Stand-second bytes at (at + 14) (row_octets s) (flat_map row_octets ss) (omega (arith, row-long s)) hs) in
      ap (λ (x : Row). x ∷ rs) first ∙ ap (λ (xs : List Row). s ∷ xs) later

  first_octet : (at x y : ℕ) (xs ys : List ℕ) → Stand bytes at (x ∷ xs) → Stand bytes at (y ∷ ys) → x ≡ y
  first_octet at x y xs ys hx hy = same_octet bytes at x y (Stand-first bytes at (x ∷ []) xs hx) (Stand-first bytes at (y ∷ []) ys hy)

  same_content : (size : Size) (at : ℕ) (c d : GroupRecord) → ContentFits size c → ContentFits size d → IsContent c → IsContent d → Stand bytes at (content_octets c) → Stand bytes at (content_octets d) → c ≡ d
  same_content size at (Served ps) (Served qs) fits_c fits_d sized_c sized_d hc hd =
      ap Served (same_pairs (at + 1) ps qs (fits_c ∙ sym fits_d) sized_c sized_d
      (Stand-second bytes at (at + 1) (0 ∷ []) (flat_map pair_octets ps) refl hc) (Stand-second bytes at (at + 1) (0 ∷ []) (flat_map pair_octets qs) refl hd))
  same_content size at (Served ps) (Fallback ss) fits_c fits_d sized_c sized_d hc hd = let clash = first_octet at 0 1 (flat_map pair_octets ps) (length ss ∷ flat_map row_octets ss) hc hd in absurd (omega arith)
  same_content size at (Fallback rs) (Served qs) fits_c fits_d sized_c sized_d hc hd = let clash = first_octet at 1 0 (length rs ∷ flat_map row_octets rs) (flat_map pair_octets qs) hc hd in absurd (omega arith)
  same_content size at (Fallback rs) (Fallback ss) fits_c fits_d sized_c sized_d hc hd =
      let counted_c = Stand-second bytes at (at + 1) (1 ∷ []) (length rs ∷ flat_map row_octets rs) refl hc in
      let counted_d = Stand-second bytes at (at + 1) (1 ∷ []) (length ss ∷ flat_map row_octets ss) refl hd in
      let count = first_octet (at + 1) (length rs) (length ss) (flat_map row_octets rs) (flat_map row_octets ss) counted_c counted_d in
      ap Fallback (same_rows (at + 1 + 1) rs ss count sized_c sized_d
      (Stand-second bytes (at + 1) (at + 1 + 1) (length rs ∷ []) (flat_map row_octets rs) refl counted_c) (Stand-second bytes (at + 1) (at + 1 + 1) (length ss ∷ []) (flat_map row_octets ss) refl counted_d))

info_of : ℕ → ℕ → Record
info_of teid base = record { teid = teid; base = base }

module _ (bytes : List ℕ) where
  same_put : (at : ℕ) (k l : FlowKey) (i j : Record) → IsKeyValue k → IsKeyValue l → IsRecordValue i → IsRecordValue j
      → Stand bytes at (octets k ++ (octets_of_word i.teid ++ octets_of_word i.base)) → Stand bytes at (octets l ++ (octets_of_word j.teid ++ octets_of_word j.base)) → Put k i ≡ Put l j
  unfolding info_of
  same_put at k l i j fits_k fits_l fits_i fits_j hi hj =
      let key = same_key bytes at k l fits_k fits_l (Stand-first bytes at (octets k) (octets_of_word i.teid ++ octets_of_word i.base) hi) (Stand-first bytes at (octets l) (octets_of_word j.teid ++ octets_of_word j.base) hj) in
      let ri = Stand-second bytes at (at + 13) (octets k) (octets_of_word i.teid ++ octets_of_word i.base) (omega (arith, octets-long k)) hi in
      let rj = Stand-second bytes at (at + 13) (octets l) (octets_of_word j.teid ++ octets_of_word j.base) (omega (arith, octets-long l)) hj in
      let teid = same_four bytes (at + 13) i.teid j.teid fits_i.teid fits_j.teid (Stand-first bytes (at + 13) (octets_of_word i.teid) (octets_of_word i.base) ri) (Stand-first bytes (at + 13) (octets_of_word j.teid) (octets_of_word j.base) rj) in
      let base = same_four bytes (at + 17) i.base j.base fits_i.base fits_j.base (Stand-second bytes (at + 13) (at + 17) (octets_of_word i.teid) (octets_of_word i.base) (omega arith) ri) (Stand-second bytes (at + 13) (at + 17) (octets_of_word j.teid) (octets_of_word j.base) (omega arith) rj) in
      ap (λ (x : FlowKey). Put x i) key ∙ ap (λ (n : ℕ). Put l (info_of n i.base)) teid ∙ ap (λ (n : ℕ). Put l (info_of j.teid n)) base

  tag : FibOp → ℕ
  tag Nothing = 0
  tag (Put k i) = 1
  tag (Drop k) = 2

  tag_read : (at : ℕ) (op : FibOp) → Stand bytes at (operation_octets op) → byte_at bytes at ≡ tag op
  unfolding tag octets
  tag_read at Nothing h = octet_read bytes at 0 h
  tag_read at (Put k i) h = octet_read bytes at 1 (Stand-first bytes at (1 ∷ []) (octets k ++ (octets_of_word i.teid ++ octets_of_word i.base)) h)
  tag_read at (Drop k) h = octet_read bytes at 2 (Stand-first bytes at (2 ∷ []) (octets k) h)

  operation_from_tag : (at : ℕ) (o p : FibOp) → tag o ≡ tag p → IsOperation o → IsOperation p → Stand bytes at (operation_octets o) → Stand bytes at (operation_octets p) → o ≡ p
  unfolding tag octets
  operation_from_tag at Nothing Nothing e sized_o sized_p ho hp = refl
  operation_from_tag at (Put k i) (Put l j) e sized_o sized_p ho hp =
      same_put (at + 1) k l i j sized_o.0 sized_p.0 sized_o.1 sized_p.1
      (Stand-second bytes at (at + 1) (1 ∷ []) (octets k ++ (octets_of_word i.teid ++ octets_of_word i.base)) refl ho)
      (Stand-second bytes at (at + 1) (1 ∷ []) (octets l ++ (octets_of_word j.teid ++ octets_of_word j.base)) refl hp)
  operation_from_tag at (Drop k) (Drop l) e sized_o sized_p ho hp =
      ap Drop (same_key bytes (at + 1) k l sized_o sized_p (Stand-second bytes at (at + 1) (2 ∷ []) (octets k) refl ho) (Stand-second bytes at (at + 1) (2 ∷ []) (octets l) refl hp))
  operation_from_tag at Nothing (Put l j) e sized_o sized_p ho hp = absurd (omega arith)
  operation_from_tag at Nothing (Drop l) e sized_o sized_p ho hp = absurd (omega arith)
  operation_from_tag at (Put k i) Nothing e sized_o sized_p ho hp = absurd (omega arith)
  operation_from_tag at (Put k i) (Drop l) e sized_o sized_p ho hp = absurd (omega arith)
  operation_from_tag at (Drop k) Nothing e sized_o sized_p ho hp = absurd (omega arith)
  operation_from_tag at (Drop k) (Put l j) e sized_o sized_p ho hp = absurd (omega arith)

  same_operation : (at : ℕ) (o p : FibOp) → IsOperation o → IsOperation p → Stand bytes at (operation_octets o) → Stand bytes at (operation_octets p) → o ≡ p
  same_operation at o p sized_o sized_p ho hp = operation_from_tag at o p (sym (tag_read at o ho) ∙ tag_read at p hp) sized_o sized_p ho hp

table_of : ℕ → ℕ → ℕ → ℕ → GroupRecord → TableMessage
table_of owner turn block group content = record { owner = owner; turn = turn; block = block; group = group; content = content }

same_tables : (o o' t t' b b' g g' : ℕ) (c c' : GroupRecord) → o ≡ o' → t ≡ t' → b ≡ b' → g ≡ g' → c ≡ c' → table_of o t b g c ≡ table_of o' t' b' g' c'
same_tables o o' t t' b b' g g' c c' ho ht hb hg hc = cc

table_fields : (m n : TableMessage) → m.owner ≡ n.owner → m.turn ≡ n.turn → m.block ≡ n.block → m.group ≡ n.group → m.content ≡ n.content → m ≡ n
unfolding table_of
table_fields m n o t b g c = same_tables _ _ _ _ _ _ _ _ _ _ o t b g c

fib_of : ℕ → ℕ → ℕ → ℕ → FibOp → FibMessage
fib_of owner turn block group op = record { owner = owner; turn = turn; block = block; group = group; op = op }

same_fibs : (o o' t t' b b' g g' : ℕ) (c c' : FibOp) → o ≡ o' → t ≡ t' → b ≡ b' → g ≡ g' → c ≡ c' → fib_of o t b g c ≡ fib_of o' t' b' g' c'
same_fibs o o' t t' b b' g g' c c' ho ht hb hg hc = cc

fib_fields : (m n : FibMessage) → m.owner ≡ n.owner → m.turn ≡ n.turn → m.block ≡ n.block → m.group ≡ n.group → m.op ≡ n.op → m ≡ n
unfolding fib_of
fib_fields m n o t b g c = same_fibs _ _ _ _ _ _ _ _ _ _ o t b g c

pub same_message : (size : Size) (bytes : List ℕ) (m n : Message) → Fits size m → Fits size n → IsMessage m → IsMessage n → Stand bytes 0 (spelling m) → Stand bytes 0 (spelling n) → m ≡ n
same_message size bytes (Table m) (Table n) fits_m fits_n sized_m sized_n hm hn =
    let rm = head_read bytes 0x11 m.owner m.turn m.block m.group (content_octets m.content) (omega (arith, fits_m.0.last_turn)) (omega (arith, sized_m.0.block_fits)) hm in
    let rn = head_read bytes 0x11 n.owner n.turn n.block n.group (content_octets n.content) (omega (arith, fits_n.0.last_turn)) (omega (arith, sized_n.0.block_fits)) hn in
    ap Table (table_fields m n (sym rm.owner_is ∙ rn.owner_is) (sym rm.turn_is ∙ rn.turn_is) (sym rm.block_is ∙ rn.block_is) (sym rm.group_is ∙ rn.group_is)
    (same_content bytes size 7 m.content n.content fits_m.1 fits_n.1 sized_m.1 sized_n.1 rm.rest rn.rest))
same_message size bytes (Fib m) (Fib n) fits_m fits_n sized_m sized_n hm hn =
    let rm = head_read bytes 0x12 m.owner m.turn m.block m.group (operation_octets m.op) (omega (arith, fits_m.last_turn)) (omega (arith, sized_m.0.block_fits)) hm in
    let rn = head_read bytes 0x12 n.owner n.turn n.block n.group (operation_octets n.op) (omega (arith, fits_n.last_turn)) (omega (arith, sized_n.0.block_fits)) hn in
    ap Fib (fib_fields m n (sym rm.owner_is ∙ rn.owner_is) (sym rm.turn_is ∙ rn.turn_is) (sym rm.block_is ∙ rn.block_is) (sym rm.group_is ∙ rn.group_is)
    (same_operation bytes 7 m.op n.op sized_m.1 sized_n.1 rm.rest rn.rest))
same_message size bytes (Table m) (Fib n) fits_m fits_n sized_m sized_n hm hn =
    let rm = head_read bytes 0x11 m.owner m.turn m.block m.group (content_octets m.content) (omega (arith, fits_m.0.last_turn)) (omega (arith, sized_m.0.block_fits)) hm in
    let rn = head_read bytes 0x12 n.owner n.turn n.block n.group (operation_octets n.op) (omega (arith, fits_n.last_turn)) (omega (arith, sized_n.0.block_fits)) hn in
    let clash : ◌≡◌ {A = ℕ} 0x11 0x12 = sym rm.kind_is ∙ rn.kind_is in
    absurd (omega arith)
same_message size bytes (Fib m) (Table n) fits_m fits_n sized_m sized_n hm hn =
    let rm = head_read bytes 0x12 m.owner m.turn m.block m.group (operation_octets m.op) (omega (arith, fits_m.last_turn)) (omega (arith, sized_m.0.block_fits)) hm in
    let rn = head_read bytes 0x11 n.owner n.turn n.block n.group (content_octets n.content) (omega (arith, fits_n.0.last_turn)) (omega (arith, sized_n.0.block_fits)) hn in
    let clash : ◌≡◌ {A = ℕ} 0x12 0x11 = sym rm.kind_is ∙ rn.kind_is in
    absurd (omega arith)
