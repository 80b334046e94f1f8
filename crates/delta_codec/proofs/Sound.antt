-- A message that stands at the beginning has no field at fault.
use Rattle.std.proofs.Common.{◌≡◌, ℕ, ◌+◌, ◌%◌, ◌^◌, ◌<◌, ◌≤◌, Bool, true, false, cond, List, [], ◌∷◌, ◌++◌, length, Option, None, refl, sym, ap, ◌∙◌, subst, arith}
use Rattle.std.specs.Prelude.{nat_lt, nat_le, ◌==◌, ◌&&◌, ◌||◌}
use Rattle.std.specs.List.{flat_map}
use Rattle.std.specs.Option.{option_or}
use Rattle.std.proofs.lemmas.Bool.{lt-ltb, le-leb, eq-eqb}
use Rattle.flow_types.specs.declared.key.FlowKey.{FlowKey}
use Rattle.flow_types.specs.declared.record.Record.{Record}
use Rattle.flow_types.specs.Key.{octets}
use Rattle.block_layout.specs.Limits.{group_count}
use Rattle.group_search.specs.Limits.{fewest_rows, most_rows}
use Rattle.flow_types.specs.Size.{Size}
use Rattle.group_search.specs.declared.entry.Pair.{Pair}
use Rattle.group_search.specs.declared.record.GroupRecord.{GroupRecord}
use Rattle.group_search.specs.declared.record.GroupRecord.TheVariants.{Served, Fallback}
use Rattle.delta_codec.specs.declared.message.FibOp.{FibOp}
use Rattle.delta_codec.specs.declared.message.FibOp.TheVariants.{Nothing, Put, Drop}
use Rattle.delta_codec.specs.declared.message.Message.{Message}
use Rattle.delta_codec.specs.declared.message.Message.TheVariants.{Table, Fib}
use Rattle.delta_codec.specs.declared.refused.BadField.TheVariants.{Kind, Owner, Turn, Block, Group, Body, Count}
use Rattle.delta_codec.specs.declared.refused.DecodeRefused.{DecodeRefused}
use Rattle.delta_codec.specs.Values.{IsContent, IsMessage}
use Rattle.delta_codec.specs.Fits.{HeadFits, ContentFits, Fits}
use Rattle.delta_codec.specs.Spelling.{Stand, head, two_octets, octets_of_word, pair_octets, row_octets, content_octets, operation_octets, spelling}
use Rattle.delta_codec.specs.Fields.{content_fields, fields, first_fault, MessageField, head_fields, byte_at, operation_fields, pair_fields, row_fields, two_at}
use Rattle.delta_codec.proofs.Faults.{first_fault-append, free_sound, ruled_sound}
use Rattle.delta_codec.proofs.Keys.{octets-long}
use Rattle.delta_codec.proofs.RowsFit.{rising-go_on, rows_sound}
use Rattle.delta_codec.proofs.Standing.{Stand-first, Stand-second, octet_read, two_read}

-- the fields of a head that stands at the beginning, and the body after it
pub record HeadRead (bytes : List ℕ) (kind owner turn block group : ℕ) (body : List ℕ) : Type 0 where
  pub kind_is : byte_at bytes 0 ≡ kind
  pub owner_is : byte_at bytes 1 ≡ owner
  pub turn_is : two_at bytes 2 ≡ turn
  pub block_is : two_at bytes 4 ≡ block
  pub group_is : byte_at bytes 6 ≡ group
  pub long : 7 ≤ length bytes
  pub rest : Stand bytes 7 body

pub head_read : (bytes : List ℕ) (kind owner turn block group : ℕ) (body : List ℕ) → turn < 2 ^ 16 → block < 2 ^ 16 → Stand bytes 0 (head kind owner turn block group ++ body) → HeadRead bytes kind owner turn block group body
head_read bytes kind owner turn block group body turn_fits block_fits h =
    let h1 = Stand-second bytes 0 1 (kind ∷ []) (owner ∷ two_octets turn ++ two_octets block ++ group ∷ body) refl h in
    let h2 = Stand-second bytes 1 2 (owner ∷ []) (two_octets turn ++ two_octets block ++ group ∷ body) refl h1 in
    let h4 = Stand-second bytes 2 4 (two_octets turn) (two_octets block ++ group ∷ body) refl h2 in
    let h6 = Stand-second bytes 4 6 (two_octets block) (group ∷ body) refl h4 in
    let h7 = Stand-second bytes 6 7 (group ∷ []) body refl h6 in
    record {
      kind_is = octet_read bytes 0 kind (Stand-first bytes 0 (kind ∷ []) (owner ∷ two_octets turn ++ two_octets block ++ group ∷ body) h);
      owner_is = octet_read bytes 1 owner (Stand-first bytes 1 (owner ∷ []) (two_octets turn ++ two_octets block ++ group ∷ body) h1);
      turn_is = two_read bytes 2 turn turn_fits (Stand-first bytes 2 (two_octets turn) (two_octets block ++ group ∷ body) h2);
      block_is = two_read bytes 4 block block_fits (Stand-first bytes 4 (two_octets block) (group ∷ body) h4);
      group_is = octet_read bytes 6 group (Stand-first bytes 6 (group ∷ []) body h6);
      long = omega (arith, h7.there);
      rest = h7;
    }

head_sound : (size : Size) (bytes : List ℕ) (kind owner turn block group : ℕ) (body : List ℕ) → HeadRead bytes kind owner turn block group body → HeadFits size owner turn block group
    → (kind == 0x11 || kind == 0x12) ≡ true → first_fault bytes (head_fields size bytes) ≡ None
head_sound size bytes kind owner turn block group body h fits known =
    let long = h.long in
    let kind_met : (byte_at bytes 0 == 0x11 || byte_at bytes 0 == 0x12) ≡ true = ap (λ (k : ℕ). k == 0x11 || k == 0x12) h.kind_is ∙ known in
    let owner_met : nat_lt (byte_at bytes 1) size.nodes ≡ true = lt-ltb _ _ (omega (arith, h.owner_is, fits.owner_is_node)) in
    let turn_met : nat_lt 0 (two_at bytes 2) ≡ true = lt-ltb 0 (two_at bytes 2) (subst (λ (n : ℕ). 0 < n) (sym h.turn_is) (omega (arith, fits.first_turn))) in
    let in_table : nat_lt (two_at bytes 4) size.blocks ≡ true = lt-ltb (two_at bytes 4) size.blocks (subst (λ (n : ℕ). n < size.blocks) (sym h.block_is) fits.in_table) in
    let owned : (two_at bytes 4 % size.nodes == byte_at bytes 1) ≡ true = eq-eqb (two_at bytes 4 % size.nodes) (byte_at bytes 1) (ap (λ (n : ℕ). n % size.nodes) h.block_is ∙ fits.owned ∙ sym h.owner_is) in
    let block_met : (nat_lt (two_at bytes 4) size.blocks && two_at bytes 4 % size.nodes == byte_at bytes 1) ≡ true = rw (in_table, owned) in
    let group_met : nat_lt (byte_at bytes 6) group_count ≡ true = lt-ltb _ _ (omega (arith, h.group_is, fits.in_block)) in
    let k = ruled_sound bytes 0 1 (byte_at bytes 0 == 0x11 || byte_at bytes 0 == 0x12) Kind (omega arith) kind_met in
    let o = ruled_sound bytes 1 1 (nat_lt (byte_at bytes 1) size.nodes) Owner (omega arith) owner_met in
    let t = ruled_sound bytes 2 2 (nat_lt 0 (two_at bytes 2)) Turn (omega arith) turn_met in
    let b = ruled_sound bytes 4 2 (nat_lt (two_at bytes 4) size.blocks && two_at bytes 4 % size.nodes == byte_at bytes 1) Block (omega arith) block_met in
    let g = ruled_sound bytes 6 1 (nat_lt (byte_at bytes 6) group_count) Group (omega arith) group_met in
    rw (k, o, t, b, g)

pairs_sound : (bytes : List ℕ) (pairs : List Pair) (at : ℕ) → Stand bytes at (flat_map pair_octets pairs) → first_fault bytes (pair_fields (length pairs) at) ≡ None
pairs_sound bytes [] at h = refl
pairs_sound bytes (pair ∷ pairs) at h =
    let first = Stand-first bytes at (pair_octets pair) (flat_map pair_octets pairs) h in
    let there = first.there in
    let later = pairs_sound bytes pairs (at + 3) (Stand-second bytes at (at + 3) (pair_octets pair) (flat_map pair_octets pairs) refl h) in
    rw (free_sound bytes at 2 (omega arith), free_sound bytes (at + 2) 1 (omega arith)) later

content_sound : (size : Size) (bytes : List ℕ) (at : ℕ) (content : GroupRecord) → ContentFits size content → IsContent content → Stand bytes at (content_octets content)
    → first_fault bytes (content_fields size bytes at) ≡ None
content_sound size bytes at (Served pairs) fits sized h =
    let body = octet_read bytes at 0 (Stand-first bytes at (0 ∷ []) (flat_map pair_octets pairs) h) in
    let rest = Stand-second bytes at (at + 1) (0 ∷ []) (flat_map pair_octets pairs) refl h in
    let there = h.there in
    let sound = subst (λ (n : ℕ). first_fault bytes (pair_fields n (at + 1)) ≡ None) fits (pairs_sound bytes pairs (at + 1) rest) in
    let met : nat_lt (byte_at bytes at) 2 ≡ true = lt-ltb _ _ (omega arith) in
    let is_served : (byte_at bytes at == 0) ≡ true = eq-eqb _ _ body in
    rw (ruled_sound bytes at 1 (nat_lt (byte_at bytes at) 2) Body (omega arith) met, is_served) sound
content_sound size bytes at (Fallback rows) fits sized h =
    let body = octet_read bytes at 1 (Stand-first bytes at (1 ∷ []) (length rows ∷ flat_map row_octets rows) h) in
    let counted = Stand-second bytes at (at + 1) (1 ∷ []) (length rows ∷ flat_map row_octets rows) refl h in
    let count = octet_read bytes (at + 1) (length rows) (Stand-first bytes (at + 1) (length rows ∷ []) (flat_map row_octets rows) counted) in
    let rest = Stand-second bytes (at + 1) (at + 2) (length rows ∷ []) (flat_map row_octets rows) (omega arith) counted in
    let there = counted.there in
    let go_on = rising-go_on size.nodes rows fits.rising fits.are_nodes in
    let sound : first_fault bytes (row_fields size.nodes bytes (byte_at bytes (at + 1)) None (at + 2)) ≡ None =
    subst (λ (n : ℕ). first_fault bytes (row_fields size.nodes bytes n None (at + 2)) ≡ None) (sym count) (rows_sound size.nodes bytes rows None (at + 2) sized rest go_on) in
    let met : nat_lt (byte_at bytes at) 2 ≡ true = lt-ltb _ _ (omega arith) in
    let is_fallback : (byte_at bytes at == 0) ≡ false = ap (λ (n : ℕ). n == 0) body in
    let enough : nat_le fewest_rows (byte_at bytes (at + 1)) ≡ true = le-leb _ _ (omega (arith, fits.enough)) in
    let few : nat_le (byte_at bytes (at + 1)) most_rows ≡ true = le-leb _ _ (omega (arith, fits.few)) in
    let count_met : (nat_le fewest_rows (byte_at bytes (at + 1)) && nat_le (byte_at bytes (at + 1)) most_rows) ≡ true = rw (enough, few) in
    let count_sound = ruled_sound bytes (at + 1) 1 (nat_le fewest_rows (byte_at bytes (at + 1)) && nat_le (byte_at bytes (at + 1)) most_rows) Count (omega arith) count_met in
    rw (ruled_sound bytes at 1 (nat_lt (byte_at bytes at) 2) Body (omega arith) met, is_fallback, count_sound) sound

put-long : (key : FlowKey) (info : Record) → length (octets key ++ octets_of_word info.teid ++ octets_of_word info.base) ≡ 21
unfolding octets
put-long key info = refl

operation_sound : (bytes : List ℕ) (at : ℕ) (op : FibOp) → Stand bytes at (operation_octets op) → first_fault bytes (operation_fields bytes at) ≡ None
operation_sound bytes at Nothing h =
    let body = octet_read bytes at 0 h in
    let there = h.there in
    let met : nat_lt (byte_at bytes at) 3 ≡ true = lt-ltb _ _ (omega arith) in
    let is_nothing : (byte_at bytes at == 0) ≡ true = eq-eqb _ _ body in
    rw (ruled_sound bytes at 1 (nat_lt (byte_at bytes at) 3) Body (omega arith) met, is_nothing)
operation_sound bytes at (Put key info) h =
    let body = octet_read bytes at 1 (Stand-first bytes at (1 ∷ []) (octets key ++ octets_of_word info.teid ++ octets_of_word info.base) h) in
    let there = h.there in
    let long = put-long key info in
    let met : nat_lt (byte_at bytes at) 3 ≡ true = lt-ltb _ _ (omega arith) in
    let something : (byte_at bytes at == 0) ≡ false = ap (λ (n : ℕ). n == 0) body in
    let is_put : (byte_at bytes at == 1) ≡ true = eq-eqb _ _ body in
    rw (ruled_sound bytes at 1 (nat_lt (byte_at bytes at) 3) Body (omega arith) met, something, is_put, free_sound bytes (at + 1) 13 (omega arith), free_sound bytes (at + 14) 4 (omega arith), free_sound bytes (at + 18) 4 (omega arith))
operation_sound bytes at (Drop key) h =
    let body = octet_read bytes at 2 (Stand-first bytes at (2 ∷ []) (octets key) h) in
    let there = h.there in
    let long = octets-long key in
    let met : nat_lt (byte_at bytes at) 3 ≡ true = lt-ltb _ _ (omega arith) in
    let something : (byte_at bytes at == 0) ≡ false = ap (λ (n : ℕ). n == 0) body in
    let no_put : (byte_at bytes at == 1) ≡ false = ap (λ (n : ℕ). n == 1) body in
    rw (ruled_sound bytes at 1 (nat_lt (byte_at bytes at) 3) Body (omega arith) met, something, no_put, free_sound bytes (at + 1) 13 (omega arith))

body_fields : Size → List ℕ → List MessageField
body_fields size bytes = cond (byte_at bytes 0 == 0x11) (content_fields size bytes 7) (operation_fields bytes 7)

pub message_sound : (size : Size) (bytes : List ℕ) (message : Message) → Fits size message → IsMessage message → Stand bytes 0 (spelling message) → first_fault bytes (fields size bytes) ≡ None
unfolding body_fields
message_sound size bytes (Table m) fits sized h =
    let read = head_read bytes 0x11 m.owner m.turn m.block m.group (content_octets m.content) (omega (arith, fits.0.last_turn)) (omega (arith, sized.0.block_fits)) h in
    let is_table : (byte_at bytes 0 == 0x11) ≡ true = eq-eqb _ _ read.kind_is in
    let body : first_fault bytes (cond (byte_at bytes 0 == 0x11) (content_fields size bytes 7) (operation_fields bytes 7)) ≡ None =
    ap (λ (b : Bool). first_fault bytes (cond b (content_fields size bytes 7) (operation_fields bytes 7))) is_table ∙ content_sound size bytes 7 m.content fits.1 sized.1 read.rest in
    first_fault-append bytes (head_fields size bytes) _ ∙ ap (λ (f : Option DecodeRefused). option_or f (first_fault bytes (body_fields size bytes))) (head_sound size bytes 0x11 m.owner m.turn m.block m.group (content_octets m.content) read fits.0 refl) ∙ body
message_sound size bytes (Fib m) fits sized h =
    let read = head_read bytes 0x12 m.owner m.turn m.block m.group (operation_octets m.op) (omega (arith, fits.last_turn)) (omega (arith, sized.0.block_fits)) h in
    let no_table : (byte_at bytes 0 == 0x11) ≡ false = ap (λ (n : ℕ). n == 0x11) read.kind_is in
    let body : first_fault bytes (cond (byte_at bytes 0 == 0x11) (content_fields size bytes 7) (operation_fields bytes 7)) ≡ None =
    ap (λ (b : Bool). first_fault bytes (cond b (content_fields size bytes 7) (operation_fields bytes 7))) no_table ∙ operation_sound bytes 7 m.op read.rest in
    first_fault-append bytes (head_fields size bytes) _ ∙ ap (λ (f : Option DecodeRefused). option_or f (first_fault bytes (body_fields size bytes))) (head_sound size bytes 0x12 m.owner m.turn m.block m.group (operation_octets m.op) read fits refl) ∙ body
