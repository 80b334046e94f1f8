-- What octets begin with up to a message's rows, and the whole message.
use Rattle.std.proofs.Common.{◌≡◌, ℕ, ◌+◌, ◌*◌, Bool, true, false, cond, List, [], ◌∷◌, ◌++◌, length, None, Some, refl, sym, ap, ◌∙◌, subst, append_assoc, append-nil, arith}
use Rattle.std.specs.Prelude.{◌==◌, nat_lt}
use Rattle.std.specs.List.{flat_map}
use Rattle.std.specs.Option.{option_or}
use Rattle.std.proofs.lemmas.Bool.{eq-eqb}
use Rattle.flow_types.specs.Size.{Size, value_bits}
use Rattle.group_search.specs.declared.record.GroupRecord.TheVariants.{Fallback}
use Rattle.group_search.specs.declared.rows.Row.{Row}
use Rattle.delta_codec.specs.declared.heading.Head.{Head}
use Rattle.delta_codec.specs.declared.message.Message.{Message}
use Rattle.delta_codec.specs.declared.message.Message.TheVariants.{Table}
use Rattle.delta_codec.specs.declared.refused.BadField.TheVariants.{Body}
use Rattle.delta_codec.specs.declared.refused.DecodeRefused.{DecodeRefused}
use Rattle.delta_codec.specs.Values.{IsMessage}
use Rattle.delta_codec.specs.Fits.{RowsFit}
use Rattle.delta_codec.specs.Fields.{MessageField, byte_at, count_field, fields, first_fault, head_fields, operation_fields, pair_fields, row_fields, ruled}
use Rattle.delta_codec.specs.Short.{IsRowsStart, start_fields}
use Rattle.delta_codec.specs.Spelling.{BeginsWith, Stand, head, row_octets, spelling}
use Rattle.delta_codec.proofs.Begins.{begins, begun, used_is}
use Rattle.delta_codec.proofs.Faults.{fault_before, first_fault-append}
use Rattle.delta_codec.proofs.Lengths.{rows-long}
use Rattle.delta_codec.proofs.Same.{same_message}
use Rattle.delta_codec.proofs.Sound.{message_sound}
use Rattle.delta_codec.proofs.Standing.{Stand-append, Stand-first, Stand-second, octet_read}

-- the fields of the rows, where the message has rows
later_fields : Size → List ℕ → List MessageField
later_fields size bytes = cond (byte_at bytes 0 == 0x11) (cond (byte_at bytes 7 == 0) [] (row_fields size.nodes bytes (byte_at bytes 8) None 9)) []

parts : (is_table is_served : Bool) (heads : List MessageField) (body count : MessageField) (pairs rows ops : List MessageField)
    → heads ++ cond is_table (body ∷ cond is_served pairs (count ∷ rows)) ops
    ≡ (heads ++ cond is_table (body ∷ cond is_served pairs (count ∷ [])) ops) ++ cond is_table (cond is_served [] rows) []
parts true true heads body count pairs rows ops = sym (append-nil (heads ++ (body ∷ pairs)))
parts true false heads body count pairs rows ops = sym (append_assoc heads (body ∷ count ∷ []) rows)
parts false is_served heads body count pairs rows ops = sym (append-nil (heads ++ ops))

fields_are : (size : Size) (bytes : List ℕ) → fields size bytes ≡ start_fields size bytes ++ later_fields size bytes
unfolding later_fields
fields_are size bytes =
    parts (byte_at bytes 0 == 0x11) (byte_at bytes 7 == 0) (head_fields size bytes) (ruled 7 1 (nat_lt (byte_at bytes 7) 2) Body) (count_field bytes 8)
    (pair_fields (value_bits size.nodes) 8) (row_fields size.nodes bytes (byte_at bytes 8) None 9) (operation_fields bytes 7)

-- a fault before the rows is the message's
pub start_stops : (size : Size) (bytes : List ℕ) (refused : DecodeRefused) → first_fault bytes (start_fields size bytes) ≡ Some refused
    → first_fault bytes (fields size bytes) ≡ Some refused
start_stops size bytes refused h = ap (first_fault bytes) (fields_are size bytes) ∙ fault_before bytes (start_fields size bytes) (later_fields size bytes) refused h

-- without one it is that of the rows
pub rows_next : (size : Size) (bytes : List ℕ) (at_head : Head) (count : ℕ) → IsRowsStart size bytes at_head count → first_fault bytes (start_fields size bytes) ≡ None
    → first_fault bytes (fields size bytes) ≡ first_fault bytes (row_fields size.nodes bytes count None 9)
unfolding later_fields
rows_next size bytes at_head count h sound =
    let kind = octet_read bytes 0 0x11 (Stand-first bytes 0 (0x11 ∷ []) _ h.head_stands) in
    let body = octet_read bytes 7 1 (Stand-first bytes 7 (1 ∷ []) (count ∷ []) h.count_stands) in
    let counted = octet_read bytes 8 count (Stand-second bytes 7 8 (1 ∷ []) (count ∷ []) refl h.count_stands) in
    let is_table : (byte_at bytes 0 == 0x11) ≡ true = eq-eqb _ _ kind in
    let has_rows : (byte_at bytes 7 == 0) ≡ false = ap (λ (n : ℕ). n == 0) body in
    ap (first_fault bytes) (fields_are size bytes) ∙ first_fault-append bytes (start_fields size bytes) (later_fields size bytes)
    ∙ ap (λ f. option_or f (first_fault bytes (later_fields size bytes))) sound
    ∙ ap (λ (b : Bool). first_fault bytes (cond b (cond (byte_at bytes 7 == 0) [] (row_fields size.nodes bytes (byte_at bytes 8) None 9)) [])) is_table
    ∙ ap (λ (b : Bool). first_fault bytes (cond b [] (row_fields size.nodes bytes (byte_at bytes 8) None 9))) has_rows
    ∙ ap (λ (n : ℕ). first_fault bytes (row_fields size.nodes bytes n None 9)) counted

-- a message that begins the octets has no fault
pub begun_sound : (size : Size) (bytes : List ℕ) (message : Message) (used : ℕ) → BeginsWith size bytes message used → IsMessage message
    → first_fault bytes (fields size bytes) ≡ None
begun_sound size bytes message used h sized = message_sound size bytes message h.spells.fits sized (begun size bytes message used h)

-- rows that stand after their number make the message
pub with_rows : (size : Size) (bytes : List ℕ) (at_head : Head) (count used : ℕ) (rows : List Row) → IsRowsStart size bytes at_head count
    → Stand bytes 9 (flat_map row_octets rows) → length rows ≡ count → RowsFit size.nodes rows → used ≡ 9 + 14 * length rows
    → BeginsWith size bytes (Table (record { owner = at_head.owner; turn = at_head.turn; block = at_head.block; group = at_head.group; content = Fallback rows })) used
with_rows size bytes at_head count used rows h stands counted fits end =
    let number : Stand bytes 7 (1 ∷ length rows ∷ []) = subst (λ (n : ℕ). Stand bytes 7 (1 ∷ n ∷ [])) (sym counted) h.count_stands in
    let body = Stand-append bytes 7 9 (1 ∷ length rows ∷ []) (flat_map row_octets rows) refl number stands in
    let whole = Stand-append bytes 0 7 (head 0x11 at_head.owner at_head.turn at_head.block at_head.group) (1 ∷ length rows ∷ flat_map row_octets rows) (omega arith) h.head_stands body in
    begins size bytes (Table (record { owner = at_head.owner; turn = at_head.turn; block = at_head.block; group = at_head.group; content = Fallback rows })) used
    (h.fits, fits) whole (omega (arith, end, rows-long rows))

-- no other message begins the octets
pub no_other : (size : Size) (bytes : List ℕ) (message other : Message) (used long : ℕ) → IsMessage message → IsMessage other → BeginsWith size bytes message used
    → BeginsWith size bytes other long → (message ≡ other) × (used ≡ long)
no_other size bytes message other used long sized sized_other h h_other =
    let same = same_message size bytes message other h.spells.fits h_other.spells.fits sized sized_other (begun size bytes message used h) (begun size bytes other long h_other) in
    (same, used_is size bytes message used h ∙ ap (λ (m : Message). length (spelling m)) same ∙ sym (used_is size bytes other long h_other))
