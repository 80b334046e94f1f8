-- The events that rows say have the form of rows of their mode, and their keys are in range.
use Rattle.std.proofs.Common.{◌≡◌, ◌≤◌, ℕ, Bool, true, false, List, [], ◌∷◌, length, map, Option, Some, Result, Ok, Err, refl, subst, arith}
use Rattle.std.specs.Prelude.{◌==◌, All, IfOk, Vec, if◌then◌else◌, nat_lt}
use Rattle.std.specs.Global.{Global}
use Rattle.std.proofs.lemmas.Bool.{ltb-true}
use Rattle.std.proofs.lemmas.List.Elements.{All-cons, All-nil, All-weaker}
use Rattle.csv_rows.specs.Rows.{Field, Row, field_at}
use Rattle.flow_types.specs.Limits.{most_turns}
use Rattle.flow_types.specs.Size.{Size}
use Rattle.flow_types.specs.declared.key.FlowKey.{FlowKey}
use Rattle.flow_types.specs.declared.record.Flow.{Flow}
use Rattle.flow_types.specs.declared.why.Why.{Why}
use Rattle.flow_types.specs.declared.why.Why.TheVariants as why
use Rattle.row_fields.specs.Fields.{and_then, flow_of, key_at, node_field, number_field}
use Rattle.row_fields.specs.declared.refused.RowRefused.{RowRefused}
use Rattle.row_fields.proofs.Ranges.{below_nodes, flow_value, key_value, number_most}
use Rattle.packet_reader.specs.declared.event.Event.{Event}
use Rattle.packet_reader.specs.declared.event.Event.TheVariants.{Set, Del, Packet, Carry, Sync}
use Rattle.packet_reader.specs.declared.event.Part.{Part}
use Rattle.packet_reader.specs.declared.kind.Kind.{Kind}
use Rattle.packet_reader.specs.declared.kind.Kind.TheVariants as kind
use Rattle.packet_reader.specs.declared.mode.Mode.{Mode}
use Rattle.packet_reader.specs.Events.{events_in, kind_says, script_row}
use Rattle.packet_reader.specs.FirstBad.{IsScript}
use Rattle.packet_reader.specs.Fields.{fields_say, one_turn, part_field, some_event, turn_field}
use Rattle.packet_reader.specs.Form.{HasRecordValue, HasKeyValue, IsCarried, IsFormed, IsInRange, IsRowOf, IsScriptOf}
use Rattle.packet_reader.specs.Kind.{kind_of, kind_of_event, width}
use Rattle.packet_reader.specs.Mode.{may_stand}

-- a row of this kind says the event, whose nodes, turn, key and record are in range
record IsSaid (shape : Size) (kind : Kind) (event : Event) : Type 0 where
  kind_is : kind_of_event event ≡ kind
  in_range : IsInRange shape event
  value : HasKeyValue event
  record_value : HasRecordValue event

-- so the event is one of a row of the mode
record IsSaidIn (mode : Mode) (shape : Size) (event : Event) : Type 0 where
  row : IsRowOf mode shape event
  record_value : HasRecordValue event

module _ (shape : Size) (row : Row) where
  abbrev Says : Kind → Result (Option Event) Why → Type 0
  Says kind said = (event : Event) → said ≡ Ok (Some event) → IsSaid shape kind event

  said : (kind : Kind) (event other : Event) → IsSaid shape kind event → some_event (Ok event) ≡ Ok (Some other) → IsSaid shape kind other
  said kind event other is e = let same : event ≡ other = cc in subst (IsSaid shape kind) same is

  says-set : (f : Result Flow Why) → flow_of shape.nodes row ≡ f → Says kind.Set (some_event (and_then f (λ flow. Ok (Set flow))))
  says-set (Err reason) is event e = cc e
  says-set (Ok flow) is event e =
      let fits = flow_value shape.nodes row flow is in
      said kind.Set (Set flow) event (record { kind_is = refl; in_range = fits.node; value = fits.key; record_value = fits.record_value }) e

  says-del : (k : Result FlowKey Why) → key_at 1 row ≡ k → Says kind.Del (some_event (and_then k (λ key. Ok (Del key))))
  says-del (Err reason) is event e = cc e
  says-del (Ok key) is event e =
      said kind.Del (Del key) event (record { kind_is = refl; in_range = tt; value = key_value 1 row key is; record_value = tt }) e

  says-packet : (n : Result ℕ Why) (k : Result FlowKey Why) → node_field shape.nodes (field_at row 1) ≡ n → key_at 2 row ≡ k
      → Says kind.Packet (some_event (and_then n (λ ingress. and_then k (λ key. Ok (Packet ingress key)))))
  says-packet (Err reason) k n_is k_is event e = cc e
  says-packet (Ok ingress) (Err reason) n_is k_is event e = cc e
  says-packet (Ok ingress) (Ok key) n_is k_is event e =
      said kind.Packet (Packet ingress key) event
      (record {
        kind_is = refl;
        in_range = below_nodes shape.nodes ingress (number_field 255 (field_at row 1)) n_is;
        value = key_value 2 row key k_is;
        record_value = tt;
      })
      e

  -- a turn that was read is one of 1 to the last
  turn-range : (text : Field) (turn : ℕ) (read : Result ℕ Why) → number_field most_turns text ≡ read → and_then read one_turn ≡ Ok turn → (1 ≤ turn) × (turn ≤ most_turns)
  turn-range text turn (Err reason) is e = cc e
  turn-range text turn (Ok number) is e = by (nat_lt 0 number) refl e
    where
      by : (some : Bool) → nat_lt 0 number ≡ some → ◌≡◌ {A = Result ℕ Why} (if some then Ok number else Err why.Number) (Ok turn) → (1 ≤ turn) × (turn ≤ most_turns)
      by true some e =
          let same : number ≡ turn = cc e in
          let least = ltb-true 0 number some in
          let most = number_most most_turns text number is in
          (omega arith, omega arith)
      by false none e = cc e

  says-carry : (n o t : Result ℕ Why) (p : Result Part Why) → node_field shape.nodes (field_at row 1) ≡ n → node_field shape.nodes (field_at row 2) ≡ o
      → turn_field (field_at row 3) ≡ t
      → Says kind.Carry (some_event (and_then n (λ node. and_then o (λ owner. and_then t (λ turn. and_then p (λ part. Ok (Carry node owner turn part)))))))
  says-carry (Err reason) o t p n_is o_is t_is event e = cc e
  says-carry (Ok node) (Err reason) t p n_is o_is t_is event e = cc e
  says-carry (Ok node) (Ok owner) (Err reason) p n_is o_is t_is event e = cc e
  says-carry (Ok node) (Ok owner) (Ok turn) (Err reason) n_is o_is t_is event e = cc e
  says-carry (Ok node) (Ok owner) (Ok turn) (Ok part) n_is o_is t_is event e =
      let range = turn-range (field_at row 3) turn (number_field most_turns (field_at row 3)) refl t_is in
      let carried : IsCarried shape.nodes node owner turn = record {
        to_a_node = below_nodes shape.nodes node (number_field 255 (field_at row 1)) n_is;
        of_a_node = below_nodes shape.nodes owner (number_field 255 (field_at row 2)) o_is;
        at_least_one = range.0;
        most = range.1;
      } in
      said kind.Carry (Carry node owner turn part) event (record { kind_is = refl; in_range = carried; value = tt; record_value = tt }) e

  says-kind : (kind : Kind) → Says kind (fields_say kind shape.nodes row)
  says-kind kind.Set = says-set (flow_of shape.nodes row) refl
  says-kind kind.Del = says-del (key_at 1 row) refl
  says-kind kind.Packet = says-packet (node_field shape.nodes (field_at row 1)) (key_at 2 row) refl refl
  says-kind kind.Carry =
      says-carry (node_field shape.nodes (field_at row 1)) (node_field shape.nodes (field_at row 2)) (turn_field (field_at row 3)) (part_field (field_at row 4)) refl refl refl
  says-kind kind.Sync = λ event e. said kind.Sync Sync event (record { kind_is = refl; in_range = tt; value = tt; record_value = tt }) e
  says-kind kind.End = λ event e. cc e

  module _ (mode : Mode) where
    -- so the event has the form of a row
    with-kind : (kind : Kind) (event : Event) (allowed wide : Bool) → may_stand mode kind ≡ allowed
        → ◌≡◌ {A = Result (Option Event) Why}
        (if allowed then (if wide then fields_say kind shape.nodes row else Err why.Fields) else Err why.CarryInStorm) (Ok (Some event))
        → IsSaidIn mode shape event
    with-kind kind event false wide may e = cc e
    with-kind kind event true false may e = cc e
    with-kind kind event true true may e =
        let is = says-kind kind event e in
        record { row = record { formed = record { allowed = rw is.kind_is may; in_range = is.in_range }; value = is.value }; record_value = is.record_value }

    formed-by : (event : Event) (k : Result Kind Why) → and_then k (kind_says mode shape.nodes row) ≡ Ok (Some event) → IsSaidIn mode shape event
    formed-by event (Err reason) e = cc e
    formed-by event (Ok kind) e = with-kind kind event (may_stand mode kind) (length row == width kind) refl e

    row-formed : (event : Event) → script_row mode shape row ≡ Ok (Some event) → IsSaidIn mode shape event
    unfolding script_row
    row-formed event e = formed-by event (kind_of row) e

-- so has each event that rows say
rows-formed : (mode : Mode) (shape : Size) (rows : List Row) (events : List Event) → map (script_row mode shape) rows ≡ map (λ event. Ok (Some event)) events
    → All (IsSaidIn mode shape) events
rows-formed mode shape rows [] says = All-nil (IsSaidIn mode shape)
rows-formed mode shape [] (event ∷ events) says = cc says
rows-formed mode shape (row ∷ rows) (event ∷ events) says =
    let first : script_row mode shape row ≡ Ok (Some event) = cc in
    let others : map (script_row mode shape) rows ≡ map (λ event. Ok (Some event)) events = cc in
    All-cons (IsSaidIn mode shape) event events (row-formed shape row mode event first) (rows-formed mode shape rows events others)

-- so they make a script of the mode
pub scripts_are_formed : (mode : Mode) (shape : Size) (rest : List Row) (events : List Event) → IsScript (events_in mode shape) rest events → IsScriptOf mode shape events
scripts_are_formed mode shape rest events script =
    let said = rows-formed mode shape script.before events script.say_events.each_says in
    record {
      rows = All-weaker (IsSaidIn mode shape) (IsRowOf mode shape) (λ event is. is.row) events said;
      records = All-weaker (IsSaidIn mode shape) HasRecordValue (λ event is. is.record_value) events said;
      few_phases = script.say_events.few_phases;
    }

-- so each event of a script that was read has the form of a row of the mode
pub read_are_formed : (mode : Mode) (shape : Size) (rest : List Row) (read : Result (Vec Event Global) RowRefused) → IfOk read (λ events. IsScript (events_in mode shape) rest events.items)
    → IfOk read (λ events. All (IsFormed mode shape) events.items)
read_are_formed mode shape rest (Err refused) script = tt
read_are_formed mode shape rest (Ok events) script =
    All-weaker (IsRowOf mode shape) (IsFormed mode shape) (λ event is. is.formed) events.items (scripts_are_formed mode shape rest events.items script).rows
