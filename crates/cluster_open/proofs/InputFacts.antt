-- What the rows of an input say can be run.
use Rattle.std.proofs.Common.{◌≡◌, ◌∙◌, ◌+◌, ◌-◌, ◌&&◌, ℕ, Bool, true, false, List, ◌∷◌, [], length, get_or, drop, None, Some, Result, Ok, Err, refl, sym, ap, subst, arith, length-append, length-drop}
use Rattle.std.proofs.lemmas.List.{length-map}
use Rattle.std.specs.Prelude.{◌==◌, codes, if◌then◌else◌, nat_le}
use Rattle.std.proofs.lemmas.Bool.{and_parts, leb-true}
use Rattle.csv_rows.specs.Rows.{Row, rows, field_at}
use Rattle.flow_types.specs.Size.{Size, IsShape, fewest_blocks, fewest_nodes, most_blocks, most_nodes}
use Rattle.flow_types.specs.declared.why.Why.{Why}
use Rattle.flow_types.specs.declared.why.Why.TheVariants as why
use Rattle.row_fields.specs.Fields.{and_then, is_kind, number_field}
use Rattle.flow_reader.specs.FirstBad.{IsOpening}
use Rattle.flow_reader.specs.Opening.{shape_of, shape_with}
use Rattle.flow_reader.specs.declared.opening.Opening.{Opening}
use Rattle.flow_reader.proofs.FlowFacts.{opening_fits}
use Rattle.group_search.specs.Build.{past_limit}
use Rattle.packet_reader.specs.declared.event.Event.{Event}
use Rattle.packet_reader.specs.declared.mode.Mode.{Mode}
use Rattle.packet_reader.specs.FirstBad.{IsScript}
use Rattle.packet_reader.specs.Form.{IsScriptOf}
use Rattle.packet_reader.specs.Events.{events_in, script_row}
use Rattle.packet_reader.proofs.Forms.{scripts_are_formed}
use Rattle.run_model.specs.Laws.{CanBeOpened}
use Rattle.cluster_open.specs.FirstBad.{AreReadable}
use Rattle.cluster_open.specs.Input.{opened}
use Rattle.cluster_open.specs.Laws.{CanBeRun}

-- ---- the shape that a row says is one

in-range : (nodes blocks : ℕ) (fits : Bool) → (nat_le fewest_nodes nodes && nat_le nodes most_nodes && nat_le fewest_blocks blocks && nat_le blocks most_blocks) ≡ fits
    → (shape : Size) → ◌≡◌ {A = Result Size Why} (if fits then Ok (record { nodes = nodes; blocks = blocks }) else Err why.Number) (Ok shape)
    → IsShape shape.nodes shape.blocks
in-range nodes blocks true fits shape e =
    let same : record { nodes = nodes; blocks = blocks } ≡ shape = cc e in
    let all = and_parts _ _ fits in
    let three = and_parts _ _ all.0 in
    let two = and_parts _ _ three.0 in
    subst (λ (s : Size). IsShape s.nodes s.blocks) same
    (record {
      enough_nodes = leb-true _ _ two.0;
      few_nodes = leb-true _ _ two.1;
      enough_blocks = leb-true _ _ three.1;
      few_blocks = leb-true _ _ all.1;
    })
in-range nodes blocks false fits shape e = cc e

shape-fields : (n b : Result ℕ Why) (shape : Size) → and_then n (λ nodes. and_then b (λ blocks. shape_with nodes blocks)) ≡ Ok shape → IsShape shape.nodes shape.blocks
shape-fields (Err reason) b shape e = cc e
shape-fields (Ok nodes) (Err reason) shape e = cc e
shape-fields (Ok nodes) (Ok blocks) shape e = in-range nodes blocks _ refl shape e

shape-row : (kind wide : Bool) (n b : Result ℕ Why) (shape : Size)
    → ◌≡◌ {A = Result Size Why}
    (if kind then (if wide then and_then n (λ nodes. and_then b (λ blocks. shape_with nodes blocks)) else Err why.Fields) else Err why.Kind) (Ok shape)
    → IsShape shape.nodes shape.blocks
shape-row true true n b shape e = shape-fields n b shape e
shape-row true false n b shape e = cc e
shape-row false wide n b shape e = cc e

pub says-shape : (row : Row) (shape : Size) → shape_of row ≡ Ok shape → IsShape shape.nodes shape.blocks
unfolding shape_of
says-shape row shape e =
    shape-row (is_kind (codes "cluster") row) (length row == 3) (number_field 65535 (field_at row 1)) (number_field 65535 (field_at row 2)) shape e

-- ---- openings and scripts

-- a cluster can be opened by what rows say, where no block is past a limit
pub can-open : (all : List Row) (opening : Opening) → IsOpening all opening → past_limit opening.shape opening.flows ≡ None → CanBeOpened (opened opening)
can-open all opening opens within =
    let fit = opening_fits all opening opens in
    record {
      shape = says-shape opens.begins.first opening.shape opens.begins.says_shape;
      distinct = fit.distinct;
      handled = fit.handled;
      values = λ k d below. (fit.values k d below).key;
      within = within;
    }

formed : (mode : Mode) (all : List Row) (opening : Opening) (script : List Event) → AreReadable mode all opening script → IsScriptOf mode opening.shape script
formed mode all opening script readable = scripts_are_formed mode opening.shape (drop opening.begin_row all) script readable.goes_on

pub can_be_run : (mode : Mode) (octets : List ℕ) → CanBeRun mode octets
can_be_run mode octets = record { opens = can-open (rows octets); formed = formed mode (rows octets) }

-- ---- how many rows there are

-- there is a row for each event, one for the end of the script, and those up to `begin`
pub rows_counted : (mode : Mode) (all left : List Row) (opening : Opening) (script : List Event) → IsOpening all opening → left ≡ drop opening.begin_row all
    → IsScript (events_in mode opening.shape) left script → length all ≡ opening.begin_row + length script + 1
rows_counted mode all left opening script opens left_is goes_on =
    let up_to : length all ≡ length opens.sound + (1 + length opens.after) = ap length opens.split ∙ length-append opens.sound (opens.begin ∷ opens.after) ∙ omega arith in
    let left_of : length left ≡ length all - opening.begin_row = ap length left_is ∙ length-drop opening.begin_row all in
    let later : length left ≡ length goes_on.before + 1 = ap length goes_on.split ∙ length-append goes_on.before (goes_on.last ∷ []) in
    let each : length goes_on.before ≡ length script =
    sym (length-map goes_on.before (script_row mode opening.shape)) ∙ ap length goes_on.say_events.each_says ∙ length-map script (λ (event : Event). Ok (Some event)) in
    omega (arith, opens.number)
