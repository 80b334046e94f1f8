-- What holds of each flow that a row says.
use Rattle.std.proofs.Common.{◌≡◌, ◌+◌, ◌<◌, ℕ, zero, suc, Bool, true, false, List, [], ◌∷◌, length, map, get_or, Option, Some, None, Result, Ok, Err, refl, sym, ap, arith, ◌∙◌}
use Rattle.std.specs.Prelude.{◌==◌, codes, if◌then◌else◌}
use Rattle.std.proofs.lemmas.List.{length-append, length-map}
use Rattle.flow_types.specs.Key.{IsKeyValue, number, octets}
use Rattle.flow_types.specs.declared.key.FlowKey.{FlowKey}
use Rattle.flow_types.specs.declared.record.Flow.{Flow}
use Rattle.flow_types.specs.declared.why.Why.{Why}
use Rattle.flow_types.specs.declared.why.Why.TheVariants as why
use Rattle.flow_types.proofs.Octets.{same_octets}
use Rattle.csv_rows.specs.Rows.{Row}
use Rattle.row_fields.specs.Fields.{flow_of, is_kind}
use Rattle.row_fields.specs.Ranges.{IsFlowValue}
use Rattle.row_fields.proofs.Ranges.{flow_value}
use Rattle.flow_reader.specs.FirstBad.{IsOpening}
use Rattle.flow_reader.specs.Fit.{IsFit}
use Rattle.flow_reader.specs.Opening.{later_row, some_flow}
use Rattle.flow_reader.specs.declared.opening.Opening.{Opening}

row-says : (a b c d : Bool) (f : Result Flow Why) (flow : Flow)
    → ◌≡◌ {A = Result (Option Flow) Why} (if a then (if b then some_flow f else Err why.Fields) else if c then (if d then Ok None else Err why.Fields) else Err why.Kind) (Ok (Some flow))
    → f ≡ Ok flow
row-says true true c d (Ok f) flow e = cc e
row-says true true c d (Err r) flow e = cc e
row-says true false c d f flow e = cc e
row-says false b true true f flow e = cc e
row-says false b true false f flow e = cc e
row-says false b false d f flow e = cc e

pub row-fits : (nodes : ℕ) (row : Row) (flow : Flow) → later_row nodes row ≡ Ok (Some flow) → IsFlowValue nodes flow
unfolding later_row
row-fits nodes row flow e = flow_value nodes row flow
    (row-says (is_kind (codes "flow") row) (length row == 9) (is_kind (codes "begin") row) (length row == 1) (flow_of nodes row) flow e)

-- so it is with each flow of rows
pub each-fits : (nodes : ℕ) (rows : List Row) (flows : List Flow) → map (later_row nodes) rows ≡ map (λ flow. Ok (Some flow)) flows
    → (k : ℕ) (d : Flow) → k < length flows → IsFlowValue nodes (get_or flows k d)
each-fits nodes rows [] says k d h = absurd (omega arith)
each-fits nodes [] (flow ∷ flows) says k d h = cc says
each-fits nodes (row ∷ rows) (flow ∷ flows) says zero d h = row-fits nodes row flow cc
each-fits nodes (row ∷ rows) (flow ∷ flows) says (suc k) d h = each-fits nodes rows flows (cc) k d (omega arith)

-- keys with one number are the same
pub same-numbers : (a b : FlowKey) → IsKeyValue a → IsKeyValue b → number a ≡ number b → a ≡ b
unfolding octets
same-numbers a b p q e = same_octets a b p q (rw e refl)

pub opening_fits : (all : List Row) (opening : Opening) → IsOpening all opening → IsFit all opening
opening_fits all opening o =
    let fits = each-fits opening.shape.nodes o.begins.others opening.flows o.begins.say_flows in
    let as_many : length o.begins.others ≡ length opening.flows =
    sym (length-map o.begins.others (later_row opening.shape.nodes)) ∙ ap length o.begins.say_flows ∙ length-map opening.flows (λ flow. Ok (Some flow)) in
    let sound : length o.sound ≡ length o.begins.others + 1 = rw o.begins.split (omega arith) in
    let total : length all ≡ length o.sound + (length o.after + 1) = rw o.split (rw length-append (omega arith)) in
    let number = o.number in
    record {
      distinct = o.begins.distinct;
      handled = λ k d h. (fits k d h).node;
      values = fits;
      begin_row = omega arith;
      within = omega arith;
    }
