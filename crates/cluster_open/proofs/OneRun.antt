-- A text that reports a script of rows has one list of replies.
use Rattle.std.proofs.Common.{◌≡◌, ◌∙◌, ◌^◌, ◌≤◌, ℕ, List, get_or, Result, Ok, sym, ap, subst, arith}
use Rattle.std.specs.Prelude.{All}
use Rattle.std.proofs.lemmas.List.Elements.{All-weaker}
use Rattle.csv_rows.specs.Rows.{rows}
use Rattle.flow_types.specs.declared.record.Flow.{Flow}
use Rattle.row_fields.specs.Ranges.{IsFlowValue}
use Rattle.flow_reader.specs.declared.opening.Opening.{Opening}
use Rattle.flow_reader.proofs.FlowFacts.{opening_fits}
use Rattle.packet_reader.specs.declared.event.Event.{Event}
use Rattle.packet_reader.specs.declared.event.Event.TheVariants.{Set, Del, Packet, Carry, Sync}
use Rattle.packet_reader.specs.declared.mode.Mode.{Mode}
use Rattle.packet_reader.specs.Form.{HasRecordValue, IsFormed, IsRowOf, IsScriptOf}
use Rattle.packet_reader.proofs.Forms.{scripts_are_formed}
use Rattle.run_model.specs.declared.reply.Reply.{Reply}
use Rattle.run_model.specs.Allowed.{Allowed}
use Rattle.run_report.specs.Law.{FlowFits, NumbersFit, SetFits}
use Rattle.run_report.specs.Report.{report}
use Rattle.run_report.proofs.OneRun.{one_report_one_run}
use Rattle.cluster_open.specs.declared.fault.InputFault.{InputFault}
use Rattle.cluster_open.specs.FirstBad.{AreReadable}
use Rattle.cluster_open.specs.Input.{Input, input_in, opened}
use Rattle.cluster_open.specs.Laws.{IsOneRun, OneReportOneList, OneTextOneRun, TextTells}
use Rattle.cluster_open.specs.Runs.{IsRunOf}
use Rattle.cluster_open.proofs.FirstBadFacts.{input_law}
use Rattle.cluster_open.proofs.InputFacts.{says-shape}

-- ---- the numbers of what rows say fit their types

flow_fits : (nodes : ℕ) (flow : Flow) → nodes ≤ 2 ^ 8 → IsFlowValue nodes flow → FlowFits flow
flow_fits nodes flow few is = record { node = omega (arith, is.node, few); record_value = is.record_value }

set_fits : (mode : Mode) (opening : Opening) → opening.shape.nodes ≤ 2 ^ 8 → (event : Event) → IsFormed mode opening.shape event → HasRecordValue event → SetFits event
set_fits mode opening few (Set flow) formed value = record { node = omega (arith, formed.in_range, few); record_value = value }
set_fits mode opening few (Del key) formed value = tt
set_fits mode opening few (Packet ingress key) formed value = tt
set_fits mode opening few (Carry node owner turn part) formed value = tt
set_fits mode opening few Sync formed value = tt

numbers_fit : (mode : Mode) (octets : List ℕ) (opening : Opening) (script : List Event) → AreReadable mode (rows octets) opening script → NumbersFit (opened opening) script
numbers_fit mode octets opening script readable =
    let shape = says-shape readable.opens.begins.first opening.shape readable.opens.begins.says_shape in
    let few : opening.shape.nodes ≤ 2 ^ 8 = omega (arith, shape.few_nodes) in
    let fit = opening_fits (rows octets) opening readable.opens in
    let scripted = scripts_are_formed mode opening.shape _ script readable.goes_on in
    record {
      nodes = few;
      flows = All-weaker (IsFlowValue opening.shape.nodes) FlowFits (λ flow is. flow_fits opening.shape.nodes flow few is) opening.flows fit.values;
      sets = λ k d low. set_fits mode opening few (get_or script k d) (scripted.rows k d low).formed (scripted.records k d low);
    }

-- ---- one list

module _ (mode : Mode) (octets : List ℕ) where
  one_list : OneReportOneList mode octets
  one_list opening script readable lanes others replies other one two same =
      one_report_one_run (opened opening) lanes others script replies other (numbers_fit mode octets opening script readable) one two same

  one_input : (text : List ℕ) (lanes others : ℕ) (one : IsRunOf mode lanes octets text) (other : IsRunOf mode others octets text) → one.input ≡ other.input
  one_input text lanes others one other =
      let says : input_in mode octets ≡ Ok one.input = ((input_law mode octets).said one.input).1 one.runs in
      let says_other : input_in mode octets ≡ Ok other.input = ((input_law mode octets).said other.input).1 other.runs in
      let same : ◌≡◌ {A = Result Input InputFault} (Ok one.input) (Ok other.input) = sym says ∙ says_other in
      cc

  -- two runs of one input
  one_replies : (text : List ℕ) (lanes others : ℕ) (input second : Input) (replies other : List Reply) → input ≡ second → AreReadable mode (rows octets) input.opening input.script
      → Allowed (opened input.opening) lanes input.script replies → Allowed (opened second.opening) others second.script other
      → text ≡ report input.script replies → text ≡ report second.script other → replies ≡ other
  one_replies text lanes others input second replies other is readable one two prints prints_other =
      let two_of : Allowed (opened input.opening) others input.script other = subst (λ (i : Input). Allowed (opened i.opening) others i.script other) (sym is) two in
      let report_of : report second.script other ≡ report input.script other = ap (λ (i : Input). report i.script other) (sym is) in
      one_list input.opening input.script readable lanes others replies other one two_of (sym prints ∙ prints_other ∙ report_of)

  one_run : OneTextOneRun mode octets
  one_run text lanes others one other =
      let input = one_input text lanes others one other in
      record {
        input = input;
        replies = one_replies text lanes others one.input other.input one.replies other.replies input one.runs.readable one.replied.allowed other.replied.allowed one.prints other.prints;
      }

pub text_tells : (mode : Mode) (octets : List ℕ) → TextTells mode octets
text_tells mode octets = record { one_list = one_list mode octets; one_run = one_run mode octets }
