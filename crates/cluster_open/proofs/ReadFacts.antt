-- What an input that was read says.
use Rattle.std.proofs.Common.{◌≡◌, ◌∙◌, ◌+◌, ℕ, List, length, drop, Option, None, Some, Ok, refl, ap}
use Rattle.std.specs.Prelude.{All, IfSome, option_map}
use Rattle.std.specs.Result.{result_err}
use Rattle.std.proofs.lemmas.List.Elements.{All-weaker}
use Rattle.csv_rows.specs.Rows.{rows}
use Rattle.flow_reader.specs.Fit.{IsFit}
use Rattle.flow_reader.specs.declared.opening.Opening.{Opening}
use Rattle.flow_reader.proofs.FirstBadFacts.{opening-law}
use Rattle.flow_reader.proofs.FlowFacts.{opening_fits}
use Rattle.group_search.specs.Build.{PastLimit, past_limit}
use Rattle.packet_reader.specs.declared.event.Event.{Event}
use Rattle.packet_reader.specs.declared.mode.Mode.{Mode}
use Rattle.packet_reader.specs.Form.{IsFormed, IsRowOf, IsScriptOf}
use Rattle.packet_reader.proofs.FirstBadFacts.{script-law}
use Rattle.packet_reader.specs.Events.{events_in}
use Rattle.packet_reader.proofs.Forms.{scripts_are_formed}
use Rattle.run_model.specs.Laws.{CanBeOpened}
use Rattle.cluster_open.specs.declared.fault.InputFault.{InputFault}
use Rattle.cluster_open.specs.FirstBad.{CanRun}
use Rattle.cluster_open.specs.Input.{fault_in, input_in, input_of_build, opened}
use Rattle.cluster_open.specs.Limits.{fault_of_limit}
use Rattle.cluster_open.specs.Reading.{IsReadFrom}
use Rattle.cluster_open.proofs.InputFacts.{can-open, rows_counted}

module _ (mode : Mode) (octets : List ℕ) (opening : Opening) (script : List Event) (read : IsReadFrom mode octets opening script) where
  -- its keys are distinct and its nodes the shape's
  pub fits : IsFit (rows octets) opening
  fits = opening_fits (rows octets) opening read.readable.opens

  pub scripted : IsScriptOf mode opening.shape script
  scripted = scripts_are_formed mode opening.shape (drop opening.begin_row (rows octets)) script read.readable.goes_on

  pub formed : All (IsFormed mode opening.shape) script
  formed = All-weaker (IsRowOf mode opening.shape) (IsFormed mode opening.shape) (λ event is. is.formed) script scripted.rows

  pub counted : length (rows octets) ≡ opening.begin_row + length script + 1
  counted = rows_counted mode (rows octets) (drop opening.begin_row (rows octets)) opening script read.readable.opens refl read.readable.goes_on

  -- a cluster can be opened by it, where no block is past a limit
  pub opens : past_limit opening.shape opening.flows ≡ None → CanBeOpened (opened opening)
  opens within = can-open (rows octets) opening read.readable.opens within

  pub runs : past_limit opening.shape opening.flows ≡ None → CanRun mode (rows octets) (record { opening = opening; script = script })
  runs within = record { readable = read.readable; within = within }

  says_build : input_in mode octets ≡ input_of_build opening script (past_limit opening.shape opening.flows)
  unfolding input_in
  says_build =
      let opens_so = ((opening-law (rows octets)).made opening).1 read.readable.opens in
      let goes_on = ((script-law (events_in mode opening.shape) opening.begin_row (drop opening.begin_row (rows octets))).made script).1 read.readable.goes_on in
      rw (opens_so, goes_on) refl

  pub input_of_read : past_limit opening.shape opening.flows ≡ None → input_in mode octets ≡ Ok (record { opening = opening; script = script })
  input_of_read within = says_build ∙ ap (input_of_build opening script) within

  of_cause : (past : Option PastLimit) (fault : InputFault) → option_map fault_of_limit past ≡ Some fault → result_err (input_of_build opening script past) ≡ Some fault
  of_cause None fault e = cc e
  of_cause (Some past) fault e = e

  -- the fault that is named, if one is
  pub fault_of_read : (named : Option InputFault) → IfSome named (λ fault. option_map fault_of_limit (past_limit opening.shape opening.flows) ≡ Some fault)
      → IfSome named (λ fault. fault_in mode octets ≡ Some fault)
  fault_of_read None e = e
  fault_of_read (Some fault) e = ap result_err says_build ∙ of_cause (past_limit opening.shape opening.flows) fault e
