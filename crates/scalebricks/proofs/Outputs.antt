-- What the output of a run tells.
use Rattle.std.proofs.Common.{◌≡◌, ℕ, List, None, Some, Result, Ok, Err, refl, sym, ap, inl, inr}
use Rattle.std.specs.Prelude.{IfOk, IfSome, OnOk}
use Rattle.std.specs.Result.{result_err}
use Rattle.packet_reader.specs.declared.mode.Mode.{Mode}
use Rattle.cluster_open.specs.declared.fault.InputFault.{InputFault}
use Rattle.cluster_open.specs.declared.fault.InputFault.TheVariants.{Bad, BlockFull, RowsFull, OutOfMemory}
use Rattle.cluster_open.specs.Input.{fault_in}
use Rattle.cluster_open.specs.Limits.{named_fault}
use Rattle.cluster_open.specs.Runs.{IsRunOf}
use Rattle.cluster_open.proofs.FirstBadFacts.{input_law}
use Rattle.scalebricks.specs.Printed.{IsRefused, printed}
use Rattle.scalebricks.specs.Run.{IsOutputOf, status_by}
use Rattle.scalebricks.specs.Status.{code}
use Rattle.scalebricks.specs.Status.Status.{Done, InputRefused}
use Rattle.scalebricks.specs.declared.output.Output.{Output}

module _ (mode : Mode) (lanes : ℕ) (octets : List ℕ) where
  no_fault : (text : List ℕ) → IsRunOf mode lanes octets text → fault_in mode octets ≡ None
  no_fault text run = ap result_err (((input_law mode octets).said run.input).1 run.runs)

  -- an input that has a run has no fault
  pub status_of_run : (text : List ℕ) → IsRunOf mode lanes octets text → code Done ≡ status_by (fault_in mode octets)
  status_of_run text run = sym (ap status_by (no_fault text run))

module _ (mode : Mode) (lanes : ℕ) (octets : List ℕ) (output : Output) where
  -- the output of a run
  pub run_output : IsRunOf mode lanes octets output.text.items → output.status ≡ code Done → IsOutputOf mode lanes octets output
  run_output run status = record { outcome = Ok output.text.items; comes_to = run; known = inl refl; prints = refl; status = status }

  -- the output of a fault that is named
  pub fault_output : (fault : InputFault) → IfSome (named_fault fault) (λ named. fault_in mode octets ≡ Some named) → IsRefused (Err fault)
      → output.text.items ≡ printed (Err fault) → output.status ≡ code InputRefused → IsOutputOf mode lanes octets output
  fault_output (Bad bad) is refused prints status = record { outcome = Err (Bad bad); comes_to = is; known = inr refused; prints = prints; status = status }
  fault_output (BlockFull block) is refused prints status = record { outcome = Err (BlockFull block); comes_to = is; known = inr refused; prints = prints; status = status }
  fault_output (RowsFull block) is refused prints status = record { outcome = Err (RowsFull block); comes_to = is; known = inr refused; prints = prints; status = status }
  fault_output OutOfMemory is refused prints status = absurd refused

-- the output of a fault, where there is memory for it
pub fault_outputs : {E : Type 0} (mode : Mode) (lanes : ℕ) (octets : List ℕ) (fault : InputFault) (made : Result Output E)
    → IfSome (named_fault fault) (λ named. fault_in mode octets ≡ Some named) → OnOk made (IsRefused (Err fault))
    → IfOk made (λ output. output.text.items ≡ printed (Err fault)) → IfOk made (λ output. output.status ≡ code InputRefused) → IfOk made (IsOutputOf mode lanes octets)
fault_outputs mode lanes octets fault (Ok output) is refused prints status = fault_output mode lanes octets output fault is refused prints status
fault_outputs mode lanes octets fault (Err error) is refused prints status = tt
