-- What a run comes to that reads nothing.
use Rattle.std.proofs.Common.{◌≡◌, ◌⊎◌, ℕ, ◌<◌, ◌≤◌, ◌↔◌, List, length, drop, Option, None, Some, Result, Ok, Err, IfSome, ap, inl, inr, arith, length-drop}
use Rattle.cluster_open.specs.declared.fault.InputFault.{InputFault}
use Rattle.cluster_open.specs.declared.fault.InputFault.TheVariants.{Bad, BlockFull, RowsFull, OutOfMemory}
use Rattle.sb_io.specs.Streams.{ReadsCount}
use Rattle.scalebricks.specs.Run.{outcome_status}
use Rattle.scalebricks.specs.Status.{code}
use Rattle.scalebricks.specs.Status.Status.{NoMemory, TooLarge, WriteFailed}

-- a source that stays as it was gave no octet
pub ReadsCount-same : (left : Option (List ℕ)) (count : ℕ) (P : Type 0) → 0 < count → (P → ⊥) → IfSome left (λ octets. P ↔ ReadsCount octets left count)
ReadsCount-same None count P some never = tt
ReadsCount-same (Some xs) count P some never =
    (λ p. absurd (never p), λ read. let same : xs ≡ drop count xs = cc in absurd (omega (arith, read.0, ap length same, length-drop count xs)))

outcome_status-low : (outcome : Result (List ℕ) InputFault) → outcome_status outcome ≤ 5
outcome_status-low (Ok report) = omega arith
outcome_status-low (Err (Bad row)) = omega arith
outcome_status-low (Err (BlockFull block)) = omega arith
outcome_status-low (Err (RowsFull block)) = omega arith
outcome_status-low (Err OutOfMemory) = omega arith

-- a grind never says that an input is too large
pub never_too_large : (outcome : Result (List ℕ) InputFault) (status : ℕ) → (status ≡ outcome_status outcome) ⊎ ((status ≡ code WriteFailed) ⊎ (status ≡ code NoMemory)) → status ≡ code TooLarge → ⊥
never_too_large outcome status (inl own) is = let low = outcome_status-low outcome in omega (arith, own, is, low)
never_too_large outcome status (inr (inl failed)) is = omega (arith, failed, is)
never_too_large outcome status (inr (inr lacks)) is = omega (arith, lacks, is)
