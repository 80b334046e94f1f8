use Rattle.std.proofs.Common.{◌≡◌, Result, Ok, Err, ap, sym, ◌∙◌}
use Rattle.gtpu_path.specs.declared.octets.Octets.{Octets}
use Rattle.gtpu_path.specs.declared.hexadecimal.HexRefused.{HexRefused}
use Rattle.gtpu_path.specs.declared.hexadecimal.HexRefused.TheVariants.{Odd, OutOfMemory}
use Rattle.gtpu_path.specs.Hex.{refusal_of}
use Rattle.hex.specs.declared.error.FromHexError.{FromHexError}
use Rattle.hex.specs.declared.error.FromHexError.TheVariants.{OddLength}
use Rattle.gtpu_path.proofs.Digits.{digit_of_error, odd_of_error, small_again}
use Rattle.gtpu_path.proofs.hexadecimal.decode.Goals as goal

-- the refusal that is answered
abbrev answered : Result Octets HexRefused → HexRefused
answered (Ok _) = OutOfMemory
answered (Err refusal) = refusal

odd_error : {A : Type 0} (r : Result A FromHexError) (error : FromHexError) → r ≡ Err OddLength → r ≡ Err error → refusal_of error ≡ Odd
odd_error r error odd is = ap refusal_of (ap error_or (sym is ∙ odd))
  where
    error_or : {A : Type 0} → Result A FromHexError → FromHexError
    error_or (Ok _) = OddLength
    error_or (Err error) = error

pub returns-in-Ok-clause-spelled : goal.returns-in-Ok-clause-spelled
returns-in-Ok-clause-spelled c = rw c.from_vec.ensures (small_again c.args.text.now c.in-Ok.octets.items c.in-Ok.ensures.ok)

pub returns-in-Err-clause-odd : goal.returns-in-Err-clause-odd
returns-in-Err-clause-odd c = (
  λ is. odd_of_error c.args.text.now c.in-Err.error c.in-Err.ensures.err (sym c.from.ensures ∙ ap answered is),
  λ odd. ap Err (c.from.ensures ∙ odd_error c.decode.result c.in-Err.error (c.decode.ensures.odd odd) c.in-Err.is),
)

pub returns-in-Err-clause-digit : goal.returns-in-Err-clause-digit
returns-in-Err-clause-digit c at is = digit_of_error c.args.text.now c.in-Err.error at c.in-Err.ensures.err (sym c.from.ensures ∙ ap answered is)
