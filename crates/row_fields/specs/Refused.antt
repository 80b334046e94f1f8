-- The bad row that a refusal names, and how it is printed.
use Rattle.std.specs.Prelude.{ℕ, List, codes, Option, Some, None}
use Rattle.flow_types.specs.declared.why.BadRow.{BadRow}
use Rattle.flow_types.specs.declared.why.Why.{Why}
use Rattle.flow_types.specs.Refusal.{bad_row_text}
use Rattle.row_fields.specs.declared.refused.RowRefused.{RowRefused}
use Rattle.row_fields.specs.declared.refused.RowRefused.TheVariants as refused

-- the row of this number is bad for this reason
abbrev pub bad_row : ℕ → Why → BadRow
bad_row row reason = record { row = row; why = reason }

-- the bad row that a refusal names; none at want of memory
abbrev pub named_row : RowRefused → Option BadRow
named_row (refused.Bad bad) = Some bad
named_row refused.OutOfMemory = None

-- how a refusal is printed
abbrev pub refused_text : RowRefused → List ℕ
refused_text (refused.Bad bad) = bad_row_text bad
refused_text refused.OutOfMemory = codes "out of memory"
