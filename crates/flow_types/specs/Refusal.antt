-- How the reasons for which a row is refused are printed.
use Rattle.std.specs.Prelude.{ℕ, List, ◌++◌, codes}
use Rattle.std.specs.Fmt.{decimal}
use Rattle.flow_types.specs.declared.why.Why.{Why}
use Rattle.flow_types.specs.declared.why.Why.TheVariants.{Fields, Kind, Number, Address, Node, Duplicate, NoBegin, CarryInStorm, TooManyPhases, NoEnd, AfterEnd}
use Rattle.flow_types.specs.declared.why.BadRow.{BadRow}

-- what is wrong with a row
abbrev pub why_text : Why → List ℕ
why_text Fields = codes "another number of fields than the kind of row has"
why_text Kind = codes "no kind of row or part that may stand here"
why_text Number = codes "a field that is no number in its range"
why_text Address = codes "a field that is no dotted address"
why_text Node = codes "a node that the cluster doesn't have"
why_text Duplicate = codes "a key that an earlier flow has"
why_text NoBegin = codes "the input ends before begin"
why_text CarryInStorm = codes "a carry in a run that has threads"
why_text TooManyPhases = codes "more syncs than a run with threads may have"
why_text NoEnd = codes "the input ends before end"
why_text AfterEnd = codes "a row after end"

-- the row's number, and what is wrong with it
abbrev pub bad_row_text : BadRow → List ℕ
bad_row_text bad = codes "row " ++ decimal bad.row ++ codes ": " ++ why_text bad.why
