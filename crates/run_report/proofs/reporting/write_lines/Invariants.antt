use Rattle.std.proofs.Common.{◌≡◌, ◌≤◌, ◌++◌, drop}
use Rattle.run_report.specs.Report.{lines}
use Rattle.run_report.proofs.reporting.write_lines.Given as goal

-- the text so far and the lines of what is left are the text at first and the lines of all
abbrev pub invariant-events : goal.invariant-events
invariant-events l = record {
  few : l.packets ≤ l.index;
  so_far : l.text.items ++ lines l.packets (drop l.index l.script) (drop l.index l.replies) ≡ l.initial.text.items ++ lines 0 l.script l.replies;
}
