use Rattle.std.proofs.Common.{◌≡◌, ◌<◌, [], ℕ, get_or, take, length}
use Rattle.setsep_build.specs.Placing.{gathered}
use Rattle.setsep_build.proofs.groups.Groups.gather.Given as goal

abbrev pub invariant-placed : goal.invariant-placed
invariant-placed l = record {
  count : length l.self-inside.groups.items ≡ 64;
  each : (group : ℕ) → group < 64 → get_or l.self-inside.groups.items group [] ≡ gathered l.of_bucket group (take l.one-index l.placed);
}
