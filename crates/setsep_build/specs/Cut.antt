-- How the blocks of a table are cut into runs of neighbours.
use Rattle.std.specs.Prelude.{ℕ, ◌≡◌, ◌+◌, ◌≤◌, List, [], ◌∷◌, length, All}
use Rattle.setsep_build.specs.declared.cutting.Run.{Run}

-- the runs follow one another, the first from block `from` on, and the last up to block `end`
abbrev pub Cover : (from end : ℕ) → List Run → Type 0
Cover from end [] = from ≡ end
Cover from end (run ∷ cut) = (run.first ≡ from) × Cover (from + run.count) end cut

-- the lengths of any two runs differ by at most one
abbrev pub AreEven : List Run → Type 0
AreEven cut = All (λ (a : Run). All (λ (b : Run). a.count ≤ b.count + 1) cut) cut

-- runs that cover the blocks in their order, and whose lengths differ by at most one
pub record IsCut (blocks runs : ℕ) (cut : List Run) : Type 0 where
  pub one_each : length cut ≡ runs
  pub covers : Cover 0 blocks cut
  pub even : AreEven cut
