-- Octets that were added to the totals of nodes.
use Rattle.std.specs.Prelude.{ℕ, List, sum_by, if◌then◌else◌, ◌==◌}
use Rattle.usage_meter.specs.declared.view.Add.{Add}

abbrev pub an_add : (node octets : ℕ) → Add
an_add node octets = record { node = node; octets = octets }

-- the octets that an add gives to a node
abbrev pub octets_for : (node : ℕ) → Add → ℕ
octets_for node add = if add.node == node then add.octets else 0

-- the octets of the adds for a node
abbrev pub usage : (node : ℕ) → List Add → ℕ
usage node adds = sum_by (octets_for node) adds

-- the octets of all adds
abbrev pub octets : List Add → ℕ
octets adds = sum_by (λ add. add.octets) adds
