-- Which node owns a key.
use Rattle.std.specs.Prelude.{ℕ, ◌≡◌, ◌%◌}
use Rattle.flow_types.specs.declared.key.FlowKey.{FlowKey}
use Rattle.flow_types.specs.Size.{Size}
use Rattle.hash_family.specs.Hash.{place}

-- the key's block belongs to the owner: blocks are dealt to the nodes in turn
abbrev pub IsOwned : Size → (owner : ℕ) → FlowKey → Type 0
IsOwned size owner key = (place size.blocks key).block % size.nodes ≡ owner
