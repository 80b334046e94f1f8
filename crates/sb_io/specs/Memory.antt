-- Sources and sinks in memory, as contracts see them.
use Rattle.std.specs.Prelude.{ℕ, List}

-- a source in memory
pub record Feed : Type 0 where
  -- the octets that are left
  pub left : List ℕ
  -- the numbers of the calls that fail, from 1
  pub failing : List ℕ
  -- how many calls there were, and how many of them failed
  pub calls : ℕ
  pub faults : ℕ

-- a sink in memory
pub record Store : Type 0 where
  -- the octets that it holds, and how many it has room for
  pub held : List ℕ
  pub limit : ℕ
  -- the numbers of the calls that fail, from 1
  pub failing : List ℕ
  -- how many calls there were, and how many of them failed
  pub calls : ℕ
  pub faults : ℕ
