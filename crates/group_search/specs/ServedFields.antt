-- A `Served` is stored as the list of its pairs.
use Rattle.std.specs.Prelude.{◌≡◌, ◌++◌, ◌-◌, length, take, replicate}
use Rattle.group_search.specs.declared.served.Served.TheInside.{Inside}
use Rattle.flow_types.specs.Size.{most_value_bits}
use Rattle.group_search.specs.Served.{IsServed, zero_pair, padded, length_taken}

-- the fields come back from the pairs
pub same_fields : (s : Inside) → IsServed s.bits s.pairs
    → record { bits = length (take s.bits s.pairs); pairs = take s.bits s.pairs ++ replicate (most_value_bits - length (take s.bits s.pairs)) zero_pair } ≡ s
same_fields s h = rw (length_taken s.bits s.pairs h, padded s.bits s.pairs h)
