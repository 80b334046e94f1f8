-- A key, its number, and what is kept at it.
use Rattle.std.proofs.Common.{◌≡◌, ◌∙◌, Bool, cond, List, Option, sym, ap}
use Rattle.std.specs.Map.{lookup}
use Rattle.flow_types.specs.declared.key.FlowKey.{FlowKey}
use Rattle.flow_types.specs.declared.record.Record.{Record}
use Rattle.flow_types.specs.Key.{key_of, number, same_key, IsKeyValue}
use Rattle.partial_fib.specs.Fib.{with_record}
use Rattle.partial_fib.specs.Store.{record_among}
use Rattle.flow_types.proofs.KeyNumbers.{key_of-number, reads_number}

-- what a change at a key makes of the records by their numbers
pub updated : (key : FlowKey) (info : Option Record) (old new : List (FlowKey × Record)) → IsKeyValue key
    → ((q : FlowKey) → lookup (same_key q) new ≡ cond (same_key key q) info (lookup (same_key q) old))
    → record_among new ≡ with_record (record_among old) (number key) info
updated key info old new h updates = λ i n.
    (updates (key_of n) ∙ ap (λ (same : Bool). cond same info (record_among old n)) (reads_number key n h)) i

pub record_at_key : (key : FlowKey) (entries : List (FlowKey × Record)) → IsKeyValue key → lookup (same_key key) entries ≡ record_among entries (number key)
record_at_key key entries h = ap (λ (k : FlowKey). lookup (same_key k) entries) (sym (key_of-number key h))
