use Rattle.std.proofs.Common.{◌≡◌, ◌≤◌, [], drop, vec_len, vec_capacity}
use Rattle.std.specs.Prelude.{replicate}
use Rattle.partial_fib.specs.History.{shared_fib}
use Rattle.partial_fib.proofs.sharing.dealing.dealt.Given as goal

-- the writer knows and shows what it did, and as many readers are given as were asked for
abbrev pub invariant-readers : goal.invariant-readers
invariant-readers g l =
    (l.pen.desk.place.me.0.client ≡ l.fn.pen.desk.place.me.0.client) × (l.pen.desk.shown.value ≡ l.fn.pen.desk.shown.value)
    × (drop l.pen.behind l.pen.log.items ≡ drop l.fn.pen.behind l.fn.pen.log.items)
    × (l.ends.items ≡ replicate l.counter (record { book = l.fn.past.book; opening = shared_fib l.fn.opening.log; turns = [] }))
    × (vec_capacity l.ends ≡ vec_capacity l.fn.ends) × (vec_len l.ends ≡ l.counter) × (l.counter ≤ l.readers)
