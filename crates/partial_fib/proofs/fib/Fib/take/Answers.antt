use Rattle.std.proofs.Common.{◌∙◌, ◌+◌, set, sym, ap, arith}
use Rattle.partial_fib.specs.Fib.{group_of_message, with_turn}
use Rattle.partial_fib.specs.Store.{FibStore, state_of}
use Rattle.partial_fib.proofs.Places.{count_of_message, low_version, one_more_at, same_turn}
use Rattle.partial_fib.proofs.fib.Fib.take.Goals as goal

pub overflow_add-index_mut : goal.overflow_add-index_mut
overflow_add-index_mut c =
    let message = c.args.message.now in
    let fib : FibStore = record {
      size = c.self.inside.shape;
      node = c.self.inside.node;
      owner = c.self.inside.owner;
      entries = c.self.inside.records;
      counts = c.self.inside.versions.items;
      taken = c.self.inside.taken;
    } in
    let is = count_of_message fib c.args.self.now message c.slot.result c.index_mut.result.now c.self.view_is c.requires.fits (c.requires.next.of_owner ∙ sym (ap (λ (f : FibStore). f.owner) c.self.view_is))
    c.self.invariant c.slot.ensures.value c.slot.ensures.there c.index_mut.ensures.value in
    let low = low_version fib.size fib.owner fib.taken fib.counts (group_of_message message) c.self.invariant is.own in
    omega (arith, low, is.count_is, c.requires.fits.last_turn, c.requires.next.next, ap (λ (f : FibStore). f.taken) c.self.view_is)

pub returns-clause-taken : goal.returns-clause-taken
returns-clause-taken c =
    let message = c.args.message.now in
    let fib : FibStore = record {
      size = c.self.inside.shape;
      node = c.self.inside.node;
      owner = c.self.inside.owner;
      entries = c.self.inside.records;
      counts = c.self.inside.versions.items;
      taken = c.self.inside.taken;
    } in
    let is = count_of_message fib c.args.self.now message c.slot.result c.index_mut.result.now c.self.view_is c.requires.fits (c.requires.next.of_owner ∙ sym (ap (λ (f : FibStore). f.owner) c.self.view_is))
    c.self.invariant c.slot.ensures.value c.slot.ensures.there c.index_mut.ensures.value in
    same_turn fib message c.change.new.self (set fib.counts c.slot.result (c.index_mut.result.now + 1))
    c.in_ok-change.ensures.changed
    (one_more_at fib (group_of_message message) c.slot.result c.index_mut.result.now is)
    ∙ ap (λ (f : FibStore). with_turn (state_of f) message) c.self.view_is
