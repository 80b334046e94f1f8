-- The node's view has met the table, and its FIB's reader was told all.
use Rattle.std.proofs.Common.{◌≡◌, ◌∙◌, sym, ap, subst, Some}
use Rattle.std.specs.Prelude.{slice_set}
use Rattle.std.specs.List.{slice_get}
use Rattle.group_search.specs.declared.published.Publication.{Publication}
use Rattle.std.proofs.Common.{List}
use mathlib.Core.List.{IsPrefix}
use Rattle.storm_lane.specs.Readers.{AreOthersAsBefore, HaveSeenMore, ReadersState, seats_of}
use Rattle.storm_lane.proofs.OwnersSeen.{met-more, met-others, met-owners, met-records, met-seats, met-turns}
use Rattle.storm_lane.proofs.readers.OwnerReaders.meet_node.Given as given
use Rattle.storm_lane.proofs.readers.OwnerReaders.meet_node.Goals as goal

module _ (g : given.Over) (c : goal.After-self-2-1 g) where
  abbrev before : ReadersState
  before = record { size = c.self.inside.shape; owner = c.self.inside.owner; views = c.self.inside.views.items; fibs = c.self.inside.fibs.items }

  abbrev after : ReadersState
  after = record {
    size = c.self.inside.shape;
    owner = c.self.inside.owner;
    views = slice_set c.self.inside.views.items c.args.node c.meet.new.self;
    fibs = slice_set c.self.inside.fibs.items c.args.node c.told.new.reader;
  }

  table-there : slice_get (seats_of before).shards c.args.node ≡ Some c.args.table.now.shard
  table-there = subst (λ (r : ReadersState). slice_get (seats_of r).shards c.args.node ≡ Some c.args.table.now.shard) (sym c.self.view_is) c.requires.table

  fib-there : slice_get (seats_of before).books c.args.node ≡ Some c.args.fib.now.book
  fib-there = subst (λ (r : ReadersState). slice_get (seats_of r).books c.args.node ≡ Some c.args.fib.now.book) (sym c.self.view_is) c.requires.fib

pub invariant_of-self : goal.invariant_of-self
invariant_of-self g c =
    met-owners (before g c) c.self.invariant c.args.node c.index_mut-view.result.now c.meet.new.self c.index_mut-view.ensures.value c.args.table.now.shard (table-there g c)
    c.index_mut.result.now c.told.new.reader c.index_mut.ensures.value c.args.fib.now.book (fib-there g c) c.meet.ensures.shard c.args.fib.now.turns c.told.ensures.told c.told.ensures.before

pub returns-clause-seats : goal.returns-clause-seats
returns-clause-seats g c =
    met-seats (before g c) c.self.invariant c.args.node c.index_mut-view.result.now c.meet.new.self c.index_mut-view.ensures.value c.args.table.now.shard (table-there g c)
    c.index_mut.result.now c.told.new.reader c.index_mut.ensures.value c.args.fib.now.book (fib-there g c) c.meet.ensures.shard c.args.fib.now.turns c.told.ensures.told c.told.ensures.before
    ∙ ap seats_of c.self.view_is

pub returns-clause-records : goal.returns-clause-records
returns-clause-records g c =
    met-records (before g c) c.self.invariant c.args.node c.index_mut-view.result.now c.meet.new.self c.index_mut-view.ensures.value c.args.table.now.shard (table-there g c)
    c.index_mut.result.now c.told.new.reader c.index_mut.ensures.value c.args.fib.now.book (fib-there g c) c.meet.ensures.shard c.args.fib.now.turns c.told.ensures.told c.told.ensures.before
    ∙ c.meet.ensures.all

pub returns-clause-turns : goal.returns-clause-turns
returns-clause-turns g c =
    met-turns (before g c) c.self.invariant c.args.node c.index_mut-view.result.now c.meet.new.self c.index_mut-view.ensures.value c.args.table.now.shard (table-there g c)
    c.index_mut.result.now c.told.new.reader c.index_mut.ensures.value c.args.fib.now.book (fib-there g c) c.meet.ensures.shard c.args.fib.now.turns c.told.ensures.told c.told.ensures.before

pub returns-clause-others : goal.returns-clause-others
returns-clause-others g c =
    subst (λ (r : ReadersState). AreOthersAsBefore c.args.node r (after g c)) c.self.view_is
    (met-others (before g c) c.self.invariant c.args.node c.index_mut-view.result.now c.meet.new.self c.index_mut-view.ensures.value c.args.table.now.shard (table-there g c)
    c.index_mut.result.now c.told.new.reader c.index_mut.ensures.value c.args.fib.now.book (fib-there g c) c.meet.ensures.shard c.args.fib.now.turns c.told.ensures.told c.told.ensures.before)

pub returns-clause-more : goal.returns-clause-more
returns-clause-more g c =
    let longer = subst (λ (ps : List Publication). IsPrefix c.index_mut-view.result.now.list ps) (sym c.meet.ensures.all) c.meet.ensures.before in
    subst (λ (r : ReadersState). HaveSeenMore r (after g c)) c.self.view_is
    (met-more (before g c) c.self.invariant c.args.node c.index_mut-view.result.now c.meet.new.self c.index_mut-view.ensures.value c.args.table.now.shard (table-there g c)
    c.index_mut.result.now c.told.new.reader c.index_mut.ensures.value c.args.fib.now.book (fib-there g c) c.meet.ensures.shard c.args.fib.now.turns c.told.ensures.told c.told.ensures.before longer)
