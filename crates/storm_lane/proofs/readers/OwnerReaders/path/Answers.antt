-- The ingress's view and the reader of the node that it sends to have seen more.
use Rattle.std.proofs.Common.{◌≡◌, ◌∙◌, ◌++◌, ◌<◌, List, length, take, drop, sym, ap, subst}
use Rattle.std.specs.Prelude.{slice_set}
use Rattle.group_search.specs.Owned.{IsOwned}
use Rattle.partial_fib.specs.Ends.{ReaderState}
use Rattle.packet_path.specs.Fibs.{AsksOne}
use Rattle.packet_path.specs.Path.{route_at}
use Rattle.storm_lane.specs.Readers.{HaveSeenMore, ReadersState, seats_of}
use Rattle.storm_lane.proofs.OwnersSeen.{path-gives, path-more, path-owners, path-seats, view-fibs, view-owned}
use Rattle.storm_lane.proofs.Rows.{all-new}
use Rattle.storm_lane.proofs.readers.OwnerReaders.path.Given as given
use Rattle.storm_lane.proofs.readers.OwnerReaders.path.Goals as goal

module _ (g : given.Over) (c : goal.After-as_mut_slice g) where
  abbrev was : ReadersState
  was = record { size = c.self.inside.shape; owner = c.self.inside.owner; views = c.self.inside.views.items; fibs = c.self.inside.fibs.items }

  whole : length was.views ≡ was.size.nodes
  whole = subst (λ (r : ReadersState). length r.views ≡ r.size.nodes) (sym c.self.view_is) c.requires.whole

  entered : c.args.ingress < was.size.nodes
  entered = subst (λ (r : ReadersState). c.args.ingress < r.size.nodes) (sym c.self.view_is) c.requires.entered

pub path-requires-clause-owned : goal.path-requires-clause-owned
path-requires-clause-owned g c =
    view-owned (was g c) c.self.invariant (whole g c) c.args.ingress (entered g c) c.index_mut-view.result.now c.index_mut-view.ensures.value c.args.key.now
    (subst (λ (r : ReadersState). IsOwned r.size r.owner c.args.key.now) (sym c.self.view_is) c.requires.owned)

pub path-requires-clause-fibs : goal.path-requires-clause-fibs
path-requires-clause-fibs g c =
    view-fibs (was g c) c.self.invariant (whole g c) c.args.ingress (entered g c) c.index_mut-view.result.now c.index_mut-view.ensures.value c.as_mut_slice.result.now c.as_mut_slice.ensures.value

module _ (g : given.Over) (c : goal.After-self-2-1 g) where
  abbrev before : ReadersState
  before = record { size = c.self.inside.shape; owner = c.self.inside.owner; views = c.self.inside.views.items; fibs = c.self.inside.fibs.items }

  abbrev new_fibs : List ReaderState
  new_fibs = take c.self.inside.fibs.len (c.path.new.fibs ++ drop (length c.path.new.fibs) c.self.inside.fibs.items)

  all-before : length before.views ≡ before.size.nodes
  all-before = subst (λ (r : ReadersState). length r.views ≡ r.size.nodes) (sym c.self.view_is) c.requires.whole

  in-before : c.args.ingress < before.size.nodes
  in-before = subst (λ (r : ReadersState). c.args.ingress < r.size.nodes) (sym c.self.view_is) c.requires.entered

  asks : AsksOne (route_at c.path.new.self.shard c.path.new.self.list c.args.key.now).node before.fibs c.path.new.fibs
  asks = subst (λ (rs : List ReaderState). AsksOne (route_at c.path.new.self.shard c.path.new.self.list c.args.key.now).node rs c.path.new.fibs) c.as_mut_slice.ensures.value c.path.ensures.asked

  put : new_fibs ≡ c.path.new.fibs
  put = all-new c.self.inside.fibs.items c.path.new.fibs c.self.inside.fibs.len (c.path.ensures.asked.many ∙ c.as_mut_slice.ensures.len)

pub invariant_of-self : goal.invariant_of-self
invariant_of-self g c =
    path-owners (before g c) c.self.invariant (all-before g c) c.args.ingress (in-before g c) c.index_mut-view.result.now c.index_mut-view.ensures.value c.path.new.self c.path.ensures.shard
    (route_at c.path.new.self.shard c.path.new.self.list c.args.key.now).node c.path.new.fibs (new_fibs g c) (put g c) (asks g c)

pub returns-clause-seats : goal.returns-clause-seats
returns-clause-seats g c =
    path-seats (before g c) c.self.invariant (all-before g c) c.args.ingress (in-before g c) c.index_mut-view.result.now c.index_mut-view.ensures.value c.path.new.self c.path.ensures.shard
    (route_at c.path.new.self.shard c.path.new.self.list c.args.key.now).node c.path.new.fibs (new_fibs g c) (put g c) (asks g c)
    ∙ ap seats_of c.self.view_is

pub returns-clause-more : goal.returns-clause-more
returns-clause-more g c =
    subst (λ (r : ReadersState). HaveSeenMore r (record { size = c.self.inside.shape; owner = c.self.inside.owner; views = slice_set c.self.inside.views.items c.args.ingress c.path.new.self; fibs = new_fibs g c })) c.self.view_is
    (path-more (before g c) c.self.invariant (all-before g c) c.args.ingress (in-before g c) c.index_mut-view.result.now c.index_mut-view.ensures.value c.path.new.self c.path.ensures.shard
    (route_at c.path.new.self.shard c.path.new.self.list c.args.key.now).node c.path.new.fibs (new_fibs g c) (put g c) (asks g c) c.path.ensures.later)

pub returns-clause-said : goal.returns-clause-said
returns-clause-said g c =
    c.path.ensures.said
    ∙ path-gives (before g c) c.self.invariant (all-before g c) c.args.ingress (in-before g c) c.index_mut-view.result.now c.index_mut-view.ensures.value c.path.new.self c.path.ensures.shard
    (route_at c.path.new.self.shard c.path.new.self.list c.args.key.now).node c.path.new.fibs (new_fibs g c) (put g c) (asks g c) c.args.key.now
