-- The readers of the key's owner answer.
use Rattle.std.proofs.Common.{◌≡◌, ◌∙◌, ◌<◌, ℕ, Some, sym, ap, subst, get_or, set}
use Rattle.std.specs.List.{slice_get}
use Rattle.flow_types.specs.Size.{Size, owners_in}
use Rattle.storm_model.specs.Lists.{reply_by_lists}
use Rattle.storm_lane.specs.Lane.{all_seats, lists_of, parts_of}
use Rattle.storm_lane.specs.Readers.{ReadersState}
use Rattle.storm_lane.proofs.LanesSeen.{it-owns, its-nodes, its-size, lane-later, lane-says, lane-seats, owner-low, there, within}
use Rattle.storm_lane.proofs.walking.answer.Given as given
use Rattle.storm_lane.proofs.walking.answer.Goals as goal

low : (size : Size) (owner own : ℕ) → owner ≡ own → own < owners_in size → owner < owners_in size
low size owner own is below = subst (λ (o : ℕ). o < owners_in size) (sym is) below

pub bounds-readers-owner : goal.bounds-readers-owner
bounds-readers-owner g c =
    within c.args.shape c.args.readers.now c.requires.whole c.owner_of-owner.result
    (low c.args.shape c.owner_of-owner.result _ c.owner_of-owner.ensures (owner-low c.args.shape c.numbers_of_a_shape.ensures c.of-key.result))

pub path-requires-clause-owned : goal.path-requires-clause-owned
path-requires-clause-owned g c =
    it-owns c.args.shape c.args.readers.now c.requires.whole c.owner_of-owner.result
    (low c.args.shape c.owner_of-owner.result _ c.owner_of-owner.ensures (owner-low c.args.shape c.numbers_of_a_shape.ensures c.of-key.result))
    c.index-readers-owner.result c.of-key.result c.owner_of-owner.ensures

pub path-requires-clause-whole : goal.path-requires-clause-whole
path-requires-clause-whole g c =
    its-nodes c.args.shape c.args.readers.now c.requires.whole c.owner_of-owner.result
    (low c.args.shape c.owner_of-owner.result _ c.owner_of-owner.ensures (owner-low c.args.shape c.numbers_of_a_shape.ensures c.of-key.result))
    c.index-readers-owner.result

pub path-requires-clause-entered : goal.path-requires-clause-entered
path-requires-clause-entered g c =
    subst (λ (s : Size). c.args.ingress < s.nodes)
    (sym (its-size c.args.shape c.args.readers.now c.requires.whole c.owner_of-owner.result
    (low c.args.shape c.owner_of-owner.result _ c.owner_of-owner.ensures (owner-low c.args.shape c.numbers_of_a_shape.ensures c.of-key.result))
    c.index-readers-owner.result)) c.requires.entered

module _ (g : given.Over) (c : goal.After-path g) where
  abbrev old : ReadersState
  old = get_or c.args.readers.now c.owner_of-owner.result c.index-readers-owner.result

  known : c.owner_of-owner.result < owners_in c.args.shape
  known = low c.args.shape c.owner_of-owner.result _ c.owner_of-owner.ensures (owner-low c.args.shape c.numbers_of_a_shape.ensures c.of-key.result)

  was : slice_get c.args.readers.now c.owner_of-owner.result ≡ Some old
  was = there c.args.shape c.args.readers.now c.requires.whole c.owner_of-owner.result known c.index-readers-owner.result

pub returns-clause-seats : goal.returns-clause-seats
returns-clause-seats g c = lane-seats c.args.readers.now c.owner_of-owner.result (old g c) c.path.new.self (was g c) c.path.ensures.seats

pub returns-clause-later : goal.returns-clause-later
returns-clause-later g c = lane-later c.args.readers.now c.owner_of-owner.result (old g c) c.path.new.self (was g c) c.path.ensures.seats c.path.ensures.more

pub returns-clause-said : goal.returns-clause-said
returns-clause-said g c =
    let size_is = its-size c.args.shape c.args.readers.now c.requires.whole c.owner_of-owner.result (known g c) c.index-readers-owner.result in
    c.path.ensures.said
    ∙ lane-says c.args.readers.now c.owner_of-owner.result (old g c) c.path.new.self (was g c) c.path.ensures.seats c.args.shape
    ((λ i. (c.path.ensures.seats i).size) ∙ size_is) c.args.ingress c.of-key.result c.owner_of-owner.ensures
    ∙ ap (reply_by_lists c.args.shape (parts_of (all_seats c.args.readers.now)) (lists_of (set c.args.readers.now c.owner_of-owner.result c.path.new.self)) c.args.ingress) c.of-key.ensures
