use Rattle.std.proofs.Common.{arith, ◌≡◌, ℕ, ◌/◌, get_or, refl, sym, ap, ◌∙◌, subst, None, Option, IfSome}
use Rattle.atomic_table.specs.Table.{Me}
use Rattle.group_search.specs.Home.{Home}
use Rattle.group_search.specs.Published.{count, record_at}
use Rattle.group_cell.specs.declared.view.Address.{Address}
use Rattle.group_cell.specs.declared.view.View.{View}
use Rattle.group_cell.specs.declared.view.WriterView.{WriterView}
use Rattle.group_cell.specs.Opening.{Opened}
use Rattle.group_cell.specs.Layout.{datum, home_of, sequence}
use Rattle.group_cell.specs.Rule.{Holds, IsIn, Rests, Stands, latest, nodes_of}
use Rattle.group_cell.specs.Plays.{writer_view}
use Rattle.group_cell.specs.Seating.{StandsFound}
use Rattle.group_cell.specs.Seats.{opened_with, the_group}
use Rattle.group_cell.proofs.Answering.{own_node, own_node_below}
use Rattle.group_cell.proofs.Reading.{halves}
use Rattle.group_cell.proofs.table.CellTable.look_own_hashed.Goals as goal

-- the group rests, since nothing is in writing
rests : (w : WriterView) (o : Opened) (at : Home) → Stands w → w.writing ≡ None → w.opening ≡ o → IsIn o at → Rests w at
rests w o at s idle e inside = s.rest at (subst (λ (x : Opened). IsIn x at) (sym e) inside) (subst (λ (x : Option Address). IfSome x (λ a. home_of a ≡ at → ⊥)) (sym idle) tt)

-- what stands of it is the record of the version that its sequence word tells
holds_latest : (w : WriterView) (o : Opened) (at : Home) (version : ℕ) → Stands w → w.writing ≡ None → w.opening ≡ o → IsIn o at → (found : ℕ) → found ≡ sequence w.words at → version ≡ found / 2
    → Holds o.size.nodes w.words at (record_at o.images w.published at version)
holds_latest w o at version s idle e inside found is half =
    let r = rests w o at s idle e inside in let even = r.version in let counted : version ≡ count w.published at = omega arith in
    subst (λ (n : ℕ). Holds o.size.nodes w.words at (record_at o.images w.published at n)) (sym counted) (subst (λ (x : Opened). Holds (nodes_of x) w.words at (latest x w.published at)) e r.holds)

pub overflow_cast-result : goal.overflow_cast-result
overflow_cast-result c = let w = writer_view c.args.writer.now.seat.me.0 in let at = the_group c.args.block c.args.group in
    let half = halves w c.ask-sequence.ensures.stands at (subst (λ (x : Opened). IsIn x at) (sym c.requires.writer.one_opening) c.requires.inside) in let small = half.1 in
    let found : c.ask-sequence.result ≡ sequence w.words at = c.ask-sequence.ensures.found ∙ ap (λ (i : ℕ). get_or w.words i 0) c.sequence_word.ensures in omega arith

pub returns-clause-node : goal.returns-clause-node
returns-clause-node c = let w = writer_view c.args.writer.now.seat.me.0 in let o = opened_with c.args.self.now in let at = the_group c.args.block c.args.group in
    let ask = c.ask-sequence.ensures in let load = c.ask_data-words.ensures in
    let found : c.ask-sequence.result ≡ sequence w.words at = ask.found ∙ ap (λ (i : ℕ). get_or w.words i 0) c.sequence_word.ensures in
    let holds = holds_latest w o at (c.ask-sequence.result / 2) ask.stands c.args.writer.now.writes.rests c.requires.writer.one_opening c.requires.inside c.ask-sequence.result found refl in
    own_node o _ _ c.ask_data-words.result c.args.key.now c.search-found.result _ c.args.self.now.shaped load.width c.decoded.ensures w.words at holds
    (λ j two. load.found j two ∙ ap (λ (m : Me ℕ View). datum (writer_view m.0).words at j) ask.kept)
    (λ many. subst (λ (m : Me ℕ View). StandsFound (writer_view m.0).words at 64 c.args.key.now c.search-found.result) (load.kept ∙ ask.kept) (c.search-found.ensures.found many))

pub returns-clause-in_cluster : goal.returns-clause-in_cluster
returns-clause-in_cluster c = let w = writer_view c.args.writer.now.seat.me.0 in let o = opened_with c.args.self.now in let at = the_group c.args.block c.args.group in
    let ask = c.ask-sequence.ensures in let load = c.ask_data-words.ensures in
    let found : c.ask-sequence.result ≡ sequence w.words at = ask.found ∙ ap (λ (i : ℕ). get_or w.words i 0) c.sequence_word.ensures in
    let holds = holds_latest w o at (c.ask-sequence.result / 2) ask.stands c.args.writer.now.writes.rests c.requires.writer.one_opening c.requires.inside c.ask-sequence.result found refl in
    own_node_below o _ _ c.ask_data-words.result c.args.key.now c.search-found.result _ c.args.self.now.shaped load.width c.decoded.ensures w.words at holds
    (λ j two. load.found j two ∙ ap (λ (m : Me ℕ View). datum (writer_view m.0).words at j) ask.kept)
    (λ many. subst (λ (m : Me ℕ View). StandsFound (writer_view m.0).words at 64 c.args.key.now c.search-found.result) (load.kept ∙ ask.kept) (c.search-found.ensures.found many))
