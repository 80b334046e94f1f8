use Rattle.std.proofs.Common.{arith, ◌≡◌, ℕ, ◌*◌, ◌/◌, ◌%◌, List, [], ◌++◌, map, inl, inr, refl, ap, ◌∙◌, subst, eqb, ne_eqb, if◌then◌else◌, Bool, Option, Some, None}
use Rattle.group_cell.specs.declared.view.Load.{Load}
use Rattle.group_cell.specs.declared.view.Sight.{Sight}
use Rattle.group_cell.specs.Layout.{address}
use Rattle.group_cell.specs.Rule.{HasLoaded, IsEven}
use Rattle.group_cell.specs.Seating.{data_loads, loads_of, look_in}
use Rattle.group_cell.specs.Seats.{the_group, opened_with}
use Rattle.group_cell.proofs.Answering.{counted_now, few_loaded, has_datum, has_looked, is_looking, last_begun, loaded_whole, look_begun, node_below, node_is}
use Rattle.group_cell.proofs.Looking.{goes_on-trans}
use Rattle.group_cell.proofs.table.CellTable.look_hashed.Goals as goal

pub gather-words-requires-clause-looking : goal.gather-words-requires-clause-looking
gather-words-requires-clause-looking c = is_looking _ _ _ _ c.begin-first.ensures (let no = c.if-first-eq1.false in omega arith)

pub end-second-requires-clause-group : goal.end-second-requires-clause-group
end-second-requires-clause-group c = c.search-found.ensures.goes_on.at ∙ (c.gather-words.ensures.goes_on.at ∙ ap (λ (l : Sight). l.at) (look_begun _ _ _ _ c.begin-first.ensures))

pub returns-then-first-eq1-clause-changing : goal.returns-then-first-eq1-clause-changing
returns-then-first-eq1-clause-changing c = let first : ℕ = c.begin-first.result in let odd = c.if-first-eq1.true in
    let second : (if eqb (first % 2) 0 then None else Some first) ≡ Some first = ap (λ (b : Bool). if b then None else Some first) (ne_eqb (first % 2) 0 (λ e. omega arith)) in record {
      cause = inl (odd, refl);
      this_look = record { loads = []; last = last_begun _ _ _ _ c.begin-first.ensures ∙ (λ i. Some record { at = address (the_group c.args.block c.args.group); first = first; second = second i; loads = [] }) };
    }

pub returns-then-second-first-clause-changing : goal.returns-then-second-first-clause-changing
returns-then-second-first-clause-changing c = let g = goes_on-trans _ _ _ c.gather-words.ensures.goes_on c.search-found.ensures.goes_on in record {
  cause = inr ((let no = c.if-first-eq1.false in omega arith), c.if-second-first.true);
  this_look = record { loads = _; last = has_looked _ _ _ _ _ _ _ c.begin-first.ensures g c.search-found.ensures.looking c.end-second.ensures.view };
}

pub returns-clause-answer : goal.returns-clause-answer
returns-clause-answer c = let at = the_group c.args.block c.args.group in let first : ℕ = c.begin-first.result in let h = c.begin-first.ensures in let two = c.gather-words.ensures in
    let g = goes_on-trans _ _ _ two.goes_on c.search-found.ensures.goes_on in let l = c.search-found.ensures.looking in let e = c.end-second.ensures.view in
    let s0 = c.args.reader.now.seat in let s1 = c.begin-first.new.seat in let s3 = c.search-found.new.seat in let t = c.end-second.new.seat in
    let again = c.if-second-first.false in let even : IsEven first = (let no = c.if-first-eq1.false in omega arith) in let double : first ≡ 2 * (first / 2) = omega arith in
    let whole = loaded_whole s0 s1 s3 t at first c.end-second.result h g l e (opened_with c.args.self.now) c.requires.reader.one_opening even again c.end-second.ensures.whole in record {
      version_is = counted_now s0 s1 s3 t at first c.end-second.result h g l e;
      node_is = node_is (opened_with c.args.self.now) _ _ c.gather-words.result c.args.key.now c.search-found.result _ c.args.self.now.shaped two.width c.decoded.ensures _ at whole
          (λ j less. c.search-found.ensures.goes_on.loads _ (has_datum _ _ at _ two.loads j less)) c.search-found.ensures.found;
      this_look = record { loads = loads_of s3; last = has_looked s0 s1 s3 t at first c.end-second.result h g l e ∙ (λ i. Some record { at = address at; first = double i; second = Some ((again ∙ double) i); loads = loads_of s3 }) };
    }

pub returns-clause-in_cluster : goal.returns-clause-in_cluster
returns-clause-in_cluster c = let at = the_group c.args.block c.args.group in let first : ℕ = c.begin-first.result in let h = c.begin-first.ensures in let two = c.gather-words.ensures in
    let g = goes_on-trans _ _ _ two.goes_on c.search-found.ensures.goes_on in let l = c.search-found.ensures.looking in let e = c.end-second.ensures.view in
    let s0 = c.args.reader.now.seat in let s1 = c.begin-first.new.seat in let s3 = c.search-found.new.seat in let t = c.end-second.new.seat in
    let again = c.if-second-first.false in let even : IsEven first = (let no = c.if-first-eq1.false in omega arith) in
    let whole = loaded_whole s0 s1 s3 t at first c.end-second.result h g l e (opened_with c.args.self.now) c.requires.reader.one_opening even again c.end-second.ensures.whole in
    node_below (opened_with c.args.self.now) _ _ c.gather-words.result c.args.key.now c.search-found.result _ c.args.self.now.shaped two.width c.decoded.ensures _ at whole
    (λ j less. c.search-found.ensures.goes_on.loads _ (has_datum _ _ at _ two.loads j less)) c.search-found.ensures.found

pub returns-clause-served : goal.returns-clause-served
returns-clause-served c pairs served = let at = the_group c.args.block c.args.group in let first : ℕ = c.begin-first.result in let h = c.begin-first.ensures in let two = c.gather-words.ensures in
    let g = goes_on-trans _ _ _ two.goes_on c.search-found.ensures.goes_on in let l = c.search-found.ensures.looking in let e = c.end-second.ensures.view in
    let s0 = c.args.reader.now.seat in let s1 = c.begin-first.new.seat in let s3 = c.search-found.new.seat in let t = c.end-second.new.seat in let nodes = (opened_with c.args.self.now).size.nodes in
    let again = c.if-second-first.false in let even : IsEven first = (let no = c.if-first-eq1.false in omega arith) in
    let whole = loaded_whole s0 s1 s3 t at first c.end-second.result h g l e (opened_with c.args.self.now) c.requires.reader.one_opening even again c.end-second.ensures.whole in
    let few = few_loaded nodes (loads_of s3) at pairs _ (subst (HasLoaded nodes (loads_of s3) at) served whole) (c.search-found.ensures.goes_on.loads _ (has_datum _ _ at c.gather-words.result two.loads 0 (omega arith))) in
    let loads_are : loads_of s3 ≡ data_loads at c.gather-words.result =
    c.search-found.ensures.no_loads few ∙ (two.loads ∙ ap (λ (q : Sight). q.loads ++ data_loads at c.gather-words.result) (look_begun _ _ _ _ h)) in
    ap (λ (o : Option Sight). map (λ (x : Load). x.word) (look_in o).loads) (has_looked s0 s1 s3 t at first c.end-second.result h g l e) ∙ ap (λ (xs : List Load). map (λ (x : Load). x.word) xs) loads_are
