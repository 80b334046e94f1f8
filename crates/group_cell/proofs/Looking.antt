-- A seat's look after each of its loads.
use Rattle.std.proofs.Common.{◌≡◌, ℕ, List, [], ◌∷◌, ◌++◌, refl, sym, ap, ◌∙◌, subst, Some, None}
use Rattle.atomic_table.specs.Table.{Me}
use Rattle.group_cell.specs.declared.view.Load.{Load}
use Rattle.group_cell.specs.declared.view.Sight.{Sight}
use Rattle.group_cell.specs.declared.view.View.{View}
use Rattle.group_cell.specs.declared.view.View.TheVariants.{Reader}
use Rattle.group_cell.specs.Rule.{HasLoad}
use Rattle.group_cell.specs.Plays.{reader_view, IsReader, load, loaded_in, loaded}
use Rattle.group_cell.specs.Seating.{CellSeat, look_in, last_look, the_look, loads_of, IsSameSeat, IsLooking, GoesOn}
use Rattle.group_cell.proofs.Finding.{loads_more, loads_last}

module _ (s t : CellSeat) (x : Load) (same : IsSameSeat s t) (e : t.me ≡ (Reader (loaded x (reader_view s.me.0)), s.me.1)) (l : IsLooking s) where
  last_is : last_look t ≡ Some (record (the_look s) { loads = (the_look s).loads ++ x ∷ [] })
  last_is = ap (λ (m : Me ℕ View). (reader_view m.0).last) e ∙ ap (loaded_in x) l.last

  look_is : the_look t ≡ record (the_look s) { loads = (the_look s).loads ++ x ∷ [] }
  look_is = ap look_in last_is

  pub loads_are : loads_of t ≡ loads_of s ++ x ∷ []
  loads_are = ap (λ (q : Sight). q.loads) look_is

  pub still_looking : IsLooking t
  still_looking = record {
    reads = subst (λ (m : Me ℕ View). IsReader m.0) (sym e) refl;
    last = last_is ∙ ap Some (sym look_is);
    goes_on = ap (λ (q : Sight). q.second) look_is ∙ l.goes_on;
  }

  pub look_goes_on : GoesOn s t
  look_goes_on = record {
    same = same;
    view = ap (λ (m : Me ℕ View). record (reader_view m.0) { last = None }) e;
    at = ap (λ (q : Sight). q.at) look_is;
    first = ap (λ (q : Sight). q.first) look_is;
    loads = λ y has. subst (λ (ls : List Load). HasLoad ls y) (sym loads_are) (loads_more (loads_of s) (x ∷ []) y has);
    bare = ap (λ (m : Me ℕ View). m.1) e;
  }

  pub has_it : HasLoad (loads_of t) x
  has_it = subst (λ (ls : List Load). HasLoad ls x) (sym loads_are) (loads_last (loads_of s) x)

pub goes_on-self : (s : CellSeat) → GoesOn s s
goes_on-self s = record { same = (refl, refl); view = refl; at = refl; first = refl; loads = λ x has. has; bare = refl }

pub goes_on-trans : (r s t : CellSeat) → GoesOn r s → GoesOn s t → GoesOn r t
goes_on-trans r s t a b = record {
  same = (b.same.0 ∙ a.same.0, b.same.1 ∙ a.same.1);
  view = b.view ∙ a.view;
  at = b.at ∙ a.at;
  first = b.first ∙ a.first;
  loads = λ x has. b.loads x (a.loads x has);
  bare = b.bare ∙ a.bare;
}

-- the load of a word that is at its place
pub has_at : (loads before : List Load) (word place found : ℕ) → loads ≡ before ++ load word found ∷ [] → word ≡ place → HasLoad loads (load place found)
has_at loads before word place found e is = subst (λ (ls : List Load). HasLoad ls (load place found)) (sym e) (subst (λ (w : ℕ). HasLoad (before ++ load w found ∷ []) (load place found)) (sym is) (loads_last before (load place found)))
