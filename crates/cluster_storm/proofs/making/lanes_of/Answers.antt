use Rattle.std.proofs.Common.{◌≡◌, ◌∙◌, [], ◌∷◌, ◌++◌, length, rules, refl, ap, sym, subst, arith, append_assoc}
use Rattle.std.specs.Vec.Iter.{into_iter_items}
use Rattle.std.proofs.lemmas.List.{map-append}
use Rattle.storm_lane.specs.Lane.{LaneState}
use Rattle.cluster_storm.specs.Opening.{IsLaneOf}
use Rattle.cluster_storm.proofs.Numbered.{one_more}
use Rattle.cluster_storm.proofs.making.lanes_of.Goals as goal

pub readers-preserved : goal.readers-preserved
readers-preserved c =
    let at = c.readers in
    let own = c.in-Some.own in
    let steps : into_iter_items at.own-iterator ≡ own ∷ into_iter_items c.next.new.self = c.in-Some.ensures.steps.0 in
    let pushed : c.push.new.self.items ≡ at.made.items ++ c.new.result ∷ [] = search rules in
    let count : c.len-number.result ≡ length at.made.items = search rules in
    let of : c.new.result.readers ≡ own.items = ap (λ (l : LaneState). l.readers) c.new.ensures in
    rw pushed (record {
      whole = append_assoc at.yielded (own ∷ []) _ ∙ rw (← steps) at.invariant.whole;
      left = let was = at.invariant.left in let gone = c.in-Some.ensures.steps.1 in let short = ap length steps in omega arith;
      of = map-append (λ (l : LaneState). l.readers) at.made.items (c.new.result ∷ []) ∙ (λ i. at.invariant.of i ++ of i ∷ [])
          ∙ sym (map-append (λ v. v.items) at.yielded (own ∷ []));
      numbered = one_more (IsLaneOf c.args.shape c.args.lanes) at.made.items c.new.result c.len-number.result count at.invariant.numbered
          (subst (IsLaneOf c.args.shape c.args.lanes c.len-number.result) (sym c.new.ensures) (record { sized = refl; numbered = refl; one_of = refl }));
    })
