use Rattle.std.proofs.Common.{◌≡◌, ◌∷◌, [], List, length, refl, sym, ap, ◌∙◌, arith, inr}
use Rattle.std.specs.Prelude.{Ok}
use Rattle.std.proofs.lemmas.List.{append-nil}
use Rattle.std.proofs.lemmas.Result.{err_from_is_err_and}
use Rattle.std.specs.Vec.Iter.{into_iter_items}
use Rattle.group_search.specs.Image.{Image}
use Rattle.setsep_build.specs.Parts.{before_all, joined}
use Rattle.setsep_build.proofs.JoinedParts.{before_none, before_twice}
use Rattle.setsep_build.proofs.building.join_parts.Goals as goal

nothing_left : {X : Type 0} (xs : List X) → length xs ≡ 0 → xs ≡ []
nothing_left [] none = refl
nothing_left (x ∷ xs) none = absurd (omega arith)

pub parts-init : goal.parts-init
parts-init c =
    let gives = c.into_iter-part-iterator.ensures.into_iter_gives in
    record {
      so_far = sym (before_none _) ∙ ap (λ (images : List Image). before_all images (joined (λ part. part.items) (into_iter_items c.into_iter-part-iterator.result))) (sym c.new-images.ensures.items);
      left = omega (arith, gives.1, ap length gives.0, c.args.parts.ok);
    }

pub parts-preserved : goal.parts-preserved
parts-preserved c =
    let steps = c.in-Some.ensures.steps in
    let rest = joined (λ part. part.items) (into_iter_items c.next.new.self) in
    record {
      so_far = c.parts.invariant.so_far
          ∙ ap (λ parts. before_all c.parts.images.items (joined (λ part. part.items) parts)) (steps.0 ∙ ap (λ part. part ∷ into_iter_items c.next.new.self) c.in_ok-part.was)
          ∙ before_twice c.parts.images.items c.in_ok-part.field-0.items rest
          ∙ ap (λ (images : List Image). before_all images rest) (sym c.in_ok-append.ensures.items);
      left = omega (arith, c.parts.invariant.left, steps.1, ap length steps.0);
    }

pub returns-in_err-part-clause-refused : goal.returns-in_err-part-clause-refused
returns-in_err-part-clause-refused c =
    let p = err_from_is_err_and c.from_residual.result c.from_residual.ensures.1 in
    let all = c.into_iter-part-iterator.ensures.into_iter_gives.0 in
    rw (p.1, p.2)
    (inr (ap (joined (λ part. part.items)) (sym all) ∙ c.parts.invariant.so_far
    ∙ ap (λ parts. before_all c.parts.images.items (joined (λ part. part.items) parts)) (c.in-Some.ensures.steps.0 ∙ ap (λ part. part ∷ into_iter_items c.next.new.self) c.in_err-part.was)))

pub returns-clause-images : goal.returns-clause-images
returns-clause-images c =
    let all = c.into_iter-part-iterator.ensures.into_iter_gives.0 in
    let none = nothing_left (into_iter_items c.parts.part-iterator) (sym c.parts.invariant.left ∙ c.in-None.ensures.steps.0) in
    ap (joined (λ part. part.items)) (sym all) ∙ c.parts.invariant.so_far
    ∙ ap (λ parts. before_all c.parts.images.items (joined (λ part. part.items) parts)) none ∙ ap Ok (append-nil c.parts.images.items)
