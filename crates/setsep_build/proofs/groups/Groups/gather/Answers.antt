use Rattle.std.proofs.Common.{◌≡◌, ◌∙◌, ◌<◌, ◌++◌, ◌∷◌, [], List, ℕ, length, get_or, ap, arith, sym, refl}
use Rattle.std.proofs.lemmas.List.{get_or_default, length-set}
use Rattle.group_search.specs.declared.entry.Entry.{Entry}
use Rattle.setsep_build.specs.declared.placed.Placed.{Placed}
use Rattle.setsep_build.specs.Placing.{entry_in}
use Rattle.setsep_build.proofs.MoreGathered.{nobody, gathered_none, known_below, one_gathered}
use Rattle.setsep_build.proofs.groups.Groups.gather.Goals as goal

pub placed-init : goal.placed-init
placed-init c = record {
  count = c.self.invariant;
  each = λ group low.
      ap (λ (found : List (List Entry)). get_or found group []) c.self.view_is ∙ c.clear.ensures group [] (omega (arith, ap length c.self.view_is, c.self.invariant))
      ∙ sym (gathered_none c.args.of_bucket.now group);
}

pub placed-preserved : goal.placed-preserved
placed-preserved c =
    let found : List (List Entry) = c.placed.self-inside.groups.items in
    let one : Placed = get_or c.args.placed.now c.placed.one-index nobody in
    let at : ℕ = get_or c.args.of_bucket.now one.bucket 0 in
    let in_range : at < length found = omega (arith, known_below c.args.of_bucket.now one.bucket c.requires, c.placed.invariant.count) in
    let read : c.group.inside.entries.items ≡ get_or found at [] = c.group.view_is ∙ c.index_mut-group.ensures.value ∙ get_or_default found at _ [] in_range in
    let whole : c.push.new.self.items ≡ get_or found at [] ++ entry_in one ∷ [] = c.in_ok-push.ensures.items ∙ ap (λ (all : List Entry). all ++ c.entry.result ∷ []) read
    ∙ ap (λ (entry : Entry). get_or found at [] ++ entry ∷ []) c.entry.ensures in
    record {
      count = omega (arith, length-set found at c.push.new.self.items, c.placed.invariant.count);
      each = λ group low.
          rw whole (one_gathered c.args.of_bucket.now c.args.placed.now c.placed.one-index at found c.placed-test.true refl in_range c.placed.invariant.each group low);
    }

pub index_mut-group-requires : goal.index_mut-group-requires
index_mut-group-requires c =
    let one : Placed = get_or c.args.placed.now c.placed.one-index nobody in
    omega (arith, known_below c.args.of_bucket.now one.bucket c.requires, c.placed.invariant.count)
