use Rattle.std.proofs.Common.{arith, ◌≡◌, ℕ, ◌+◌, ◌<◌, List, [], ◌∷◌, length, get_or, refl, sym, ap, ◌∙◌, subst}
use Rattle.std.proofs.lemmas.List.Sums.{sum_by_more, sum_by_more_le}
use Rattle.std.proofs.lemmas.Option.{get_or_from_slice_get, slice_get_within}
use mathlib.Core.Logic.{dite}
use native.Mathlib.Decide.{ℕ_discrete}
use Rattle.group_search.specs.declared.record.GroupRecord.{GroupRecord}
use Rattle.group_search.specs.declared.record.GroupRecord.TheVariants.{Served}
use Rattle.group_search.specs.Canon.{rows_in}
use Rattle.group_search.specs.Home.{Home}
use Rattle.group_search.specs.Image.{Image}
use Rattle.group_search.specs.Published.{opening_record}
use Rattle.group_cell.specs.Laying.{IsLaid, LeavesOthers, in_front}
use Rattle.group_cell.specs.Seating.{AreOwners, places_of}
use Rattle.group_cell.proofs.Laid.{bare_on, laid_on, length_zeros, zero_bare, zero_free, zero_owners}
use Rattle.group_cell.proofs.table.laying.lay_block.Invariants.{LaidBelow}
use Rattle.group_cell.proofs.table.laying.lay_block.Goals as goal
use Rattle.group_cell.specs.Layout.{block_words}

-- one more group is laid
more_laid : (image : Image) (group : ℕ) (words words' owners owners' : List ℕ) (content : GroupRecord) → LaidBelow image group words owners → group < 64 → group < length image.records → get_or image.records group (Served []) ≡ content
    → AreOwners owners' words' 0 → LeavesOthers (in_front group) words words' owners owners' → IsLaid words' owners' (in_front group) content → places_of 0 owners' + rows_in content ≡ places_of 0 owners → LaidBelow image (group + 1) words' owners'
more_laid image group words words' owners owners' content v few inside is owned others laid free = record {
  width = others.wide ∙ v.width;
  all = omega arith;
  owners_of = owned;
  laid = λ h less. dite (ℕ_discrete h group)
      (λ e. subst (λ (x : ℕ). IsLaid words' owners' (in_front x) (opening_record (image ∷ []) (in_front x))) (sym e) (subst (IsLaid words' owners' (in_front group)) (sym is) laid))
      (λ other. laid_on words words' owners owners' (in_front h) (opening_record (image ∷ []) (in_front h)) (others.groups (in_front h) (omega arith) (λ e. other (ap (λ (x : Home). x.group) e)))
      (others.places (h + 1) (λ e. omega arith) (λ e. other (omega arith))) (v.laid h (omega arith)));
  bare = λ h from less. bare_on words words' owners owners' (in_front h) (others.groups (in_front h) less (λ e. let same : h ≡ group = ap (λ (x : Home). x.group) e in omega arith))
      (others.places (h + 1) (λ e. omega arith) (λ e. omega arith)) (v.bare h (omega arith) less);
  free = let sums = sum_by_more rows_in image.records group (Served []) inside in let rows : rows_in (get_or image.records group (Served [])) ≡ rows_in content = ap rows_in is in let before = v.free in omega arith;
}

pub groups-init : goal.groups-init
groups-init c = record {
  width = length_zeros block_words;
  all = omega arith;
  owners_of = zero_owners _ _ refl refl;
  laid = λ h less. absurd (omega arith);
  bare = λ h _ _. zero_bare _ _ h refl refl;
  free = let z = zero_free _ refl in z;
}

pub lay_group-requires-clause-bare : goal.lay_group-requires-clause-bare
lay_group-requires-clause-bare c = let less = c.groups-test.true in c.groups.invariant.bare c.groups.group (omega arith) (omega arith)

pub lay_group-requires-clause-room : goal.lay_group-requires-clause-room
lay_group-requires-clause-room c = let v = c.groups.invariant in let free = v.free in
    let inside = slice_get_within c.args.image.now.records c.groups.group c.record.result.now c.record.ensures in let is : rows_in (get_or c.args.image.now.records c.groups.group (Served [])) ≡ rows_in c.record.result.now = ap rows_in (get_or_from_slice_get c.args.image.now.records c.groups.group c.record.result.now (Served []) c.record.ensures) in
    let all = sum_by_more_le rows_in c.args.image.now.records c.groups.group (Served []) inside in let most = c.requires in omega arith

pub groups-preserved : goal.groups-preserved
groups-preserved c = let a = c.lay_group.ensures in let less = c.groups-test.true in
    more_laid c.args.image.now c.groups.group c.groups.words c.lay_group.new.words c.groups.owners c.lay_group.new.owners c.record.result.now c.groups.invariant (omega arith)
    (slice_get_within c.args.image.now.records c.groups.group c.record.result.now c.record.ensures) (get_or_from_slice_get c.args.image.now.records c.groups.group c.record.result.now (Served []) c.record.ensures) a.owners a.others a.laid a.free

pub returns : goal.returns
returns c = let v = c.groups.invariant in let last : c.groups.group ≡ 64 = omega arith in let enough = v.all in record { width = v.width; all = omega arith; owners_of = v.owners_of; groups = λ group less. v.laid group (omega arith) }
