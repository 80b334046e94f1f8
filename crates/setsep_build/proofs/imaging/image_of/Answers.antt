use Rattle.std.proofs.Common.{◌∙◌, ap, refl, sym, subst, arith}
use Rattle.block_layout.specs.Dealing.{choices_of}
use Rattle.setsep_build.specs.Block.{IsImageOf, block_choices}
use Rattle.setsep_build.proofs.BlockFacts.{whole_needed, enough_records, block_image}
use Rattle.setsep_build.proofs.imaging.image_of.Goals as goal

pub returns-then-records-clause-refused : goal.returns-then-records-clause-refused
unfolding block_choices
returns-then-records-clause-refused c = record {
  named_is = refl;
  few = omega arith;
  needed_is = whole_needed c.args.bits c.args.placed.now c.choose-choices.result c.groups_of.result c.in_ok-records.records.kept.items c.in_ok-records.records.needed
      (c.choose-choices.ensures ∙ ap choices_of c.bucket_sizes.ensures.each) c.groups_of.ensures.value c.in_ok-records.ensures.kept c.in_ok-records.ensures.needed;
  many = omega arith;
}

pub new-requires : goal.new-requires
unfolding block_choices
new-requires c =
    enough_records c.args.bits c.args.placed.now c.choose-choices.result c.groups_of.result c.in_ok-records.records.kept.items c.in_ok-records.records.needed
    (c.choose-choices.ensures ∙ ap choices_of c.bucket_sizes.ensures.each) c.groups_of.ensures.value c.in_ok-records.ensures.kept c.in_ok-records.ensures.needed (omega arith)

pub returns-clause-image : goal.returns-clause-image
unfolding block_choices
returns-clause-image c =
    subst (IsImageOf c.args.bits c.args.placed.now) (sym c.new.ensures)
    (block_image c.args.bits c.args.placed.now c.choose-choices.result c.groups_of.result c.in_ok-records.records.kept.items c.in_ok-records.records.needed
    (c.choose-choices.ensures ∙ ap choices_of c.bucket_sizes.ensures.each) c.groups_of.ensures.value c.in_ok-records.ensures.kept c.in_ok-records.ensures.needed (omega arith) (omega arith))
