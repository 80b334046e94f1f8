use Rattle.std.proofs.Common.{◌-◌}
use Rattle.setsep_build.specs.Parts.{AreImagesOf}
use Rattle.setsep_build.proofs.running.images_of.Given as goal

abbrev pub invariant-images : goal.invariant-images
invariant-images l = AreImagesOf l.bits l.all l.fn.run.first (l.block - l.fn.run.first) l.images.items
