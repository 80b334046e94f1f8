use Rattle.std.proofs.Common.{◌≡◌, ◌≤◌, ◌∙◌, All, List, subst, arith}
use Rattle.usage_meter.specs.declared.view.Reading.{Reading}
use Rattle.usage_meter.specs.Seats.{readings_of}
use Rattle.usage_meter.proofs.Readings.{last_reading}
use Rattle.usage_meter.proofs.tests.read_often.Goals.{then-now-before, else-now-before}
use Rattle.usage_meter.proofs.tests.read_often.Goals as goal

pub reads-preserved : goal.reads-preserved
reads-preserved c =
    let total = c.total-now.ensures in
    let so = c.reads.invariant in
    let risen : c.reads.before ≤ c.total-now.result = so.5 c.total-now.result total.rises in (
      total.seat,
      total.ration ∙ so.1,
      total.adds ∙ so.2,
      total.most,
      (elim c.if-now-before.branch [ then-now-before w ↦ absurd (omega (arith, w.if-now-before)) | else-now-before w ↦ w.falls-is ∙ so.4 ]),
      (λ n all. last_reading c.args.node c.total-now.result n (readings_of c.reads.seat) (subst (λ (rs : List Reading). All (λ (r : Reading). r.node ≡ c.args.node → r.total ≤ n) rs) total.reading all)),
    )
