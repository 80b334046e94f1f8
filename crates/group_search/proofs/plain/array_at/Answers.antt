use Rattle.group_search.proofs.Scan.{scan_is_array_serving}
use Rattle.group_search.proofs.plain.array_at.Goals as goal

pub entries-init : goal.entries-init
entries-init c = scan_is_array_serving c.args.index c.args.bit c.args.entries.now
