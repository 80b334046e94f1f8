-- How many octets a turn's messages have.
use Rattle.std.proofs.Common.{◌≡◌, ◌≤◌, Bool, true, false, cond, ◌++◌, length, arith, length-append}
use Rattle.std.specs.Prelude.{nat_le}
use Rattle.flow_types.specs.declared.key.FlowKey.{FlowKey}
use Rattle.flow_types.specs.declared.record.Record.{Record}
use Rattle.flow_types.specs.Key.{octets}
use Rattle.flow_types.specs.Size.{Size}
use Rattle.group_search.specs.declared.record.GroupRecord.{GroupRecord}
use Rattle.group_search.specs.declared.record.GroupRecord.TheVariants.{Served, Fallback}
use Rattle.delta_codec.specs.declared.message.FibOp.TheVariants.{Nothing, Put, Drop}
use Rattle.delta_codec.specs.declared.message.Message.TheVariants.{Fib, Table}
use Rattle.delta_codec.specs.Fits.{ContentFits}
use Rattle.delta_codec.specs.Spelling.{content_octets, head, octets_of_word, spelling}
use Rattle.delta_codec.proofs.Keys.{octets-long}
use Rattle.delta_codec.proofs.Lengths.{pairs-long, rows-long}
use Rattle.turn_log.specs.declared.message.TurnHead.{TurnHead}
use Rattle.turn_log.specs.Turn.{fib_with, table_with}

bits_few : (two four eight : Bool) → cond two 1 (cond four 2 (cond eight 3 4)) ≤ 4
bits_few true four eight = omega arith
bits_few false true eight = omega arith
bits_few false false true = omega arith
bits_few false false false = omega arith

content_long : (size : Size) (content : GroupRecord) → ContentFits size content → length (content_octets content) ≤ 898
content_long size (Served pairs) fits = omega (arith, pairs-long pairs, fits, bits_few (nat_le size.nodes 2) (nat_le size.nodes 4) (nat_le size.nodes 8))
content_long size (Fallback rows) fits = omega (arith, rows-long rows, fits.few)

pub table_long : (size : Size) (h : TurnHead) (content : GroupRecord) → ContentFits size content → length (spelling (Table (table_with h content))) ≤ 905
table_long size h content fits = omega (arith, content_long size content fits, length-append (head 0x11 h.owner h.turn h.block h.group) (content_octets content))

pub nothing_long : (h : TurnHead) → length (spelling (Fib (fib_with h Nothing))) ≡ 8
nothing_long h = omega arith

pub put_long : (h : TurnHead) (key : FlowKey) (info : Record) → length (spelling (Fib (fib_with h (Put key info)))) ≡ 29
put_long h key info =
    omega (
      arith,
      octets-long key,
      length-append (octets key ++ octets_of_word info.teid) (octets_of_word info.base),
      length-append (octets key) (octets_of_word info.teid),
    )

pub drop_long : (h : TurnHead) (key : FlowKey) → length (spelling (Fib (fib_with h (Drop key)))) ≡ 21
drop_long h key = omega (arith, octets-long key)
