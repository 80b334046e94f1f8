-- The first octet of each kind of message.
use Rattle.std.specs.Prelude.{ℕ}
use Rattle.delta_codec.specs.declared.heading.Kind.{Kind}
use Rattle.delta_codec.specs.declared.heading.Kind.TheVariants.{Table, Fib}

abbrev pub kind_octet : Kind → ℕ
kind_octet Table = 0x11
kind_octet Fib = 0x12
