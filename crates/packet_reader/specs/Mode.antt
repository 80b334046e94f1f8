-- What the two modes allow.
use Rattle.std.specs.Prelude.{Bool, true, false}
use Rattle.packet_reader.specs.declared.event.Event.{Event}
use Rattle.packet_reader.specs.declared.event.Event.TheVariants as event
use Rattle.packet_reader.specs.declared.kind.Kind.{Kind}
use Rattle.packet_reader.specs.declared.kind.Kind.TheVariants as kind
use Rattle.packet_reader.specs.declared.mode.Mode.{Mode}
use Rattle.packet_reader.specs.declared.mode.Mode.TheVariants.{Replay, Storm}

-- whether rows of this kind may stand in a script of this mode: a storm's messages come by themselves
abbrev pub may_stand : Mode → Kind → Bool
may_stand Storm kind.Carry = false
may_stand _ _ = true

-- whether `sync`s part a script of this mode into phases
abbrev pub has_phases : Mode → Bool
has_phases Replay = false
has_phases Storm = true

abbrev pub is_sync : Event → Bool
is_sync event.Sync = true
is_sync _ = false
