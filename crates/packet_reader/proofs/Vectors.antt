-- Worked rows after `begin`, and what the definitions make of them.
use Rattle.std.specs.Prelude.{◌≡◌, ℕ, ◌++◌, List, [], ◌∷◌, codes, replicate, Ok, Err, refl}
use Rattle.flow_types.specs.Size.{Size}
use Rattle.flow_types.specs.Text.{address_value, number_value}
use Rattle.flow_types.specs.declared.key.FlowKey.{FlowKey}
use Rattle.flow_types.specs.declared.why.Why.TheVariants as why
use Rattle.csv_rows.specs.Rows.{Row}
use Rattle.row_fields.specs.Fields.{key_at}
use Rattle.row_fields.specs.Refused.{bad_row}
use Rattle.packet_reader.specs.declared.event.Event.TheVariants.{Packet, Carry, Sync}
use Rattle.packet_reader.specs.declared.event.Part.TheVariants.{Fib}
use Rattle.packet_reader.specs.declared.mode.Mode.TheVariants.{Replay, Storm}
use Rattle.packet_reader.specs.Events.{events_in, script_row}
use Rattle.packet_reader.specs.Kind.{kind_of}
use Rattle.packet_reader.specs.Script.{script_from, script_of}

abbrev four_nodes : Size
four_nodes = record { nodes = 4; blocks = 1 }

abbrev key : FlowKey
key = record { source = 167772161; destination = 3221225991; source_port = 1000; destination_port = 443; protocol = 6 }

abbrev key_fields : List (List ℕ)
key_fields = codes "10.0.0.1" ∷ codes "192.0.2.7" ∷ codes "1000" ∷ codes "443" ∷ codes "6" ∷ []

abbrev sync_row : Row
sync_row = codes "sync" ∷ []

abbrev end_row : Row
end_row = codes "end" ∷ []

abbrev carry_row : Row
carry_row = codes "carry" ∷ codes "0" ∷ codes "3" ∷ codes "1" ∷ codes "fib" ∷ []

says_carry : script_of (events_in Replay four_nodes) 2 (carry_row ∷ end_row ∷ []) ≡ Ok (Carry 0 3 1 Fib ∷ [])
unfolding script_of script_from script_row kind_of number_value
says_carry = refl

no_carry_in_storm : script_of (events_in Storm four_nodes) 2 (sync_row ∷ carry_row ∷ end_row ∷ []) ≡ Err (bad_row 4 why.CarryInStorm)
unfolding script_of script_from script_row kind_of number_value
no_carry_in_storm = refl

says_packet : script_of (events_in Storm four_nodes) 2 ((codes "packet" ∷ codes "3" ∷ key_fields) ∷ end_row ∷ []) ≡ Ok (Packet 3 key ∷ [])
unfolding script_of script_from script_row kind_of key_at number_value address_value
says_packet = refl

after_end : script_of (events_in Replay four_nodes) 2 (end_row ∷ sync_row ∷ []) ≡ Err (bad_row 4 why.AfterEnd)
unfolding script_of script_from script_row kind_of
after_end = refl

no_end : script_of (events_in Replay four_nodes) 2 [] ≡ Err (bad_row 3 why.NoEnd)
unfolding script_of script_from
no_end = refl

no_turn_zero : script_of (events_in Replay four_nodes) 2 ((codes "carry" ∷ codes "0" ∷ codes "0" ∷ codes "0" ∷ codes "what" ∷ []) ∷ []) ≡ Err (bad_row 3 why.Number)
unfolding script_of script_from script_row kind_of number_value
no_turn_zero = refl

phases_fit : script_of (events_in Storm four_nodes) 2 (replicate 255 sync_row ++ end_row ∷ []) ≡ Ok (replicate 255 Sync)
unfolding script_of script_from script_row kind_of
phases_fit = refl

one_phase_too_many : script_of (events_in Storm four_nodes) 2 (replicate 256 sync_row ++ end_row ∷ []) ≡ Err (bad_row 258 why.TooManyPhases)
unfolding script_of script_from script_row kind_of
one_phase_too_many = refl
