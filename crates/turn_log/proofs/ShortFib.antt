-- A message for a FIB is one without rows.
use Rattle.std.proofs.Common.{◌≡◌, ◌∙◌, ℕ, Bool, false, cond, List, [], ◌∷◌, ◌++◌, Option, Some, None, sym, ap, subst, arith}
use Rattle.std.specs.Prelude.{◌==◌, IfSome}
use Rattle.flow_types.specs.Size.{Size}
use Rattle.delta_codec.specs.declared.message.FibMessage.{FibMessage}
use Rattle.delta_codec.specs.declared.message.Message.{Message}
use Rattle.delta_codec.specs.declared.message.Message.TheVariants.{Fib}
use Rattle.delta_codec.specs.declared.message.ShortMessage.{ShortMessage}
use Rattle.delta_codec.specs.declared.refused.DecodeRefused.{DecodeRefused}
use Rattle.delta_codec.specs.Fields.{byte_at, content_fields, fields, first_fault, head_fields, operation_fields}
use Rattle.delta_codec.specs.Short.{HasRows, content_start_fields, message_of, start_fields}
use Rattle.delta_codec.specs.Spelling.{BeginsWith}
use Rattle.delta_codec.specs.Values.{IsMessage}
use Rattle.delta_codec.proofs.Begins.{begun}
use Rattle.delta_codec.proofs.Standing.{Stand-first, octet_read}
use Rattle.delta_codec.proofs.Starts.{begun_sound}

module _ (size : Size) (bytes : List ℕ) (message : FibMessage) (used : ℕ) (begins : BeginsWith size bytes (Fib message) used) where
  kind_is : byte_at bytes 0 ≡ 0x12
  kind_is = octet_read bytes 0 0x12 (Stand-first bytes 0 (0x12 ∷ []) _ (begun size bytes (Fib message) used begins))

  pub no_rows : HasRows bytes → ⊥
  no_rows has = let wrong : 0x12 ≡ 0x11 = sym kind_is ∙ has.0 in absurd (omega (arith, wrong))

  not_table : (byte_at bytes 0 == 0x11) ≡ false
  not_table = ap (λ (kind : ℕ). kind == 0x11) kind_is

  same_fields : start_fields size bytes ≡ fields size bytes
  same_fields =
      ap (λ (b : Bool). head_fields size bytes ++ cond b (content_start_fields size bytes 7) (operation_fields bytes 7)) not_table
      ∙ sym (ap (λ (b : Bool). head_fields size bytes ++ cond b (content_fields size bytes 7) (operation_fields bytes 7)) not_table)

  no_fault : IsMessage (Fib message) → first_fault bytes (start_fields size bytes) ≡ None
  no_fault sized = ap (first_fault bytes) same_fields ∙ begun_sound size bytes (Fib message) used begins sized

  pub no_refusal : IsMessage (Fib message) → (refused : DecodeRefused) → Some refused ≡ first_fault bytes (start_fields size bytes) → ⊥
  no_refusal sized refused fault = let wrong : Some refused ≡ None = fault ∙ no_fault sized in cc

-- what is read is the message
pub is_read : (message : Message) (used : ℕ) (read : Option (ShortMessage × ℕ)) (short : ShortMessage) (long : ℕ) → read ≡ Some (short, long)
    → IfSome read (λ (s : ShortMessage × ℕ). (message_of s.0 ≡ message) × (s.1 ≡ used)) → message_of short ≡ message
is_read message used read short long is only = (subst (λ (r : Option (ShortMessage × ℕ)). IfSome r (λ (s : ShortMessage × ℕ). (message_of s.0 ≡ message) × (s.1 ≡ used))) is only).0
