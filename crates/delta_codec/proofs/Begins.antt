-- A message whose octets stand at the beginning.
use Rattle.std.proofs.Common.{◌≡◌, ℕ, List, length, take, ap, ◌∙◌, arith, length-take}
use Rattle.flow_types.specs.Size.{Size}
use Rattle.delta_codec.specs.declared.message.Message.{Message}
use Rattle.delta_codec.specs.Fits.{Fits}
use Rattle.delta_codec.specs.Spelling.{BeginsWith, Stand, spelling}

pub begins : (size : Size) (bytes : List ℕ) (message : Message) (used : ℕ) → Fits size message → Stand bytes 0 (spelling message) → used ≡ length (spelling message)
    → BeginsWith size bytes message used
begins size bytes message used fits h used-is = record {
  there = omega (arith, h.there);
  spells = record { fits = fits; spelled = ap (λ (n : ℕ). take n bytes) used-is ∙ h.same };
}

-- what octets begin with stands there
pub begun : (size : Size) (bytes : List ℕ) (message : Message) (used : ℕ) → BeginsWith size bytes message used → Stand bytes 0 (spelling message)
begun size bytes message used h =
    let long : length (spelling message) ≡ used = omega (arith, ap length h.spells.spelled, length-take used bytes, h.there) in
    record { there = omega (arith, h.there); same = ap (λ (n : ℕ). take n bytes) long ∙ h.spells.spelled }

pub used_is : (size : Size) (bytes : List ℕ) (message : Message) (used : ℕ) → BeginsWith size bytes message used → used ≡ length (spelling message)
used_is size bytes message used h = omega (arith, ap length h.spells.spelled, length-take used bytes, h.there)
