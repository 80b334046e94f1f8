-- The message that a letter's octets spell.
use Rattle.std.proofs.Common.{◌≡◌, ℕ, List, length, take, Result, Ok, Err, sym, ap, subst, arith}
use Rattle.std.proofs.lemmas.List.{take_all}
use Rattle.smallvec.specs.SmallVec.{SmallVec}
use Rattle.flow_types.specs.Size.{Size}
use Rattle.delta_codec.specs.declared.message.Message.{Message}
use Rattle.delta_codec.specs.Spelling.{BeginsWith, Spells}
use Rattle.node_link.specs.Letter.{IsLetter}

-- the octets, under another name, begin with the message, which has all of them
pub begins : (size : Size) (octets : List ℕ) (letter : SmallVec ℕ) → octets ≡ letter.items → (message : Message) → IsLetter size letter message
    → BeginsWith size octets message (length letter.items)
begins size octets letter same message is =
    let whole : take (length letter.items) letter.items ≡ letter.items = take_all (length letter.items) letter.items (omega arith) in
    subst (λ (o : List ℕ). BeginsWith size o message (length letter.items)) (sym same)
    (record { there = omega arith; spells = subst (λ (o : List ℕ). Spells size o message) (sym whole) is.spells })

-- an answer that is one message and another is one message
pub one_message : {E : Type 0} (message other : Message) (used long : ℕ) → ◌≡◌ {A = Result (Message × ℕ) E} (Ok (message, used)) (Ok (other, long)) → message ≡ other
one_message message other used long same = let both : (message, used) ≡ (other, long) = cc in ap (λ (read : Message × ℕ). read.0) both

pub no_refusal : {E : Type 0} (result : Result (Message × ℕ) E) (read : Message × ℕ) (refused : E) → result ≡ Ok read → result ≡ Err refused → ⊥
no_refusal result read refused ok err = cc
