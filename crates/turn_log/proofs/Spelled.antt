-- Messages that are spelled at places of the octets.
use Rattle.std.proofs.Common.{◌≡◌, ◌∙◌, ◌+◌, ◌-◌, ℕ, List, ◌++◌, length, take, drop, Result, Ok, Err, sym, ap, subst, arith, length-append, length-drop}
use Rattle.std.proofs.lemmas.List.{drop-append-le, take-append-le, drop_at, take_all}
use mathlib.Core.List.{IsPrefix}
use Rattle.flow_types.specs.Size.{Size}
use Rattle.delta_codec.specs.declared.message.Message.{Message}
use Rattle.delta_codec.specs.Fits.{Fits}
use Rattle.delta_codec.specs.Spelling.{BeginsWith, spelling}
use Rattle.delta_codec.specs.Values.{IsMessage}
use Rattle.turn_log.specs.Sent.{IsSpelledAt}

pub appended : (octets new more : List ℕ) → new ≡ octets ++ more → IsPrefix octets new
appended octets new more is = (more, sym is)

-- what is put behind the octets begins there
pub spelled_last : (size : Size) (octets new : List ℕ) (at : ℕ) (message : Message) → Fits size message → IsMessage message → at ≡ length octets
    → new ≡ octets ++ spelling message → IsSpelledAt size new at message
spelled_last size octets new at message fits sized at_is new_is =
    let long : length new ≡ length octets + length (spelling message) = ap length new_is ∙ length-append octets (spelling message) in
    let rest : drop at new ≡ spelling message = ap (drop at) new_is ∙ drop_at octets (spelling message) at (sym at_is) in
    record {
      sized = sized;
      within = omega arith;
      used = length (spelling message);
      begins = record {
        there = omega (arith, ap length rest);
        spells = record {
          fits = fits;
          spelled = ap (take (length (spelling message))) rest ∙ take_all (length (spelling message)) (spelling message) (omega arith);
        };
      };
    }

-- a message still begins where it began when more is put behind
pub spelled_on : (size : Size) (octets new : List ℕ) (at : ℕ) (message : Message) → IsPrefix octets new → IsSpelledAt size octets at message
    → IsSpelledAt size new at message
spelled_on size octets new at message more is =
    let there = is.begins.there in
    let rest : drop at new ≡ drop at octets ++ more.0 = ap (drop at) (sym more.1) ∙ drop-append-le at octets more.0 is.within in
    record {
      sized = is.sized;
      within = omega (arith, is.within, ap length (sym more.1), length-append octets more.0);
      used = is.used;
      begins = record {
        there = omega (arith, there, ap length rest, length-append (drop at octets) more.0);
        spells = record {
          fits = is.begins.spells.fits;
          spelled = ap (take is.used) rest ∙ take-append-le is.used (drop at octets) more.0 there ∙ is.begins.spells.spelled;
        };
      };
    }

-- what is read from a place on begins with the message that begins there
pub begins_there : (size : Size) (octets : List ℕ) (at : ℕ) (message : Message) → (is : IsSpelledAt size octets at message)
    → BeginsWith size (take (length octets - at) (drop at octets)) message is.used
begins_there size octets at message is =
    let rest : drop at octets ≡ take (length octets - at) (drop at octets) = sym (take_all (length octets - at) (drop at octets) (omega (arith, length-drop at octets))) in
    subst (λ (o : List ℕ). BeginsWith size o message is.used) rest is.begins

-- an answer that is one message and another is one message
pub one_message : {E : Type 0} (message other : Message) (used long : ℕ) → ◌≡◌ {A = Result (Message × ℕ) E} (Ok (message, used)) (Ok (other, long)) → message ≡ other
one_message message other used long same = let both : (message, used) ≡ (other, long) = cc in ap (λ (read : Message × ℕ). read.0) both

pub no_refusal : {E : Type 0} (result : Result (Message × ℕ) E) (read : Message × ℕ) (refused : E) → result ≡ Ok read → result ≡ Err refused → ⊥
no_refusal result read refused ok err = cc

-- a message begins, also under another name, where it began, with more behind
pub spelled_as : (size : Size) (octets new : List ℕ) (at : ℕ) (message other : Message) → message ≡ other → IsPrefix octets new
    → IsSpelledAt size octets at message → IsSpelledAt size new at other
spelled_as size octets new at message other same more is = spelled_on size octets new at other more (subst (λ (m : Message). IsSpelledAt size octets at m) same is)
