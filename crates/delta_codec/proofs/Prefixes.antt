-- What octets spell, and what they go on with.
use Rattle.std.proofs.Common.{◌≡◌, ℕ, List, [], ◌++◌, length, sym, ap, ◌∙◌, arith, length-append, append-nil}
use Rattle.std.proofs.lemmas.List.{nil_from_length}
use Rattle.flow_types.specs.Size.{Size}
use Rattle.delta_codec.specs.declared.message.Message.{Message}
use Rattle.delta_codec.specs.Spelling.{Stand, spelling}
use Rattle.delta_codec.specs.Laws.{NoneBeginsAnother, SpellOneMessage}
use Rattle.delta_codec.proofs.Same.{same_message}
use Rattle.delta_codec.proofs.Standing.{Stand-joined}

stands : (octets more : List ℕ) (message : Message) → octets ≡ spelling message → Stand (octets ++ more) 0 (spelling message)
stands octets more message e = Stand-joined (octets ++ more) 0 (spelling message) more (omega arith) (ap (λ (t : List ℕ). t ++ more) e)

whole : (octets : List ℕ) (message : Message) → octets ≡ spelling message → Stand octets 0 (spelling message)
whole octets message e = Stand-joined octets 0 (spelling message) [] (omega arith) (e ∙ sym (append-nil (spelling message)))

pub one_message : (size : Size) → SpellOneMessage size
one_message size octets message other sized sized_other h h_other =
    same_message size octets message other h.fits h_other.fits sized sized_other (whole octets message h.spelled) (whole octets other h_other.spelled)

pub none_begins : (size : Size) → NoneBeginsAnother size
none_begins size octets more message other sized sized_other h h_other =
    let same = same_message size (octets ++ more) message other h.fits h_other.fits sized sized_other (stands octets more message h.spelled) (whole (octets ++ more) other h_other.spelled) in
    let e : octets ++ more ≡ octets = h_other.spelled ∙ ap spelling (sym same) ∙ sym h.spelled in
    nil_from_length more (omega (arith, ap length e, length-append octets more))
