-- What several reads or writes do together.
use Rattle.std.proofs.Common.{◌≡◌, ℕ, ◌+◌, ◌-◌, List, ◌++◌, length, take, drop, Option, sym, ap, subst, ◌∙◌, arith}
use Rattle.std.proofs.lemmas.List.{take_at, take_rest, take-append-drop, drop-take}
use lib.Seq.{take-take}
use Rattle.std.specs.Io.KnownBytes.{Appends, Consumes}
use Rattle.std.proofs.KnownBytes.{Appends-trans}

-- the front of a list with the part after it
front_and_part : (xs : List ℕ) (n m : ℕ) → take (n + m) xs ≡ take n xs ++ take m (drop n xs)
front_and_part xs n m =
    sym (take-append-drop n (take (n + m) xs)) ∙ ap (λ l. l ++ drop n (take (n + m) xs)) (take-take n (n + m) xs (omega arith)) ∙ ap (λ l. take n xs ++ l) (drop-take n m xs)

-- one more piece of the octets was appended
pub Appends-piece : (held then_ now : Option (List ℕ)) (octets : List ℕ) (n m : ℕ) → Appends held then_ (take n octets)
    → Appends then_ now (take m (take (length octets - n) (drop n octets))) → Appends held now (take (n + m) octets)
Appends-piece held then_ now octets n m before piece =
    let joined = Appends-trans held then_ now (take n octets) (take m (drop n octets)) before (subst (λ l. Appends then_ now (take m l)) (take_rest octets n) piece) in
    subst (Appends held now) (sym (front_and_part octets n m)) joined

-- what was given past the start of a buffer is what a vector has more, after it was cut there
pub Consumes-appended : (left now : Option (List ℕ)) (old new buffer rest : List ℕ) (start n size : ℕ) → length old ≡ start → length buffer ≡ size
    → new ≡ take (start + n) (take size (buffer ++ rest)) → Consumes left now (take n (drop start buffer)) → Consumes left now (drop (length old) new)
Consumes-appended left now old new buffer rest start n size long whole cut given =
    let kept : take size (buffer ++ rest) ≡ buffer = take_at buffer rest size whole in
    let more : drop (length old) new ≡ take n (drop start buffer) =
    ap (λ k. drop k new) long ∙ ap (drop start) (cut ∙ ap (take (start + n)) kept) ∙ drop-take start n buffer in
    subst (Consumes left now) (sym more) given
