-- Words and numbers one after the other, and where each of them ends.
use Rattle.std.proofs.Common.{◌≡◌, ◌∙◌, ◌^◌, ◌<◌, ◌≤◌, ℕ, List, [], ◌∷◌, ◌++◌, All, decimal, refl, ap, arith, append_assoc}
use Rattle.std.specs.List.{concat}
use Rattle.std.specs.Str.Parse.{AllDigits}
use Rattle.std.proofs.lemmas.Fmt.{decimal_injective, decimal_is_IsNumeral}
use Rattle.std.proofs.lemmas.List.{append_cancel_left}
use Rattle.std.proofs.lemmas.List.Elements.{All-cons, All-head, All-nil, All-tail}
use Rattle.std.proofs.lemmas.Str.Parse.{digit_from_value}

abbrev pub IsGlyph : ℕ → Type 0
IsGlyph c = 32 < c

-- neither spaces nor line feeds stand in the text
abbrev pub AreGlyphs : List ℕ → Type 0
AreGlyphs text = All IsGlyph text

-- two texts without spaces, after each of which a space or a line feed follows, end at one place
pub ended : (one other : List ℕ) (c d : ℕ) (rest more : List ℕ) → AreGlyphs one → AreGlyphs other → c ≤ 32 → d ≤ 32
    → one ++ c ∷ rest ≡ other ++ d ∷ more → (one ≡ other) × (c ∷ rest ≡ d ∷ more)
ended [] [] c d rest more glyphs others low lower is = (refl, is)
ended [] (x ∷ other) c d rest more glyphs others low lower is =
    let here = All-head IsGlyph x other others in
    let first : c ≡ x = cc in
    absurd (omega (arith, here, first, low))
ended (x ∷ one) [] c d rest more glyphs others low lower is =
    let here = All-head IsGlyph x one glyphs in
    let first : x ≡ d = cc in
    absurd (omega (arith, here, first, lower))
ended (x ∷ one) (y ∷ other) c d rest more glyphs others low lower is =
    let first : x ≡ y = cc in
    let after : one ++ c ∷ rest ≡ other ++ d ∷ more = cc in
    let rest_is = ended one other c d rest more (All-tail IsGlyph x one glyphs) (All-tail IsGlyph y other others) low lower after in
    (cc (rest_is.0, first), rest_is.1)

glyphs-digits : (ds : List ℕ) → AllDigits 10 ds → AreGlyphs ds
glyphs-digits [] digits = All-nil IsGlyph
glyphs-digits (c ∷ cs) digits = All-cons IsGlyph c cs (omega (arith, digit_from_value c digits.0)) (glyphs-digits cs digits.1)

pub glyphs-decimal : (n : ℕ) → n < 2 ^ 64 → AreGlyphs (decimal n)
glyphs-decimal n low = glyphs-digits (decimal n) (decimal_is_IsNumeral n low).0.1

-- the same of two numbers
pub number_ended : (m n c d : ℕ) (rest more : List ℕ) → m < 2 ^ 64 → n < 2 ^ 64 → c ≤ 32 → d ≤ 32
    → decimal m ++ c ∷ rest ≡ decimal n ++ d ∷ more → (m ≡ n) × (c ∷ rest ≡ d ∷ more)
number_ended m n c d rest more low lower space end is =
    let parts = ended (decimal m) (decimal n) c d rest more (glyphs-decimal m low) (glyphs-decimal n lower) space end is in
    (decimal_injective m n low lower parts.0, parts.1)

-- ---- words after one another

-- the words, and then the rest
abbrev pub spelled : List (List ℕ) → List ℕ → List ℕ
spelled [] rest = rest
spelled (word ∷ words) rest = word ++ spelled words rest

pub concat-spelled : (words : List (List ℕ)) (rest : List ℕ) → concat words ++ rest ≡ spelled words rest
concat-spelled [] rest = refl
concat-spelled (word ∷ words) rest = append_assoc word (concat words) rest ∙ ap (λ (t : List ℕ). word ++ t) (concat-spelled words rest)

pub spelled-cancel : (words : List (List ℕ)) (rest more : List ℕ) → spelled words rest ≡ spelled words more → rest ≡ more
spelled-cancel [] rest more is = is
spelled-cancel (word ∷ words) rest more is = spelled-cancel words rest more (append_cancel_left word (spelled words rest) (spelled words more) is)
