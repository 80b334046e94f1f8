-- The texts of addresses.
use Rattle.std.proofs.Common.{◌≡◌, ◌∙◌, ◌/◌, ◌%◌, ◌^◌, ◌<◌, ℕ, List, ◌∷◌, ◌++◌, Some, decimal, sym, ap, arith}
use Rattle.std.proofs.lemmas.List.Elements.{All-append, All-cons}
use Rattle.flow_types.specs.Text.{address_text, address_value}
use Rattle.flow_types.proofs.Addresses.{written_is_read}
use Rattle.run_report.proofs.Fields.{AreGlyphs, IsGlyph, glyphs-decimal}

-- an octet's digits, a dot, and more
dotted : (octet : ℕ) (rest : List ℕ) → octet < 2 ^ 64 → AreGlyphs rest → AreGlyphs (decimal octet ++ 46 ∷ rest)
dotted octet rest low glyphs = All-append IsGlyph (decimal octet) (46 ∷ rest) (glyphs-decimal octet low) (All-cons IsGlyph 46 rest (omega arith) glyphs)

-- no space stands in an address
pub glyphs-address : (address : ℕ) → address < 2 ^ 32 → AreGlyphs (address_text address)
unfolding address_text
glyphs-address address low =
    dotted (address / 2 ^ 24) _ (omega arith)
    (dotted (address / 2 ^ 16 % 256) _ (omega arith)
    (dotted (address / 2 ^ 8 % 256) _ (omega arith)
    (glyphs-decimal (address % 256) (omega arith))))

-- addresses that have one text are one
pub address_texts_apart : (address other : ℕ) → address < 2 ^ 32 → other < 2 ^ 32 → address_text address ≡ address_text other → address ≡ other
address_texts_apart address other low lower same =
    let read : Some address ≡ Some other = sym (written_is_read address low) ∙ ap address_value same ∙ written_is_read other lower in
    cc
