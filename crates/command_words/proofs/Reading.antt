-- What the first value of an option is, as the rows of the matches have it.
use Rattle.std.proofs.Common.{◌≡◌, ◌∙◌, ℕ, Bool, false, true, List, [], ◌∷◌, Option, None, Some, ap, sym, subst, inl, inr, refl, arith}
use denote.Enum.Bare.{sameb}
use Rattle.std.proofs.lemmas.Bool.{ne_eqb}
use Rattle.std.specs.Prelude.{if◌then◌else◌, option_and_then, option_map}
use Rattle.std.specs.Borrow.{Bor}
use Rattle.clap.specs.Matches.{first_value}
use Rattle.clap.specs.Faults.{fault_of, is_simple_and_free}
use Rattle.clap.specs.Kinds.{HasKind, IsAmong}
use Rattle.clap.specs.Simple.{App, is_simple, matches_of}
use Rattle.clap.specs.Walk.{Row, Text, first_of, is_empty, rows_of}
use Rattle.clap.specs.contracts.error.kind.ErrorKind.{the_type}
use Rattle.clap.specs.declared.error.Error.{Error}
use Rattle.clap.specs.declared.error.kind.ErrorKind.{ErrorKind}
use Rattle.clap.specs.declared.error.kind.ErrorKind.TheVariants.{OutOfMemory}
use Rattle.clap.specs.declared.parser.matches.Found.{Found}
use Rattle.clap.proofs.OnLiterals.{clap_on_literals}
use Rattle.clap.proofs.WalkLemmas.{first_value-rows}
use Rattle.command_words.specs.Words.{command_of, meant, program}
use Rattle.command_words.specs.declared.command.Command.{Command}

-- the first value that was got is the one in the rows, and what is read of it is what is read of theirs
pub read_in_rows : {A : Type 0} (read : Text → Option A) (found : Found) (name : Text) (got : Option (Bor (List ℕ))) → option_map (λ s. s.now) got ≡ first_value found name
    → option_and_then (λ s. read s.now) got ≡ option_and_then read (first_of name (rows_of found))
read_in_rows read found name got is = by got is
  where
    by : (got : Option (Bor (List ℕ))) → option_map (λ s. s.now) got ≡ first_value found name → option_and_then (λ s. read s.now) got ≡ option_and_then read (first_of name (rows_of found))
    by None is = ap (option_and_then read) (is ∙ first_value-rows found name)
    by (Some s) is = ap (option_and_then read) (is ∙ first_value-rows found name)

-- the command line is one of clap's simple ones, no option of which has a rule on another
pub program-simple : is_simple program ≡ true
unfolding program clap_on_literals
program-simple = refl

pub program-free : is_simple_and_free program ≡ true
unfolding program clap_on_literals
program-free = refl

module _ (app : App) (is : app ≡ program) (words : List Text) where
  -- words without fault are the command that their matches say
  pub words_taken : (rows : List Row) {S : Type 0} → (is_simple_and_free app ≡ true → fault_of app words ≡ []) → (is_simple app ≡ true → (rows ≡ matches_of app words) × S)
      → command_of rows ≡ meant words
  unfolding meant
  words_taken rows none same =
      let no_fault : fault_of program words ≡ [] = ap (λ (a : App). fault_of a words) (sym is) ∙ none (ap is_simple_and_free is ∙ program-free) in
      let theirs : rows ≡ matches_of program words = (same (ap is_simple is ∙ program-simple)).0 ∙ ap (λ (a : App). matches_of a words) is in
      rw (no_fault, theirs) refl

  -- words with a fault other than want of memory are none
  pub words_refused : (error : Error) (kind : ErrorKind) (same : Bool) → kind ≡ error.kind → same ≡ sameb the_type kind OutOfMemory → same ≡ false
      → (is_simple_and_free app ≡ true → HasKind (fault_of app words) error) → None ≡ meant words
  unfolding meant
  words_refused error kind same of tested differs fails =
      elim (fails (ap is_simple_and_free is ∙ program-free)) [
        | inl memory ↦
            let e : sameb the_type OutOfMemory OutOfMemory ≡ false = ap (λ (k : ErrorKind). sameb the_type k OutOfMemory) (sym (of ∙ memory)) ∙ sym tested ∙ differs in
            absurd cc
        | inr among ↦ by (fault_of program words) (subst (λ (a : App). IsAmong error.kind (fault_of a words)) is among)
      ]
    where
      by : (kinds : List ErrorKind) → IsAmong error.kind kinds → ◌≡◌ {A = Option Command} None (if is_empty kinds then command_of (matches_of program words) else None)
      by [] among = absurd among
      by (k ∷ ks) among = let some : is_empty (k ∷ ks) ≡ false = ne_eqb _ _ (λ e. omega (arith, e)) in rw some refl
