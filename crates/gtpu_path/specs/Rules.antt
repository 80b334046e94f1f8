-- Rules in an order, and the first of them that is broken.
use Rattle.std.specs.Prelude.{◌≡◌, Bool, true, false, if◌then◌else◌, List, [], ◌∷◌, ◌++◌, Option, Some, None, Result, Ok, Err, All}

-- a rule: whether it is broken, and why octets that break it are refused
pub record Rule (Refusal : Type 0) : Type 0 where
  pub is_broken : Bool
  pub why : Refusal

abbrev pub rule : {Refusal : Type 0} → (is_broken : Bool) → Refusal → Rule Refusal
rule is_broken why = record { is_broken = is_broken; why = why }

-- why the first broken rule refuses, if any is broken
abbrev pub first_broken : {Refusal : Type 0} → List (Rule Refusal) → Option Refusal
first_broken [] = None
first_broken (rule ∷ rules) = if rule.is_broken then Some rule.why else first_broken rules

-- what is read, or the refusal of the first broken rule
abbrev pub unless_refused : {Read Refusal : Type 0} → Option Refusal → Read → Result Read Refusal
unless_refused None read = Ok read
unless_refused (Some why) read = Err why

-- no rule is broken
abbrev pub AreMet : {Refusal : Type 0} → List (Rule Refusal) → Type 0
AreMet rules = All (λ rule. rule.is_broken ≡ false) rules

-- a rule that refuses so is broken, and none that comes before it
pub record IsFirstBroken {Refusal : Type 0} (rules : List (Rule Refusal)) (why : Refusal) : Type 0 where
  pub before : List (Rule Refusal)
  pub after : List (Rule Refusal)
  pub split : rules ≡ before ++ rule true why ∷ after
  pub none_before : AreMet before
