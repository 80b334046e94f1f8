-- The exchange that adds a turn keeps the rule of the history.
use Rattle.std.proofs.Common.{◌≡◌, ℕ, ◌+◌, ◌<◌, ◌==◌, Bool, true, false, List, [], ◌∷◌, ◌++◌, length, refl, ap, sym, subst, arith, inl, length-append, None}
use Rattle.std.proofs.lemmas.List.{append-nil}
use Rattle.std.proofs.lemmas.Bool.Decides.{nat_tests}
use mathlib.Core.List.{IsPrefix}
use prog.Atomic.{either}
use Rattle.logbook.specs.Pages.{Cell, cell, keeps, no_nib, step, Moves, Goes}
use Rattle.delta_codec.specs.declared.message.FibMessage.{FibMessage}
use Rattle.partial_fib.specs.History.{IsCounted, IsAdded}
use Rattle.flow_types.proofs.Prefixes.{prefix_whole}

abbrev pub seen_by_clients : List FibMessage → List FibMessage
seen_by_clients turns = []

abbrev pub moved : List FibMessage → List FibMessage → ℕ → Type 0
moved before after answer = Unit {0}

module _ (known : List FibMessage) (turn : FibMessage) (count : ℕ) (counted : length known ≡ count) where
  abbrev pub adds : ℕ → ℕ
  adds n = either (n == count) (count + 1) n

  adds_goes : (all : List FibMessage) → IsPrefix known all → (last : Bool) → (length all == count) ≡ last
      → Goes IsCounted seen_by_clients moved 0 (known, (no_nib, None)) adds (IsAdded (step 0 count (count + 1) turn) (known, (no_nib, None)))
      ((length all, true) ∷ (0, true) ∷ []) all
  adds_goes all begins true is =
      let here : length all ≡ count = grind (arith, nat_tests) in
      let same : known ≡ all = prefix_whole known all begins (omega arith) in
      let n : adds (length all) ≡ length (all ++ turn ∷ []) = rw is (omega (arith, length-append all (turn ∷ []))) in (
        keeps,
        turn ∷ [],
        None,
        tt,
        ap (λ (k : ℕ). (k, true) ∷ (0, true) ∷ []) n,
        inl (refl, refl),
        rw is (ap (λ turns. turns ++ turn ∷ []) (sym same)),
      )
  adds_goes all begins false is =
      let none : all ++ [] ≡ all = append-nil all in
      let n : adds (length all) ≡ length (all ++ []) = rw is (ap length (sym none)) in (
        keeps,
        [],
        None,
        tt,
        ap (λ (k : ℕ). (k, true) ∷ (0, true) ∷ []) n,
        inl (refl, refl),
        rw is (ap length none),
      )

  -- whatever the history is, the exchange adds the turn to all that was known, or finds that the history is longer
  pub adds_moves : Moves IsCounted seen_by_clients moved 0 (known, (no_nib, None)) adds (IsAdded (step 0 count (count + 1) turn) (known, (no_nib, None)))
  adds_moves cells all kept begins away =
      let P : List Cell → Type 0 = λ c. (0 < length c) × ((cell c 0).1 ≡ true)
      × Goes IsCounted seen_by_clients moved 0 (known, (no_nib, None)) adds (IsAdded (step 0 count (count + 1) turn) (known, (no_nib, None))) c all in
      subst P (sym kept) (omega arith, refl, adds_goes all begins (length all == count) refl)
