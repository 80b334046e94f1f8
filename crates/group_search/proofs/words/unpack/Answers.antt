use Rattle.std.proofs.Common.{◌≡◌, ◌↔◌, Some, option_map, sym, ◌∙◌, ap}
use Rattle.group_search.specs.declared.words.Packed.{Packed}
use Rattle.group_search.specs.declared.words.Packed.TheVariants.{Served}
use Rattle.group_search.specs.Words.{PacksTo}
use Rattle.group_search.proofs.WordLemmas.{found_exactly, none_exactly, rows_exactly}
use Rattle.group_search.proofs.words.unpack.Goals as goal
use Rattle.group_search.proofs.words.unpack.Goals.{After-from_residual, In_ok-served}

pub returns-in-Some-clause-value : goal.returns-in-Some-clause-value
returns-in-Some-clause-value c = rows_exactly _ _ _ ((c.rows_of.ensures c.in-Some.rows).0 c.in-Some.is)

pub returns-in-Some-clause-none : goal.returns-in-Some-clause-none
returns-in-Some-clause-none c = none_exactly _ _ _ (rows_exactly _ _ _ ((c.rows_of.ensures c.in-Some.rows).0 c.in-Some.is))

nothing : (c : After-from_residual) → (packed : Packed) → (c.from_residual.result ≡ Some packed) ↔ PacksTo c.args.bits packed c.args.words
nothing c =
    found_exactly c.args.bits c.args.words c.rows_of.result c.served_of.result c.from_residual.result c.in_default.is c.rows_of.ensures c.served_of.ensures
    (c.from_residual.ensures ∙ sym (ap (option_map Served) c.in_err-served.was))

pub returns-in_err-served-clause-value : goal.returns-in_err-served-clause-value
returns-in_err-served-clause-value c = nothing c

pub returns-in_err-served-clause-none : goal.returns-in_err-served-clause-none
returns-in_err-served-clause-none c = none_exactly _ _ _ (nothing c)

pairs : (c : In_ok-served) → (packed : Packed) → (Some (Served c.in_ok-served.served) ≡ Some packed) ↔ PacksTo c.args.bits packed c.args.words
pairs c =
    found_exactly c.args.bits c.args.words c.rows_of.result c.served_of.result (Some (Served c.in_ok-served.served)) c.in_default.is c.rows_of.ensures c.served_of.ensures
    (sym (ap (option_map Served) c.in_ok-served.was))

pub returns-clause-value : goal.returns-clause-value
returns-clause-value c = pairs c

pub returns-clause-none : goal.returns-clause-none
returns-clause-none c = none_exactly _ _ _ (pairs c)
