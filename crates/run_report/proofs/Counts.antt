-- How many of a run's replies are of which kind.
use Rattle.std.proofs.Common.{◌+◌, ◌≤◌, cond, List, [], ◌∷◌, length, count_by, arith}
use Rattle.std.proofs.lemmas.List.Sums.{sum_by-cons}
use Rattle.run_model.specs.declared.reply.Reply.{Reply}
use Rattle.run_model.specs.declared.reply.Reply.TheVariants.{Found, Unknown, Nowhere}
use Rattle.run_report.specs.Report.{is_found, is_unknown}

-- no reply is counted twice
pub counts_within : (replies : List Reply) → count_by is_found replies + count_by is_unknown replies ≤ length replies
counts_within [] = omega arith
counts_within (reply ∷ replies) =
    let rest = counts_within replies in
    let found = sum_by-cons (λ r. cond (is_found r) 1 0) reply replies in
    let unknown = sum_by-cons (λ r. cond (is_unknown r) 1 0) reply replies in
    let once : cond (is_found reply) 1 0 + cond (is_unknown reply) 1 0 ≤ 1 = one_kind reply in
    omega arith
  where
    one_kind : (reply : Reply) → cond (is_found reply) 1 0 + cond (is_unknown reply) 1 0 ≤ 1
    one_kind (Found n v w r) = omega arith
    one_kind (Unknown n v w) = omega arith
    one_kind (Nowhere v) = omega arith
    one_kind _ = omega arith
