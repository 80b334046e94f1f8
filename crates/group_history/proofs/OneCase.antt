-- On any grounds exactly one case of a judgement holds.
use Rattle.std.proofs.Common.{ℕ, ◌≡◌, ◌≢◌, ◌∙◌, Bool, true, false, cond, Option, Some, None, refl, sym, ap, subst}
use Rattle.std.specs.Prelude.{◌==◌, nat_lt}
use Rattle.std.specs.Option.{option_or}
use Rattle.std.proofs.lemmas.Bool.{eq-eqb, eqb-false, eqb-true, lt-ltb, ltb-true, ne_eqb}
use Rattle.flow_types.specs.declared.key.FlowKey.{FlowKey}
use Rattle.flow_types.specs.declared.record.Flow.{Flow}
use Rattle.flow_types.specs.Limits.{most_turns}
use Rattle.group_history.specs.declared.refused.UpdateRefused.{UpdateRefused}
use Rattle.group_history.specs.declared.refused.UpdateRefused.TheVariants.{Spent, Absent, BlockFull, RowsFull, OutOfMemory}
use Rattle.group_history.specs.declared.update.Update.{Update}
use Rattle.group_history.specs.declared.update.Update.TheVariants.{Set, Del}
use Rattle.group_history.specs.Acceptance.{ComesTo, Grounds, HasPlace, NeedsMoreRows, OneCaseHolds, refusal, refusal_of_place, refusal_of_rows}
use Rattle.group_history.proofs.Judged.{for_place, for_rows, spent}

place_set : (flow : Flow) (on : Grounds) (known : Bool) → on.known ≡ known → HasPlace (Set flow) on → refusal_of_place (Set flow) on ≡ None
place_set flow on true e place = rw e refl
place_set flow on false e place = rw (e, ne_eqb on.keys 1536 (place e)) refl

place_none : (update : Update) (on : Grounds) → HasPlace update on → refusal_of_place update on ≡ None
place_none (Set flow) on place = place_set flow on on.known refl place
place_none (Del key) on place = rw place refl

rows_some : (on : Grounds) → NeedsMoreRows on → refusal_of_rows on ≡ Some (RowsFull on.block on.needed on.free)
rows_some on needs = rw (needs.not_served, lt-ltb on.free on.needed needs.more) refl

rows_none-case : (on : Grounds) (served more : Bool) → on.served ≡ served → nat_lt on.free on.needed ≡ more → ¬ NeedsMoreRows on → refusal_of_rows on ≡ None
rows_none-case on true more e f enough = rw e refl
rows_none-case on false true e f enough = absurd (enough (record { not_served = e; more = ltb-true on.free on.needed f }))
rows_none-case on false false e f enough = rw (e, f) refl

rows_none : (on : Grounds) → ¬ NeedsMoreRows on → refusal_of_rows on ≡ None
rows_none on enough = rows_none-case on on.served (nat_lt on.free on.needed) refl refl enough

-- a case that holds is the one that is named
named : (update : Update) (on : Grounds) (verdict : Option UpdateRefused) → ComesTo update on verdict → verdict ≡ refusal update on
named update on None is = sym (for_rows update on is.not_spent (place_none update on is.place) ∙ rows_none on is.rows)
named update on (Some (Spent limit)) is = ap (λ (l : ℕ). Some (Spent l)) is.limit_is ∙ sym (spent update on is.turns)
named (Set flow) on (Some Absent) is = absurd is
named (Del key) on (Some Absent) is = sym (for_place (Del key) on is.not_spent Absent (rw is.unknown refl))
named (Set flow) on (Some (BlockFull block)) is =
    ap (λ (b : ℕ). Some (BlockFull b)) is.block_is
    ∙ sym (for_place (Set flow) on is.not_spent (BlockFull on.block) (rw (is.unknown, eq-eqb on.keys 1536 is.full) refl))
named (Del key) on (Some (BlockFull block)) is = absurd is
named update on (Some (RowsFull block needed free)) is =
    rw (is.block_is, is.needed_is, is.free_is) (sym (for_rows update on is.not_spent (place_none update on is.place) ∙ rows_some on is.rows))
named update on (Some OutOfMemory) is = absurd is

module _ (on : Grounds) (left : on.turns ≢ most_turns) where
  rows_hold-case : (update : Update) (served more : Bool) → HasPlace update on → on.served ≡ served → nat_lt on.free on.needed ≡ more
      → ComesTo update on (cond served None (cond more (Some (RowsFull on.block on.needed on.free)) None))
  rows_hold-case update true more place e f = record { not_spent = left; place = place; rows = λ needs. cc (needs.not_served, e) }
  rows_hold-case update false true place e f = record {
    not_spent = left;
    place = place;
    rows = record { not_served = e; more = ltb-true on.free on.needed f };
    block_is = refl;
    needed_is = refl;
    free_is = refl;
  }
  rows_hold-case update false false place e f = record { not_spent = left; place = place; rows = λ needs. cc (lt-ltb on.free on.needed needs.more, f) }

  rows_hold : (update : Update) → HasPlace update on → ComesTo update on (refusal_of_rows on)
  rows_hold update place = rows_hold-case update on.served (nat_lt on.free on.needed) place refl refl

  set_hold : (flow : Flow) (known full : Bool) → on.known ≡ known → (on.keys == 1536) ≡ full
      → ComesTo (Set flow) on (option_or (cond known None (cond full (Some (BlockFull on.block)) None)) (refusal_of_rows on))
  set_hold flow true full e f = rows_hold (Set flow) (λ unknown. cc (unknown, e))
  set_hold flow false true e f = record { not_spent = left; unknown = e; full = eqb-true on.keys 1536 f; block_is = refl }
  set_hold flow false false e f = rows_hold (Set flow) (λ unknown. eqb-false on.keys 1536 f)

  del_hold : (key : FlowKey) (known : Bool) → on.known ≡ known → ComesTo (Del key) on (option_or (cond known None (Some Absent)) (refusal_of_rows on))
  del_hold key true e = rows_hold (Del key) e
  del_hold key false e = record { not_spent = left; unknown = e }

  place_hold : (update : Update) → ComesTo update on (option_or (refusal_of_place update on) (refusal_of_rows on))
  place_hold (Set flow) = set_hold flow on.known (on.keys == 1536) refl refl
  place_hold (Del key) = del_hold key on.known refl

-- the case that is named holds
holds-case : (update : Update) (on : Grounds) (last : Bool) → (on.turns == most_turns) ≡ last
    → ComesTo update on (option_or (cond last (Some (Spent most_turns)) None) (option_or (refusal_of_place update on) (refusal_of_rows on)))
holds-case update on true e = record { turns = eqb-true on.turns most_turns e; limit_is = refl }
holds-case update on false e = place_hold on (eqb-false on.turns most_turns e) update

holds : (update : Update) (on : Grounds) → ComesTo update on (refusal update on)
unfolding refusal
holds update on = holds-case update on (on.turns == most_turns) refl

pub one_case : OneCaseHolds
one_case update on verdict = (named update on verdict, λ is. subst (ComesTo update on) (sym is) (holds update on))
