-- Each of the four kinds of step keeps the rule.
use Rattle.std.proofs.Common.{◌≡◌, ◌≢◌, ℕ, ◌+◌, ◌%◌, ◌^◌, ◌<◌, ◌≤◌, ⊎_elim, List, [], ◌∷◌, ◌++◌, length, get_or, set, sum_by, refl, sym, ap, ◌∙◌, subst, arith}
use mathlib.Core.Option.{none, some}
use lib.ListN.{get_elem?}
use Rattle.std.proofs.Math.Nat.{mod-eq_of_lt}
use Rattle.std.proofs.lemmas.List.Sums.{sum_by_push}
use Rattle.atomic_table.specs.Table.{State, Me, step, keeps, Allows, Splits, Joins}
use Rattle.atomic_table.proofs.Lists.{at_set, at_snoc}
use Rattle.usage_meter.specs.declared.view.Opening.{Opening}
use Rattle.usage_meter.specs.declared.view.Account.{Account}
use Rattle.usage_meter.specs.declared.view.View.{View}
use Rattle.usage_meter.specs.declared.view.View.TheVariants.{Live, Spent}
use Rattle.usage_meter.specs.Rule.{Kept, Knows, adds_in, given_in, usage_in}
use Rattle.usage_meter.specs.Plays.{Adds, IsLive, Learns, Loads, account, added, gathered, given_by, has_gathered, kept_by, loaded}
use Rattle.usage_meter.proofs.Sums.{sum_beside, sum_le, sum_part, sum_set}
use Rattle.usage_meter.proofs.Usage.{octets-both, usage-both, usage-le}
use Rattle.usage_meter.proofs.Words.{Goes, goes_by_add, goes_by_load, read_before, reads_on}

-- what a seat added to a node is no more than what it was given
pub usage_given : (node : ℕ) (v : View) → usage_in node v ≤ given_in v
usage_given node v = let some = usage-le node (adds_in v) in omega arith

knows_on : (key : Opening) (words words' : List ℕ) → ((node : ℕ) → get_or words node 0 ≤ get_or words' node 0) → (v : View) → Knows key words v → Knows key words' v
knows_on key words words' rise (Live a) k = (k.0, reads_on words words' rise a.readings k.1)
knows_on key words words' rise Spent k = k

module _ {S : Type 0} (key : Opening) where
  abbrev Rule : State S View → Type 0
  Rule = Kept key

  module _ (s : State S View) (k : Kept key s) where
    -- no word passes the opening ration
    pub total_le : (node : ℕ) → node < key.nodes → get_or s.words node 0 ≤ key.ration
    total_le node inside = let all = sum_le given_in (usage_in node) s.views (usage_given node) in let is = k.totals node inside in let given = k.rations in omega arith

    -- views change, and no sum over them does
    kept_same : (views : List View) → ((node : ℕ) → sum_by (usage_in node) views ≡ sum_by (usage_in node) s.views) → sum_by given_in views ≡ sum_by given_in s.views
        → ((j : ℕ) (v : View) → get_elem? views j ≡ some v → Knows key s.words v) → Rule (record { words = s.words; homes = s.homes; views = views })
    kept_same views used given each = record {
      wide = k.wide;
      totals = λ node inside. k.totals node inside ∙ sym (used node);
      rations = given ∙ k.rations;
      knows = each;
    }

    module _ (id : ℕ) (a : Account) (at : get_elem? s.views id ≡ some (Live a)) where
      -- the seat's account changes, and the words with it
      kept_goes : (b : Account) (words : List ℕ) → Goes s.words words a b → Rule (record { words = words; homes = s.homes; views = set s.views id (Live b) })
      kept_goes b words goes = record {
        wide = goes.wide ∙ k.wide;
        totals = λ node inside. let sums = sum_set (usage_in node) s.views id (Live a) (Live b) at in let was = k.totals node inside in let now = goes.totals node in omega arith;
        rations = let sums = sum_set given_in s.views id (Live a) (Live b) at in let was = k.rations in let same = goes.given in omega arith;
        knows = λ j v is. ⊎_elim (λ (h : (j ≡ id) × (Live b ≡ v)). subst (Knows key words) h.1 (goes.opening ∙ (k.knows id (Live a) at).0, goes.reads))
            (λ (h : (j ≢ id) × (get_elem? s.views j ≡ some v)). knows_on key s.words words goes.rises v (k.knows j v h.1))
            (at_set s.views id j (Live b) v is);
      }

      -- a word has room for what the seat may still add
      has_room : (node : ℕ) → node < key.nodes → get_or s.words node 0 + a.ration ≤ key.ration
      has_room node inside =
          let beside = sum_beside given_in (usage_in node) s.views id (Live a) (usage_given node) at in
          let is = k.totals node inside in let given = k.rations in let mine = usage-le node a.adds in omega arith

      learns : (node : ℕ) → node < key.nodes → Learns a node (get_or s.words node 0)
      learns node inside = let is = k.totals node inside in record {
        least = let part = sum_part (usage_in node) s.views id (Live a) at in omega arith;
        others = let beside = sum_beside given_in (usage_in node) s.views id (Live a) (usage_given node) at in let given = k.rations in let opened = (k.knows id (Live a) at).0 in omega arith;
        rises = read_before s.words node a.readings (k.knows id (Live a) at).1;
      }

  module _ (slots id : ℕ) (me : Me S View) (is : IsLive me.0) where
    abbrev mine : Account
    mine = account me.0

    pub adds_octets : (node n : ℕ) → node < key.nodes → n ≤ mine.ration → key.ration < 2 ^ 64 → Allows Rule slots id me node (λ x. (x + n) % 2 ^ 64) (Adds (step slots node n 0 none) me)
    adds_octets node n inside enough fits s k _ at _ =
        let here : get_elem? s.views id ≡ some (Live mine) = at ∙ ap some is in
        let room = has_room s k id mine here node inside in
        let wide : node < length s.words = subst (λ (x : ℕ). node < x) (sym k.wide) inside in
        let sum : (get_or s.words node 0 + n) % 2 ^ 64 ≡ get_or s.words node 0 + n = mod-eq_of_lt (omega arith) in (
          Live (added node n mine),
          keeps,
          tt,
          kept_goes s k id mine here (added node n mine) _ (goes_by_add s.words node n _ mine wide enough sum (k.knows id (Live mine) here).1),
          refl,
        )

    pub loads_total : (node : ℕ) → node < key.nodes → Allows Rule slots id me node (λ x. x) (Loads (step slots node 0 0 none) me)
    loads_total node inside s k _ at _ =
        let here : get_elem? s.views id ≡ some (Live mine) = at ∙ ap some is in
        let total : ℕ = get_or s.words node 0 in (
          Live (loaded node total mine),
          keeps,
          tt,
          kept_goes s k id mine here (loaded node total mine) _ (goes_by_load s.words node mine (k.knows id (Live mine) here).1),
          (refl, learns s k id mine here node inside),
        )

  pub splits : (id part : ℕ) (v : View) → IsLive v → part ≤ (account v).ration → Splits Rule id v (kept_by part v) (given_by part v)
  splits id part v is enough s k at =
      let a : Account = account v in
      let here : get_elem? s.views id ≡ some (Live a) = at ∙ ap some is in
      let knows = k.knows id (Live a) here in
      let left : View = kept_by part (Live a) in let right : View = given_by part (Live a) in
      let sums = λ (f : View → ℕ) (both : f left + f right ≡ f (Live a)).
      (let one = sum_set f s.views id (Live a) left here in let other = sum_by_push f (set s.views id left) right in
      let same : sum_by f (set s.views id left ++ right ∷ []) ≡ sum_by f s.views = omega arith in same) in
      subst (λ (u : View). Rule (record { words = s.words; homes = s.homes; views = set s.views id (kept_by part u) ++ given_by part u ∷ [] })) (sym is)
      (kept_same s k (set s.views id left ++ right ∷ []) (λ node. sums (usage_in node) (omega arith)) (sums given_in (omega arith))
      (λ j u e. ⊎_elim (λ (h : get_elem? (set s.views id left) j ≡ some u). ⊎_elim (λ (h : (j ≡ id) × (left ≡ u)). subst (Knows key s.words) h.1 knows) (λ (h : (j ≢ id) × (get_elem? s.views j ≡ some u)). k.knows j u h.1) (at_set s.views id j left u h))
      (λ (h : right ≡ u). subst (Knows key s.words) h (knows.0, λ i d less. absurd (omega arith))) (at_snoc (set s.views id left) right u j e)))

  pub joins : (id other : ℕ) (v w : View) → IsLive v → IsLive w → Joins Rule id v other w (gathered v w) Spent
  joins id other v w is is' s k at apart there =
      let a : Account = account v in let b : Account = account w in
      let here : get_elem? s.views id ≡ some (Live a) = at ∙ ap some is in
      let both : View = Live (has_gathered b a) in
      let same : gathered v w ≡ both = (λ i. gathered (is i) (is' i)) in
      let there' : get_elem? (set s.views id both) other ≡ some (Live b) = ap (λ (u : View). get_elem? (set s.views id u) other) (sym same) ∙ (there ∙ ap some is') in
      let knows = k.knows id (Live a) here in
      let sums = λ (f : View → ℕ) (adds : f both + f Spent ≡ f (Live a) + f (Live b)).
      (let one = sum_set f s.views id (Live a) both here in let other' = sum_set f (set s.views id both) other (Live b) Spent there' in
      let same : sum_by f (set (set s.views id both) other Spent) ≡ sum_by f s.views = omega arith in same) in
      subst (λ (u : View). Rule (record { words = s.words; homes = s.homes; views = set (set s.views id u) other Spent })) (sym same)
      (kept_same s k (set (set s.views id both) other Spent) (λ node. sums (usage_in node) (let used = usage-both node a.adds b.adds in omega arith)) (sums given_in (let had = octets-both a.adds b.adds in omega arith))
      (λ j u e. ⊎_elim (λ (h : (j ≡ other) × (Spent ≡ u)). subst (Knows key s.words) h.1 tt)
      (λ (h : (j ≢ other) × (get_elem? (set s.views id both) j ≡ some u)).
      ⊎_elim (λ (h : (j ≡ id) × (both ≡ u)). subst (Knows key s.words) h.1 knows) (λ (h : (j ≢ id) × (get_elem? s.views j ≡ some u)). k.knows j u h.1) (at_set s.views id j both u h.1))
      (at_set (set s.views id both) other j Spent u e)))
