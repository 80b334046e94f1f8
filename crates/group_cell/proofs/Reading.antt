-- A reader's steps, over its view and the writer's.
use Rattle.std.proofs.Common.{◌≡◌, ℕ, ◌+◌, ◌*◌, ◌/◌, ◌^◌, ◌<◌, ◌≢◌, ◌⊎◌, inl, inr, ⊎_elim, List, get_or, refl, sym, ap, ◌∙◌, subst, arith, le_refl, Option, Some, None, IfSome}
use mathlib.Core.Option.{some, some-ne-none}
use lib.ListN.{get_elem?}
use Rattle.std.proofs.lemmas.Option.{none-some}
use Rattle.flow_types.proofs.Prefixes.{prefix_self, prefix_trans}
use Rattle.atomic_table.proofs.Lists.{at_snoc}
use Rattle.group_search.specs.Home.{Home}
use Rattle.group_search.specs.Published.{count, record_at}
use Rattle.group_cell.specs.declared.view.Address.{Address}
use Rattle.group_cell.specs.declared.view.Load.{Load}
use Rattle.group_cell.specs.declared.view.Sight.{Sight}
use Rattle.group_cell.specs.declared.view.WriterView.{WriterView}
use Rattle.group_cell.specs.declared.view.ReaderView.{ReaderView}
use Rattle.group_cell.specs.Opening.{Opened}
use Rattle.group_cell.specs.Layout.{address, home_of, sequence}
use Rattle.group_cell.specs.Rule.{IsEven, IsIn, IsAtRest, IsFresh, HasLoaded, Holds, nodes_of, latest, Stands, Looks, Sees}
use Rattle.group_cell.specs.Plays.{begun_look, looking, load, loaded_in, loaded, ended_in, looked}
use Rattle.group_cell.proofs.Versions.{same_home_or, count_within, record_at-kept}
use Rattle.group_cell.proofs.Writing.{odd_now}

-- a group is at rest, or it is the one in writing
rests_or : (w : WriterView) (at : Home) → IsAtRest w at ⊎ (w.writing ≡ Some (address at))
rests_or w at = go w.writing
  where
    go : (o : Option Address) → IfSome o (λ a. home_of a ≢ at) ⊎ (o ≡ Some (address at))
    go None = inl tt
    go (Some a) = ⊎_elim (λ (e : home_of a ≡ at). inr (λ i. Some (address (e i)))) (λ other. inl other) (same_home_or (home_of a) at)

module _ (w : WriterView) (s : Stands w) (at : Home) (inside : IsIn w.opening at) where
  -- the group's sequence word is twice its count, plus 1 in writing
  counts : (sequence w.words at ≡ 2 * count w.published at) ⊎ (sequence w.words at ≡ 2 * count w.published at + 1)
  counts = ⊎_elim (λ rests. inl (s.rest at inside rests).version) (λ some. inr (odd_now w at inside s some)) (rests_or w at)

  pub even_rests : IsEven (sequence w.words at) → IsAtRest w at
  even_rests even = ⊎_elim (λ rests. rests) (λ some. let odd = odd_now w at inside s some in absurd (omega arith)) (rests_or w at)

  pub halves : (count w.published at ≡ sequence w.words at / 2) × (sequence w.words at < 2 ^ 33)
  halves = let few = s.few in let le = count_within w.published at in
      ⊎_elim (λ (e : sequence w.words at ≡ 2 * count w.published at). (omega arith, omega arith)) (λ (e : sequence w.words at ≡ 2 * count w.published at + 1). (omega arith, omega arith)) counts

-- a word just loaded is fresh
just_loaded : (words : List ℕ) (at : Home) (word : ℕ) → IsFresh words at (load word (get_or words word 0))
just_loaded words at word = record { data_words = λ _ _ _. refl; tags = λ _ _ _ _. refl; rows = λ _ _ _ _. refl }

module _ (w : WriterView) (r : ReaderView) (s : Stands w) (k : Sees w r) where
  pub starts : (at : Home) → IsIn w.opening at → Sees w (looking at (sequence w.words at) w.published r)
  starts at inside = record {
    opening = k.opening;
    seen = prefix_self w.published;
    heard = λ i l there. prefix_trans l r.seen w.published (k.heard i l there) k.seen;
    look = record {
      inside = inside;
      counted = λ even. sym (s.rest at inside (even_rests w s at inside even)).version;
      late = le_refl (sequence w.words at);
      fresh = λ _ _ x has. absurd (some-ne-none x (sym has.1));
      whole = λ even again. absurd (none-some (sequence w.words at) (sym (open_still (sequence w.words at) even) ∙ again));
    };
  }
    where
      open_still : (first : ℕ) → IsEven first → (begun_look at first).second ≡ None
      open_still first even = rw even refl

  looks_of : (l : Sight) → r.last ≡ Some l → Looks w r l
  looks_of l is = subst (λ (o : Option Sight). IfSome o (Looks w r)) is k.look

  pub loads : (l : Sight) (word : ℕ) → r.last ≡ Some l → l.second ≡ None → Sees w (loaded (load word (get_or w.words word 0)) r)
  loads l word is alone = let x : Load = load word (get_or w.words word 0) in let q = looks_of l is in record {
    opening = k.opening;
    seen = k.seen;
    heard = k.heard;
    look = subst (λ (o : Option Sight). IfSome (loaded_in x o) (Looks w (loaded x r))) (sym is) record {
      inside = q.inside;
      counted = q.counted;
      late = q.late;
      fresh = λ even here y has. ⊎_elim (λ (was : get_elem? l.loads has.0 ≡ some y). q.fresh even here y (has.0, was))
          (λ (same : x ≡ y). subst (IsFresh w.words (home_of l.at)) same (just_loaded w.words (home_of l.at) word)) (at_snoc l.loads x y has.0 has.1);
      whole = λ _ again. absurd (none-some l.first (sym alone ∙ again));
    };
  }

  -- with the same even number again, what was loaded is of the record of that version
  pub reads_whole : (l : Sight) → r.last ≡ Some l → IsEven l.first → sequence w.words (home_of l.at) ≡ l.first → HasLoaded (nodes_of r.opening) l.loads (home_of l.at) (latest r.opening r.seen (home_of l.at))
  reads_whole l is even again = let q = looks_of l is in let at : Home = home_of l.at in
      let rest = s.rest at q.inside (even_rests w s at q.inside (subst IsEven (sym again) even)) in
      let now = rest.version in
      let then_too = q.counted even in
      let same : count w.published at ≡ count r.seen at = omega arith in
      let one_record : latest w.opening w.published at ≡ latest r.opening r.seen at =
      ap (λ (c : ℕ). record_at w.opening.images w.published at c) same ∙ (record_at-kept w.opening.images r.seen w.published at (count r.seen at) k.seen (le_refl (count r.seen at))
      ∙ ap (λ (o : Opened). record_at o.images r.seen at (count r.seen at)) (sym k.opening)) in record {
        words = w.words;
        holds = subst (λ (o : Opened). Holds (nodes_of o) w.words at (latest r.opening r.seen at)) (sym k.opening) (subst (Holds (nodes_of w.opening) w.words at) one_record rest.holds);
        fresh = q.fresh even again;
      }

  pub ends : (l : Sight) → r.last ≡ Some l → Sees w (looked (sequence w.words (home_of l.at)) r)
  ends l is = let n : ℕ = sequence w.words (home_of l.at) in let q = looks_of l is in record {
    opening = k.opening;
    seen = k.seen;
    heard = k.heard;
    look = subst (λ (o : Option Sight). IfSome (ended_in n o) (Looks w (looked n r))) (sym is) record {
      inside = q.inside;
      counted = q.counted;
      late = q.late;
      fresh = q.fresh;
      whole = λ even both. reads_whole l is even (ap (the l.first) both);
    };
  }
    where
      the : ℕ → Option ℕ → ℕ
      the d None = d
      the d (Some n) = n
