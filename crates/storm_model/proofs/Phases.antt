-- From phase to phase.
use Rattle.std.proofs.Common.{◌≡◌, ◌∙◌, ◌<◌, ◌≤◌, ℕ, Bool, true, false, cond, List, [], ◌∷◌, ◌++◌, length, refl, sym, ap, subst, arith, append_assoc, append-nil}
use Rattle.std.specs.Prelude.{◌==◌, nat_lt}
use Rattle.std.proofs.lemmas.Bool.{eqb-true, eqb-false, lt-ltb}
use Rattle.std.proofs.lemmas.List.{length-replicate}
use mathlib.Core.List.{IsPrefix}
use Rattle.flow_types.specs.Size.{IsShape}
use Rattle.group_history.specs.declared.change.Change.{Change}
use Rattle.packet_reader.specs.declared.event.Event.{Event}
use Rattle.packet_reader.specs.declared.event.Event.TheVariants.{Set, Del, Packet, Carry, Sync}
use Rattle.packet_reader.specs.declared.event.Part.{Part}
use Rattle.packet_reader.specs.declared.event.Part.TheVariants.{Table, Fib}
use Rattle.group_history.specs.declared.update.Update.{Update}
use Rattle.group_history.specs.declared.update.Update.TheVariants as update
use Rattle.run_model.specs.declared.reply.Reply.{Reply}
use Rattle.run_model.specs.declared.reply.Reply.TheVariants.{Synced}
use Rattle.run_model.specs.Allowed.{Allowed, AllowedFrom, Cuts, Moment, beginning, phase_end}
use Rattle.run_model.specs.Carrying.{after_sync}
use Rattle.run_model.specs.Laws.{CanBeOpened, no_journals}
use Rattle.run_model.specs.Paths.{Stands, cuts_of}
use Rattle.run_model.specs.Sound.{AreSoundJournals}
use Rattle.run_model.specs.State.{Journals, ClusterOpening, Taken, journal_of}
use Rattle.run_model.specs.Told.{EachPacket, GoesByRecord}
use Rattle.run_model.specs.Updates.{after_update, update_owner}
use Rattle.run_model.proofs.Accepting.{phase-grows, sound-end, sound-first}
use Rattle.run_model.proofs.Cuts.{grown-length}
use Rattle.storm_model.specs.Owners.{own_after, own_changes}
use Rattle.storm_model.specs.Phase.{IsOnePhase, packets_after}
use Rattle.storm_model.specs.Run.{IsPhaseSaid}
use Rattle.storm_model.specs.Stood.{Rises, Stood, all_seen}
use Rattle.storm_model.proofs.Owned.{after-length, after-other, after-own}
use Rattle.storm_model.proofs.Phase.{Leads, leads-on}

seen-here : (opened : ClusterOpening) (journals : Journals) (part : Part) (node owner : ℕ) → node < opened.size.nodes
    → all_seen opened journals part node owner ≡ length (journal_of journals owner)
seen-here opened journals part node owner low = rw (lt-ltb node opened.size.nodes low) refl

seen-more : (opened : ClusterOpening) (journals ends : Journals) → ((owner : ℕ) → IsPrefix (journal_of journals owner) (journal_of ends owner))
    → Rises (all_seen opened journals) (all_seen opened ends)
seen-more opened journals ends grows part node owner = by (nat_lt node opened.size.nodes)
  where
    by : (there : Bool) → cond there (length (journal_of journals owner)) 0 ≤ cond there (length (journal_of ends owner)) 0
    by true = grown-length (journal_of journals owner) (journal_of ends owner) (grows owner)
    by false = omega arith

module _ (opened : ClusterOpening) where
  pub whole-end : (script : List Event) (now : Journals) → length (phase_end opened now script) ≡ length now
  unfolding phase_end
  whole-end [] now = refl
  whole-end (Set flow ∷ script) now = whole-end script (after_update opened now (update.Set flow)) ∙ after-length opened now (update.Set flow)
  whole-end (Del key ∷ script) now = whole-end script (after_update opened now (update.Del key)) ∙ after-length opened now (update.Del key)
  whole-end (Packet ingress key ∷ script) now = whole-end script now
  whole-end (Carry node owner turn part ∷ script) now = whole-end script now
  whole-end (Sync ∷ script) now = refl

  -- what each owner has accepted by itself is what the model says that it has
  own-step : (now : Journals) (asked : Update) (owner : ℕ) → owner < length now
      → journal_of (after_update opened now asked) owner ≡ cond (update_owner opened asked == owner) (own_after opened (journal_of now owner) asked) (journal_of now owner)
  own-step now asked owner low = by (update_owner opened asked == owner) refl
    where
      by : (mine : Bool) → (update_owner opened asked == owner) ≡ mine
          → journal_of (after_update opened now asked) owner ≡ cond mine (own_after opened (journal_of now owner) asked) (journal_of now owner)
      by true is =
          let same = eqb-true (update_owner opened asked) owner is in
          subst (λ (o : ℕ). journal_of (after_update opened now asked) o ≡ own_after opened (journal_of now o) asked) same
          (after-own opened now asked (omega (arith, low, same)))
      by false is =
          let apart = eqb-false (update_owner opened asked) owner is in
          after-other opened now asked owner (λ (e : owner ≡ update_owner opened asked). apart (sym e))

  pick : (own : Bool) (taking staying : List Change) (script : List Event) (owner : ℕ)
      → cond own (own_changes opened owner taking script) (own_changes opened owner staying script) ≡ own_changes opened owner (cond own taking staying) script
  pick true taking staying script owner = refl
  pick false taking staying script owner = refl

  pub own-end : (script : List Event) (now : Journals) (owner : ℕ) → IsOnePhase script → owner < length now
      → journal_of (phase_end opened now script) owner ≡ own_changes opened owner (journal_of now owner) script
  unfolding phase_end
  own-end [] now owner one low = refl
  own-end (Set flow ∷ script) now owner one low =
      own-end script (after_update opened now (update.Set flow)) owner one (omega (arith, low, after-length opened now (update.Set flow)))
      ∙ ap (λ (changes : List Change). own_changes opened owner changes script) (own-step now (update.Set flow) owner low)
      ∙ sym (pick (update_owner opened (update.Set flow) == owner) (own_after opened (journal_of now owner) (update.Set flow)) (journal_of now owner) script owner)
  own-end (Del key ∷ script) now owner one low =
      own-end script (after_update opened now (update.Del key)) owner one (omega (arith, low, after-length opened now (update.Del key)))
      ∙ ap (λ (changes : List Change). own_changes opened owner changes script) (own-step now (update.Del key) owner low)
      ∙ sym (pick (update_owner opened (update.Del key) == owner) (own_after opened (journal_of now owner) (update.Del key)) (journal_of now owner) script owner)
  own-end (Packet ingress key ∷ script) now owner one low = own-end script now owner one low
  own-end (Carry node of turn part ∷ script) now owner one low = absurd one
  own-end (Sync ∷ script) now owner one low = absurd one

  module _ (lanes : ℕ) where
    abbrev pub at_start : Journals → (packets : ℕ) → List Taken → (tables fibs : Cuts) → Moment
    at_start journals packets nodes tables fibs = record { packets = packets; start = journals; now = journals; nodes = nodes; tables = tables; fibs = fibs }

    -- all events so far are answered as the model allows: the run stands between two phases, with these journals and after this number of
    -- packets, and whatever is allowed for the rest is allowed after them
    pub record IsReached (done : List Event) (replies : List Reply) (journals : Journals) (packets : ℕ) : Type 0 where
      pub nodes : List Taken
      pub tables : Cuts
      pub fibs : Cuts
      pub whole : length journals ≡ opened.size.nodes
      pub sounds : AreSoundJournals opened journals
      pub tables_within : (lane node owner : ℕ) → tables lane node owner ≤ all_seen opened journals Table node owner
      pub fibs_within : (lane node owner : ℕ) → fibs lane node owner ≤ all_seen opened journals Fib node owner
      pub leads : (rest : List Event) (more : List Reply) → AllowedFrom opened lanes (at_start journals packets nodes tables fibs) rest more
          → Allowed opened lanes (done ++ rest) (replies ++ more)
      pub goes : (rest : List Event) (more : List Reply) → EachPacket opened (GoesByRecord opened) journals rest more
          → EachPacket opened (GoesByRecord opened) (no_journals opened) (done ++ rest) (replies ++ more)

    pub reached-first : CanBeOpened opened → IsReached [] [] (no_journals opened) 0
    reached-first can =
        record {
          nodes = (beginning opened).nodes;
          tables = (beginning opened).tables;
          fibs = (beginning opened).fibs;
          whole = length-replicate opened.size.nodes [];
          sounds = sound-first opened can;
          tables_within = λ lane node owner. omega arith;
          fibs_within = λ lane node owner. omega arith;
          leads = λ rest more allowed. allowed;
          goes = λ rest more each. each;
        }

    module _ (shape : IsShape opened.size.nodes opened.size.blocks) (some : 0 < lanes) (done : List Event) (before : List Reply) (journals ends : Journals) (packets : ℕ)
        (reached : IsReached done before journals packets) (script : List Event) (replies : List Reply) (said : IsPhaseSaid opened lanes journals ends packets script replies) where
      abbrev start : Moment
      start = at_start journals packets reached.nodes reached.tables reached.fibs

      abbrev stood : (lane : ℕ) → Stood
      stood lane = all_seen opened journals

      stands : Stands opened ends start stood
      stands = record {
        grown = λ owner. subst (λ (js : Journals). IsPrefix (journal_of journals owner) (journal_of js owner)) said.ends_so (phase-grows opened script journals owner);
        late = λ lane part node owner low. omega (arith, seen-here opened journals part node owner low);
        cuts = cuts;
      }
        where
          cuts : (part : Part) (lane node owner : ℕ) → cuts_of part start lane node owner ≤ all_seen opened journals part node owner
          cuts Table = reached.tables_within
          cuts Fib = reached.fibs_within

      sounds : AreSoundJournals opened ends
      sounds = subst (AreSoundJournals opened) said.ends_so (sound-end opened script journals said.rows reached.sounds)

      pub phase-leads : Leads opened lanes ends start script replies
      phase-leads = leads-on opened lanes ends shape some sounds script replies start stood said.owners said.by_lane (record {
        whole = reached.whole;
        stands = stands;
        below = λ lane. seen-more opened journals ends stands.grown;
        rows = said.rows;
        ends_so = said.ends_so;
        owned = said.owned;
        walked = said.walked;
      }) said.merged

      whole : length ends ≡ opened.size.nodes
      whole = ap length (sym said.ends_so) ∙ whole-end script journals ∙ reached.whole

      -- after a sync the next phase begins
      pub reached-sync : IsReached (done ++ (script ++ Sync ∷ [])) (before ++ (replies ++ Synced ∷ [])) ends (packets_after packets script)
      reached-sync =
          let leads = phase-leads in record {
            nodes = after_sync ends reached.nodes;
            tables = leads.tables;
            fibs = leads.fibs;
            whole = whole;
            sounds = sounds;
            tables_within = leads.tables_within;
            fibs_within = leads.fibs_within;
            leads = λ rest more allowed.
                subst (λ (p : List Event × List Reply). Allowed opened lanes p.0 p.1)
                (λ i. (shifted done script Sync rest i, shifted before replies Synced more i))
                (reached.leads (script ++ Sync ∷ rest) (replies ++ Synced ∷ more) (leads.leads (Sync ∷ rest) (Synced ∷ more) tt (refl, allowed)));
            goes = λ rest more each.
                subst (λ (p : List Event × List Reply). EachPacket opened (GoesByRecord opened) (no_journals opened) p.0 p.1)
                (λ i. (shifted done script Sync rest i, shifted before replies Synced more i))
                (reached.goes (script ++ Sync ∷ rest) (replies ++ Synced ∷ more) (leads.goes (Sync ∷ rest) (Synced ∷ more) tt each));
          }
        where
          shifted : {A : Type 0} (done script : List A) (last : A) (rest : List A) → done ++ (script ++ last ∷ rest) ≡ (done ++ (script ++ last ∷ [])) ++ rest
          shifted done script last rest =
              ap (λ l. done ++ l) (sym (append_assoc script (last ∷ []) rest)) ∙ sym (append_assoc done (script ++ last ∷ []) rest)

      -- after the last phase all is answered
      pub allowed-last : Allowed opened lanes (done ++ script) (before ++ replies) × EachPacket opened (GoesByRecord opened) (no_journals opened) (done ++ script) (before ++ replies)
      allowed-last =
          let leads = phase-leads in (
            subst (λ (p : List Event × List Reply). Allowed opened lanes p.0 p.1) (λ i. (bare done script i, bare before replies i))
                (reached.leads (script ++ []) (replies ++ []) (leads.leads [] [] tt tt)),
            subst (λ (p : List Event × List Reply). EachPacket opened (GoesByRecord opened) (no_journals opened) p.0 p.1) (λ i. (bare done script i, bare before replies i))
                (reached.goes (script ++ []) (replies ++ []) (leads.goes [] [] tt tt)),
          )
        where
          bare : {A : Type 0} (done script : List A) → done ++ (script ++ []) ≡ done ++ script
          bare done script = ap (λ l. done ++ l) (append-nil script)
