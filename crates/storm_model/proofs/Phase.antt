-- What owners and lanes say in one phase, in the order of the script, leads from one moment of the model to a later one.
use Rattle.std.proofs.Common.{◌≡◌, ◌≢◌, ◌∙◌, ◌+◌, ◌%◌, ◌<◌, ◌≤◌, ℕ, Bool, true, false, cond, List, [], ◌∷◌, ◌++◌, length, refl, sym, ap, subst, arith, eq-eqb}
use Rattle.std.specs.Prelude.{◌==◌, All}
use Rattle.std.proofs.lemmas.Bool.{eqb-true, eqb-false}
use Rattle.std.proofs.lemmas.List.Elements.{All-head, All-tail}
use Rattle.flow_types.specs.declared.key.FlowKey.{FlowKey}
use Rattle.flow_types.specs.Size.{IsShape}
use Rattle.group_history.specs.declared.change.Change.{Change}
use Rattle.packet_reader.specs.declared.event.Event.{Event}
use Rattle.packet_reader.specs.declared.event.Event.TheVariants.{Set, Del, Packet, Carry, Sync}
use Rattle.packet_reader.specs.declared.event.Part.{Part}
use Rattle.packet_reader.specs.declared.event.Part.TheVariants.{Table, Fib}
use Rattle.group_history.specs.declared.update.Update.{Update}
use Rattle.group_history.specs.declared.update.Update.TheVariants as update
use Rattle.run_model.specs.declared.reply.Reply.{Reply}
use Rattle.run_model.specs.declared.reply.Reply.TheVariants.{Found, Unknown, Nowhere}
use Rattle.run_model.specs.Allowed.{AllowedFrom, Cuts, Moment, PathThen, phase_end}
use Rattle.run_model.specs.Paths.{Stands, cuts_of}
use Rattle.run_model.specs.Sound.{AreSoundJournals}
use Rattle.run_model.specs.State.{Journals, ClusterOpening, journal_of}
use Rattle.run_model.specs.Told.{EachPacket, GoesByRecord}
use Rattle.run_model.specs.Updates.{after_update, update_owner, update_reply}
use Rattle.run_model.proofs.Records.{goes-by-record}
use Rattle.run_model.proofs.Paths.{path-then}
use Rattle.storm_model.specs.Merging.{Merged, Queues, with_queue}
use Rattle.storm_model.specs.Owners.{own_replies}
use Rattle.storm_model.specs.Phase.{BreaksOff, packets_after}
use Rattle.storm_model.specs.Run.{IsRow}
use Rattle.storm_model.specs.Stood.{Rises, SaysByTurns, Stood, WalksByTurns, all_seen, reply_by_turns}
use Rattle.storm_model.specs.Walk.{TakesNext}
use Rattle.storm_model.proofs.Owned.{after-length, due, owner-key, owner-low, rests, says}
use Rattle.storm_model.proofs.Walks.{walk-ends}

rises-on : (a b c : Stood) → Rises a b → Rises b c → Rises a c
rises-on a b c first second part node owner = omega (arith, first part node owner, second part node owner)

-- ---- a path, and the moment after it

record Splits (opened : ClusterOpening) (lanes : ℕ) (m : Moment) (end : Journals) (ingress : ℕ) (key : FlowKey) (reply : Reply) (Rest : Moment → Type 0) : Type 1 where
  next : Moment
  holds : Rest next
  again : (Then : Moment → Type 0) → Then next → PathThen opened lanes m end ingress key reply Then

splits : (opened : ClusterOpening) (lanes : ℕ) (m : Moment) (end : Journals) (ingress : ℕ) (key : FlowKey) (reply : Reply) (Rest : Moment → Type 0)
    → PathThen opened lanes m end ingress key reply Rest → Splits opened lanes m end ingress key reply Rest
splits opened lanes m end ingress key (Found node seen fib info) Rest (cut, fib_cut, s, a, rest) = record { next = _; holds = rest; again = λ Then then. (cut, fib_cut, s, a, then) }
splits opened lanes m end ingress key (Unknown node seen fib) Rest (cut, fib_cut, s, a, rest) = record { next = _; holds = rest; again = λ Then then. (cut, fib_cut, s, a, then) }
splits opened lanes m end ingress key (Nowhere seen) Rest (cut, s, rest) = record { next = _; holds = rest; again = λ Then then. (cut, s, then) }
splits opened lanes m end ingress key _ Rest path = absurd path

-- ---- the lane of a packet has seen more, and the others as much as before

abbrev raised : ((lane : ℕ) → Stood) → (lane : ℕ) → Stood → (asked : ℕ) → Stood
raised stood lane now asked = cond (asked == lane) now (stood asked)

raised-rises : (stood : (lane : ℕ) → Stood) (lane : ℕ) (now : Stood) → Rises (stood lane) now → (asked : ℕ) → Rises (stood asked) (raised stood lane now asked)
raised-rises stood lane now more asked = by (asked == lane) refl
  where
    by : (same : Bool) → (asked == lane) ≡ same → Rises (stood asked) (cond same now (stood asked))
    by true is = subst (λ (l : ℕ). Rises (stood l) now) (sym (eqb-true asked lane is)) more
    by false is = λ part node owner. omega arith

raised-below : (stood : (lane : ℕ) → Stood) (lane : ℕ) (now most : Stood) → Rises now most → ((asked : ℕ) → Rises (stood asked) most) → (asked : ℕ) → Rises (raised stood lane now asked) most
raised-below stood lane now most here all asked = by (asked == lane)
  where
    by : (same : Bool) → Rises (cond same now (stood asked)) most
    by true = here
    by false = all asked

raised-here : (stood : (lane : ℕ) → Stood) (lane : ℕ) (now : Stood) → raised stood lane now lane ≡ now
raised-here stood lane now = rw (eq-eqb lane lane refl) refl

module _ (opened : ClusterOpening) (lanes : ℕ) (ends : Journals) where
  stands-later : (m : Moment) (stood after : (lane : ℕ) → Stood) → Stands opened ends m stood → ((lane : ℕ) → Rises (stood lane) (after lane)) → Stands opened ends m after
  stands-later m stood after stands more = record {
    grown = stands.grown;
    late = λ lane part node owner low. omega (arith, stands.late lane part node owner low, more lane part node owner);
    cuts = λ part lane node owner. omega (arith, stands.cuts part lane node owner, more lane part node owner);
  }

  stands-updated : (m : Moment) (stood : (lane : ℕ) → Stood) (now : Journals) → Stands opened ends m stood → Stands opened ends (record m { now = now }) stood
  stands-updated m stood now stands = record { grown = stands.grown; late = stands.late; cuts = both }
    where
      both : (part : Part) (lane node owner : ℕ) → cuts_of part (record m { now = now }) lane node owner ≤ stood lane part node owner
      both Table = stands.cuts Table
      both Fib = stands.cuts Fib

  -- the phase leads from this moment to one with these cuts, which aren't past what is accepted by the phase's end; and each of its
  -- packets goes where a canonical record sends it
  pub record Leads (m : Moment) (script : List Event) (replies : List Reply) : Type 0 where
    pub tables : Cuts
    pub fibs : Cuts
    pub tables_within : (lane node owner : ℕ) → tables lane node owner ≤ all_seen opened ends Table node owner
    pub fibs_within : (lane node owner : ℕ) → fibs lane node owner ≤ all_seen opened ends Fib node owner
    pub leads : (rest : List Event) (more : List Reply) → BreaksOff rest
        → AllowedFrom opened lanes (record m { packets = packets_after m.packets script; now = ends; tables = tables; fibs = fibs }) rest more
        → AllowedFrom opened lanes m (script ++ rest) (replies ++ more)
    pub goes : (rest : List Event) (more : List Reply) → BreaksOff rest → EachPacket opened (GoesByRecord opened) ends rest more
        → EachPacket opened (GoesByRecord opened) m.now (script ++ rest) (replies ++ more)

  -- the phase's end doesn't depend on what comes after it
  breaks-end : (now : Journals) (script rest : List Event) → BreaksOff rest → phase_end opened now (script ++ rest) ≡ phase_end opened now script
  unfolding phase_end
  breaks-end now [] [] breaks = refl
  breaks-end now [] (Set flow ∷ rest) breaks = absurd breaks
  breaks-end now [] (Del key ∷ rest) breaks = absurd breaks
  breaks-end now [] (Packet ingress key ∷ rest) breaks = absurd breaks
  breaks-end now [] (Carry node owner turn part ∷ rest) breaks = absurd breaks
  breaks-end now [] (Sync ∷ rest) breaks = refl
  breaks-end now (Set flow ∷ script) rest breaks = breaks-end (after_update opened now (update.Set flow)) script rest breaks
  breaks-end now (Del key ∷ script) rest breaks = breaks-end (after_update opened now (update.Del key)) script rest breaks
  breaks-end now (Packet ingress key ∷ script) rest breaks = breaks-end now script rest breaks
  breaks-end now (Carry node owner turn part ∷ script) rest breaks = breaks-end now script rest breaks
  breaks-end now (Sync ∷ script) rest breaks = refl

  -- what each worker has still to say, of the events that are left
  pub record Remains (m : Moment) (stood : (lane : ℕ) → Stood) (owners by_lane : Queues) (script : List Event) : Type 0 where
    pub whole : length m.now ≡ opened.size.nodes
    pub stands : Stands opened ends m stood
    pub below : (lane : ℕ) → Rises (stood lane) (all_seen opened ends)
    pub rows : All (IsRow opened) script
    pub ends_so : phase_end opened m.now script ≡ ends
    pub owned : (owner : ℕ) → owner < length m.now → owners owner ≡ own_replies opened owner (journal_of m.now owner) script
    pub walked : (lane : ℕ) → lane < lanes → WalksByTurns opened ends lanes lane (stood lane) m.packets script (by_lane lane) (all_seen opened ends)

  module _ (shape : IsShape opened.size.nodes opened.size.blocks) (some : 0 < lanes) (sounds : AreSoundJournals opened ends) where
    -- ---- a packet

    module _ (m : Moment) (stood : (lane : ℕ) → Stood) (by_lane : Queues) (ingress : ℕ) (key : FlowKey) (script : List Event) where
      abbrev lane : ℕ
      lane = m.packets % lanes

      -- what the packet's lane had seen when it answered
      record Now (reply : Reply) (rest : List Reply) : Type 0 where
        now : Stood
        more : Rises (stood lane) now
        said : reply ≡ reply_by_turns opened ends now ingress key
        walk : WalksByTurns opened ends lanes lane now (m.packets + 1) script rest (all_seen opened ends)

      abbrev Steps : (own : Bool) → (asked : ℕ) → List Reply → Type 0
      Steps own asked replies =
          TakesNext own replies
          (λ (reply : Reply) (rest : List Reply). (now : Stood) × Rises (stood asked) now × SaysByTurns opened ends now ingress key reply
          × WalksByTurns opened ends lanes asked now (m.packets + 1) script rest (all_seen opened ends))
          (λ (rest : List Reply). WalksByTurns opened ends lanes asked (stood asked) (m.packets + 1) script rest (all_seen opened ends))

      own-now : (reply : Reply) (rest : List Reply) → by_lane lane ≡ reply ∷ rest → Steps (lane == lane) lane (by_lane lane) → Now reply rest
      own-now reply rest next steps =
          let is : Steps true lane (reply ∷ rest) = subst (λ (p : Bool × List Reply). Steps p.0 lane p.1) (λ i. (eq-eqb lane lane refl i, next i)) steps in
          record { now = is.0; more = is.1; said = is.2; walk = is.3 }

      others : (asked : ℕ) → asked ≢ lane → Steps (lane == asked) asked (by_lane asked)
          → WalksByTurns opened ends lanes asked (stood asked) (m.packets + 1) script (by_lane asked) (all_seen opened ends)
      others asked other steps = by (lane == asked) refl steps
        where
          by : (own : Bool) → (lane == asked) ≡ own → Steps own asked (by_lane asked)
              → WalksByTurns opened ends lanes asked (stood asked) (m.packets + 1) script (by_lane asked) (all_seen opened ends)
          by true is steps = absurd (other (sym (eqb-true lane asked is)))
          by false is steps = steps

      walks-on : (reply : Reply) (rest : List Reply) (now : Now reply rest)
          → ((asked : ℕ) → asked < lanes → Steps (lane == asked) asked (by_lane asked)) → (asked : ℕ) → asked < lanes
          → WalksByTurns opened ends lanes asked (raised stood lane now.now asked) (m.packets + 1) script (with_queue by_lane lane rest asked) (all_seen opened ends)
      walks-on reply rest now all asked low = by (asked == lane) refl
        where
          by : (same : Bool) → (asked == lane) ≡ same
              → WalksByTurns opened ends lanes asked (cond same now.now (stood asked)) (m.packets + 1) script (cond same rest (by_lane asked)) (all_seen opened ends)
          by true is =
              subst (λ (l : ℕ). WalksByTurns opened ends lanes l now.now (m.packets + 1) script rest (all_seen opened ends)) (sym (eqb-true asked lane is)) now.walk
          by false is = others asked (eqb-false asked lane is) (all asked low)

    -- ---- all events

    record Goes (m : Moment) (script : List Event) (replies : List Reply) (next : Moment) : Type 0 where
      tables : Cuts
      fibs : Cuts
      is : next ≡ record m { packets = m.packets + 1; tables = tables; fibs = fibs }
      on : Leads (record m { packets = m.packets + 1; tables = tables; fibs = fibs }) script replies

    -- an update is answered as the model answers it
    module _ (m : Moment) (stood : (lane : ℕ) → Stood) (owners by_lane : Queues) (asked : Update) (script : List Event) (reply : Reply) (left : List Reply)
        (whole : length m.now ≡ opened.size.nodes)
        (owned : (owner : ℕ) → owner < length m.now → owners owner ≡ due opened m.now asked owners (λ (o : ℕ) (changes : List Change). own_replies opened o changes script) owner)
        (next : owners (update_owner opened asked) ≡ reply ∷ left) where
      abbrev now : Journals
      now = after_update opened m.now asked

      mine : update_owner opened asked < length m.now
      mine = omega (arith, owner-low opened shape asked, whole)

      updated : Stands opened ends m stood → ((lane : ℕ) → Rises (stood lane) (all_seen opened ends)) → All (IsRow opened) script → phase_end opened now script ≡ ends
          → ((lane : ℕ) → lane < lanes → WalksByTurns opened ends lanes lane (stood lane) m.packets script (by_lane lane) (all_seen opened ends))
          → Remains (record m { now = now }) stood (with_queue owners (update_owner opened asked) left) by_lane script
      updated stands below rows ends_so walked = record {
        whole = after-length opened m.now asked ∙ whole;
        stands = stands-updated m stood now stands;
        below = below;
        rows = rows;
        ends_so = ends_so;
        owned = λ owner low.
            rests opened m.now asked owners (λ (o : ℕ) (changes : List Change). own_replies opened o changes script) mine owned reply left next owner
            (omega (arith, low, after-length opened m.now asked));
        walked = walked;
      }

      said : reply ≡ update_reply opened m.now asked
      said = says opened m.now asked owners (λ (o : ℕ) (changes : List Change). own_replies opened o changes script) mine owned reply left next

    -- a packet: what is left to say after it
    module _ (m : Moment) (stood : (lane : ℕ) → Stood) (owners by_lane : Queues) (ingress : ℕ) (key : FlowKey) (script : List Event) (reply : Reply) (left : List Reply)
        (remains : Remains m stood owners by_lane (Packet ingress key ∷ script)) (next : by_lane (m.packets % lanes) ≡ reply ∷ left) where
      abbrev its_lane : ℕ
      its_lane = m.packets % lanes

      low : its_lane < lanes
      low = omega arith

      here : Now m stood by_lane ingress key script reply left
      here = own-now m stood by_lane ingress key script reply left next (remains.walked its_lane low)

      abbrev after : (lane : ℕ) → Stood
      after = raised stood its_lane here.now

      left-over : (tables fibs : Cuts) → Stands opened ends (record m { packets = m.packets + 1; tables = tables; fibs = fibs }) after
          → phase_end opened m.now script ≡ ends
          → Remains (record m { packets = m.packets + 1; tables = tables; fibs = fibs }) after owners (with_queue by_lane its_lane left) script
      left-over tables fibs stands ends_so = record {
        whole = remains.whole;
        stands = stands;
        below = raised-below stood its_lane here.now (all_seen opened ends)
            (walk-ends Rises rises-on (SaysByTurns opened ends) lanes its_lane script here.now (all_seen opened ends) (m.packets + 1) left here.walk) remains.below;
        rows = All-tail (IsRow opened) (Packet ingress key) script remains.rows;
        ends_so = ends_so;
        owned = remains.owned;
        walked = walks-on m stood by_lane ingress key script reply left here remains.walked;
      }

      -- what the packet's reply is
      its-reply : reply_by_turns opened ends (after its_lane) ingress key ≡ reply
      its-reply = ap (λ (s : Stood). reply_by_turns opened ends s ingress key) (raised-here stood its_lane here.now) ∙ sym here.said

      this : IsRow opened (Packet ingress key)
      this = All-head (IsRow opened) (Packet ingress key) script remains.rows

      path : (Rest : Moment → Type 0)
          → ((tables fibs : Cuts) → Stands opened ends (record m { packets = m.packets + 1; tables = tables; fibs = fibs }) after
          → Rest (record m { packets = m.packets + 1; tables = tables; fibs = fibs }))
          → PathThen opened lanes m ends ingress key reply Rest
      path Rest goes_on =
          subst (λ (r : Reply). PathThen opened lanes m ends ingress key r Rest) its-reply
          (path-then opened shape ends sounds m after (stands-later m stood after remains.stands (raised-rises stood its_lane here.now here.more)) key this.value lanes ingress this.in_range Rest goes_on)

      goes-by : GoesByRecord opened ends key reply
      goes-by = subst (GoesByRecord opened ends key) its-reply (goes-by-record opened ends (after its_lane) ingress key)

    pub leads-on : (script : List Event) (replies : List Reply) (m : Moment) (stood : (lane : ℕ) → Stood) (owners by_lane : Queues)
        → Remains m stood owners by_lane script → Merged opened.size lanes owners by_lane m.packets script replies → Leads m script replies
    unfolding phase_end
    leads-on [] replies m stood owners by_lane remains merged = record {
      tables = m.tables;
      fibs = m.fibs;
      tables_within = λ lane node owner. omega (arith, remains.stands.cuts Table lane node owner, remains.below lane Table node owner);
      fibs_within = λ lane node owner. omega (arith, remains.stands.cuts Fib lane node owner, remains.below lane Fib node owner);
      leads = λ rest more breaks allowed.
          subst (λ (rs : List Reply). AllowedFrom opened lanes m rest (rs ++ more)) (sym merged)
          (subst (λ (js : Journals). AllowedFrom opened lanes (record m { now = js }) rest more) (sym remains.ends_so) allowed);
      goes = λ rest more breaks each.
          subst (λ (rs : List Reply). EachPacket opened (GoesByRecord opened) m.now rest (rs ++ more)) (sym merged)
          (subst (λ (js : Journals). EachPacket opened (GoesByRecord opened) js rest more) (sym remains.ends_so) each);
    }
    leads-on (Set flow ∷ script) [] m stood owners by_lane remains merged = absurd merged
    leads-on (Set flow ∷ script) (reply ∷ replies) m stood owners by_lane remains (left, next0, merged0) =
        let asked = update.Set flow in
        let same = owner-key opened asked in
        let next : owners (update_owner opened asked) ≡ reply ∷ left = ap owners same ∙ next0 in
        let merged = subst (λ (o : ℕ). Merged opened.size lanes (with_queue owners o left) by_lane m.packets script replies) (sym same) merged0 in
        let now = after_update opened m.now asked in
        let on = leads-on script replies (record m { now = now }) stood (with_queue owners (update_owner opened asked) left) by_lane
        (updated m stood owners by_lane asked script reply left remains.whole remains.owned next remains.stands remains.below
        (All-tail (IsRow opened) (Set flow) script remains.rows) remains.ends_so remains.walked) merged in record {
          tables = on.tables;
          fibs = on.fibs;
          tables_within = on.tables_within;
          fibs_within = on.fibs_within;
          leads = λ rest more breaks allowed. (said m stood owners by_lane asked script reply left remains.whole remains.owned next, on.leads rest more breaks allowed);
          goes = on.goes;
        }
    leads-on (Del key ∷ script) [] m stood owners by_lane remains merged = absurd merged
    leads-on (Del key ∷ script) (reply ∷ replies) m stood owners by_lane remains (left, next0, merged0) =
        let asked = update.Del key in
        let same = owner-key opened asked in
        let next : owners (update_owner opened asked) ≡ reply ∷ left = ap owners same ∙ next0 in
        let merged = subst (λ (o : ℕ). Merged opened.size lanes (with_queue owners o left) by_lane m.packets script replies) (sym same) merged0 in
        let now = after_update opened m.now asked in
        let on = leads-on script replies (record m { now = now }) stood (with_queue owners (update_owner opened asked) left) by_lane
        (updated m stood owners by_lane asked script reply left remains.whole remains.owned next remains.stands remains.below
        (All-tail (IsRow opened) (Del key) script remains.rows) remains.ends_so remains.walked) merged in record {
          tables = on.tables;
          fibs = on.fibs;
          tables_within = on.tables_within;
          fibs_within = on.fibs_within;
          leads = λ rest more breaks allowed. (said m stood owners by_lane asked script reply left remains.whole remains.owned next, on.leads rest more breaks allowed);
          goes = on.goes;
        }
    leads-on (Packet ingress key ∷ script) [] m stood owners by_lane remains merged = absurd merged
    leads-on (Packet ingress key ∷ script) (reply ∷ replies) m stood owners by_lane remains (left, next, merged) =
        let lane = m.packets % lanes in
        let split = splits opened lanes m ends ingress key reply (Goes m script replies)
        (path m stood owners by_lane ingress key script reply left remains next (Goes m script replies)
        (λ (tables fibs : Cuts) (stands : Stands opened ends (record m { packets = m.packets + 1; tables = tables; fibs = fibs }) (after m stood owners by_lane ingress key script reply left remains next)). record {
          tables = tables;
          fibs = fibs;
          is = refl;
          on = leads-on script replies (record m { packets = m.packets + 1; tables = tables; fibs = fibs })
              (after m stood owners by_lane ingress key script reply left remains next) owners (with_queue by_lane lane left)
              (left-over m stood owners by_lane ingress key script reply left remains next tables fibs stands remains.ends_so) merged;
        })) in
        let on = split.holds.on in record {
          tables = on.tables;
          fibs = on.fibs;
          tables_within = on.tables_within;
          fibs_within = on.fibs_within;
          leads = λ rest more breaks allowed.
              subst
              (λ (end : Journals). PathThen opened lanes m end ingress key reply (λ (then : Moment). AllowedFrom opened lanes then (script ++ rest) (replies ++ more)))
              (sym (breaks-end m.now script rest breaks ∙ remains.ends_so))
              (split.again (λ (then : Moment). AllowedFrom opened lanes then (script ++ rest) (replies ++ more))
              (subst (λ (then : Moment). AllowedFrom opened lanes then (script ++ rest) (replies ++ more)) (sym split.holds.is) (on.leads rest more breaks allowed)));
          goes = λ rest more breaks each. (
            subst (λ (end : Journals). GoesByRecord opened end key reply) (sym (breaks-end m.now script rest breaks ∙ remains.ends_so))
                (goes-by m stood owners by_lane ingress key script reply left remains next),
            on.goes rest more breaks each,
          );
        }
    leads-on (Carry node owner turn part ∷ script) replies m stood owners by_lane remains merged = absurd merged
    leads-on (Sync ∷ script) replies m stood owners by_lane remains merged = absurd merged
