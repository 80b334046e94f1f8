-- A printed text has one list of replies.
use Rattle.std.proofs.Common.{◌≡◌, ◌∙◌, ◌^◌, ◌≤◌, ℕ, List, [], ◌∷◌, ◌++◌, All, length, refl, sym, ap, subst, append_assoc}
use Rattle.std.proofs.lemmas.List.{append_cancel_left}
use Rattle.std.proofs.lemmas.List.Elements.{All-head, All-tail}
use Rattle.packet_reader.specs.declared.event.Event.{Event}
use Rattle.packet_reader.specs.declared.event.Event.TheVariants.{Set, Del, Packet, Carry, Sync}
use Rattle.group_history.specs.declared.update.Update.TheVariants as update
use Rattle.run_model.specs.declared.reply.Reply.{Reply}
use Rattle.run_model.specs.Allowed.{AllowedFrom, Moment, beginning, phase_end}
use Rattle.run_model.specs.Carrying.{after_carry, after_sync, carry_reply, turns_taken}
use Rattle.run_model.specs.State.{ClusterOpening, Journals, journal_of}
use Rattle.run_model.specs.Updates.{after_update, update_reply}
use Rattle.run_report.specs.Law.{FlowFits, OneReportOneRun, SetFits}
use Rattle.run_report.specs.Report.{line, lines, packets_with, report}
use Rattle.run_report.proofs.EventKinds.{goes_on}
use Rattle.run_report.proofs.SameLine.{same_packet}
use Rattle.run_report.proofs.Fitting.{AreShort, short_del, short_end, short_none, short_path, short_set}

-- ---- one line after the other

-- after one line texts that are one go on as one
module _ (event : Event) (script : List Event) (reply other : Reply) (replies others : List Reply) (packets : ℕ) (rest more : List ℕ) where
  abbrev text_left : List ℕ
  text_left = lines (packets_with packets event) script replies ++ rest

  abbrev other_text_left : List ℕ
  other_text_left = lines (packets_with packets event) script others ++ more

  first_lines : lines packets (event ∷ script) (reply ∷ replies) ++ rest ≡ lines packets (event ∷ script) (other ∷ others) ++ more
      → line packets event reply ++ text_left ≡ line packets event other ++ other_text_left
  unfolding lines
  first_lines is =
      sym (append_assoc (line packets event reply) (lines (packets_with packets event) script replies) rest) ∙ is
      ∙ append_assoc (line packets event other) (lines (packets_with packets event) script others) more

  goes_on_as_one : reply ≡ other → lines packets (event ∷ script) (reply ∷ replies) ++ rest ≡ lines packets (event ∷ script) (other ∷ others) ++ more → text_left ≡ other_text_left
  goes_on_as_one same is =
      append_cancel_left (line packets event reply) text_left other_text_left
      (first_lines is ∙ ap (λ (r : Reply). line packets event r ++ other_text_left) (sym same))

-- ---- a script

no_replies : (opened : ClusterOpening) (lanes : ℕ) (m : Moment) (event : Event) (script : List Event) → AllowedFrom opened lanes m (event ∷ script) [] → ⊥
no_replies opened lanes m (Set flow) script allowed = allowed
no_replies opened lanes m (Del key) script allowed = allowed
no_replies opened lanes m (Packet ingress key) script allowed = allowed
no_replies opened lanes m (Carry node owner turn part) script allowed = allowed
no_replies opened lanes m Sync script allowed = allowed

module _ (opened : ClusterOpening) (nodes_few : opened.size.nodes ≤ 2 ^ 8) (all : All FlowFits opened.flows) (lanes others : ℕ) where
  -- where two runs have the same journals and the same turns taken, lines that are one have one list of replies
  same_from : (script : List Event) (replies other : List Reply) (m n : Moment) (packets : ℕ) (rest more : List ℕ) → All SetFits script → AreShort m.now
      → m.now ≡ n.now → m.nodes ≡ n.nodes → AllowedFrom opened lanes m script replies → AllowedFrom opened others n script other
      → lines packets script replies ++ rest ≡ lines packets script other ++ more → replies ≡ other
  same_from [] [] [] m n packets rest more sets short now nodes a b is = refl
  same_from [] [] (other ∷ left) m n packets rest more sets short now nodes a b is = absurd b
  same_from [] (reply ∷ replies) other m n packets rest more sets short now nodes a b is = absurd a
  same_from (event ∷ script) [] other m n packets rest more sets short now nodes a b is = absurd (no_replies opened lanes m event script a)
  same_from (event ∷ script) (reply ∷ replies) [] m n packets rest more sets short now nodes a b is = absurd (no_replies opened others n event script b)
  same_from (Set flow ∷ script) (reply ∷ replies) (other ∷ left) m n packets rest more sets short now nodes a b is =
      let same : reply ≡ other = a.0 ∙ ap (λ (js : Journals). update_reply opened js (update.Set flow)) now ∙ sym b.0 in
      let later = same_from script replies left (record m { now = after_update opened m.now (update.Set flow) }) (record n { now = after_update opened n.now (update.Set flow) })
      packets rest more (All-tail SetFits (Set flow) script sets)
      (short_set opened m.now flow (All-head SetFits (Set flow) script sets) short)
      (ap (λ (js : Journals). after_update opened js (update.Set flow)) now) nodes a.1 b.1
      (goes_on_as_one (Set flow) script reply other replies left packets rest more same is) in
      λ k. same k ∷ later k
  same_from (Del key ∷ script) (reply ∷ replies) (other ∷ left) m n packets rest more sets short now nodes a b is =
      let same : reply ≡ other = a.0 ∙ ap (λ (js : Journals). update_reply opened js (update.Del key)) now ∙ sym b.0 in
      let later = same_from script replies left (record m { now = after_update opened m.now (update.Del key) }) (record n { now = after_update opened n.now (update.Del key) })
      packets rest more (All-tail SetFits (Del key) script sets) (short_del opened m.now key short)
      (ap (λ (js : Journals). after_update opened js (update.Del key)) now) nodes a.1 b.1
      (goes_on_as_one (Del key) script reply other replies left packets rest more same is) in
      λ k. same k ∷ later k
  same_from (Packet ingress key ∷ script) (reply ∷ replies) (other ∷ left) m n packets rest more sets short now nodes a b is =
      let sets_left = All-tail SetFits (Packet ingress key) script sets in
      let end = phase_end opened m.now script in
      let other_end = phase_end opened n.now script in
      let Rest : Moment → Type 0 = λ next. AllowedFrom opened lanes next script replies in
      let OtherRest : Moment → Type 0 = λ next. AllowedFrom opened others next script left in
      let after = goes_on opened lanes m end ingress key reply Rest a in
      let other_after = goes_on opened others n other_end ingress key other OtherRest b in
      let first_short = short_path opened nodes_few all end (short_end opened script m.now sets_left short) key lanes m ingress reply Rest a in
      let other_short = short_path opened nodes_few all other_end (short_end opened script n.now sets_left (subst AreShort now short)) key others n ingress other OtherRest b in
      let same = same_packet packets ingress reply other _ _ first_short other_short (first_lines (Packet ingress key) script reply other replies left packets rest more is) in
      let later = same_from script replies left after.next other_after.next (packets_with packets (Packet ingress key)) rest more sets_left
      (subst AreShort (sym after.now_is) short) (after.now_is ∙ now ∙ sym other_after.now_is) (after.nodes_is ∙ nodes ∙ sym other_after.nodes_is)
      after.rest other_after.rest same.1 in
      λ k. same.0 k ∷ later k
  same_from (Carry node owner turn part ∷ script) (reply ∷ replies) (other ∷ left) m n packets rest more sets short now nodes a b is =
      let replied : carry_reply (length (journal_of m.now owner)) (turns_taken part m.nodes node owner) turn
      ≡ carry_reply (length (journal_of n.now owner)) (turns_taken part n.nodes node owner) turn =
      λ k. carry_reply (length (journal_of (now k) owner)) (turns_taken part (nodes k) node owner) turn in
      let same : reply ≡ other = a.0 ∙ replied ∙ sym b.0 in
      let later = same_from script replies left (record m { nodes = after_carry m.now m.nodes node owner turn part }) (record n { nodes = after_carry n.now n.nodes node owner turn part })
      packets rest more (All-tail SetFits (Carry node owner turn part) script sets) short now
      (λ k. after_carry (now k) (nodes k) node owner turn part) a.1 b.1
      (goes_on_as_one (Carry node owner turn part) script reply other replies left packets rest more same is) in
      λ k. same k ∷ later k
  same_from (Sync ∷ script) (reply ∷ replies) (other ∷ left) m n packets rest more sets short now nodes a b is =
      let same : reply ≡ other = a.0 ∙ sym b.0 in
      let later = same_from script replies left (record m { start = m.now; nodes = after_sync m.now m.nodes }) (record n { start = n.now; nodes = after_sync n.now n.nodes })
      packets rest more (All-tail SetFits Sync script sets) short now (λ k. after_sync (now k) (nodes k)) a.1 b.1
      (goes_on_as_one Sync script reply other replies left packets rest more same is) in
      λ k. same k ∷ later k

pub one_report_one_run : OneReportOneRun
unfolding report
one_report_one_run opened lanes others script replies other fit a b is =
    same_from opened fit.nodes fit.flows lanes others script replies other (beginning opened) (beginning opened) 0 _ _ fit.sets
    (short_none opened.size.nodes) refl refl a b is
