-- Laws of specs/Kept.antt that rest on a definition which an edit of must-fail/ changes.
-- What a recording tick and so many of them keep (02, Item 2).
--   clean_room                 what is clean was not
--   source_leads, begun_leads, work_leads
--                              the source's step, with 13, and a tick of work, each by the firing that it makes
--   rec_tick_firings, -none    the firings of a tick, by those of its parts
--   tick_leads, ticks_lead     one tick, and so many, whatever their outcome
--   trace_fair, _after, _entries, _rising
--                              the same said of the firings themselves
use Rattle.std.specs.Prelude.{◌≡◌, Bool, cond}
use Rattle.std.proofs.Math.Path.{refl, ap, ap₂, subst}
use Rattle.std.proofs.Common.{sym, ◌∙◌, true≢false, le_refl, arith}
use Rattle.std.proofs.Math.Logic.{⊎_elim}
use Rattle.std.proofs.Math.Bool.{true, false}
use mathlib.Core.List.{List, [], ◌∷◌, ◌++◌, append-nil}
use Prim.Native.Nat.{ℕ, zero, suc, ◌+◌, ◌≤◌, ◌<◌}
use Rattle.chain.specs.Record.{row_of, work_of}
use Rattle.chain.specs.declared.Chain.{Chain}
use Rattle.state.specs.State.{done_at}
use Rattle.state.specs.Fired.{fired, Over, Room}
use Rattle.state.specs.Checks.{cramped, Cramped}
use Rattle.state.proofs.ChecksLaws.{cramped_is, cramped_room}
use Rattle.state.specs.declared.Run.{Run}
use Rattle.instants.specs.Steps.{divides, with_done, chosen, worked, ended}
use Rattle.instants.specs.Filled.{Filled, cramped_as}
use Rattle.instants.proofs.FilledLaws.{fired_filled}
use Rattle.instants.specs.Source.{Due}
use Rattle.instants.proofs.SourceLaws.{divides_is}
use Rattle.instants.proofs.KeptLaws.{chosen_low, chosen_over, worked_counts, worked_held, worked_clock, works_filled, works_unended, works_ended, cleared_filled}
use Rattle.traces.specs.Trace.{resting, source_entry, finish_entry}
use Rattle.traces.specs.Rising.{Rising}
use Rattle.losses.specs.Losses.{entries_in, Listed, noted}
use Rattle.losses.specs.declared.Losses.{Losses}
use Rattle.recordings.specs.Steps.{rec_clean, dropped, rec_sourced, rec_begun, rec_advanced, rec_finished, rec_tick, rec_ticks}
use Rattle.recordings.proofs.RunsLaws.{rec_unclean_undated, rec_unclean_full, rec_clean_or, rec_onward_goes, rec_onward_stops}
use Rattle.recordings.proofs.DropsLaws.{dropped_filled}
use Rattle.recordings.proofs.CasesLaws.{source_four, work_four, rec_begun_cases, rec_tick_ends, rec_tick_works}
use Rattle.recordings.specs.Marked.{Marked, unmarked, rec_after, EachFair, losses_of}
use Rattle.recordings.specs.Trace.{marked, rec_tracing, rec_finish_trace, rec_tick_trace, rec_trace}
use Rattle.recordings.specs.Leads.{Leads}
use Rattle.recordings.proofs.LeadsLaws.{leads_none, leads_fired, leads_dropped, leads_then}
use Rattle.recordings.specs.declared.RecordOutcome.{RecordOutcome}
use Rattle.recordings.specs.declared.RecordOutcome.TheVariants.{Clean, NoDeadline, ListFull}
use Rattle.recordings.specs.declared.Recorded.{Recorded}
use Rattle.recordings.specs.Kept.{rec_tracing_clean, rec_tracing_none, Led}

-- the source's firing, marked: lost, or not, or none
module _ (c : Chain) (s : Run) where
  due_firing : Due c s → (b : Bool) → cramped c s 0 ≡ b → marked c s (source_entry c s) ≡ ((s.clock, 0), b) ∷ []
  unfolding marked source_entry
  due_firing d b e = by (divides c.period s.clock) ((divides_is c.period s.clock).1 d)
    where
      by : (x : Bool) → x ≡ true → marked c s (cond x ((s.clock, 0) ∷ []) []) ≡ ((s.clock, 0), b) ∷ []
      by true q = λ i. ((s.clock, 0), e i) ∷ []
      by false q = absurd (true≢false (sym q))

  rest_firing : (Due c s → ⊥) → marked c s (source_entry c s) ≡ []
  unfolding marked source_entry
  rest_firing n = by (divides c.period s.clock) refl
    where
      by : (x : Bool) → divides c.period s.clock ≡ x → marked c s (cond x ((s.clock, 0) ∷ []) []) ≡ []
      by true q = absurd (n ((divides_is c.period s.clock).0 q))
      by false q = refl

-- what is clean was not found full
pub clean_room : {o : RecordOutcome} → o ≡ Clean → (t q : ℕ) → o ≡ ListFull t q → ⊥
clean_room z t q e = rec_unclean_full (sym e ∙ z)

module _ {c : Chain} {s : Run} (f : Filled c s) {l : Losses} (k : Listed l) where
  -- no firing, and the state as it was
  led_none : (o : RecordOutcome) → Led c s l [] (record { outcome = o; run = s; losses = l })
  led_none o = record { leads = leads_none c s s k refl refl (le_refl s.clock); filled = λ room. f }

  -- an outcome leaves the state and the list as they were
  led_stays : (h : List Marked) (o : RecordOutcome) → (o ≡ Clean → ⊥) → Led c s l (rec_tracing o h) (record { outcome = o; run = s; losses = l })
  led_stays h o n = subst (λ (g : List Marked). Led c s l g (record { outcome = o; run = s; losses = l })) (sym (rec_tracing_none o h n)) (led_none o)

  -- the source's step
  pub source_leads : Led c s l (rec_tracing (rec_sourced c s l).outcome (marked c s (source_entry c s))) (rec_sourced c s l)
  unfolding rec_tracing
  source_leads = source_four f l (λ x. Led c s l (rec_tracing x.outcome (marked c s (source_entry c s))) x)
      (λ d spills room. record {
        leads = rw (due_firing c s d true ((cramped_is c s 0).1 spills)) (leads_dropped c s k 0 (omega arith) tt spills room);
        filled = λ more. dropped_filled f 0 tt;
      })
      (λ d spills none. led_stays (marked c s (source_entry c s)) (ListFull s.clock 0) rec_unclean_full)
      (λ d room. record {
        leads = rw (due_firing c s d false ((cramped_room c s 0).1 room)) (leads_fired c s k 0 (omega arith) tt room);
        filled = λ more. fired_filled f 0 tt room;
      })
      (λ rests. subst (λ (h : List Marked). Led c s l h (rec_clean s l)) (sym (rest_firing c s rests)) (led_none Clean))

  -- and 13
  pub begun_leads : Led c s l (rec_tracing (rec_begun c s l).outcome (marked c s (source_entry c s))) (rec_begun c s l)
  unfolding rec_tracing
  begun_leads = rec_begun_cases c s l (λ x. Led c s l (rec_tracing x.outcome (marked c s (source_entry c s))) x)
      (λ n. source_leads)
      (λ z lacks. led_stays (marked c s (source_entry c s)) (NoDeadline s.clock _) rec_unclean_undated)
      (λ z silent. record {
        leads = subst (λ (h : List Marked). Leads c s l h (rec_sourced c s l).run (rec_sourced c s l).losses) (rec_tracing_clean (marked c s (source_entry c s)) z) source_leads.leads;
        filled = λ more. source_leads.filled (clean_room z);
      })

-- the firing that is finished, marked: lost, or not, or none
module _ {c : Chain} {u : Run} (f : Filled c u) where
  rest_finish : (i : ℕ) → ((j : ℕ) → j < c.n → i ≡ suc j → done_at u j + 1 < work_of c j) → marked c (worked u i) (finish_entry (worked u i) (ended c (worked u i))) ≡ []
  unfolding marked finish_entry
  rest_finish i less = ap (λ (e : ℕ). marked c (worked u i) (finish_entry (worked u i) e)) (works_unended f i less)

  end_finish : (j : ℕ) → j < c.n → done_at u j + 1 ≡ work_of c j → (b : Bool) → cramped c u (suc j) ≡ b
      → marked c (worked u (suc j)) (finish_entry (worked u (suc j)) (ended c (worked u (suc j)))) ≡ (((worked u (suc j)).clock, suc j), b) ∷ []
  unfolding marked finish_entry
  end_finish j l all b e =
      ap (λ (m : ℕ). marked c (worked u (suc j)) (finish_entry (worked u (suc j)) m)) (works_ended f j l all)
      ∙ (λ i. (((worked u (suc j)).clock, suc j), (cramped_as c u (worked u (suc j)) (suc j) (worked_held u (suc j)) ∙ e) i) ∷ [])

-- N_(j+1)'s firing that a tick of work has finished, its work cleared: it fits, or it is lost
module _ {c : Chain} {u : Run} (f : Filled c u) {l : Losses} (k : Listed l) (j : ℕ) (node : j < c.n) (over : Over c u (suc j)) (all : done_at u j + 1 ≡ work_of c j) where
  cleared : Run
  cleared = with_done (worked u (suc j)) j 0

  cleared_leads : (h : List Marked) {v : Run} {m : Losses} → Leads c cleared l h v m → Leads c u l h v m
  unfolding cleared
  cleared_leads h = leads_then [] h (leads_none c u cleared k (sym (worked_counts u (suc j))) (sym (worked_held u (suc j))) (omega (arith, worked_clock u (suc j))))

  cleared_over : Over c cleared (suc j)
  unfolding cleared worked
  cleared_over = over

  finish_leads : Room c u (suc j) → Led c u l ((((worked u (suc j)).clock, suc j), false) ∷ []) (rec_clean (fired c cleared (suc j)) l)
  unfolding cleared worked
  finish_leads room = record {
    leads = cleared_leads _ (leads_fired c cleared k (suc j) node cleared_over room);
    filled = λ more. fired_filled (cleared_filled f j node all) (suc j) cleared_over room;
  }

  finish_drops : Cramped c u (suc j) → l.count < 256
      → Led c u l ((((worked u (suc j)).clock, suc j), true) ∷ []) (rec_clean (dropped c cleared (suc j)) (noted l (worked u (suc j)).clock (suc j) (row_of c (suc j)).produce))
  unfolding cleared worked
  finish_drops spills room = record {
    leads = cleared_leads _ (leads_dropped c cleared k (suc j) node cleared_over spills room);
    filled = λ more. dropped_filled (cleared_filled f j node all) (suc j) cleared_over;
  }

-- one tick of work of N_i, and the effect of the firing that it finishes, if any
module _ {c : Chain} {u : Run} (f : Filled c u) {l : Losses} (k : Listed l) (i : ℕ) (low : i ≤ c.n) (over : (j : ℕ) → i ≡ suc j → Over c u (suc j)) where
  finishing : List Marked
  finishing = marked c (worked u i) (finish_entry (worked u i) (ended c (worked u i)))

  node : (j : ℕ) → i ≡ suc j → j < c.n
  node j e = omega arith

  -- its firing is N_(j+1)'s
  own : (j : ℕ) → i ≡ suc j → done_at u j + 1 ≡ work_of c j → (b : Bool) → cramped c u (suc j) ≡ b → (((worked u (suc j)).clock, suc j), b) ∷ [] ≡ finishing
  unfolding finishing
  own j e all b q =
      subst (λ (m : ℕ). (((worked u (suc j)).clock, suc j), b) ∷ [] ≡ marked c (worked u m) (finish_entry (worked u m) (ended c (worked u m)))) (sym e)
      (sym (end_finish f j (node j e) all b q))

  -- no firing takes effect
  work_none : (o : RecordOutcome) (m : ℕ) → (((t q : ℕ) → o ≡ ListFull t q → ⊥) → Filled c (worked u m)) → Led c u l [] (record { outcome = o; run = worked u m; losses = l })
  work_none o m filled = record { leads = leads_none c u (worked u m) k (sym (worked_counts u m)) (sym (worked_held u m)) (omega (arith, worked_clock u m)); filled = filled }

  pub work_leads : Led c u l (rec_tracing (rec_finished c (worked u i) l).outcome (marked c (worked u i) (finish_entry (worked u i) (ended c (worked u i))))) (rec_finished c (worked u i) l)
  unfolding rec_tracing cleared finishing
  work_leads = work_four f l (λ x. Led c u l (rec_tracing x.outcome finishing) x) i low
      (λ unfinished.
      let less : (j : ℕ) → j < c.n → i ≡ suc j → done_at u j + 1 < work_of c j = λ j m e. omega (arith, unfinished j e, f.below j m) in
      subst (λ (h : List Marked). Led c u l h (rec_clean (worked u i) l)) (sym (rest_finish f i less)) (work_none Clean i (λ more. works_filled f i less)))
      (λ j e all room. subst (λ (h : List Marked). Led c u l h (rec_clean (fired c (with_done (worked u (suc j)) j 0) (suc j)) l))
      (own j e all false ((cramped_room c u (suc j)).1 room)) (finish_leads f k j (node j e) (over j e) all room))
      (λ j e all spills room. subst
      (λ (h : List Marked). Led c u l h (rec_clean (dropped c (with_done (worked u (suc j)) j 0) (suc j)) (noted l (worked u (suc j)).clock (suc j) (row_of c (suc j)).produce)))
      (own j e all true ((cramped_is c u (suc j)).1 spills)) (finish_drops f k j (node j e) (over j e) all spills room))
      (λ j e all spills none. work_none (ListFull (worked u (suc j)).clock (suc j)) (suc j) (λ room. absurd (room (worked u (suc j)).clock (suc j) refl)))

-- the firings of a tick that ends with the source's step or 13, and of one that goes on
module _ (c : Chain) (s : Run) (l : Losses) where
  pub rec_tick_firings_none : ((rec_begun c s l).outcome ≡ Clean → ⊥) → rec_tick_trace c s l ≡ []
  unfolding rec_tick_trace rec_advanced
  rec_tick_firings_none n =
      let last = rec_onward_stops (rec_begun c s l) (λ u m. rec_clean (worked u (chosen c u)) m) n in
      ap₂ ◌++◌ (rec_tracing_none (rec_begun c s l).outcome _ n)
      (ap (λ (x : Recorded). rec_tracing x.outcome (rec_finish_trace c x.run x.losses)) last ∙ rec_tracing_none (rec_begun c s l).outcome _ n)

  pub rec_tick_firings : (rec_begun c s l).outcome ≡ Clean
      → rec_tick_trace c s l ≡ marked c s (source_entry c s) ++ rec_finish_trace c (worked (rec_begun c s l).run (chosen c (rec_begun c s l).run)) (rec_begun c s l).losses
  unfolding rec_tick_trace rec_advanced rec_tracing
  rec_tick_firings z =
      ap₂ ◌++◌ (rec_tracing_clean _ z)
      (ap (λ (x : Recorded). rec_tracing x.outcome (rec_finish_trace c x.run x.losses)) (rec_onward_goes (rec_begun c s l) (λ u m. rec_clean (worked u (chosen c u)) m) z))

module _ {c : Chain} {s : Run} (f : Filled c s) {l : Losses} (k : Listed l) where
  -- one tick, whatever its outcome
  pub tick_leads : Led c s l (rec_tick_trace c s l) (rec_tick c s l)
  unfolding rec_finish_trace
  tick_leads = ⊎_elim works ends (rec_clean_or (rec_begun c s l).outcome)
    where
      b : Led c s l (rec_tracing (rec_begun c s l).outcome (marked c s (source_entry c s))) (rec_begun c s l)
      b = begun_leads f k

      ends : ((rec_begun c s l).outcome ≡ Clean → ⊥) → Led c s l (rec_tick_trace c s l) (rec_tick c s l)
      ends n = subst (Led c s l (rec_tick_trace c s l)) (sym (rec_tick_ends c s l n))
          (subst (λ (h : List Marked). Led c s l h (rec_begun c s l)) (rec_tracing_none _ _ n ∙ sym (rec_tick_firings_none c s l n)) b)

      works : (rec_begun c s l).outcome ≡ Clean → Led c s l (rec_tick_trace c s l) (rec_tick c s l)
      works z =
          let u = (rec_begun c s l).run in
          let first : Leads c s l (marked c s (source_entry c s)) u (rec_begun c s l).losses =
          subst (λ (h : List Marked). Leads c s l h u (rec_begun c s l).losses) (rec_tracing_clean _ z) b.leads in
          let w = work_leads (b.filled (clean_room z)) first.listed (chosen c u) (chosen_low c u) (chosen_over c u) in
          subst (Led c s l (rec_tick_trace c s l)) (sym (rec_tick_works c s l z))
          (subst (λ (h : List Marked). Led c s l h (rec_finished c (worked u (chosen c u)) (rec_begun c s l).losses)) (sym (rec_tick_firings c s l z))
          (record { leads = leads_then _ _ first w.leads; filled = w.filled }))

-- and so many
pub ticks_lead : {c : Chain} (T : ℕ) {s : Run} → Filled c s → {l : Losses} → Listed l → Led c s l (rec_trace c T s l) (rec_ticks c T s l)
unfolding rec_trace rec_ticks
ticks_lead {c} zero {s} f {l} k = led_none f k Clean
ticks_lead {c} (suc T) {s} f {l} k = ⊎_elim
    (λ z.
    let step : Led c s l (rec_tick_trace c s l) x = tick_leads f k in
    let on : Led c x.run x.losses (rec_trace c T x.run x.losses) (rec_ticks c T x.run x.losses) = ticks_lead T (step.filled (clean_room z)) step.leads.listed in
    rw (rec_tracing_clean (rec_trace c T x.run x.losses) z, rec_onward_goes x (rec_ticks c T) z) (record { leads = leads_then _ _ step.leads on.leads; filled = on.filled }))
    (λ n. rw (rec_tracing_none x.outcome (rec_trace c T x.run x.losses) n, append-nil (rec_tick_trace c s l), rec_onward_stops x (rec_ticks c T) n) (tick_leads f k))
    (rec_clean_or x.outcome)
  where
    x : Recorded
    x = rec_tick c s l

-- the same of a run from any state, said of its firings themselves
module _ {c : Chain} (T : ℕ) {s : Run} (f : Filled c s) {l : Losses} (k : Listed l) where
  pub trace_fair : EachFair c (resting s) (rec_trace c T s l)
  trace_fair = (ticks_lead T f k).leads.fair

  pub trace_after : rec_after c (resting s) (rec_trace c T s l) ≡ resting (rec_ticks c T s l).run
  trace_after = (ticks_lead T f k).leads.after

  pub trace_entries : entries_in (rec_ticks c T s l).losses ≡ entries_in l ++ losses_of c (rec_trace c T s l)
  trace_entries = (ticks_lead T f k).leads.entries

  pub trace_rising : Rising s.clock (unmarked (rec_trace c T s l)) (rec_ticks c T s l).run.clock
  trace_rising = (ticks_lead T f k).leads.rising
