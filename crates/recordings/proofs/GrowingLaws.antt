-- Laws of specs/Growing.antt that rest on a definition which an edit of must-fail/ changes.
-- The trace of a recording run, tick by tick (02, Item 2), from any state that a step may be made in and any list of 256 slots.
--   begun_clock, tick_clock    the source's step does not move the clock, and a clean tick moves it by one
--   tick_instants              "an entry's tick is t for the source's step and the finish instant for a node", of every firing, lost or not
--   rec_trace_none, _stays     no tick has no firing, and one after an outcome has none
--   rec_ticks_clock            T clean ticks move the clock by T
--   rec_trace_grows            the next tick of a clean run adds firings of its own alone
--   tick_instant, rec_trace_last
--                              the same said of each firing, and of the traces themselves
use Rattle.std.specs.Prelude.{◌≡◌, ◌⊎◌, Bool, true, false, cond}
use Rattle.std.proofs.Math.Path.{refl, sym, ap, subst}
use Rattle.std.proofs.Common.{◌∙◌, inl, inr, add-zero, arith}
use Rattle.std.proofs.Math.Logic.{⊎_elim}
use mathlib.Core.List.{List, [], ◌∷◌, ◌++◌, append-nil, append_assoc}
use Prim.Native.Nat.{ℕ, zero, suc, ◌+◌, ◌<◌}
use Rattle.chain.specs.declared.Chain.{Chain}
use Rattle.state.specs.declared.Run.{Run}
use Rattle.instants.specs.Steps.{with_done, divides, chosen, worked, ended}
use Rattle.instants.specs.Filled.{Filled}
use Rattle.instants.specs.Kept.{fired_clock}
use Rattle.instants.proofs.KeptLaws.{chosen_low, worked_clock}
use Rattle.traces.specs.Trace.{source_entry, finish_entry}
use Rattle.losses.specs.Losses.{Listed}
use Rattle.losses.specs.declared.Losses.{Losses}
use Rattle.recordings.specs.Steps.{rec_sourced, rec_begun, rec_finished, rec_tick, rec_ticks}
use Rattle.recordings.proofs.RunsLaws.{rec_clean_or, rec_onward_goes, rec_onward_stops, rec_ticks_none, rec_ticks_suc}
use Rattle.recordings.proofs.CasesLaws.{source_four, work_four, rec_begun_cases, rec_tick_ends, rec_tick_works}
use Rattle.recordings.specs.Marked.{Marked}
use Rattle.recordings.specs.Trace.{marked, rec_tracing, rec_finish_trace, rec_tick_trace, rec_trace}
use Rattle.recordings.specs.Kept.{rec_tracing_clean, rec_tracing_none}
use Rattle.recordings.proofs.KeptLaws.{clean_room, begun_leads, rec_tick_firings, rec_tick_firings_none, tick_leads, ticks_lead}
use Rattle.recordings.specs.declared.RecordOutcome.TheVariants.{Clean}
use Rattle.recordings.specs.declared.Recorded.{Recorded}
use Rattle.recordings.specs.Growing.{EachAt, Grows, at_append, at_tracing, next_firings, at_each}

module _ {c : Chain} {s : Run} (f : Filled c s) (l : Losses) where
  source_clock : (rec_sourced c s l).run.clock ≡ s.clock
  source_clock = source_four f l (λ x. x.run.clock ≡ s.clock) (λ d spills room. refl) (λ d spills none. refl) (λ d room. fired_clock c s 0) (λ rests. refl)

  pub begun_clock : (rec_begun c s l).run.clock ≡ s.clock
  begun_clock = rec_begun_cases c s l (λ x. x.run.clock ≡ s.clock) (λ n. source_clock) (λ z lacks. refl) (λ z silent. source_clock)

module _ {c : Chain} {s : Run} (f : Filled c s) {l : Losses} (k : Listed l) where
  pub tick_clock : (rec_tick c s l).outcome ≡ Clean → (rec_tick c s l).run.clock ≡ s.clock + 1
  tick_clock z = ⊎_elim works (λ n. absurd (n (ap (λ (x : Recorded). x.outcome) (sym (rec_tick_ends c s l n)) ∙ z))) (rec_clean_or (rec_begun c s l).outcome)
    where
      u : Run
      u = (rec_begun c s l).run

      works : (rec_begun c s l).outcome ≡ Clean → (rec_tick c s l).run.clock ≡ s.clock + 1
      works y =
          ap (λ (x : Recorded). x.run.clock) (rec_tick_works c s l y)
          ∙ work_four ((begun_leads f k).filled (clean_room y)) (rec_begun c s l).losses (λ x. x.run.clock ≡ u.clock + 1) (chosen c u) (chosen_low c u)
          (λ less. worked_clock u (chosen c u))
          (λ j e all room. fired_clock c (with_done (worked u (suc j)) j 0) (suc j) ∙ worked_clock u (suc j))
          (λ j e all spills room. worked_clock u (suc j))
          (λ j e all spills none. worked_clock u (suc j))
          ∙ ap (λ (t : ℕ). t + 1) (begun_clock f l)

-- the source's firing, and one that is finished
source_at : (c : Chain) (s : Run) → EachAt s.clock (marked c s (source_entry c s))
unfolding EachAt marked source_entry
source_at c s = by (divides c.period s.clock)
  where
    by : (b : Bool) → EachAt s.clock (marked c s (cond b ((s.clock, 0) ∷ []) []))
    by true = (inl (refl, refl), tt)
    by false = tt

finish_at : (c : Chain) (v : Run) (t : ℕ) → v.clock ≡ t + 1 → (i : ℕ) → EachAt t (marked c v (finish_entry v i))
unfolding EachAt marked finish_entry
finish_at c v t e zero = tt
finish_at c v t e (suc j) = (inr (omega arith, e), tt)

module _ {c : Chain} {s : Run} (f : Filled c s) (l : Losses) where
  pub tick_instants : EachAt s.clock (rec_tick_trace c s l)
  unfolding rec_finish_trace EachAt
  tick_instants = ⊎_elim
      (λ z. subst (EachAt s.clock) (sym (rec_tick_firings c s l z)) (at_append s.clock (marked c s (source_entry c s)) _ (source_at c s)
      (at_tracing (rec_finished c v (rec_begun c s l).losses).outcome s.clock (marked c v (finish_entry v (ended c v)))
      (finish_at c v s.clock (worked_clock u (chosen c u) ∙ ap (λ (t : ℕ). t + 1) (begun_clock f l)) (ended c v)))))
      (λ n. subst (EachAt s.clock) (sym (rec_tick_firings_none c s l n)) tt)
      (rec_clean_or (rec_begun c s l).outcome)
    where
      u : Run
      u = (rec_begun c s l).run

      v : Run
      v = worked u (chosen c u)

module _ (c : Chain) where
  pub rec_trace_none : (s : Run) (l : Losses) → rec_trace c 0 s l ≡ []
  unfolding rec_trace
  rec_trace_none s l = refl

  -- one tick that goes on, and one that ends the run: its firings, and what so many ticks leave
  module _ (T : ℕ) (s : Run) (l : Losses) where
    trace_goes : (rec_tick c s l).outcome ≡ Clean → rec_trace c (suc T) s l ≡ rec_tick_trace c s l ++ rec_trace c T (rec_tick c s l).run (rec_tick c s l).losses
    unfolding rec_trace
    trace_goes z = ap (λ (h : List Marked). rec_tick_trace c s l ++ h) (rec_tracing_clean _ z)

    trace_ends : ((rec_tick c s l).outcome ≡ Clean → ⊥) → rec_trace c (suc T) s l ≡ rec_tick_trace c s l
    unfolding rec_trace
    trace_ends n = ap (λ (h : List Marked). rec_tick_trace c s l ++ h) (rec_tracing_none _ _ n) ∙ append-nil (rec_tick_trace c s l)

    ticks_go : (rec_tick c s l).outcome ≡ Clean → rec_ticks c (suc T) s l ≡ rec_ticks c T (rec_tick c s l).run (rec_tick c s l).losses
    ticks_go z = rec_ticks_suc c T s l ∙ rec_onward_goes (rec_tick c s l) (rec_ticks c T) z

    ticks_end : ((rec_tick c s l).outcome ≡ Clean → ⊥) → rec_ticks c (suc T) s l ≡ rec_tick c s l
    ticks_end n = rec_ticks_suc c T s l ∙ rec_onward_stops (rec_tick c s l) (rec_ticks c T) n

  -- T+1 ticks have the firings of T, and then those of one from what these leave clean
  trace_last : (T : ℕ) (s : Run) (l : Losses) → rec_trace c (suc T) s l ≡ rec_trace c T s l ++ next_firings c (rec_ticks c T s l)
  unfolding rec_trace rec_ticks rec_tracing
  trace_last zero s l = ⊎_elim (λ z. trace_goes 0 s l z ∙ append-nil (rec_tick_trace c s l)) (λ n. trace_ends 0 s l n) (rec_clean_or (rec_tick c s l).outcome)
  trace_last (suc T) s l = ⊎_elim
      (λ z.
      trace_goes (suc T) s l z
      ∙ ap (λ (h : List Marked). rec_tick_trace c s l ++ h) (trace_last T x y)
      ∙ sym (append_assoc (rec_tick_trace c s l) (rec_trace c T x y) (next_firings c (rec_ticks c T x y)))
      ∙ (λ i. sym (trace_goes T s l z) i ++ next_firings c (sym (ticks_go T s l z) i)))
      (λ n.
      trace_ends (suc T) s l n
      ∙ sym (trace_ends T s l n)
      ∙ sym (append-nil (rec_trace c (suc T) s l))
      ∙ ap (λ (h : List Marked). rec_trace c (suc T) s l ++ h) (sym (ap (next_firings c) (ticks_end T s l n) ∙ rec_tracing_none (rec_tick c s l).outcome _ n)))
      (rec_clean_or (rec_tick c s l).outcome)
    where
      x : Run
      x = (rec_tick c s l).run

      y : Losses
      y = (rec_tick c s l).losses

  -- a run that has ended has no more firings
  pub rec_trace_stays : (T : ℕ) (s : Run) (l : Losses) → ((rec_ticks c T s l).outcome ≡ Clean → ⊥) → rec_trace c (suc T) s l ≡ rec_trace c T s l
  rec_trace_stays T s l n = trace_last T s l ∙ ap (λ (h : List Marked). rec_trace c T s l ++ h) (rec_tracing_none (rec_ticks c T s l).outcome _ n) ∙ append-nil (rec_trace c T s l)

module _ {c : Chain} where
  pub rec_ticks_clock : (T : ℕ) {s : Run} → Filled c s → {l : Losses} → Listed l → (rec_ticks c T s l).outcome ≡ Clean → (rec_ticks c T s l).run.clock ≡ s.clock + T
  rec_ticks_clock zero {s} f {l} k z = ap (λ (x : Recorded). x.run.clock) (rec_ticks_none c s l) ∙ sym (add-zero s.clock)
  rec_ticks_clock (suc T) {s} f {l} k z = ⊎_elim
      (λ y.
      let d = tick_leads f k in
      let on = rec_ticks_clock T (d.filled (clean_room y)) d.leads.listed (ap (λ (x : Recorded). x.outcome) (sym (ticks_go c T s l y)) ∙ z) in
      ap (λ (x : Recorded). x.run.clock) (ticks_go c T s l y) ∙ on ∙ omega (arith, tick_clock f k y))
      (λ n. absurd (n (ap (λ (x : Recorded). x.outcome) (sym (ticks_end c T s l n)) ∙ z)))
      (rec_clean_or (rec_tick c s l).outcome)

  -- the next tick of a clean run adds firings of its own alone, the source's at its clock and a node's at the next
  pub rec_trace_grows : (T : ℕ) {s : Run} → Filled c s → {l : Losses} → Listed l → (rec_ticks c T s l).outcome ≡ Clean → Grows (s.clock + T) (rec_trace c T s l) (rec_trace c (suc T) s l)
  rec_trace_grows T {s} f {l} k z = record {
    more = next_firings c (rec_ticks c T s l);
    is = trace_last c T s l;
    at = at_tracing (rec_ticks c T s l).outcome (s.clock + T) (rec_tick_trace c (rec_ticks c T s l).run (rec_ticks c T s l).losses)
        (subst (λ (t : ℕ). EachAt t (rec_tick_trace c (rec_ticks c T s l).run (rec_ticks c T s l).losses)) (rec_ticks_clock T f k z)
        (tick_instants ((ticks_lead T f k).filled (clean_room z)) (rec_ticks c T s l).losses));
  }

pub tick_instant : {c : Chain} {s : Run} → Filled c s → (l : Losses) (g h : List Marked) (e : Marked) → rec_tick_trace c s l ≡ g ++ (e ∷ h)
    → ((e.0.1 ≡ 0) × (e.0.0 ≡ s.clock)) ⊎ ((0 < e.0.1) × (e.0.0 ≡ s.clock + 1))
tick_instant {c} {s} f l g h e is = at_each s.clock g h e (subst (EachAt s.clock) is (tick_instants f l))

-- and the firings of T+1 ticks are those of T, and then those of the tick that follows
pub rec_trace_last : (c : Chain) (T : ℕ) (s : Run) (l : Losses) → (rec_ticks c T s l).outcome ≡ Clean
    → rec_trace c (suc T) s l ≡ rec_trace c T s l ++ rec_tick_trace c (rec_ticks c T s l).run (rec_ticks c T s l).losses
rec_trace_last c T s l z = trace_last c T s l ∙ ap (λ (h : List Marked). rec_trace c T s l ++ h) (rec_tracing_clean _ z)
