-- Laws of specs/Rising.antt that rest on a definition which an edit of must-fail/ changes.
-- The instants of a trace (01, Firing).
--   tick_rising, trace_rising  the instants of one tick, and of so many, lie between the clock before and the clock after
--   run_rising                 those of a deadline run, from a fresh start
use Rattle.std.proofs.Common.{sym, arith}
use Rattle.std.proofs.Math.Path.{subst}
use Rattle.std.specs.Prelude.{Bool, eqb}
use Rattle.std.proofs.Math.Bool.{true, false, cond}
use mathlib.Core.List.{List, [], ◌∷◌, ◌++◌}
use Prim.Native.Nat.{ℕ, zero, suc}
use Rattle.std.proofs.Math.Nat.{le_refl}
use Rattle.chain.specs.declared.Chain.{Chain}
use Rattle.sizing.specs.Accepted.{Accepted}
use Rattle.state.specs.State.{fresh_run}
use Rattle.state.specs.Fired.{fired}
use Rattle.state.specs.Checks.{cramped}
use Rattle.state.specs.declared.Run.{Run}
use Rattle.history.specs.History.{Entry}
use Rattle.instants.specs.Steps.{clean, overflowed, undated, onward, goes, divides, sourced, lacking, begun, chosen, worked, ended, finish, finished, advanced, tick, ticks, instants}
use Rattle.instants.proofs.KeptLaws.{finish_cases, worked_clock}
use Rattle.instants.proofs.FreshLaws.{run_is_ticks}
use Rattle.instants.specs.declared.Outcome.{Outcome}
use Rattle.instants.specs.declared.Outcome.TheVariants.{Clean, Overflowed, NoDeadline}
use Rattle.instants.specs.declared.Ticked.{Ticked}
use Rattle.traces.specs.Trace.{tracing, source_entry, finish_entry, finish_trace, tick_trace, trace}
use Rattle.traces.specs.Rising.{Rising, rising_later, rising_append}

module _ (c : Chain) where
  -- what 13 makes of a state with the clock of s
  dated_rising : (s u : Run) (h : List Entry) (b : Bool) (i : ℕ) → Rising s.clock h u.clock
      → Rising s.clock (tracing (cond b (clean u) (undated s s.clock i)).outcome s (λ v. h)) (cond b (clean u) (undated s s.clock i)).run.clock
  unfolding tracing Rising
  dated_rising s u h true i r = r
  dated_rising s u h false i r = le_refl s.clock

  -- the source's step and 13
  begun_rising : (s : Run) → Rising s.clock (tracing (begun c s).outcome s (λ u. source_entry c s)) (begun c s).run.clock
  unfolding begun sourced source_entry tracing Rising fired
  begun_rising s = by (divides c.period s.clock) (cramped c s 0)
    where
      dates : Run → Ticked
      dates u = cond (eqb (lacking c u).number 0) (clean u) (undated s s.clock (lacking c u).place)

      step : Bool → Bool → Ticked
      step d x = onward (cond d (cond x (overflowed s s.clock 0) (clean (fired c s 0))) (clean s)) dates

      late : (u : Run) (h : List Entry) → Rising s.clock h u.clock → Rising s.clock (tracing (dates u).outcome s (λ v. h)) (dates u).run.clock
      late u h r = dated_rising s u h (eqb (lacking c u).number 0) (lacking c u).place r

      by : (d x : Bool) → Rising s.clock (tracing (step d x).outcome s (λ u. cond d ((s.clock, 0) ∷ []) [])) (step d x).run.clock
      by true true = le_refl s.clock
      by true false = late (fired c s 0) ((s.clock, 0) ∷ []) (le_refl s.clock, le_refl s.clock)
      by false x = late s [] (le_refl s.clock)

  -- the effect of a firing of N_i that is finished, or of none
  effect_rising : (s : Run) (i : ℕ) → Rising s.clock (tracing (finish c s i).outcome s (λ u. finish_entry s i)) (finish c s i).run.clock
  unfolding finish finish_entry tracing Rising fired
  effect_rising s zero = le_refl s.clock
  effect_rising s (suc j) = finish_cases c s j (λ x. Rising s.clock (tracing x.outcome s (λ u. finish_entry s (suc j))) x.run.clock)
      (λ e. le_refl s.clock)
      (λ e. (le_refl s.clock, le_refl s.clock))

  -- of the one that is
  finish_rising : (s : Run) → Rising s.clock (finish_trace c s) (finished c s).run.clock
  unfolding finish_trace finished
  finish_rising s = effect_rising s (ended c s)

  -- one tick of any state
  pub tick_rising : (s : Run) → Rising s.clock (tick_trace c s) (tick c s).run.clock
  unfolding tick_trace tick advanced tracing onward
  tick_rising s = by (begun c s).outcome (begun c s).run (begun_rising s)
    where
      work : Run → Ticked
      work u = clean (worked u (chosen c u))

      on : (v : Run) → Rising v.clock (finish_trace c (worked v (chosen c v))) (finished c (worked v (chosen c v))).run.clock
      on v =
          let w : Run = worked v (chosen c v) in
          rising_later v.clock w.clock (finish_trace c w) (finished c w).run.clock (omega (arith, worked_clock v (chosen c v))) (finish_rising w)

      by : (o : Outcome) (v : Run) → Rising s.clock (tracing o s (λ u. source_entry c s)) v.clock
          → Rising s.clock (tracing o s (λ u. source_entry c s) ++ tracing (goes o v work).outcome (goes o v work).run (finish_trace c))
          (goes (goes o v work).outcome (goes o v work).run (finished c)).run.clock
      by Clean v r =
          let w : Run = worked v (chosen c v) in
          rising_append s.clock (source_entry c s) v.clock (finish_trace c w) (finished c w).run.clock r (on v)
      by (Overflowed t q) v r = r
      by (NoDeadline t i) v r = r

  -- so many ticks of any state
  pub trace_rising : (T : ℕ) (s : Run) → Rising s.clock (trace c T s) (ticks c T s).run.clock
  unfolding trace ticks onward Rising
  trace_rising zero s = le_refl s.clock
  trace_rising (suc T) s = by (tick c s).outcome (tick c s).run (tick_rising s) (trace_rising T)
    where
      by : (o : Outcome) (v : Run) → Rising s.clock (tick_trace c s) v.clock → ((v : Run) → Rising v.clock (trace c T v) (ticks c T v).run.clock)
          → Rising s.clock (tick_trace c s ++ tracing o v (trace c T)) (goes o v (ticks c T)).run.clock
      by Clean v r more = rising_append s.clock (tick_trace c s) v.clock (trace c T v) (ticks c T v).run.clock r (more v)
      by (Overflowed t q) v r more = rising_append s.clock (tick_trace c s) v.clock [] v.clock r (le_refl v.clock)
      by (NoDeadline t i) v r more = rising_append s.clock (tick_trace c s) v.clock [] v.clock r (le_refl v.clock)

  -- "a run of T ticks from a fresh start": no firing is later than the clock that the run leaves
  pub run_rising : Accepted c → (T : ℕ) → Rising 0 (trace c T (fresh_run c)) (instants c T (fresh_run c)).run.clock
  unfolding fresh_run
  run_rising a T = subst (λ (x : Ticked). Rising 0 (trace c T (fresh_run c)) x.run.clock) (sym (run_is_ticks a T)) (trace_rising T (fresh_run c))
