-- Laws of specs/Traced.antt that rest on a definition which an edit of must-fail/ changes.
-- The firings of a deadline run are a permitted history (01, Firing, and demand 3).
--   finish_entry_law           the firing that is finished, by the node whose work is done
--   tick_entries, tick_entries_none
--                              the firings of a tick that goes on behind the source's step and 13, and of one that does not
--   finish_traced              one tick of work, and the effect of the firing that it finished
--   tick_traced, traced        one tick, and so many of them
--   run_traced                 a deadline run from a fresh start
--   run_counted, run_balance, run_naming
--                              so its counts, its balance and the naming count are those of a permitted history
use Rattle.std.specs.Prelude.{◌≡◌, false}
use Rattle.std.proofs.Math.Path.{refl, ap, ap₂, subst}
use Rattle.std.proofs.Common.{sym, ◌∙◌, arith}
use Rattle.std.proofs.Math.Logic.{by_cases}
use mathlib.Core.List.{[], ◌++◌}
use Prim.Native.Nat.{ℕ, zero, suc, ◌+◌, ◌≤◌, ◌<◌}
use Rattle.std.proofs.Math.Decide.{ℕ_discrete}
use Rattle.chain.specs.Record.{row_of, work_of}
use Rattle.chain.specs.declared.Chain.{Chain}
use Rattle.sizing.specs.Sizes.{minimum_of, naming_of}
use Rattle.sizing.specs.Accepted.{Accepted}
use Rattle.state.specs.State.{count_at, held_at, done_at, fresh_run}
use Rattle.state.specs.Fired.{Over, May, Balance}
use Rattle.state.specs.Checks.{cramped}
use Rattle.state.specs.declared.Run.{Run}
use Rattle.history.specs.History.{nodes, times, after, Permitted, HasHeld}
use Rattle.history.proofs.Laws.{counted, balance, naming}
use Rattle.instants.specs.Checks.{longest}
use Rattle.instants.specs.Runs.{onward_goes, onward_stops}
use Rattle.instants.specs.Steps.{clean, onward, goes, with_done, begun}
use Rattle.instants.specs.Steps.{chosen, worked, ended, finish, finished, advanced, tick, ticks, instants}
use Rattle.instants.specs.Kept.{SourceStep, Countable}
use Rattle.instants.proofs.KeptLaws.{finish_cases, source_running, sourced_clean, begun_clean, chosen_over}
use Rattle.instants.specs.Filled.{Running}
use Rattle.instants.proofs.FilledLaws.{running_filled}
use Rattle.instants.proofs.KeptLaws.{worked_counts, worked_held, worked_other, worked_same, cleared_running, finish_may, tick_step}
use Rattle.instants.specs.Fresh.{Paced}
use Rattle.instants.proofs.FreshLaws.{fresh_paced, paced_countable, tick_paced, run_is_ticks}
use Rattle.instants.specs.declared.Outcome.{Outcome}
use Rattle.instants.specs.declared.Outcome.TheVariants.{Clean, Overflowed, NoDeadline}
use Rattle.instants.specs.declared.Ticked.{Ticked}
use Rattle.traces.specs.Trace.{tracing, source_entry, finish_entry, finish_trace, tick_trace, trace, resting, Replays}
use Rattle.traces.specs.Traced.{tracing_none, replays_none, replays_one, replays_then, begun_traced, ended_found, Effected, fresh_resting, fresh_clock}

-- the firing that is finished, by the node whose work is done
pub finish_entry_law : (c : Chain) (s : Run) {i : ℕ} → ended c s ≡ i → finish_trace c s ≡ tracing (finish c s i).outcome s (λ u. finish_entry s i)
unfolding finish_trace finished
finish_entry_law c s e = ap (λ (i : ℕ). tracing (finish c s i).outcome s (λ u. finish_entry s i)) e

-- the firings of a tick that ends with the source's step or 13, and of one that goes on
module _ (c : Chain) (s : Run) where
  pub tick_entries_none : ((begun c s).outcome ≡ Clean → ⊥) → tick_trace c s ≡ []
  unfolding tick_trace advanced
  tick_entries_none n =
      let last = onward_stops (begun c s) (λ u. clean (worked u (chosen c u))) n in
      ap₂ ◌++◌ (tracing_none (begun c s).outcome s _ n) (ap (λ (x : Ticked). tracing x.outcome x.run (finish_trace c)) last ∙ tracing_none (begun c s).outcome (begun c s).run _ n)

  pub tick_entries : (begun c s).outcome ≡ Clean
      → tick_trace c s ≡ tracing (begun c s).outcome s (λ u. source_entry c s) ++ finish_trace c (worked (begun c s).run (chosen c (begun c s).run))
  unfolding tick_trace advanced tracing
  tick_entries h = ap (λ (x : Ticked). tracing (begun c s).outcome s (λ u. source_entry c s) ++ tracing x.outcome x.run (finish_trace c)) (onward_goes (begun c s) _ h)

-- a firing that may be takes effect, if it fits
effected : (c : Chain) (s : Run) (j : ℕ) → Running c (with_done s j 0) → (cramped c s (suc j) ≡ false → May c (with_done s j 0) (suc j)) → Effected c s (suc j)
unfolding finish_entry tracing
effected c s j r may = finish_cases c s j (λ x. Replays c s (tracing x.outcome s (λ u. finish_entry s (suc j))) x.run)
    (λ e. replays_none c s s refl refl)
    (λ e. replays_one c (with_done s j 0) r s.clock (suc j) (may e))

-- one tick of work after the source's step, and the effect of the firing that it finished
module _ {c : Chain} {s u : Run} (r : Running c u) (k : SourceStep c s u) (some : Countable c s) where
  -- N_(j+1) has worked its last tick
  last_effected : (j : ℕ) → j < c.n → done_at u j + 1 ≡ work_of c j → Over c u (suc j) → Effected c (worked u (suc j)) (suc j)
  last_effected j l all over =
      let other : count_at u (suc j) ≡ count_at s (suc j) = k.others (suc j) (omega arith) in
      effected c (worked u (suc j)) j (cleared_running r j l all) (finish_may c u j l over (rw other (some (suc j) l)))

  -- N_i has worked a tick, and e is the node whose work is done: it is N_i or none
  work_effected : (i e : ℕ) → ended c (worked u i) ≡ e → ((j : ℕ) → i ≡ suc j → Over c u (suc j)) → Effected c (worked u i) e
  unfolding finish finish_entry tracing
  work_effected i zero h over = replays_none c (worked u i) (worked u i) refl refl
  work_effected i (suc j) h over =
      let f : (j < c.n) × (work_of c j ≤ done_at (worked u i) j) = ended_found c (worked u i) c.n j h in
      let low : done_at u j < work_of c j = k.filled.below j f.0 in
      by_cases (ℕ_discrete i (suc j)) (λ e. own f.0 low e f.1) (λ n. absurd (omega (arith, f.1, low, worked_other u i j n)))
    where
      own : j < c.n → done_at u j < work_of c j → i ≡ suc j → work_of c j ≤ done_at (worked u i) j → Effected c (worked u i) (suc j)
      own l low e done =
          let at : work_of c j ≤ done_at (worked u (suc j)) j = subst (λ (x : ℕ). work_of c j ≤ done_at (worked u x) j) e done in
          let once : done_at (worked u (suc j)) j ≡ done_at u j + 1 = worked_same u j (omega (arith, r.whole.done, r.chain.chain.count.1)) in
          subst (λ (x : ℕ). Effected c (worked u x) (suc j)) (sym e) (last_effected j l (omega (arith, low, at, once)) (over j e))

  -- the whole step of work
  pub finish_traced : (i : ℕ) → ((j : ℕ) → i ≡ suc j → Over c u (suc j)) → Replays c u (finish_trace c (worked u i)) (finished c (worked u i)).run
  unfolding finish_trace finished
  finish_traced i over =
      replays_then c u (worked u i) (finished c (worked u i)).run [] (finish_trace c (worked u i))
      (replays_none c u (worked u i) (sym (worked_counts u i)) (sym (worked_held u i)))
      (work_effected i (ended c (worked u i)) refl over)

module _ {c : Chain} {s : Run} (r : Running c s) (some : Countable c s) where
  -- one tick of a state that passes 17, whatever its outcome
  pub tick_traced : Replays c s (tick_trace c s) (tick c s).run
  unfolding tick_trace tick advanced tracing onward
  tick_traced = by (begun c s).outcome (begun c s).run first (begun_traced r some)
    where
      first : (begun c s).outcome ≡ Clean → SourceStep c s (begun c s).run
      first h =
          let b = begun_clean c s h in
          subst (λ (x : Ticked). SourceStep c s x.run) (sym b.1.1) (sourced_clean (running_filled r) b.0)

      work : Run → Ticked
      work u = clean (worked u (chosen c u))

      by : (o : Outcome) (v : Run) → (o ≡ Clean → SourceStep c s v) → Replays c s (tracing o s (λ u. source_entry c s)) v
          → Replays c s (tracing o s (λ u. source_entry c s) ++ tracing (goes o v work).outcome (goes o v work).run (finish_trace c))
          (goes (goes o v work).outcome (goes o v work).run (finished c)).run
      by Clean v step k =
          replays_then c s v (finished c (worked v (chosen c v))).run (source_entry c s) (finish_trace c (worked v (chosen c v))) k
          (finish_traced (source_running r (step refl)) (step refl) some (chosen c v) (chosen_over c v))
      by (Overflowed t q) v step k = k
      by (NoDeadline t i) v step k = k

-- so many ticks
pub traced : {c : Chain} (T : ℕ) {s : Run} → Paced c s → s.clock + T ≤ longest → Replays c s (trace c T s) (ticks c T s).run
unfolding trace ticks onward
traced {c} zero {s} p l = replays_none c s s refl refl
traced {c} (suc T) {s} p l = by (tick c s).outcome (tick c s).run next (tick_traced p.running (paced_countable p (omega arith))) (λ v q m. traced T q m)
  where
    next : (tick c s).outcome ≡ Clean → Paced c (tick c s).run × ((tick c s).run.clock + T ≤ longest)
    next h = (tick_paced p h, omega (arith, (tick_step (running_filled p.running) h).clock))

    by : (o : Outcome) (v : Run) → (o ≡ Clean → Paced c v × (v.clock + T ≤ longest)) → Replays c s (tick_trace c s) v
        → ((v : Run) → Paced c v → v.clock + T ≤ longest → Replays c v (trace c T v) (ticks c T v).run)
        → Replays c s (tick_trace c s ++ tracing o v (trace c T)) (goes o v (ticks c T)).run
    by Clean v on k more = replays_then c s v (ticks c T v).run (tick_trace c s) (trace c T v) k (more v (on refl).0 (on refl).1)
    by (Overflowed t q) v on k more = replays_then c s v v (tick_trace c s) [] k (replays_none c v v refl refl)
    by (NoDeadline t i) v on k more = replays_then c s v v (tick_trace c s) [] k (replays_none c v v refl refl)

module _ {c : Chain} (a : Accepted c) (T : ℕ) (l : T ≤ longest) where
  -- "a run of T ticks from a fresh start": the nodes of its trace, in order, are firings that manual firing accepts, and after them counts and contents are the run's
  pub run_traced : Permitted c (fresh_run c) (nodes (trace c T (fresh_run c))) × (after c (fresh_run c) (nodes (trace c T (fresh_run c))) ≡ resting (instants c T (fresh_run c)).run)
  run_traced =
      subst (λ (x : Run). Permitted c x (nodes (trace c T (fresh_run c))) × (after c x (nodes (trace c T (fresh_run c))) ≡ resting (instants c T (fresh_run c)).run)) (fresh_resting c)
      (subst (λ (x : Ticked). Replays c (fresh_run c) (trace c T (fresh_run c)) x.run) (sym (run_is_ticks a T)) (traced T (fresh_paced a) (fresh_clock c T l)))

  -- each node has fired as often as it stands in the trace
  pub run_counted : (i : ℕ) → i ≤ c.n → count_at (instants c T (fresh_run c)).run i ≡ times i (nodes (trace c T (fresh_run c)))
  run_counted i f = ap (λ (x : Run). count_at x i) (sym run_traced.1) ∙ counted c a (nodes (trace c T (fresh_run c))) i f

  -- "each queue holds what its producer's firings put in less what its consumer's took out", as a sum
  pub run_balance : (j : ℕ) → j < c.n → Balance c (instants c T (fresh_run c)).run j
  run_balance j f =
      rw (run_counted j (omega arith), run_counted (suc j) f, ap (λ (x : Run). held_at x j) (sym run_traced.1))
      (balance c a (nodes (trace c T (fresh_run c))) run_traced.0 j f)

  -- "in no permitted order can a producer fire as often as 01 names for its queue unless that queue has held at least the minimum": so in no deadline run
  pub run_naming : (j : ℕ) → j < c.n → naming_of (row_of c j) ≤ count_at (instants c T (fresh_run c)).run j
      → HasHeld c (nodes (trace c T (fresh_run c))) j (minimum_of (row_of c j))
  run_naming j f enough = naming c a (nodes (trace c T (fresh_run c))) run_traced.0 j f (rw (← run_counted j (omega arith)) enough)
