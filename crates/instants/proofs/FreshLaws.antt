-- Laws of specs/Fresh.antt that rest on a definition which an edit of must-fail/ changes.
-- A deadline run from a fresh start (01, Firing).
--   fresh_running              a fresh start of an accepted chain passes 17
--   fresh_rests                and no firing is finished there
--   run_is_ticks               so a run by 01's instants is tick after tick, up to the first outcome
--   pace_countable             then every count can grow
--   fresh_paced, tick_paced    a fresh start is one, and a clean tick leaves one
--   paced_countable            every count of one can grow
--   ticks_paced                T clean ticks from a fresh start leave one at clock T
use Rattle.std.specs.Prelude.{◌≡◌, refl, ℕ, zero, suc, ◌≤◌, ◌<◌}
use Rattle.std.proofs.Common.{sym, ◌∙◌, arith}
use Rattle.std.proofs.Math.Path.{ap}
use Rattle.chain.specs.Record.{work_of}
use Rattle.chain.specs.declared.Chain.{Chain}
use Rattle.sizing.specs.Accepted.{Accepted}
use Rattle.state.specs.State.{done_at, fresh_run, fresh_empty, zeros, fresh_count, fresh_held}
use Rattle.state.specs.declared.Run.{Run}
use Rattle.slots.specs.Runs.{Whole}
use Rattle.instants.specs.Checks.{longest}
use Rattle.instants.specs.Steps.{clean, onward, finish, finished, ticks, instants, tick}
use Rattle.instants.specs.Runs.{onward_clean, onward_cases}
use Rattle.instants.proofs.RunsLaws.{ticks_none, ticks_last, instants_ticks}
use Rattle.instants.specs.Kept.{Countable, TickStep}
use Rattle.instants.proofs.KeptLaws.{tick_step, tick_running, ended_none}
use Rattle.instants.specs.Filled.{Running}
use Rattle.instants.proofs.FilledLaws.{running_filled}
use Rattle.instants.specs.declared.Outcome.TheVariants.{Clean}
use Rattle.instants.specs.declared.Ticked.{Ticked}
use Rattle.instants.specs.Fresh.{InPace, fresh_in_pace, pace_kept, Paced}

module _ {c : Chain} (a : Accepted c) where
  fresh_done : (j : ℕ) → done_at (fresh_run c) j ≡ 0
  unfolding fresh_run
  fresh_done j = zeros 16 j

  fresh_slots : Whole (fresh_run c)
  fresh_slots = rw (← fresh_empty c) (record { counts = refl; held = refl; done = refl })

  fresh_work : (j : ℕ) → j < c.n → done_at (fresh_run c) j < work_of c j
  fresh_work j l = omega (arith, fresh_done j, (a.chain.work j l).0)

  pub fresh_running : Running c (fresh_run c)
  fresh_running = record {
    chain = a;
    whole = fresh_slots;
    state = λ j l. ((rw (fresh_count c j, fresh_count c (suc j), fresh_held a.chain j l) (omega arith), rw (fresh_held a.chain j l) (omega arith)), fresh_work j l);
  }

  pub fresh_rests : finished c (fresh_run c) ≡ clean (fresh_run c)
  unfolding finished finish
  fresh_rests = ap (finish c (fresh_run c)) (ended_none c (fresh_run c) c.n fresh_work)

  -- "a run of T ticks from a fresh start", by instants and by ticks
  pub run_is_ticks : (T : ℕ) → instants c T (fresh_run c) ≡ ticks c T (fresh_run c)
  run_is_ticks T = instants_ticks c T (fresh_run c) ∙ ap (λ (r : Ticked). onward r (ticks c T)) fresh_rests ∙ onward_clean (fresh_run c) (ticks c T)

-- before the longest run is over every count can grow
pub pace_countable : (c : Chain) (s : Run) → InPace c s → s.clock ≤ longest → Countable c s
pace_countable c s p l i h e = omega (arith, p i h)

pub fresh_paced : {c : Chain} → Accepted c → Paced c (fresh_run c)
fresh_paced {c} a = record { running = fresh_running a; counts = fresh_in_pace c }

pub paced_countable : {c : Chain} {s : Run} → Paced c s → s.clock ≤ longest → Countable c s
paced_countable {c} {s} p = pace_countable c s p.counts

pub tick_paced : {c : Chain} {s : Run} → Paced c s → (tick c s).outcome ≡ Clean → Paced c (tick c s).run
tick_paced {c} {s} p h =
    let t : TickStep c s (tick c s).run = tick_step (running_filled p.running) h in
    record { running = tick_running p.running h; counts = pace_kept c s (tick c s).run p.counts t.clock t.counts }

-- T clean ticks from a fresh start leave such a state, at clock T
pub ticks_paced : {c : Chain} → Accepted c → (T : ℕ) → (ticks c T (fresh_run c)).outcome ≡ Clean → Paced c (ticks c T (fresh_run c)).run × ((ticks c T (fresh_run c)).run.clock ≡ T)
unfolding fresh_run
ticks_paced {c} a zero h = rw (ticks_none c (fresh_run c)) (fresh_paced a, refl)
ticks_paced {c} a (suc T) h =
    let s : Run = (ticks c T (fresh_run c)).run in
    let o = onward_cases (ticks c T (fresh_run c)) (tick c) (ap (λ (x : Ticked). x.outcome) (sym (ticks_last c T (fresh_run c))) ∙ h) in
    let k = ticks_paced a T o.0 in
    rw (ticks_last c T (fresh_run c) ∙ o.1.1) (tick_paced k.0 o.1.0, omega (arith, (tick_step (running_filled k.0.running) o.1.0).clock, k.1))
