-- Laws of specs/Totals.antt that rest on a definition which an edit of must-fail/ changes.
-- What is counted over a deadline run that is clean (01, Firing).
--   run_clock                  the clock is T
--   tick_source, run_source    the source has fired T/y times, rounded up: once at each multiple of y below T; and so after each clean tick
--   work_total, tick_total     a tick of work of the node that is chosen, and a clean tick, adds one tick of work where a node waits for it, and none elsewhere
--   run_work                   so all work done in a run is one tick for each instant at which a node waited for it
use Rattle.std.specs.Prelude.{◌≡◌, ◌⊎◌}
use Rattle.std.proofs.Common.{sym, ap, subst, ◌∙◌, inl, inr, ⊎_elim, le_refl, arith}
use Prim.Native.Nat.{ℕ, suc, ◌+◌, ◌<◌, ◌∣◌}
use Rattle.arith.specs.Division.{ceil}
use Rattle.arith.proofs.DivisionLaws.{ceil_zero}
use Rattle.chain.specs.declared.Chain.{Chain}
use Rattle.state.specs.State.{count_at, fresh_count}
use Rattle.state.specs.declared.Run.{Run}
use Rattle.instants.specs.Checks.{deadline_run_answer}
use Rattle.instants.proofs.SourceLaws.{source_only}
use Rattle.instants.specs.Once.{TickOnce}
use Rattle.instants.proofs.OnceLaws.{once_counts, once_keeps}
use Rattle.instants.specs.Answers.{CleanStep}
use Rattle.instants.proofs.AnswersLaws.{run_may, at_clock, run_start, along}
use Rattle.instants.specs.declared.Outcome.TheVariants.{Clean}
use Rattle.instants.specs.Answered.{TickAnswer}
use Rattle.instants.specs.Totals.{due_more, total, source_total, other_work, own_work, SomeOver, Waits, work_total, HowMany, many_next, fresh_total}

-- its count after one clean tick
pub tick_source : {c : Chain} {t : ℕ} {s u : Run} → CleanStep c t s u → count_at s 0 ≡ ceil t c.period → count_at u 0 ≡ ceil (suc t) c.period
tick_source {c} {t} {s} {u} k = due_more c.period t (count_at s 0) (count_at u 0) k.running.chain.chain.period.0
    (λ d. (once_counts k.tick).1 (subst (λ (m : ℕ). c.period ∣ m) (sym k.clock) d))
    (λ n. (once_keeps k.tick).1 (λ d. n (subst (λ (m : ℕ). c.period ∣ m) k.clock d)))

-- a clean tick does one tick of work where a node waits for it, and none elsewhere
pub tick_total : {c : Chain} {s t : Run} → TickOnce c s t → (Waits c s × (total c t ≡ total c s + 1)) ⊎ ((Waits c s → ⊥) × (total c t ≡ total c s))
tick_total {c} {s} {t} k = ⊎_elim
    (λ h. inl (record { after = k.after; source = k.source; some = h.0 }, omega (arith, h.1, before)))
    (λ h. inr (λ w. h.0 (subst (SomeOver c) (source_only w.after k.after w.source k.source) w.some), omega (arith, h.1, before)))
    (work_total t k.works (own_work k.work) (other_work k.work))
  where
    before : total c k.after ≡ total c s
    before = source_total k.source

-- a deadline run that is not refused, and is clean
module _ (c : Chain) (T : ℕ) (ok : (deadline_run_answer c T).number ≡ 0) (z : (deadline_run_answer c T).outcome ≡ Clean) where
  -- "a run of T ticks"
  pub run_clock : (deadline_run_answer c T).run.clock ≡ T
  run_clock = (at_clock c T ok T (le_refl T) z).1

  -- "the source fires if y divides t"
  pub run_source : count_at (deadline_run_answer c T).run 0 ≡ ceil T c.period
  run_source = along c T ok (λ t. count_at (deadline_run_answer c t).run 0 ≡ ceil t c.period) first (λ t l. tick_source) z
    where
      first : count_at (deadline_run_answer c 0).run 0 ≡ ceil 0 c.period
      first = ap (λ (a : TickAnswer). count_at a.run 0) (run_start c T ok) ∙ fresh_count c 0 ∙ sym (ceil_zero c.period (run_may c T ok).0.0.chain.period.0)

  -- all work that was done, as firings or as work on the next, is one tick for each instant at which a node waited for it
  pub run_work : HowMany (λ t. Waits c (deadline_run_answer c t).run) T (total c (deadline_run_answer c T).run)
  unfolding HowMany
  run_work = along c T ok Worked first more z
    where
      Waited : ℕ → Type 0
      Waited t = Waits c (deadline_run_answer c t).run

      Worked : ℕ → Type 0
      Worked t = HowMany Waited t (total c (deadline_run_answer c t).run)

      first : Worked 0
      first = ap (λ (a : TickAnswer). total c a.run) (run_start c T ok) ∙ fresh_total c c.n

      more : (t : ℕ) → t < T → CleanStep c t (deadline_run_answer c t).run (deadline_run_answer c (suc t)).run → Worked t → Worked (suc t)
      more t l k = many_next Waited (λ m. total c (deadline_run_answer c m).run) t (tick_total k.tick)
