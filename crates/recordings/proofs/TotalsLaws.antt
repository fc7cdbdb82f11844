-- Laws of specs/Totals.antt that rest on a definition which an edit of must-fail/ changes.
-- What is counted over a recording run that is clean (02, Item 2): a lost production is worked for and counted as any other.
--   rec_run_clock              the clock is T
--   rec_run_source             the source has fired T/y times, rounded up, lost or not
--   rec_run_work               all work done is one tick for each instant at which a node waited for it
use Rattle.std.specs.Prelude.{◌≡◌}
use Rattle.std.proofs.Common.{sym, ap, subst, ◌∙◌, le_refl}
use Prim.Native.Nat.{ℕ, suc, ◌<◌, ◌∣◌}
use Rattle.arith.specs.Division.{ceil}
use Rattle.arith.proofs.DivisionLaws.{ceil_zero}
use Rattle.chain.specs.declared.Chain.{Chain}
use Rattle.state.specs.State.{count_at, fresh_count}
use Rattle.instants.specs.Totals.{due_more, total, HowMany, many_next, fresh_total}
use Rattle.recordings.specs.Answers.{rec_run_answer}
use Rattle.recordings.specs.Fields.{rec_source_fires, rec_source_rests, rec_work_source}
use Rattle.recordings.specs.Along.{RecCleanStep}
use Rattle.recordings.proofs.AlongLaws.{rec_run_may, rec_run_start, rec_at_clock, rec_along}
use Rattle.recordings.specs.declared.RecordOutcome.TheVariants.{Clean}
use Rattle.recordings.specs.Answered.{RecordAnswer}
use Rattle.recordings.specs.Totals.{RecWaits, rec_tick_total}

-- a recording run that is not refused, and is clean
module _ (c : Chain) (T : ℕ) (ok : (rec_run_answer c T).number ≡ 0) (z : (rec_run_answer c T).outcome ≡ Clean) where
  -- "a run of T ticks"
  pub rec_run_clock : (rec_run_answer c T).run.clock ≡ T
  rec_run_clock = (rec_at_clock c T ok T (le_refl T) z).1

  -- "the source fires if y divides t", its production lost or not
  pub rec_run_source : count_at (rec_run_answer c T).run 0 ≡ ceil T c.period
  rec_run_source = rec_along c T ok (λ t. count_at (rec_run_answer c t).run 0 ≡ ceil t c.period) first more z
    where
      some : 0 < c.period
      some = (rec_run_may c T ok).0.chain.period.0

      first : count_at (rec_run_answer c 0).run 0 ≡ ceil 0 c.period
      first = ap (λ (a : RecordAnswer). count_at a.run 0) (rec_run_start c T ok) ∙ fresh_count c 0 ∙ sym (ceil_zero c.period some)

      more : (t : ℕ) → t < T → RecCleanStep c t (rec_run_answer c t) (rec_run_answer c (suc t)) → count_at (rec_run_answer c t).run 0 ≡ ceil t c.period
          → count_at (rec_run_answer c (suc t)).run 0 ≡ ceil (suc t) c.period
      more t l k =
          let on = rec_work_source k.tick.cleaned.work in
          due_more c.period t (count_at (rec_run_answer c t).run 0) (count_at (rec_run_answer c (suc t)).run 0) some
          (λ d. on ∙ rec_source_fires k.tick.begun.source (subst (λ (m : ℕ). c.period ∣ m) (sym k.clock) d))
          (λ n. on ∙ rec_source_rests k.tick.begun.source (λ d. n (subst (λ (m : ℕ). c.period ∣ m) k.clock d)))

  -- all work that was done, as firings or as work on the next, is one tick for each instant at which a node waited for it
  pub rec_run_work : HowMany (λ t. RecWaits c (rec_run_answer c t).run (rec_run_answer c t).losses) T (total c (rec_run_answer c T).run)
  unfolding HowMany
  rec_run_work = rec_along c T ok (λ t. HowMany Waited t (total c (rec_run_answer c t).run))
      (ap (λ (a : RecordAnswer). total c a.run) (rec_run_start c T ok) ∙ fresh_total c c.n)
      (λ t l k. many_next Waited (λ m. total c (rec_run_answer c m).run) t (rec_tick_total k.tick)) z
    where
      Waited : ℕ → Type 0
      Waited t = RecWaits c (rec_run_answer c t).run (rec_run_answer c t).losses
