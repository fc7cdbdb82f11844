-- The work of a clean recording run, and the instants of its firings, by the slots of chain and state (02, Item 2), as WorkInNumbers says it of a deadline run.
--   c, T                     a chain, ticks
--   SomeAfter c s            a node is over threshold after the source's step (OverAfter, LossWords)
--   recording_worked         the ticks that all nodes have worked (sum_worked) are the instants at which one was (Exactly)
--   recording_rises          the instants of the firings never fall (InstantsRise)
use Rattle.std.specs.Prelude.{◌≡◌}
use Rattle.std.proofs.Common.{sym, ap, subst, ◌∙◌, ⊎_elim, arith}
use Prim.Native.Nat.{ℕ, suc, ◌<◌}
use Rattle.ardenquill.specs.Analyses.{Accepted}
use Rattle.ardenquill.specs.Runs.{fresh_empty}
use Rattle.ardenquill.specs.Losses.{unmarked, SourceNoted, rec_firings, rec_run_answer, RecWaits, rec_tick_total, rec_run_may, rec_run_start, RecCleanStep, rec_along}
use Rattle.ardenquill.specs.Records.{Chain, Run, Losses, RecordAnswer}
use Rattle.promises.specs.WorkInNumbers.{sum_worked, sum_worked_law, zero_sum, Exactly, has, lacks, InstantsRise, rises}
use Rattle.promises.specs.LossOutcomes.{RecCleanly, rec_cleanly_is}
use Rattle.promises.specs.LossesRefused.{RecRuns}
use Rattle.promises.specs.LossWords.{OverAfter, over_out, over_in}
use Rattle.promises.specs.Losses.{firings_rise}

-- a node is over threshold after the source's step
pub record SomeAfter (c : Chain) (s : Run) : Type 0 where
  pub queue : ℕ
  pub node : queue < c.n
  pub over : OverAfter c s queue

module _ {c : Chain} (a : Accepted c) {s : Run} {l : Losses} where
  of_waits : RecWaits c s l → SomeAfter c s
  of_waits w = record { queue = w.some.queue; node = w.some.node; over = over_out a w.source w.some.queue w.some.over }

  to_waits : {u : Run} {m : Losses} → SourceNoted c s l u m → SomeAfter c s → RecWaits c s l
  to_waits {u} {m} o k = record { after = u; listed = m; source = o; some = record { queue = k.queue; node = k.node; over = over_in a o k.queue k.over } }

module _ (c : Chain) (T : ℕ) (ran : RecRuns c T) where
  -- the instants of its firings, from 0 to the clock at its end
  pub recording_rises : InstantsRise 0 (unmarked (rec_firings c T)) (rec_run_answer c T).run.clock
  recording_rises = rises 0 (unmarked (rec_firings c T)) (rec_run_answer c T).run.clock (firings_rise c T ran)

  -- "the over-threshold node .. works one tick": the ticks that all nodes have worked in a clean run, for a lost production or not, are the instants at which one was over
  -- threshold
  pub recording_worked : RecCleanly (rec_run_answer c T).outcome → Exactly (λ t. SomeAfter c (rec_run_answer c t).run) T (sum_worked c (rec_run_answer c T).run c.n)
  unfolding Exactly
  recording_worked ends = rec_along c T ran Worked first more ((rec_cleanly_is (rec_run_answer c T).outcome).0 ends)
    where
      Some : ℕ → Type 0
      Some t = SomeAfter c (rec_run_answer c t).run

      Worked : ℕ → Type 0
      Worked t = Exactly Some t (sum_worked c (rec_run_answer c t).run c.n)

      first : Worked 0
      first = ap (λ (a : RecordAnswer). sum_worked c a.run c.n) (rec_run_start c T ran) ∙ ap (λ (s : Run). sum_worked c s c.n) (sym (fresh_empty c)) ∙ zero_sum c c.n

      more : (t : ℕ) → t < T → RecCleanStep c t (rec_run_answer c t) (rec_run_answer c (suc t)) → Worked t → Worked (suc t)
      more t l k h =
          let a : ℕ = sum_worked c (rec_run_answer c t).run c.n in
          let b : ℕ = sum_worked c (rec_run_answer c (suc t)).run c.n in
          let was = sum_worked_law c (rec_run_answer c t).run in
          let is = sum_worked_law c (rec_run_answer c (suc t)).run in
          let ok = (rec_run_may c T ran).0 in
          ⊎_elim
          (λ w. let e : suc a ≡ b = omega (arith, w.1, was, is) in subst (Exactly Some (suc t)) e (has Some t a (of_waits ok w.0) h))
          (λ w. let e : a ≡ b = omega (arith, w.1, was, is) in subst (Exactly Some (suc t)) e (lacks Some t a (λ p. w.0 (to_waits ok k.tick.begun.source p)) h))
          (rec_tick_total k.tick)
