-- A recording tick keeps the slots past n of its state, and those past the count of its list, and how many there are (01, Firing: "the slots past n are neither
-- read nor changed"; 02, Item 2).
--   dropped_kept             a firing of a node of the chain whose production is dropped
--   lost_firing_kept                the same, of one that is finished
--   recorded_kept            a step of the deadline run in a recording run
--   rec-sourced-, rec-begun-, rec-advanced- and rec_finished_kept
--                            the parts of a recording tick
--   rec-tick-, rec-ticks- and rec_instants_kept
--                            a recording tick, so many of them, and a recording run
use Rattle.std.proofs.Math.Bool.{cond}
use Prim.Native.Nat.{ℕ, zero, suc, ◌≤◌}
use Rattle.std.proofs.Common.{arith}
use Rattle.std.specs.Prelude.{eqb, ltb}
use Rattle.chain.specs.Record.{row_of}
use Rattle.chain.specs.declared.Chain.{Chain}
use Rattle.state.specs.declared.Run.{Run}
use Rattle.instants.specs.Steps.{with_done, sourced, lacking, chosen, worked, finished}
use Rattle.instants.proofs.KeptLaws.{chosen_low}
use Rattle.instants.specs.declared.Outcome.{Outcome}
use Rattle.instants.specs.declared.Outcome.TheVariants as plain
use Rattle.instants.specs.declared.Ticked.{Ticked}
use Rattle.losses.specs.Losses.{longest_list, extends_refl}
use Rattle.losses.proofs.LossesLaws.{extends_noted}
use Rattle.losses.specs.declared.Losses.{Losses}
use Rattle.recordings.specs.Steps.{rec_clean, rec_undated, rec_onward, dropped, lost_firing, recorded_by, recorded, rec_sourced, rec_begun, rec_advanced, rec_finished, rec_tick, rec_ticks, rec_instants}
use Rattle.tickslots.specs.Slots.{KeptSlots}
use Rattle.tickslots.proofs.SlotsLaws.{kept_list, kept_refl, kept_trans}
use Rattle.tickslots.proofs.KeptLaws.{worked_kept, consumed_kept, fired_kept, cleared_kept, sourced_kept, finished_kept}
use Rattle.recordslots.specs.Lists.{KeptRecorded, rec_kept_clean, rec_kept_cond, rec_kept_onward, rec_kept_then}
use Rattle.recordslots.specs.Queues.{Queued}
use Rattle.recordslots.proofs.QueuesLaws.{sourced_queued, finished_queued}

module _ (c : Chain) where
  -- a firing whose production is dropped
  pub dropped_kept : (s : Run) (i : ℕ) → i ≤ c.n → KeptSlots c.n s (dropped c s i)
  dropped_kept s i low = record { counts = (fired_kept c s i low).counts; held = consumed_kept c i low s.held; done = kept_list s.done }

  -- the same of one that is finished
  pub lost_firing_kept : (s : Run) (i : ℕ) → i ≤ c.n → KeptSlots c.n s (lost_firing c s i)
  unfolding lost_firing
  lost_firing_kept s zero low = dropped_kept s 0 low
  lost_firing_kept s (suc j) low = kept_trans (cleared_kept s j low) (dropped_kept (with_done s j 0) (suc j) low)

  -- a step of the deadline run, whose production is dropped and noted where it does not fit
  pub recorded_kept : {s : Run} (l : Losses) (x : Ticked) → Queued c.n x.outcome → KeptSlots c.n s x.run → KeptRecorded c.n s l (recorded c l x)
  unfolding recorded recorded_by
  recorded_kept {s} l x queued k = by x.outcome queued
    where
      by : (o : Outcome) → Queued c.n o → KeptRecorded c.n s l (recorded_by c l o x.run)
      by plain.Clean low = rec_kept_clean l k
      by (plain.Overflowed t q) low = rec_kept_cond _ _ (ltb l.count longest_list)
          (record { state = kept_trans k (lost_firing_kept x.run q (omega arith)); losses = extends_noted l t q (row_of c q).produce })
          (record { state = k; losses = extends_refl l })
      by (plain.NoDeadline t i) low = record { state = k; losses = extends_refl l }

  -- the source's step
  pub rec_sourced_kept : (s : Run) (l : Losses) → KeptRecorded c.n s l (rec_sourced c s l)
  unfolding rec_sourced
  rec_sourced_kept s l = recorded_kept l (sourced c s) (sourced_queued c s) (sourced_kept c s)

  -- the source's step, then 13
  pub rec_begun_kept : (s : Run) (l : Losses) → KeptRecorded c.n s l (rec_begun c s l)
  unfolding rec_begun
  rec_begun_kept s l =
      rec_kept_onward (rec_sourced c s l) (λ u m. cond (eqb (lacking c u).number 0) (rec_clean u m) (rec_undated s l s.clock (lacking c u).place)) (rec_sourced_kept s l)
      (λ u m k g. rec_kept_cond (rec_clean u m) (rec_undated s l s.clock (lacking c u).place) (eqb (lacking c u).number 0)
      (record { state = k; losses = g }) (record { state = kept_refl s; losses = extends_refl l }))

  -- the source's step, 13, and one tick of work
  pub rec_advanced_kept : (s : Run) (l : Losses) → KeptRecorded c.n s l (rec_advanced c s l)
  unfolding rec_advanced
  rec_advanced_kept s l =
      rec_kept_onward (rec_begun c s l) (λ u m. rec_clean (worked u (chosen c u)) m) (rec_begun_kept s l)
      (λ u m k g. rec_kept_then k g (rec_kept_clean m (worked_kept u (chosen c u) (chosen_low c u))))

  -- the firing finished by then
  pub rec_finished_kept : (s : Run) (l : Losses) → KeptRecorded c.n s l (rec_finished c s l)
  unfolding rec_finished
  rec_finished_kept s l = recorded_kept l (finished c s) (finished_queued c s) (finished_kept c s)

  -- one tick
  pub rec_tick_kept : (s : Run) (l : Losses) → KeptRecorded c.n s l (rec_tick c s l)
  unfolding rec_tick
  rec_tick_kept s l = rec_kept_onward (rec_advanced c s l) (rec_finished c) (rec_advanced_kept s l) (λ u m k g. rec_kept_then k g (rec_finished_kept u m))

  -- so many ticks
  pub rec_ticks_kept : (T : ℕ) (s : Run) (l : Losses) → KeptRecorded c.n s l (rec_ticks c T s l)
  unfolding rec_ticks
  rec_ticks_kept zero s l = rec_kept_clean l (kept_refl s)
  rec_ticks_kept (suc T) s l = rec_kept_onward (rec_tick c s l) (rec_ticks c T) (rec_tick_kept s l) (λ u m k g. rec_kept_then k g (rec_ticks_kept T u m))

  -- so many instants
  pub rec_instants_kept : (T : ℕ) (s : Run) (l : Losses) → KeptRecorded c.n s l (rec_instants c T s l)
  unfolding rec_instants
  rec_instants_kept zero s l = rec_finished_kept s l
  rec_instants_kept (suc T) s l =
      rec_kept_onward (rec_onward (rec_finished c s l) (rec_advanced c)) (rec_instants c T)
      (rec_kept_onward (rec_finished c s l) (rec_advanced c) (rec_finished_kept s l) (λ u m k g. rec_kept_then k g (rec_advanced_kept u m)))
      (λ u m k g. rec_kept_then k g (rec_instants_kept T u m))
