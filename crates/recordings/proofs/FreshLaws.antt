-- A recording run from a fresh start with an empty list, beside the deadline run, its 15 and its 17 (02, Item 2).
--   rec_run_clean, _undated
--                              as long as the deadline run does not overflow it is that run
--   rec_run_loses              where that would overflow at t and queue q, its first entry is that loss, unless 13 at t has taken it back
--   rec_run_nothing_lost       so where it is clean and its list is empty it is the deadline run
--   rec_run_full               15 leaves 256 entries, and a state in which the production does not fit
--   rec_run_zeros              the slots past its entries are zero
--   rec_run_passes             any other outcome leaves a state and a list that pass 17
use Rattle.std.specs.Prelude.{◌≡◌, ◌⊎◌, ℕ, ◌≤◌}
use Rattle.std.proofs.Common.{sym, ap, subst, ◌∙◌, le_antisymm, arith}
use Rattle.chain.specs.Refusals.{Silent}
use Rattle.chain.specs.declared.Chain.{Chain}
use Rattle.sizing.specs.Accepted.{Accepted}
use Rattle.state.specs.State.{fresh_run}
use Rattle.state.specs.Checks.{Cramped}
use Rattle.state.specs.declared.Run.{Run}
use Rattle.instants.specs.Steps.{clean, ticks, instants}
use Rattle.instants.proofs.FreshLaws.{run_is_ticks}
use Rattle.instants.specs.Filled.{Filled}
use Rattle.instants.specs.declared.Outcome.{Outcome}
use Rattle.instants.specs.declared.Outcome.TheVariants as plain
use Rattle.instants.specs.declared.Ticked.{Ticked}
use Rattle.losses.specs.Losses.{empty_losses, entry_at, listed_empty, empty_slots}
use Rattle.recordings.specs.Steps.{rec_clean, rec_undated, rec_ticks}
use Rattle.recordings.proofs.RunsLaws.{rec_run_is_ticks}
use Rattle.recordings.proofs.KeptLaws.{ticks_lead}
use Rattle.recordings.specs.Checks.{rec_state_check, recording_filled, fresh_recording}
use Rattle.recordings.proofs.ChecksLaws.{rec_state_silent, rec_ticks_recording}
use Rattle.recordings.specs.Traced.{rec_run}
use Rattle.recordings.proofs.TracedLaws.{rec_leads}
use Rattle.recordings.specs.Beside.{TakenBack, NextLoss}
use Rattle.recordings.proofs.BesideLaws.{instants_clean, instants_undated, first_loss, nothing_lost_clean}
use Rattle.recordings.proofs.ExactlyLaws.{rec_ticks_full}
use Rattle.recordings.specs.declared.RecordOutcome.TheVariants.{Clean, ListFull}
use Rattle.recordings.specs.declared.Recorded.{Recorded}

module _ {c : Chain} (a : Accepted c) (T : ℕ) where
  -- the run by ticks, and the deadline run by ticks
  by_ticks : rec_run c T ≡ rec_ticks c T (fresh_run c) empty_losses
  by_ticks = rec_run_is_ticks a T empty_losses

  filled : Filled c (fresh_run c)
  filled = recording_filled (fresh_recording a)

  ends : {o : Outcome} → (instants c T (fresh_run c)).outcome ≡ o → (ticks c T (fresh_run c)).outcome ≡ o
  ends e = ap (λ (x : Ticked). x.outcome) (sym (run_is_ticks a T)) ∙ e

  left : (ticks c T (fresh_run c)).run ≡ (instants c T (fresh_run c)).run
  left = ap (λ (x : Ticked). x.run) (sym (run_is_ticks a T))

  -- "as long as nothing is lost it is the deadline run's definition"
  pub rec_run_clean : (instants c T (fresh_run c)).outcome ≡ plain.Clean → rec_run c T ≡ rec_clean (instants c T (fresh_run c)).run empty_losses
  rec_run_clean = instants_clean c T (fresh_run c) empty_losses

  pub rec_run_undated : (t i : ℕ) → (instants c T (fresh_run c)).outcome ≡ plain.NoDeadline t i → rec_run c T ≡ rec_undated (instants c T (fresh_run c)).run empty_losses t i
  rec_run_undated = instants_undated c T (fresh_run c) empty_losses

  -- "where that would overflow at (t, q) .., the next entry is (t, q, p of q), unless 13 comes at t and takes a source's loss back"
  pub rec_run_loses : (t q : ℕ) → (instants c T (fresh_run c)).outcome ≡ plain.Overflowed t q
      → TakenBack empty_losses t q (instants c T (fresh_run c)).run (rec_run c T) ⊎ NextLoss c empty_losses t q (rec_run c T)
  rec_run_loses t q e = subst (λ (x : Recorded). TakenBack empty_losses t q (instants c T (fresh_run c)).run x ⊎ NextLoss c empty_losses t q x) (sym by_ticks)
      (subst (λ (s : Run). TakenBack empty_losses t q s (rec_ticks c T (fresh_run c) empty_losses) ⊎ NextLoss c empty_losses t q (rec_ticks c T (fresh_run c) empty_losses)) left
      (first_loss T filled listed_empty (omega arith) t q (ends e)))

  pub rec_run_nothing_lost : (rec_run c T).outcome ≡ Clean → (rec_run c T).losses.count ≡ 0 → instants c T (fresh_run c) ≡ clean (rec_run c T).run
  rec_run_nothing_lost z none =
      run_is_ticks a T
      ∙ nothing_lost_clean T filled listed_empty (ap (λ (x : Recorded). x.outcome) (sym by_ticks) ∙ z) (ap (λ (x : Recorded). x.losses.count) (sym by_ticks) ∙ none)
      ∙ ap (λ (x : Recorded). clean x.run) (sym by_ticks)

  -- "15 comes only so": it leaves 256 entries, and a state in which the production does not fit; that it comes so is beside_full
  pub rec_run_full : (t q : ℕ) → (rec_run c T).outcome ≡ ListFull t q → ((rec_run c T).losses.count ≡ 256) × Cramped c (rec_run c T).run q
  rec_run_full t q e = subst (λ (x : Recorded). (x.losses.count ≡ 256) × Cramped c x.run q) (sym by_ticks)
      (let h = rec_ticks_full T filled listed_empty t q (ap (λ (x : Recorded). x.outcome) (sym by_ticks) ∙ e) in
      (le_antisymm (ticks_lead T filled listed_empty).leads.listed.short h.0, h.1))

  -- "clean and 13 leave a state and a list that pass the recording 17"
  pub rec_run_passes : ((t q : ℕ) → (rec_run c T).outcome ≡ ListFull t q → ⊥) → Silent (rec_state_check c (rec_run c T).run (rec_run c T).losses)
  rec_run_passes room = subst (λ (x : Recorded). Silent (rec_state_check c x.run x.losses)) (sym by_ticks)
      ((rec_state_silent c _ _).1 (rec_ticks_recording (fresh_recording a) T (λ t q e. room t q (ap (λ (x : Recorded). x.outcome) by_ticks ∙ e))).sound)

  -- the slots past its entries are zero
  pub rec_run_zeros : (k : ℕ) → (rec_run c T).losses.count ≤ k → entry_at (rec_run c T).losses k ≡ record { tick = 0; queue = 0; tokens = 0 }
  rec_run_zeros k h = (rec_leads a T).extends.behind k h ∙ empty_slots k
