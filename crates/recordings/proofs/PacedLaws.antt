-- Laws of specs/Paced.antt that rest on a definition which an edit of must-fail/ changes.
-- The counts of a recording run from a fresh start with an empty list (02, Item 2): no node fires more often than the clock ticks, its production lost or not.
--   rec_fresh_paced, rec_tick_paced
--                              a fresh start with an empty list is one, and a clean tick leaves one
--   rec_ticks_paced            T clean ticks from a fresh start leave one at clock T
use Rattle.std.specs.Prelude.{◌≡◌, refl, ℕ, zero, suc}
use Rattle.std.proofs.Common.{sym, ap, ◌∙◌, arith}
use Rattle.chain.specs.declared.Chain.{Chain}
use Rattle.sizing.specs.Accepted.{Accepted}
use Rattle.state.specs.State.{fresh_run}
use Rattle.state.specs.declared.Run.{Run}
use Rattle.instants.specs.Fresh.{pace_kept}
use Rattle.losses.specs.Losses.{empty_losses}
use Rattle.losses.specs.declared.Losses.{Losses}
use Rattle.recordings.specs.Steps.{rec_tick, rec_ticks}
use Rattle.recordings.proofs.RunsLaws.{rec_unclean_full, rec_onward_cases, rec_ticks_none, rec_ticks_last}
use Rattle.recordings.proofs.GrowingLaws.{tick_clock}
use Rattle.recordings.specs.Checks.{recording_filled}
use Rattle.recordings.proofs.ChecksLaws.{rec_tick_recording}
use Rattle.recordings.specs.Exactly.{RecTickOnce}
use Rattle.recordings.proofs.ExactlyLaws.{rec_is_one, rec_one_leaves}
use Rattle.recordings.specs.declared.RecordOutcome.TheVariants.{Clean}
use Rattle.recordings.specs.declared.Recorded.{Recorded}
use Rattle.recordings.specs.Paced.{rec_tick_counts, RecPaced, rec_fresh_paced}

pub rec_tick_paced : {c : Chain} {s : Run} {l : Losses} → RecPaced c s l → (rec_tick c s l).outcome ≡ Clean → RecPaced c (rec_tick c s l).run (rec_tick c s l).losses
rec_tick_paced {c} {s} {l} p z =
    let f = recording_filled p.recording in
    let once : RecTickOnce c s l (rec_tick c s l) = rec_one_leaves (rec_is_one f p.recording.listed) z in
    record {
      recording = rec_tick_recording p.recording (λ t q e. rec_unclean_full (sym e ∙ z));
      counts = pace_kept c s (rec_tick c s l).run p.counts (tick_clock f p.recording.listed z) (λ i low. rec_tick_counts once i);
    }

-- T clean ticks from a fresh start with an empty list leave such a state and such a list, at clock T
pub rec_ticks_paced : {c : Chain} → Accepted c → (T : ℕ) → (rec_ticks c T (fresh_run c) empty_losses).outcome ≡ Clean
    → RecPaced c (rec_ticks c T (fresh_run c) empty_losses).run (rec_ticks c T (fresh_run c) empty_losses).losses × ((rec_ticks c T (fresh_run c) empty_losses).run.clock ≡ T)
unfolding fresh_run
rec_ticks_paced {c} a zero h = rw (rec_ticks_none c (fresh_run c) empty_losses) (rec_fresh_paced a, refl)
rec_ticks_paced {c} a (suc T) h =
    let x : Recorded = rec_ticks c T (fresh_run c) empty_losses in
    let last = rec_ticks_last c T (fresh_run c) empty_losses in
    let o = rec_onward_cases x (rec_tick c) (ap (λ (y : Recorded). y.outcome) (sym last) ∙ h) in
    let k = rec_ticks_paced a T o.0 in
    rw (last ∙ o.1.1) (rec_tick_paced k.0 o.1.0, omega (arith, tick_clock (recording_filled k.0.recording) k.0.recording.listed o.1.0, k.1))
