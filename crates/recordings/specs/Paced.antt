-- The counts of a recording run from a fresh start with an empty list (02, Item 2): no node fires more often than the clock ticks, its production lost or not.
--   rec_tick_counts            a clean tick adds at most one to each
--   RecPaced c s l             a state and a list that pass 17, in which no node has fired more often than the clock has ticked
--   rec_fresh_paced, rec_tick_paced
--                              a fresh start with an empty list is one, and a clean tick leaves one
--   rec_paced_ticking          before the longest run is over no check refuses a tick of one
-- What is named here and not declared stands in proofs/PacedLaws.antt.
use Rattle.std.specs.Prelude.{ℕ, suc, ◌≤◌, ◌<◌}
use Rattle.std.proofs.Common.{arith}
use Rattle.std.proofs.Math.Logic.{by_cases}
use Rattle.std.proofs.Math.Decide.{ℕ_discrete, dec_dvd}
use Rattle.chain.specs.declared.Chain.{Chain}
use Rattle.sizing.specs.Accepted.{Accepted}
use Rattle.state.specs.State.{fresh_run, count_at}
use Rattle.state.specs.declared.Run.{Run}
use Rattle.instants.specs.Checks.{longest}
use Rattle.instants.specs.Fresh.{InPace, fresh_in_pace}
use Rattle.instants.proofs.FreshLaws.{pace_countable}
use Rattle.losses.specs.Losses.{empty_losses}
use Rattle.losses.specs.declared.Losses.{Losses}
use Rattle.recordings.specs.Checks.{Recording, fresh_recording}
use Rattle.recordings.specs.RecRefusals.{RecTicking}
use Rattle.recordings.specs.Fields.{rec_source_fires, rec_source_rests, rec_source_others, rec_work_source, rec_work_most}
use Rattle.recordings.specs.Exactly.{RecTickOnce}
use Rattle.recordings.specs.declared.Recorded.{Recorded}

-- a clean tick adds at most one to each count
pub rec_tick_counts : {c : Chain} {s : Run} {l : Losses} {x : Recorded} → RecTickOnce c s l x → (i : ℕ) → count_at x.run i ≤ suc (count_at s i)
rec_tick_counts {c} {s} {l} {x} a i = by_cases (ℕ_discrete i 0)
    (λ z. rw z (by_cases (dec_dvd c.period s.clock)
    (λ d. omega (arith, rec_work_source a.cleaned.work, rec_source_fires a.begun.source d))
    (λ n. omega (arith, rec_work_source a.cleaned.work, rec_source_rests a.begun.source n))))
    (λ ne. omega (arith, rec_work_most a.cleaned.work i, rec_source_others a.begun.source i ne))

-- a state and a list that pass 17, in which no node has fired more often than the clock has ticked
pub record RecPaced (c : Chain) (s : Run) (l : Losses) : Type 0 where
  pub recording : Recording c s l
  pub counts : InPace c s

pub rec_fresh_paced : {c : Chain} → Accepted c → RecPaced c (fresh_run c) empty_losses
rec_fresh_paced {c} a = record { recording = fresh_recording a; counts = fresh_in_pace c }

-- no check refuses a tick of a recording run before its longest end
pub rec_paced_ticking : {c : Chain} {s : Run} {l : Losses} → RecPaced c s l → s.clock < longest → RecTicking c s l
rec_paced_ticking {c} {s} p l = record { chain = p.recording.chain; sound = p.recording.sound; clock = l; countable = pace_countable c s p.counts (omega arith) }
