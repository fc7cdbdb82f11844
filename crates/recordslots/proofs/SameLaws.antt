-- "In every run state the slots past n are neither read nor changed" (01, Firing), of recording ticks and runs: from one state and one list, chains that differ
-- in slots past n only leave the same outcome, state and list (02, Item 2).
--   rec-tick-, rec-ticks- and rec_instants_same
--                            a recording tick, so many of them, and so many instants
--   rec_run_alike            so a run from a fresh start with an empty list is the same
use Rattle.std.specs.Prelude.{◌≡◌, ℕ}
use Rattle.std.proofs.Common.{sym, ap, ◌∙◌}
use Rattle.chain.specs.declared.Chain.{Chain}
use Rattle.state.specs.State.{fresh_run, fresh_empty}
use Rattle.state.specs.declared.Run.{Run}
use Rattle.slots.specs.Chains.{AlikeChains}
use Rattle.losses.specs.Losses.{empty_losses}
use Rattle.losses.specs.declared.Losses.{Losses}
use Rattle.recordings.specs.Steps.{rec_tick, rec_ticks, rec_instants}
use Rattle.recordings.specs.Traced.{rec_run}
use Rattle.tickslots.proofs.SlotsLaws.{states_refl}
use Rattle.recordslots.proofs.ListsLaws.{losses_refl, same_recorded}
use Rattle.recordslots.proofs.AlikeLaws.{rec_tick_alike, rec_ticks_alike, rec_instants_alike}
use Rattle.recordslots.proofs.KeptLaws.{rec_tick_kept, rec_ticks_kept, rec_instants_kept}

-- chains that differ in slots past n only
module _ {c d : Chain} (a : AlikeChains c d) where
  -- one tick from one state and one list
  pub rec_tick_same : (s : Run) (l : Losses) → rec_tick c s l ≡ rec_tick d s l
  rec_tick_same s l = same_recorded (rec_tick_kept c s l) (rw a.n (rec_tick_kept d s l)) (rec_tick_alike a (states_refl s) (losses_refl l))

  -- so many ticks
  pub rec_ticks_same : (T : ℕ) (s : Run) (l : Losses) → rec_ticks c T s l ≡ rec_ticks d T s l
  rec_ticks_same T s l = same_recorded (rec_ticks_kept c T s l) (rw a.n (rec_ticks_kept d T s l)) (rec_ticks_alike a T (states_refl s) (losses_refl l))

  -- so many instants
  pub rec_instants_same : (T : ℕ) (s : Run) (l : Losses) → rec_instants c T s l ≡ rec_instants d T s l
  rec_instants_same T s l = same_recorded (rec_instants_kept c T s l) (rw a.n (rec_instants_kept d T s l)) (rec_instants_alike a T (states_refl s) (losses_refl l))

  -- and a run from a fresh start with an empty list
  pub rec_run_alike : (T : ℕ) → rec_run c T ≡ rec_run d T
  rec_run_alike T = ap (λ (s : Run). rec_instants c T s empty_losses) (sym (fresh_empty c) ∙ fresh_empty d) ∙ rec_instants_same T (fresh_run d) empty_losses
