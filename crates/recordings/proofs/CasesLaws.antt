-- The ways in which the steps of a recording tick end (02, Item 2), each by what holds of the state and of the list.
--   loss_cases                 what holds of a production that is dropped and noted, and of the full list, holds of one that does not fit
--   source_four                the source's step loses its production, finds the list full, fires, or rests
--   work_four                  a tick of work finishes no firing, or one that fits, or one that loses its production, or one that finds the list full
--   rec_begun_cases            what the source's step and 13 leave, by what the source's step leaves
--   rec_tick_begun, _ends, _works
--                              a tick is these, and then, where these are clean, the work of the node chosen and its effect
use Rattle.std.specs.Prelude.{◌≡◌, ◌≢◌, Bool, true, false, cond, eqb, ltb}
use Rattle.std.proofs.Math.Path.{refl, sym, subst}
use Rattle.std.proofs.Common.{◌∙◌, eqb-true, ltb-true, ltb-false}
use Rattle.std.proofs.Math.Logic.{by_cases}
use Prim.Native.Nat.{ℕ, zero, suc, ◌+◌, ◌≤◌, ◌<◌}
use Rattle.std.proofs.Math.Decide.{ℕ_discrete}
use native.Mathlib.Omega.{arith}
use Rattle.std.proofs.lemmas.Bool.{eqb-false}
use Rattle.chain.specs.Refusals.{Silent}
use Rattle.chain.specs.Record.{row_of, work_of}
use Rattle.chain.specs.declared.Chain.{Chain}
use Rattle.state.specs.State.{done_at}
use Rattle.state.specs.Fired.{fired, Room}
use Rattle.state.specs.Checks.{cramped, Cramped}
use Rattle.state.proofs.ChecksLaws.{cramped_is, cramped_room}
use Rattle.state.specs.declared.Run.{Run}
use Rattle.instants.specs.Steps.{overflowed, with_done, lacking, chosen, worked, finish}
use Rattle.instants.specs.Filled.{Filled, cramped_as}
use Rattle.instants.specs.Source.{Due}
use Rattle.instants.proofs.SourceLaws.{source_three}
use Rattle.instants.proofs.KeptLaws.{finish_cases, worked_held, works_on, works_ends}
use Rattle.instants.specs.declared.Ticked.{Ticked}
use Rattle.losses.specs.Losses.{noted}
use Rattle.losses.specs.declared.Losses.{Losses}
use Rattle.recordings.specs.Steps.{rec_clean, rec_undated, rec_full, rec_onward, dropped, lost_firing, recorded, rec_sourced, rec_begun, rec_advanced, rec_finished, rec_tick}
use Rattle.recordings.specs.Runs.{rec_onward_then}
use Rattle.recordings.proofs.RunsLaws.{rec_onward_elim, rec_onward_goes, rec_onward_stops}
use Rattle.recordings.specs.declared.RecordOutcome.TheVariants.{Clean}
use Rattle.recordings.specs.declared.Recorded.{Recorded}

-- a production that does not fit: it is dropped and noted, or the list is full
pub loss_cases : (c : Chain) (l : Losses) (s : Run) (t q : ℕ) (P : Recorded → Type 0) → (l.count < 256 → P (rec_clean (lost_firing c s q) (noted l t q (row_of c q).produce)))
    → (256 ≤ l.count → P (rec_full s l t q)) → P (recorded c l (overflowed s t q))
unfolding recorded
loss_cases c l s t q P drops stops = by (ltb l.count 256) refl
  where
    by : (b : Bool) → ltb l.count 256 ≡ b → P (cond b (rec_clean (lost_firing c s q) (noted l t q (row_of c q).produce)) (rec_full s l t q))
    by true e = drops (ltb-true _ _ e)
    by false e = stops (ltb-false _ _ e)

-- the source's step: its production is lost, or would be with no room in the list, or it fires, or it rests
pub source_four : {c : Chain} {s : Run} → Filled c s → (l : Losses) (P : Recorded → Type 0)
    → (Due c s → Cramped c s 0 → l.count < 256 → P (rec_clean (dropped c s 0) (noted l s.clock 0 (row_of c 0).produce)))
    → (Due c s → Cramped c s 0 → 256 ≤ l.count → P (rec_full s l s.clock 0))
    → (Due c s → Room c s 0 → P (rec_clean (fired c s 0) l))
    → ((Due c s → ⊥) → P (rec_clean s l)) → P (rec_sourced c s l)
unfolding rec_sourced recorded lost_firing
source_four {c} {s} f l P drops stops fires rests = source_three f (λ x. P (recorded c l x))
    (λ d h. let spills : Cramped c s 0 = (f.chain.chain.count.0, h) in loss_cases c l s s.clock 0 P (drops d spills) (stops d spills))
    (λ d h. fires d (λ m. h))
    rests

-- one tick of work of N_i, and the effect of the firing that it finishes, if any
module _ {c : Chain} {u : Run} (f : Filled c u) (l : Losses) (P : Recorded → Type 0) where
  -- N_(j+1)'s firing is finished
  ends : (j : ℕ) → (Room c u (suc j) → P (rec_clean (fired c (with_done (worked u (suc j)) j 0) (suc j)) l))
      → (Cramped c u (suc j) → l.count < 256 → P (rec_clean (dropped c (with_done (worked u (suc j)) j 0) (suc j)) (noted l (worked u (suc j)).clock (suc j) (row_of c (suc j)).produce)))
      → (Cramped c u (suc j) → 256 ≤ l.count → P (rec_full (worked u (suc j)) l (worked u (suc j)).clock (suc j)))
      → P (recorded c l (finish c (worked u (suc j)) (suc j)))
  unfolding recorded lost_firing
  ends j fires drops stops = finish_cases c (worked u (suc j)) j (λ x. P (recorded c l x))
      (λ e. let h = (cramped_is c u (suc j)).0 (same ∙ e) in loss_cases c l (worked u (suc j)) (worked u (suc j)).clock (suc j) P (drops h) (stops h))
      (λ e. fires ((cramped_room c u (suc j)).0 (same ∙ e)))
    where
      same : cramped c u (suc j) ≡ cramped c (worked u (suc j)) (suc j)
      same = sym (cramped_as c u (worked u (suc j)) (suc j) (worked_held u (suc j)))

  pub work_four : (i : ℕ) → i ≤ c.n
      → (((j : ℕ) → i ≡ suc j → done_at u j + 1 ≢ work_of c j) → P (rec_clean (worked u i) l))
      → ((j : ℕ) → i ≡ suc j → done_at u j + 1 ≡ work_of c j → Room c u (suc j) → P (rec_clean (fired c (with_done (worked u (suc j)) j 0) (suc j)) l))
      → ((j : ℕ) → i ≡ suc j → done_at u j + 1 ≡ work_of c j → Cramped c u (suc j) → l.count < 256
      → P (rec_clean (dropped c (with_done (worked u (suc j)) j 0) (suc j)) (noted l (worked u (suc j)).clock (suc j) (row_of c (suc j)).produce)))
      → ((j : ℕ) → i ≡ suc j → done_at u j + 1 ≡ work_of c j → Cramped c u (suc j) → 256 ≤ l.count → P (rec_full (worked u (suc j)) l (worked u (suc j)).clock (suc j)))
      → P (rec_finished c (worked u i) l)
  unfolding rec_finished recorded
  work_four zero low rests fires drops stops =
      subst (λ (x : Ticked). P (recorded c l x)) (sym (works_on f 0 (λ m h q. absurd (omega arith)))) (rests (λ j e. absurd (omega arith)))
  work_four (suc j) low rests fires drops stops = by_cases (ℕ_discrete (done_at u j + 1) (work_of c j))
      (λ all. subst (λ (x : Ticked). P (recorded c l x)) (sym (works_ends f j low all)) (ends j (fires j refl all) (drops j refl all) (stops j refl all)))
      (λ ne. subst (λ (x : Ticked). P (recorded c l x)) (sym (works_on f (suc j) (less ne))) (rests (λ m e. let z : j ≡ m = omega arith in subst (λ (x : ℕ). done_at u x + 1 ≢ work_of c x) z ne)))
    where
      less : done_at u j + 1 ≢ work_of c j → (m : ℕ) → m < c.n → suc j ≡ suc m → done_at u m + 1 < work_of c m
      less ne m h q = let z : j ≡ m = omega arith in subst (λ (x : ℕ). done_at u x + 1 < work_of c x) z (omega (arith, ne, f.below j low))

-- the source's step, and then 13: an outcome of the source's step stands; 13 gives back the state and the list as they were; else they are the step's
pub rec_begun_cases : (c : Chain) (s : Run) (l : Losses) (P : Recorded → Type 0)
    → (((rec_sourced c s l).outcome ≡ Clean → ⊥) → P (rec_sourced c s l))
    → ((rec_sourced c s l).outcome ≡ Clean → (Silent (lacking c (rec_sourced c s l).run) → ⊥) → P (rec_undated s l s.clock (lacking c (rec_sourced c s l).run).place))
    → ((rec_sourced c s l).outcome ≡ Clean → Silent (lacking c (rec_sourced c s l).run) → P (rec_clean (rec_sourced c s l).run (rec_sourced c s l).losses))
    → P (rec_begun c s l)
unfolding rec_begun
rec_begun_cases c s l P ends lacks goes = rec_onward_elim (rec_sourced c s l) _ P ends (λ z. by (eqb (lacking c (rec_sourced c s l).run).number 0) refl z)
  where
    u : Run
    u = (rec_sourced c s l).run

    by : (b : Bool) → eqb (lacking c u).number 0 ≡ b → (rec_sourced c s l).outcome ≡ Clean
        → P (cond b (rec_clean u (rec_sourced c s l).losses) (rec_undated s l s.clock (lacking c u).place))
    by true e z = goes z (eqb-true _ _ e)
    by false e z = lacks z (eqb-false _ _ e)

-- the source's step and 13, and then the work of the node chosen and its effect
pub rec_tick_begun : (c : Chain) (s : Run) (l : Losses) → rec_tick c s l ≡ rec_onward (rec_begun c s l) (λ u m. rec_finished c (worked u (chosen c u)) m)
unfolding rec_tick rec_advanced rec_onward
rec_tick_begun c s l = rec_onward_then (rec_begun c s l) (λ u m. rec_clean (worked u (chosen c u)) m) (rec_finished c)

module _ (c : Chain) (s : Run) (l : Losses) where
  pub rec_tick_ends : ((rec_begun c s l).outcome ≡ Clean → ⊥) → rec_tick c s l ≡ rec_begun c s l
  rec_tick_ends n = rec_tick_begun c s l ∙ rec_onward_stops (rec_begun c s l) _ n

  pub rec_tick_works : (rec_begun c s l).outcome ≡ Clean → rec_tick c s l ≡ rec_finished c (worked (rec_begun c s l).run (chosen c (rec_begun c s l).run)) (rec_begun c s l).losses
  rec_tick_works z = rec_tick_begun c s l ∙ rec_onward_goes (rec_begun c s l) _ z
