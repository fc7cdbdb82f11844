-- What C is told of a recording tick and of a recording run (02, Item 2), as Demand2 says it of a deadline tick and a deadline run.
--   c, s, l, T               a chain, a run state, a list of losses, ticks
--   RecTold, rec_tick_told, rec_lent_told, rec_run_told
--                            what C is told of them, and the state and the list that it has then
--   FullAtFinish o           "the stopped list" at a finish
--   rec_tick_stores          and what C's recording tick asks before it stores a state
use Rattle.std.proofs.Math.Logic.Iff
use Rattle.std.specs.Prelude.{◌≡◌, refl, true, ◌↔◌, ◌≢◌, ◌⊎◌, List, [], ◌∷◌, ℕ, zero, suc, get_or}
use Rattle.std.proofs.Common.{ap, inl, inr, ⊎_elim, arith}
use Rattle.ardenquill.specs.Losses.{rec_tick_of, rec_at_of, rec_tick_answer, rec_run_answer}
use Rattle.ardenquill.specs.RecFlat.{rec_kind_of, rec_coded, rec_flat, rec_moves, Moving}
use Rattle.ardenquill.proofs.RecFlatLaws.{rec_moves_exactly}
use Rattle.ardenquill.specs.Records.{Chain, Run, Losses, RecordOutcome, RecordClean, RecordNoDeadline, ListFull, RecordAnswer}
use Rattle.promises.specs.LossOutcomes.{RecCleanly, RecUndatedAt, FullAt}
use Rattle.promises.specs.LossesRefused.{rec_tick_stays, rec_run_empty}

-- what C is told of the answer a of a recording tick or run: its number and place; kind 2, the tick and the node exactly when a deadline can't be had; kind 3, the tick and
-- the queue exactly when the list is full; 0, 0, 0 exactly when it is clean or refused
pub record RecTold (a : RecordAnswer) (number place kind tick at : ℕ) : Type 0 where
  pub numbered : (number ≡ a.number) × (place ≡ a.place)
  pub undated : (t i : ℕ) → ((kind ≡ 2) × ((tick ≡ t) × (at ≡ i))) ↔ RecUndatedAt a.outcome t i
  pub full : (t q : ℕ) → ((kind ≡ 3) × ((tick ≡ t) × (at ≡ q))) ↔ FullAt a.outcome t q
  pub cleanly : ((kind ≡ 0) × ((tick ≡ 0) × (at ≡ 0))) ↔ ((a.number ≢ 0) ⊎ RecCleanly a.outcome)

-- an outcome by its code, its tick, and its node or queue
coded_undated : (o : RecordOutcome) (t i : ℕ) → ((rec_kind_of o ≡ 2) × ((rec_tick_of o ≡ t) × (rec_at_of o ≡ i))) ↔ RecUndatedAt o t i
coded_undated RecordClean t i = (λ h. absurd (omega (arith, h.0)), λ h. absurd (omega (arith, h.0)))
coded_undated (RecordNoDeadline u m) t i = (λ h. (refl, λ k. h.1.0 k ∷ h.1.1 k ∷ []), λ h. (refl, (ap (λ (vs : List ℕ). get_or vs 0 0) h.1, ap (λ (vs : List ℕ). get_or vs 1 0) h.1)))
coded_undated (ListFull u q) t i = (λ h. absurd (omega (arith, h.0)), λ h. absurd (omega (arith, h.0)))

coded_full : (o : RecordOutcome) (t q : ℕ) → ((rec_kind_of o ≡ 3) × ((rec_tick_of o ≡ t) × (rec_at_of o ≡ q))) ↔ FullAt o t q
coded_full RecordClean t q = (λ h. absurd (omega (arith, h.0)), λ h. absurd (omega (arith, h.0)))
coded_full (RecordNoDeadline u i) t q = (λ h. absurd (omega (arith, h.0)), λ h. absurd (omega (arith, h.0)))
coded_full (ListFull u r) t q = (λ h. (refl, λ k. h.1.0 k ∷ h.1.1 k ∷ []), λ h. (refl, (ap (λ (vs : List ℕ). get_or vs 0 0) h.1, ap (λ (vs : List ℕ). get_or vs 1 0) h.1)))

coded_clean : (o : RecordOutcome) → ((rec_kind_of o ≡ 0) × ((rec_tick_of o ≡ 0) × (rec_at_of o ≡ 0))) ↔ RecCleanly o
coded_clean RecordClean = (λ h. (refl, refl), λ h. (refl, (refl, refl)))
coded_clean (RecordNoDeadline t i) = (λ h. absurd (omega (arith, h.0)), λ h. absurd (omega (arith, h.0)))
coded_clean (ListFull t q) = (λ h. absurd (omega (arith, h.0)), λ h. absurd (omega (arith, h.0)))

told : (a : RecordAnswer) → (a.number ≢ 0 → RecCleanly a.outcome) → RecTold a a.number a.place (rec_kind_of a.outcome) (rec_tick_of a.outcome) (rec_at_of a.outcome)
told a refusal = record {
  numbered = (refl, refl);
  undated = coded_undated a.outcome;
  full = coded_full a.outcome;
  cleanly = (λ h. inr ((coded_clean a.outcome).0 h), ⊎_elim (λ n. (coded_clean a.outcome).1 (refusal n)) (coded_clean a.outcome).1);
}

-- of a recording tick
pub rec_tick_told : (c : Chain) (s : Run) (l : Losses) → let r = rec_coded (rec_tick_answer c s l) in RecTold (rec_tick_answer c s l) r.number r.place r.kind r.tick r.at
rec_tick_told c s l = told (rec_tick_answer c s l) (λ n. (rec_tick_stays c s l n).0)

-- with the state and the list that it leaves (callers::lent_recording)
pub rec_lent_told : (c : Chain) (s : Run) (l : Losses) → let r = rec_flat (rec_tick_answer c s l) in RecTold (rec_tick_answer c s l) r.number r.place r.kind r.tick r.at
    × ((r.run ≡ (rec_tick_answer c s l).run) × (r.losses ≡ (rec_tick_answer c s l).losses))
rec_lent_told c s l = (rec_tick_told c s l, (refl, refl))

-- and of a recording run
pub rec_run_told : (c : Chain) (T : ℕ) → let r = rec_flat (rec_run_answer c T) in RecTold (rec_run_answer c T) r.number r.place r.kind r.tick r.at
    × ((r.run ≡ (rec_run_answer c T).run) × (r.losses ≡ (rec_run_answer c T).losses))
rec_run_told c T = (told (rec_run_answer c T) (λ n. (rec_run_empty c T n).0), (refl, refl))

-- "the stopped list" at a finish, where "the source's step stands"
pub record FullAtFinish (o : RecordOutcome) : Type 0 where
  pub tick : ℕ
  pub queue : ℕ
  pub says : FullAt o tick (suc queue)

-- what C's recording tick asks of its answer before it stores a state: true exactly of a tick that is not refused and ends clean, or with 15 at a finish. Of any other the
-- state and the list are those handed in (rec_tick_stays, rec_left_undated, rec_left_full), so that there is nothing to store
pub rec_tick_stores : (c : Chain) (s : Run) (l : Losses) → (rec_moves (rec_coded (rec_tick_answer c s l)) ≡ true)
    ↔ (((rec_tick_answer c s l).number ≡ 0) × (RecCleanly (rec_tick_answer c s l).outcome ⊎ FullAtFinish (rec_tick_answer c s l).outcome))
rec_tick_stores c s l = Iff.trans (rec_moves_exactly (rec_tick_answer c s l)) (Iff.and Iff.rfl (moves (rec_tick_answer c s l).outcome))
  where
    moves : (o : RecordOutcome) → Moving o ↔ (RecCleanly o ⊎ FullAtFinish o)
    moves RecordClean = (λ p. inl (refl, refl), λ h. tt)
    moves (RecordNoDeadline t i) = (λ p. absurd p, ⊎_elim (λ h. absurd (omega (arith, h.0))) (λ h. absurd (omega (arith, h.says.0))))
    moves (ListFull t zero) = (
      λ p. absurd (p refl),
      ⊎_elim (λ h. absurd (omega (arith, h.0))) (λ h. absurd (let e : 0 ≡ suc h.queue = ap (λ (vs : List ℕ). get_or vs 1 0) h.says.1 in omega arith)),
    )
    moves (ListFull t (suc q)) = (λ p. inr (record { tick = t; queue = q; says = (refl, refl) }), λ h e. absurd (omega (arith, e)))
