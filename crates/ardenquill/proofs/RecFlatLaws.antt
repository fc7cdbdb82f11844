-- Laws of specs/RecFlat.antt that rest on a definition which an edit of must-fail/ changes.
-- What C is answered in place of an outcome of a recording tick or run (02, Item 2), and when a recording tick stores.
--   rec_moves_exactly        rec_moves says so exactly where the number is 0 and the outcome is such a one
--   rec_unmoved_stays        a tick with any other answer leaves the state and the list as they were
--   rec_ungrown_stays        and one that leaves the list as long as it was leaves it as it was
use Rattle.std.specs.Prelude.{◌≡◌, refl, Bool, true, not, cond, ◌&&◌, ◌||◌, ◌↔◌, T, eqb, length}
use Rattle.std.proofs.Common.{sym, ap, subst, ◌∙◌, true≢false, ⊎_elim, arith, ne_eqb}
use Rattle.std.proofs.Math.Logic.{by_cases}
use Rattle.std.proofs.Math.Decide.{ℕ_discrete}
use Rattle.chain.specs.Tests.{equal_true, and_true}
use Rattle.chain.specs.Refusals.{Silent}
use Rattle.chain.specs.declared.Chain.{Chain}
use Rattle.state.specs.declared.Run.{Run}
use Rattle.slots.specs.Runs.{Whole}
use Rattle.losses.specs.Losses.{extends_same}
use Rattle.losses.specs.declared.Losses.{Losses}
use Rattle.recordings.specs.Steps.{rec_number_of, rec_at_of, rec_tick}
use Rattle.recordings.proofs.KeptLaws.{tick_leads}
use Rattle.recordings.specs.Checks.{Recording, recording_filled}
use Rattle.recordings.proofs.ExactlyLaws.{rec_is_one, rec_one_lacks_stays, rec_one_full_stays}
use Rattle.recordings.specs.Answers.{rec_tick_refusal, rec_tick_answer}
use Rattle.recordings.proofs.RecRefusalsLaws.{rec_tick_accepts, rec_tick_ran, rec_tick_refused}
use Rattle.recordings.specs.declared.RecordOutcome.{RecordOutcome}
use Rattle.recordings.specs.declared.RecordOutcome.TheVariants.{Clean, NoDeadline, ListFull}
use Rattle.recordings.specs.Answered.{RecordAnswer}
use Rattle.ardenquill.specs.RecFlat.{rec_kind_of, rec_coded, rec_moves, Moving, rec_grows}

pub rec_kind_number : (o : RecordOutcome) → rec_number_of o ≡ cond (eqb (rec_kind_of o) 2) 13 (cond (eqb (rec_kind_of o) 3) 15 0)
rec_kind_number Clean = refl
rec_kind_number (NoDeadline t i) = refl
rec_kind_number (ListFull t q) = refl

-- which an answer says exactly where it was not refused and its outcome is such a one
pub rec_moves_exactly : (a : RecordAnswer) → (rec_moves (rec_coded a) ≡ true) ↔ ((a.number ≡ 0) × Moving a.outcome)
rec_moves_exactly a = and_true (equal_true a.number 0) (moving a.outcome)
  where
    moving : (o : RecordOutcome) → (eqb (rec_kind_of o) 0 || (eqb (rec_kind_of o) 3 && not (eqb (rec_at_of o) 0)) ≡ true) ↔ Moving o
    moving Clean = (λ e. tt, λ p. refl)
    moving (NoDeadline t i) = (λ e. absurd (true≢false (sym e)), λ p. absurd p)
    moving (ListFull t q) = (λ e z. absurd (true≢false (rw (← e) (simp z))), λ p. ap not (ne_eqb q 0 p))

module _ (c : Chain) (s : Run) (l : Losses) (w : Whole s) (long : length l.entries ≡ 256) where
  -- the tick is one of a recording run where it is not refused
  recording : Silent (rec_tick_refusal c s l) → Recording c s l
  recording z =
      let h = (rec_tick_accepts c s l).0 z in
      record { chain = h.0; whole = w; listed = record { long = long; short = h.1.0.short }; sound = h.1.0 }

  -- 13, and a full list at the source, leave both as they were
  stays : Recording c s l → (Moving (rec_tick c s l).outcome → ⊥) → ((rec_tick c s l).run ≡ s) × ((rec_tick c s l).losses ≡ l)
  stays r n = from (rec_tick c s l).outcome refl
    where
      from : (o : RecordOutcome) → (rec_tick c s l).outcome ≡ o → ((rec_tick c s l).run ≡ s) × ((rec_tick c s l).losses ≡ l)
      from Clean e = absurd (n (subst Moving (sym e) tt))
      from (NoDeadline t i) e = rec_one_lacks_stays (rec_is_one (recording_filled r) r.listed) t i e
      from (ListFull t q) e = ⊎_elim (λ a. a.1) (λ a. absurd (n (subst Moving (sym e) (λ z. omega (arith, a.queue)))))
          (rec_one_full_stays (rec_is_one (recording_filled r) r.listed) t q e)

  -- "run state as before" where a tick is refused, "the state being that before the source's step", and the list, too, at 13, and "as they were before that
  -- production" at the source: nothing has to be stored
  pub rec_unmoved_stays : T (not (rec_moves (rec_coded (rec_tick_answer c s l)))) → ((rec_tick_answer c s l).run ≡ s) × ((rec_tick_answer c s l).losses ≡ l)
  rec_unmoved_stays n = by_cases (ℕ_discrete (rec_tick_refusal c s l).number 0)
      (λ ok.
      let e = rec_tick_ran c s l ok in
      let still : Moving (rec_tick c s l).outcome → ⊥ = λ p. unmoved (ap (λ (a : RecordAnswer). a.number) e) (subst Moving (sym (ap (λ (a : RecordAnswer). a.outcome) e)) p) in
      let same = stays (recording ok) still in
      (ap (λ (a : RecordAnswer). a.run) e ∙ same.0, ap (λ (a : RecordAnswer). a.losses) e ∙ same.1))
      (λ some.
      let e = rec_tick_refused c s l some in
      (ap (λ (a : RecordAnswer). a.run) e, ap (λ (a : RecordAnswer). a.losses) e))
    where
      unmoved : (rec_tick_answer c s l).number ≡ 0 → Moving (rec_tick_answer c s l).outcome → ⊥
      unmoved ok p = subst (λ (b : Bool). T (not b)) ((rec_moves_exactly (rec_tick_answer c s l)).1 (ok, p)) n

  -- nor the list where it is as long as it was
  pub rec_ungrown_stays : T (not (rec_grows l.count (rec_tick_answer c s l).losses.count)) → (rec_tick_answer c s l).losses ≡ l
  rec_ungrown_stays n = by_cases (ℕ_discrete (rec_tick_refusal c s l).number 0)
      (λ ok.
      let e = ap (λ (a : RecordAnswer). a.losses) (rec_tick_ran c s l ok) in
      let r = recording ok in
      e ∙ extends_same (tick_leads (recording_filled r) r.listed).leads.extends (sym (ap (λ (m : Losses). m.count) e) ∙ sym as_long))
      (λ some. ap (λ (a : RecordAnswer). a.losses) (rec_tick_refused c s l some))
    where
      as_long : l.count ≡ (rec_tick_answer c s l).losses.count
      as_long = by_cases (ℕ_discrete l.count (rec_tick_answer c s l).losses.count) (λ e. e) (λ other. absurd (subst (λ (b : Bool). T (not (not b))) (ne_eqb _ _ other) n))
