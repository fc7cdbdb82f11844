-- Laws of specs/Flat.antt that rest on a definition which an edit of must-fail/ changes.
-- What C is answered in place of an outcome of several kinds.
--   clean_exactly            which it is exactly where its number is 0 and its outcome Clean
--   unclean_stays            a tick with any other answer leaves the state as it was
use Rattle.std.specs.Prelude.{◌≡◌, refl, Bool, true, not, ◌↔◌, T, eqb}
use Rattle.std.proofs.Common.{sym, ap, subst, true≢false, arith}
use Rattle.std.proofs.Math.Logic.{by_cases}
use Rattle.std.proofs.Math.Decide.{ℕ_discrete}
use Rattle.chain.specs.Tests.{equal_true, and_true}
use Rattle.chain.specs.declared.Chain.{Chain}
use Rattle.state.specs.declared.Run.{Run}
use Rattle.slots.specs.Runs.{Whole}
use Rattle.instants.specs.Steps.{kind_of}
use Rattle.instants.specs.Checks.{outcome_of, tick_answer}
use Rattle.instants.proofs.RefusalsLaws.{tick_refused}
use Rattle.instants.proofs.ExactlyLaws.{one_stays}
use Rattle.instants.proofs.AnswersLaws.{answer_one}
use Rattle.instants.specs.declared.Outcome.{Outcome}
use Rattle.instants.specs.declared.Outcome.TheVariants.{Clean, Overflowed, NoDeadline}
use Rattle.instants.specs.Answered.{TickAnswer}
use Rattle.ardenquill.specs.Flat.{coded, is_clean}

-- which an answer is exactly where it was not refused and its outcome is this
pub clean_exactly : (a : TickAnswer) → (is_clean (coded a) ≡ true) ↔ ((a.number ≡ 0) × (a.outcome ≡ Clean))
clean_exactly a = and_true (equal_true a.number 0) (clean_kind a.outcome)
  where
    clean_kind : (o : Outcome) → (eqb (kind_of o) 0 ≡ true) ↔ (o ≡ Clean)
    clean_kind Clean = (λ e. refl, λ e. refl)
    clean_kind (Overflowed t q) = (λ e. absurd (true≢false (sym e)), λ e. absurd (omega (arith, ap kind_of e)))
    clean_kind (NoDeadline t i) = (λ e. absurd (true≢false (sym e)), λ e. absurd (omega (arith, ap kind_of e)))

-- "run state as before" where a tick is refused, and "the state being that before the production" or "before the source's step" where it is not clean:
-- the state is the one handed in, so that nothing has to be stored
pub unclean_stays : (c : Chain) (s : Run) → Whole s → T (not (is_clean (coded (tick_answer c s)))) → (tick_answer c s).run ≡ s
unfolding tick_answer outcome_of
unclean_stays c s w n = by_cases (ℕ_discrete (tick_answer c s).number 0)
    (λ ok. one_stays (answer_one c s w ok) (λ z. subst (λ (b : Bool). T (not b)) ((clean_exactly (tick_answer c s)).1 (ok, z)) n))
    (λ some. ap (λ (a : TickAnswer). a.run) (tick_refused c s some))
