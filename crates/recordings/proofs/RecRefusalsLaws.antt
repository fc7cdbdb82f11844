-- Laws of specs/RecRefusals.antt that rest on a definition which an edit of must-fail/ changes.
-- When a recording tick and a recording run are refused, and what they answer then and else (02, Item 2).
--   rec_tick_parts             the checks of an analysis, then 17 with the list, then both of 9
--   rec_tick_numbered          each speaks with its own number
--   rec_tick_17, _9, _earlier  when a recording tick is refused with each number
--   rec_tick_never_8           8 is none of them
--   rec_tick_accepts           it is not refused exactly when the chain is accepted, state and list pass 17, the clock is below the limit, and each count can grow
--   RecTicking c s l, rec_ticking_is
--                              the same as a record, which the code of a recording tick asks
--   rec_run_parts, _numbered   the checks of an analysis, then 9, each with its own number
--   rec_run_9, _earlier, _never_8
--                              when a recording run is refused with each number
--   rec_run_accepts            it is not refused exactly when the chain is accepted, and T is within the limit
--   rec_answer_refused, _fine  which the answer of a call has
--   rec_tick_fine, rec_run_fine
--                              a silent refusal is fine
--   rec_tick_ran, _refused     what a recording tick answers
--   rec_run_ran, _refused      what a recording run answers
use Rattle.std.proofs.Math.Logic.Iff
use Rattle.std.specs.Prelude.{◌≡◌, ◌↔◌, ◌≢◌, ◌⊎◌, [], ◌∷◌, ◌++◌, ℕ, ◌≤◌, ◌<◌}
use Rattle.std.proofs.Math.Path.{sym}
use Rattle.std.proofs.Common.{arith, ne_eqb}
use Rattle.chain.specs.Refusals.{refused, fine, or_else, first_fine, Silent, Silents, Numbered}
use Rattle.chain.specs.Refusal.{Refusal}
use Rattle.chain.specs.declared.Chain.{Chain}
use Rattle.sizing.specs.Checks.{limit, analyse_checks, analyse_refusal, analyse_numbers}
use Rattle.sizing.proofs.ChecksLaws.{analyse_numbered}
use Rattle.sizing.specs.Accepted.{Accepted}
use Rattle.sizing.proofs.AcceptedLaws.{analyse_accepts}
use Rattle.state.specs.State.{count_at, empty_run}
use Rattle.state.specs.declared.Run.{Run}
use Rattle.instants.specs.Checks.{longest, clock_check, spent_check, length_check}
use Rattle.instants.specs.Refusals.{LateOrSpent}
use Rattle.instants.proofs.RefusalsLaws.{tick_own_parts, tick_own_silent, tick_own_earlier, tick_own_numbered, tick_own_17, tick_own_9}
use Rattle.instants.proofs.RefusalsLaws.{run_own_parts, run_own_silent, run_own_earlier, run_own_numbered, run_own_9}
use Rattle.losses.specs.Losses.{empty_losses}
use Rattle.losses.specs.Checks.{LongOrStray, Named}
use Rattle.losses.specs.declared.Losses.{Losses}
use Rattle.recordings.specs.Steps.{rec_tick}
use Rattle.recordings.specs.Checks.{rec_state_check, FirstRecBroken, RecSound}
use Rattle.recordings.proofs.ChecksLaws.{rec_state_exact, rec_state_silent, rec_state_only}
use Rattle.recordings.specs.Traced.{rec_run}
use Rattle.recordings.specs.Answers.{rec_tick_checks, rec_run_checks, rec_tick_refusal, rec_run_refusal, rec_answer_of, rec_tick_answer, rec_run_answer}
use Rattle.recordings.specs.declared.Recorded.{Recorded}
use Rattle.recordings.specs.RecRefusals.{rec_tick_numbers, rec_run_numbers, analyse_others, analyse_not, RecTicking, rec_ran_as, rec_refused_as}

-- a recording tick is refused with a number exactly when no earlier check speaks and the number's own condition holds
module _ (c : Chain) (s : Run) (l : Losses) where
  -- the checks of an analysis, then 17 with the list, then both of 9
  pub rec_tick_parts : rec_tick_refusal c s l ≡ or_else (analyse_refusal c) (or_else (rec_state_check c s l) (or_else (clock_check s) (spent_check c s)))
  unfolding rec_tick_refusal analyse_refusal
  rec_tick_parts = tick_own_parts (analyse_checks c) (rec_state_check c s l) c s

  -- each speaks with its own number
  pub rec_tick_numbered : Numbered rec_tick_numbers (rec_tick_checks c s l)
  rec_tick_numbered = tick_own_numbered (analyse_checks c) (rec_state_check c s l) c s (rec_state_only c s l) analyse_numbers (analyse_numbered c)

  -- "17's balance counts the entries, and a list longer than 256 or an entry that names no queue of the chain is 17 before the balance, place 0"
  pub rec_tick_17 : (L : ℕ) → (rec_tick_refusal c s l ≡ refused 17 L)
      ↔ (Silents (analyse_checks c) × ((LongOrStray c.n l × (L ≡ 0)) ⊎ (((l.count ≤ 256) × Named c.n l) × FirstRecBroken c s l L)))
  unfolding rec_tick_refusal
  rec_tick_17 L =
      Iff.trans (tick_own_17 (analyse_checks c) (rec_state_check c s l) c s (rec_state_only c s l) analyse_numbers (analyse_numbered c) L (analyse_others 17 (omega arith)))
      (Iff.and Iff.rfl (rec_state_exact c s l L))

  -- 9
  pub rec_tick_9 : (L : ℕ) → (rec_tick_refusal c s l ≡ refused 9 L) ↔ (Silents (analyse_checks c ++ (rec_state_check c s l ∷ [])) × LateOrSpent c s L)
  unfolding rec_tick_refusal
  rec_tick_9 L = tick_own_9 (analyse_checks c) (rec_state_check c s l) c s (rec_state_only c s l) analyse_numbers (analyse_numbered c) L (analyse_others 9 (omega arith))

  -- every other number, so each of 2 to 7, is said exactly when the analysis says it
  pub rec_tick_earlier : (N L : ℕ) → N ≢ 0 → N ≢ 17 → N ≢ 9 → (rec_tick_refusal c s l ≡ refused N L) ↔ (analyse_refusal c ≡ refused N L)
  unfolding rec_tick_refusal analyse_refusal
  rec_tick_earlier = tick_own_earlier (analyse_checks c) (rec_state_check c s l) c s (rec_state_only c s l)

  -- "8 isn't given by this run"
  pub rec_tick_never_8 : (L : ℕ) → rec_tick_refusal c s l ≡ refused 8 L → ⊥
  rec_tick_never_8 L e = analyse_not c 8 L (omega arith) ((rec_tick_earlier 8 L (λ z. omega arith) (λ z. omega arith) (λ z. omega arith)).0 e)

  -- a recording tick is not refused exactly when the chain is accepted, state and list pass 17, and clock and counts can grow
  pub rec_tick_accepts : Silent (rec_tick_refusal c s l) ↔ (Accepted c × (RecSound c s l × ((s.clock < longest) × ((i : ℕ) → i ≤ c.n → count_at s i ≢ limit))))
  unfolding rec_tick_refusal analyse_refusal
  rec_tick_accepts = Iff.trans (tick_own_silent (analyse_checks c) (rec_state_check c s l) c s) (Iff.and (analyse_accepts c) (Iff.and (rec_state_silent c s l) Iff.rfl))

-- it is what rec_tick_accepts says
pub rec_ticking_is : (c : Chain) (s : Run) (l : Losses) → Silent (rec_tick_refusal c s l) ↔ RecTicking c s l
rec_ticking_is c s l = Iff.trans (rec_tick_accepts c s l) (
  λ h. record { chain = h.0; sound = h.1.0; clock = h.1.1.0; countable = h.1.1.1 },
  λ k. (k.chain, (k.sound, (k.clock, k.countable))),
)

-- and so is a recording run
module _ (c : Chain) (T : ℕ) where
  -- the checks of an analysis, then 9
  pub rec_run_parts : rec_run_refusal c T ≡ or_else (analyse_refusal c) (length_check T)
  unfolding rec_run_refusal analyse_refusal
  rec_run_parts = run_own_parts (analyse_checks c) T

  -- each speaks with its own number
  pub rec_run_numbered : Numbered rec_run_numbers (rec_run_checks c T)
  rec_run_numbered = run_own_numbered (analyse_checks c) T analyse_numbers (analyse_numbered c)

  -- 9
  pub rec_run_9 : (L : ℕ) → (rec_run_refusal c T ≡ refused 9 L) ↔ (Silents (analyse_checks c) × ((longest < T) × (L ≡ 0)))
  unfolding rec_run_refusal
  rec_run_9 L = run_own_9 (analyse_checks c) T analyse_numbers (analyse_numbered c) L (analyse_others 9 (omega arith))

  -- every other number, so each of 2 to 7, is said exactly when the analysis says it
  pub rec_run_earlier : (N L : ℕ) → N ≢ 0 → N ≢ 9 → (rec_run_refusal c T ≡ refused N L) ↔ (analyse_refusal c ≡ refused N L)
  unfolding rec_run_refusal analyse_refusal
  rec_run_earlier = run_own_earlier (analyse_checks c) T

  -- "8 isn't given by this run"
  pub rec_run_never_8 : (L : ℕ) → rec_run_refusal c T ≡ refused 8 L → ⊥
  rec_run_never_8 L e = analyse_not c 8 L (omega arith) ((rec_run_earlier 8 L (λ z. omega arith) (λ z. omega arith)).0 e)

  -- a recording run is not refused exactly when the chain is accepted, its capacities being what they are, and T is at most 1,000,000
  pub rec_run_accepts : Silent (rec_run_refusal c T) ↔ (Accepted c × (T ≤ longest))
  unfolding rec_run_refusal analyse_refusal
  rec_run_accepts = Iff.trans (run_own_silent (analyse_checks c) T) (Iff.and (analyse_accepts c) Iff.rfl)

-- a call that is refused
pub rec_answer_refused : (r : Refusal) (s : Run) (l : Losses) (x : Recorded) → (Silent r → ⊥) → rec_refused_as r s l ≡ rec_answer_of r s l x
unfolding rec_answer_of
rec_answer_refused r s l x h = simp (ne_eqb _ _ h)

-- and one that is not
pub rec_answer_fine : {r : Refusal} (s : Run) (l : Losses) (x : Recorded) → fine ≡ r → rec_ran_as x ≡ rec_answer_of r s l x
unfolding rec_answer_of
rec_answer_fine s l x e = rw (← e)

module _ (c : Chain) (s : Run) (l : Losses) where
  -- a refusal that is silent is fine
  pub rec_tick_fine : Silent (rec_tick_refusal c s l) → fine ≡ rec_tick_refusal c s l
  unfolding rec_tick_refusal
  rec_tick_fine z = sym (first_fine (rec_tick_checks c s l) z)

  -- a recording tick that is not refused answers what the tick leaves
  pub rec_tick_ran : Silent (rec_tick_refusal c s l) → rec_tick_answer c s l ≡ rec_ran_as (rec_tick c s l)
  unfolding rec_tick_answer
  rec_tick_ran z = sym (rec_answer_fine s l (rec_tick c s l) (rec_tick_fine z))

  -- and one that is answers the refusal, and the state and the list as they were
  pub rec_tick_refused : (Silent (rec_tick_refusal c s l) → ⊥) → rec_tick_answer c s l ≡ rec_refused_as (rec_tick_refusal c s l) s l
  unfolding rec_tick_answer
  rec_tick_refused n = sym (rec_answer_refused (rec_tick_refusal c s l) s l (rec_tick c s l) n)

module _ (c : Chain) (T : ℕ) where
  -- a refusal that is silent is fine
  pub rec_run_fine : Silent (rec_run_refusal c T) → fine ≡ rec_run_refusal c T
  unfolding rec_run_refusal
  rec_run_fine z = sym (first_fine (rec_run_checks c T) z)

  -- a recording run that is not refused answers what the run leaves
  pub rec_run_ran : Silent (rec_run_refusal c T) → rec_run_answer c T ≡ rec_ran_as (rec_run c T)
  unfolding rec_run_answer
  rec_run_ran z = sym (rec_answer_fine empty_run empty_losses (rec_run c T) (rec_run_fine z))

  -- and one that is answers the refusal, an empty state and an empty list
  pub rec_run_refused : (Silent (rec_run_refusal c T) → ⊥) → rec_run_answer c T ≡ rec_refused_as (rec_run_refusal c T) empty_run empty_losses
  unfolding rec_run_answer
  rec_run_refused n = sym (rec_answer_refused (rec_run_refusal c T) empty_run empty_losses (rec_run c T) n)
