-- Laws of specs/Question.antt that rest on a definition which an edit of must-fail/ changes.
-- The deadline question (01, Firing): its checks and its answer; and the deadline of a run's next firing.
--   ask_exact, _silent, _only  11 speaks exactly under its condition, is silent exactly elsewhere, and has its own number
--   deadline_parts             the checks of a run, then 11 and 13
--   deadline_11, _13, _earlier when a deadline question is refused with each number
--   deadline_accepts           it is not refused exactly when the chain is accepted, its capacities are enough, the node and the firing exist, and no index
--                              on the way down passes the limit
--   deadline_due, _refused     the deadline that it gives
--   asking                     what the check proves the code of a question by
use Rattle.std.proofs.Math.Logic.Iff
use Rattle.std.specs.Prelude.{◌≡◌, ◌↔◌, ◌≢◌, ◌⊎◌, false, ◌||◌, [], ◌∷◌, ◌++◌, ℕ, ◌≤◌, ◌<◌, ltb, eqb, get_or, take}
use Rattle.std.proofs.Common.{sym, eq-eqb, ne_eqb}
use native.Mathlib.Omega.{arith}
use Rattle.std.proofs.lemmas.Bool.{eqb-false}
use Rattle.chain.specs.Tests.{below_true, below_false, equal_true, or_true, or_false}
use Rattle.chain.specs.Refusals.{refused, fine, first, or_else, first_append, Silent, Silents, or_silents, silent_as, first_silent}
use Rattle.chain.specs.Refusals.{Numbered, Only, only_test, test_exact, test_silent, said_earlier, numbered_append}
use Rattle.chain.proofs.RefusalsLaws.{exact_at}
use Rattle.chain.specs.declared.Chain.{Chain}
use Rattle.sizing.specs.Checks.{limit, Enough, run_checks, run_refusal, run_numbers}
use Rattle.sizing.proofs.ChecksLaws.{run_numbered}
use Rattle.sizing.specs.Accepted.{Accepted}
use Rattle.sizing.proofs.AcceptedLaws.{run_accepts}
use Rattle.deadline.specs.Deadline.{deadline, index_check, index, FirstPassing}
use Rattle.deadline.proofs.DeadlineLaws.{index_exact, index_silent, index_only}
use Rattle.state.specs.Checks.{planned_run}
use Rattle.dates.specs.Question.{answered_due, answered_error, ask_check, deadline_checks, deadline_refusal, deadline_answer, ask_numbers, deadline_numbers}

-- 11 says the node asked, exactly where the node or the firing does not exist
module _ (c : Chain) (i k : ℕ) where
  unequal : (a b : ℕ) → (eqb a b ≡ false) ↔ (a ≢ b)
  unequal a b = (λ e. eqb-false a b e, λ n. ne_eqb a b n)

  pub ask_exact : (L : ℕ) → (ask_check c i k ≡ refused 11 L) ↔ (((c.n < i) ⊎ (k ≡ 0)) × (L ≡ i))
  ask_exact L = Iff.trans (test_exact 11 L i (λ e. omega arith) _) (Iff.and (or_true (below_true _ _) (equal_true _ _)) Iff.rfl)

  pub ask_silent : Silent (ask_check c i k) ↔ ((i ≤ c.n) × (1 ≤ k))
  ask_silent = Iff.trans (test_silent 11 i (λ e. omega arith) _) (or_false (below_false _ _) (Iff.trans (unequal k 0) (λ n. omega arith, λ l e. omega arith)))

  pub ask_only : Only 11 (ask_check c i k)
  ask_only = only_test 11 i (ltb c.n i || eqb k 0)

  -- the checks of every run, then the question's own
  pub deadline_parts : deadline_refusal c i k ≡ or_else (run_refusal c) (first (ask_check c i k ∷ index_check c i k ∷ []))
  unfolding deadline_refusal run_refusal first
  deadline_parts = first_append (run_checks c) (ask_check c i k ∷ index_check c i k ∷ [])

module _ (c : Chain) (i k : ℕ) where
  ask_numbered : Numbered ask_numbers (ask_check c i k ∷ index_check c i k ∷ [])
  unfolding Numbered
  ask_numbered = (ask_only c i k, (index_only c i k, tt))

  pub deadline_numbered : Numbered deadline_numbers (deadline_checks c i k)
  deadline_numbered = numbered_append run_numbers ask_numbers (run_checks c) (ask_check c i k ∷ index_check c i k ∷ []) (run_numbered c) ask_numbered

-- a question is refused with a number exactly when no earlier check speaks and the number's own condition holds
module _ (c : Chain) (i k L : ℕ) where
  deadline_at : (m : ℕ) → m < 8 → (deadline_refusal c i k ≡ refused (get_or deadline_numbers m 0) L)
      ↔ (Silents (take m (deadline_checks c i k)) × (get_or (deadline_checks c i k) m fine ≡ refused (get_or deadline_numbers m 0) L))
  unfolding deadline_refusal
  deadline_at m l = exact_at deadline_numbers (deadline_checks c i k) (deadline_numbered c i k) tt m L l

  pub deadline_11 : (deadline_refusal c i k ≡ refused 11 L) ↔ (Silents (run_checks c) × (((c.n < i) ⊎ (k ≡ 0)) × (L ≡ i)))
  deadline_11 = Iff.trans (deadline_at 6 (omega arith)) (Iff.and Iff.rfl (ask_exact c i k L))

  pub deadline_13 : (deadline_refusal c i k ≡ refused 13 L) ↔ (Silents (run_checks c ++ (ask_check c i k ∷ [])) × FirstPassing c i k L)
  deadline_13 = Iff.trans (deadline_at 7 (omega arith)) (Iff.and Iff.rfl (index_exact c i k L))

  -- what is said of every run stands, and nothing else has its numbers
  pub deadline_earlier : (N : ℕ) → N ≢ 0 → N < 9 → (deadline_refusal c i k ≡ refused N L) ↔ (run_refusal c ≡ refused N L)
  unfolding deadline_refusal run_refusal
  deadline_earlier N some low =
      said_earlier N L some (run_checks c) ask_numbers (ask_check c i k ∷ index_check c i k ∷ []) (ask_numbered c i k) (λ e. omega arith, (λ e. omega arith, tt))

module _ (c : Chain) (i k : ℕ) where
  -- a question is not refused exactly when the chain may run, the node and the firing exist, and every index on the way down is within the limit
  pub deadline_accepts : Silent (deadline_refusal c i k) ↔ ((Accepted c × ((j : ℕ) → j < c.n → Enough c j)) × (((i ≤ c.n) × (1 ≤ k)) × ((j : ℕ) → j ≤ i → index c i k j ≤ limit)))
  unfolding Silents
  deadline_accepts =
      Iff.trans (silent_as (deadline_parts c i k), silent_as (sym (deadline_parts c i k)))
      (Iff.trans (or_silents (run_refusal c) _) (Iff.and (run_accepts c) (Iff.trans (first_silent (ask_check c i k ∷ index_check c i k ∷ [])) (out, back))))
    where
      out : Silents (ask_check c i k ∷ index_check c i k ∷ []) → ((i ≤ c.n) × (1 ≤ k)) × ((j : ℕ) → j ≤ i → index c i k j ≤ limit)
      out h = ((ask_silent c i k).0 h.0, (index_silent c i k).0 h.1.0)

      back : ((i ≤ c.n) × (1 ≤ k)) × ((j : ℕ) → j ≤ i → index c i k j ≤ limit) → Silents (ask_check c i k ∷ index_check c i k ∷ [])
      back h = ((ask_silent c i k).1 h.0, ((index_silent c i k).1 h.1, tt))

  -- the deadline of an answer: the firing's, or 0
  pub deadline_due : Silent (deadline_refusal c i k) → (deadline_answer c i k).due ≡ deadline c i k
  unfolding deadline_answer answered_due
  deadline_due z = simp (eq-eqb _ _ z)

  pub deadline_refused : (Silent (deadline_refusal c i k) → ⊥) → (deadline_answer c i k).due ≡ 0
  unfolding deadline_answer answered_due
  deadline_refused n = simp (ne_eqb _ _ n)

-- by these the check proves the code of a question
pub ruleset asking = (deadline_parts, answered_error, planned_run)
