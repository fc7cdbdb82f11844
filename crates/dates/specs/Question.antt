-- The deadline question (01, Firing): its checks and its answer; and the deadline of a run's next firing.
--   answered_due r d           the answer of a question: the refusal r, or the deadline d where r is silent
--   refused_with N L           the answer of a question that is refused with number N and place L
--   answered_refused, _fine    its two cases
--   due_said o                 the answer that a result makes which is a deadline or an error
--   due_alike                  no two results make the same
--   said_answered              which is the question's, of what the result says; answered_error: where it is an error
--   never, never_word          what stands for a deadline that cannot be had: the largest number of 64 bits
--   dated_of c i k             the deadline of N_i's k-th firing, or never
--   ask_check c i k            11: there is no such node, or no such firing
--   deadline_checks c i k      the checks of a deadline question, in order
--   deadline_refusal c i k, deadline_answer c i k
--                              what it is refused with, and the whole answer
--   deadline_most              no deadline is above 4,294,967,294 × 1,000,000 where no index passes
--   dated_had, dated_never     what dated_of is where 13 is silent, and where it speaks
--   dated_exact                it is never exactly when 13 speaks
use Rattle.std.specs.Prelude.{◌≡◌, refl, ◌↔◌, cond, Result, IfOk, ◌||◌, List, [], ◌∷◌, ◌++◌, ℕ, zero, suc, ◌+◌, ◌-◌, ◌*◌, ◌^◌, ◌≤◌, ◌<◌, ltb, eqb}
use Rattle.std.proofs.Common.{Ok, Err, sym, ap, mul-le-mul, eq-eqb, ne_eqb}
use native.Mathlib.Omega.{arith}
use Rattle.chain.specs.Tests.{below_false}
use Rattle.chain.specs.Refusals.{refused, fine, test, first, Silent, or_silents}
use Rattle.chain.specs.Refusals.{test_silent}
use Rattle.chain.specs.Record.{row_of}
use Rattle.chain.specs.Sound.{Sound}
use Rattle.chain.specs.Refusal.{Refusal}
use Rattle.chain.specs.Said.{code, refusal, said, refusal_alike, speaks}
use Rattle.chain.specs.declared.reasons.Refused.{Refused}
use Rattle.chain.specs.declared.Chain.{Chain}
use Rattle.sizing.specs.Checks.{limit, run_checks, run_refusal, run_numbers}
use Rattle.deadline.specs.Deadline.{earlier, deadline, index_check}
use Rattle.dates.specs.declared.DeadlineAnswer.{DeadlineAnswer}

-- "a refusal gives number and place, all other results zero"
unfoldable pub answered_due : Refusal → ℕ → DeadlineAnswer
answered_due r d = record { number = r.number; place = r.place; due = cond (eqb r.number 0) d 0 }

-- the answer of a question that is refused with number N and place L
abbrev pub refused_with : ℕ → ℕ → DeadlineAnswer
refused_with N L = record { number = N; place = L; due = 0 }

-- the answer that a result makes which is a deadline or an error
abbrev pub due_said : Result ℕ Refused → DeadlineAnswer
due_said (Ok d) = record { number = 0; place = 0; due = d }
due_said (Err e) = refused_with (code e.reason) e.place

-- equal answers come from equal results
pub due_alike : (r s : Result ℕ Refused) → due_said r ≡ due_said s → r ≡ s
due_alike (Ok j) (Ok k) e = ap Ok (ap (λ (x : DeadlineAnswer). x.due) e)
due_alike (Ok k) (Err f) e = absurd (speaks f (ap (λ (x : DeadlineAnswer). x.number) (sym e)))
due_alike (Err d) (Ok k) e = absurd (speaks d (ap (λ (x : DeadlineAnswer). x.number) e))
due_alike (Err d) (Err f) e = ap Err (refusal_alike d f (ap (λ (x : DeadlineAnswer). refused x.number x.place) e))

-- a refusal gives no deadline, and an answer that is not refused has number and place 0
pub answered_refused : (r : Refusal) (d : ℕ) → (Silent r → ⊥) → refused_with r.number r.place ≡ answered_due r d
unfolding answered_due
answered_refused r d h = simp (ne_eqb _ _ h)

pub answered_fine : {r : Refusal} (d : ℕ) → fine ≡ r → record { number = 0; place = 0; due = d } ≡ answered_due r d
unfolding answered_due
answered_fine d e = rw (← e)

-- a result's answer is the question's, of what the result says; an Ok result has the deadline
pub said_answered : (d : ℕ) (o : Result ℕ Refused) → IfOk o (λ (t : ℕ). t ≡ d) → due_said o ≡ answered_due (said o) d
said_answered d (Ok t) e = rw e (answered_fine d refl)
said_answered d (Err e) _ = answered_refused (refusal e) d (speaks e)

pub answered_error : (e : Refused) (d : ℕ) → answered_due (refusal e) d ≡ due_said (Err e)
answered_error e d = sym (said_answered d (Err e) tt)

-- what stands for a deadline that can't be had
abbrev pub never : ℕ
never = 18446744073709551615

-- it is the largest number of 64 bits
pub never_word : never + 1 ≡ 2 ^ 64
never_word = refl

-- the deadline of N_i's k-th firing, or never where it "can't be had"
unfoldable pub dated_of : Chain → ℕ → ℕ → ℕ
unfolding index_check deadline
dated_of c i k = cond (eqb (index_check c i k).number 0) (deadline c i k) never

-- 11 of a deadline question: "no such node, firing index 0", place the node asked
abbrev pub ask_check : Chain → ℕ → ℕ → Refusal
ask_check c i k = test 11 i (ltb c.n i || eqb k 0)

-- "deadline questions check the analysis first, then their own numbers"; 8 is of "runs and deadlines"
abbrev pub deadline_checks : Chain → ℕ → ℕ → List Refusal
deadline_checks c i k = run_checks c ++ (ask_check c i k ∷ index_check c i k ∷ [])

-- what a deadline question is refused with
unfoldable pub deadline_refusal : Chain → ℕ → ℕ → Refusal
unfolding first run_refusal index_check
deadline_refusal c i k = first (deadline_checks c i k)

-- the deadline of N_i's k-th firing, asked of any chain, node and index
unfoldable pub deadline_answer : Chain → ℕ → ℕ → DeadlineAnswer
unfolding deadline_refusal answered_due deadline
deadline_answer c i k = answered_due (deadline_refusal c i k) (deadline c i k)

-- the numbers of its checks, in order: each speaks with its own
abbrev pub ask_numbers : List ℕ
ask_numbers = 11 ∷ 13 ∷ []

abbrev pub deadline_numbers : List ℕ
deadline_numbers = run_numbers ++ ask_numbers

-- where no index passes the limit, neither does the source's, and its period is at most 1,000,000
pub deadline_most : {c : Chain} → Sound c → (i k : ℕ) → Silent (index_check c i k) → deadline c i k ≤ 4294967294 * 1000000
unfolding deadline index_check
deadline_most {c} s zero k z =
    let l : k ≤ limit = (below_false limit k).0 ((test_silent 13 0 (λ e. omega arith) (ltb limit k)).0 z) in
    let m : k - 1 ≤ 4294967294 = omega arith in
    mul-le-mul m s.period.1
deadline_most {c} s (suc i) k z = deadline_most s i (earlier (row_of c i) k) ((or_silents (test 13 (suc i) (ltb limit k)) (index_check c i (earlier (row_of c i) k))).0 z).1

-- where 13 is silent it is the deadline, which is below never; where 13 speaks it is never
dated_is : (c : Chain) (i k : ℕ) → Silent (index_check c i k) → dated_of c i k ≡ deadline c i k
unfolding dated_of
dated_is c i k z = simp (eq-eqb _ _ z)

pub dated_had : {c : Chain} → Sound c → (i k : ℕ) → Silent (index_check c i k) → (dated_of c i k ≡ deadline c i k) × (dated_of c i k < never)
dated_had {c} s i k z = (dated_is c i k z, omega (arith, dated_is c i k z, deadline_most s i k z))

pub dated_never : (c : Chain) (i k : ℕ) → (Silent (index_check c i k) → ⊥) → dated_of c i k ≡ never
unfolding dated_of
dated_never c i k n = simp (ne_eqb _ _ n)

-- so never says that the deadline can't be had, and nothing else
pub dated_exact : {c : Chain} → Sound c → (i k : ℕ) → (dated_of c i k ≡ never) ↔ (Silent (index_check c i k) → ⊥)
dated_exact {c} s i k = (λ e z. omega (arith, e, (dated_had s i k z).1), dated_never c i k)
