-- When a tick and a deadline run are refused, and what they answer then and else (01, Firing and Numbers a call may refuse with).
--   FirstSpent                 9 of the counts in words: the lowest node whose count cannot grow
--   nine_check c s             both of 9 as one check: the clock, then the counts
--   LateOrSpent                9 of a tick in words
--   said_behind, silents_row   a number that the first of two lists of checks does not have; and both lists silent
--   tick_numbers, deadline_run_numbers
--                              the numbers of the checks of a tick and of a deadline run, in order; tick_numbered, deadline_run_numbered: each speaks with its own
--   Ticking c s, ticking_is    the same as a record, which the code of a tick asks
--   ran_as t, refused_as r s   the two forms of an answer
--   outcome_refused, _fine     which the answer of a call has
-- What is named here and not declared stands in proofs/RefusalsLaws.antt.
use Rattle.std.proofs.Math.Logic.Iff
use Rattle.std.specs.Prelude.{◌≡◌, ◌↔◌, ◌≢◌, ◌⊎◌, List, [], ◌∷◌, ◌++◌, ℕ, ◌≤◌, ◌<◌}
use Rattle.std.proofs.Math.Path.{sym}
use Rattle.std.proofs.Common.{inr, ⊎_elim, ne_eqb}
use native.Mathlib.Omega.{arith}
use Rattle.chain.specs.Refusals.{refused, fine, first, or_else, first_append, first_silent, Silent, Silents, Numbered, Others}
use Rattle.chain.specs.Refusals.{number_of, or_says, or_silents}
use Rattle.chain.specs.Refusals.{said_earlier}
use Rattle.chain.specs.Refusal.{Refusal}
use Rattle.chain.specs.declared.Chain.{Chain}
use Rattle.sizing.specs.Checks.{limit, Enough, run_numbers}
use Rattle.sizing.specs.Accepted.{Accepted}
use Rattle.state.specs.State.{count_at}
use Rattle.state.specs.Checks.{StateSound}
use Rattle.state.specs.declared.Run.{Run}
use Rattle.instants.specs.Checks.{longest, clock_check, spent_check}
use Rattle.instants.specs.Checks.{outcome_of}
use Rattle.instants.specs.declared.Outcome.TheVariants.{Clean}
use Rattle.instants.specs.declared.Ticked.{Ticked}
use Rattle.instants.specs.Answered.{TickAnswer}

-- 9 of the counts in words: L is the lowest node whose count cannot grow
pub record FirstSpent (c : Chain) (s : Run) (L : ℕ) : Type 0 where
  pub node : L ≤ c.n
  pub spent : count_at s L ≡ limit
  pub before : (j : ℕ) → j < L → count_at s j ≢ limit

-- 9 of a tick in words: the clock is too large, place 0; or it is not, and L is the lowest node whose count cannot grow
abbrev pub LateOrSpent : Chain → Run → ℕ → Type 0
LateOrSpent c s L = ((longest ≤ s.clock) × (L ≡ 0)) ⊎ ((s.clock < longest) × FirstSpent c s L)

-- both of 9, the clock before the counts
abbrev pub nine_check : Chain → Run → Refusal
nine_check c s = or_else (clock_check s) (spent_check c s)

-- a number that the checks before do not have is said exactly when they are silent and those behind them say it
pub said_behind : (N L : ℕ) → N ≢ 0 → (Ns : List ℕ) (ps : List Refusal) → Numbered Ns ps → Others N Ns
    → (rs : List Refusal) → (first (ps ++ rs) ≡ refused N L) ↔ (Silents ps × (first rs ≡ refused N L))
unfolding first
said_behind N L some Ns ps o a rs = rw (first_append ps rs) (Iff.trans (or_says N L some (first ps) (first rs)) (
  ⊎_elim (λ e. absurd (some (sym (number_of ((said_earlier N L some [] Ns ps o a).0 e))))) (λ h. ((first_silent ps).0 h.0, h.1)),
  λ h. inr ((first_silent ps).1 h.0, h.1),
))

-- the checks of lists in a row are silent exactly where those of each are
pub silents_row : (ps rs : List Refusal) → (Silents ps × Silents rs) ↔ Silents (ps ++ rs)
silents_row ps rs = Iff.symm (Iff.trans (Iff.symm (first_silent (ps ++ rs))) (rw (first_append ps rs) (Iff.trans (or_silents (first ps) (first rs)) (Iff.and (first_silent ps) (first_silent rs)))))

-- the numbers of a tick's own checks, both of 9 as one, of all its checks, and of a deadline run's
abbrev pub own_numbers : List ℕ
own_numbers = 17 ∷ 9 ∷ []

abbrev pub tick_numbers : List ℕ
tick_numbers = run_numbers ++ (17 ∷ 9 ∷ 9 ∷ [])

abbrev pub deadline_run_numbers : List ℕ
deadline_run_numbers = run_numbers ++ (9 ∷ [])

-- neither 17 nor 9 is a number of the checks of every run
run_others : (N : ℕ) → 8 < N → Others N run_numbers
run_others N l = (λ e. omega arith, (λ e. omega arith, (λ e. omega arith, (λ e. omega arith, (λ e. omega arith, (λ e. omega arith, tt))))))

-- what the code of a tick asks: a tick is not refused (ticking_is)
pub record Ticking (c : Chain) (s : Run) : Type 0 where
  pub chain : Accepted c
  pub enough : (i : ℕ) → i < c.n → Enough c i
  pub state : StateSound c s
  pub clock : s.clock < longest
  pub countable : (i : ℕ) → i ≤ c.n → count_at s i ≢ limit

-- the answer of a call that is not refused
abbrev pub ran_as : Ticked → TickAnswer
ran_as t = record { number = 0; place = 0; outcome = t.outcome; run = t.run }

-- and of one that is
abbrev pub refused_as : Refusal → Run → TickAnswer
refused_as r s = record { number = r.number; place = r.place; outcome = Clean; run = s }

-- a call that is refused
pub outcome_refused : (r : Refusal) (s : Run) (t : Ticked) → (Silent r → ⊥) → refused_as r s ≡ outcome_of r s t
unfolding outcome_of
outcome_refused r s t h = simp (ne_eqb _ _ h)

-- and one that is not
pub outcome_fine : {r : Refusal} (s : Run) (t : Ticked) → fine ≡ r → ran_as t ≡ outcome_of r s t
unfolding outcome_of
outcome_fine s t e = rw (← e)
