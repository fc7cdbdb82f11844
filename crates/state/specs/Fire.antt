-- Manual firing (01, Firing), and what a call that gives a state answers.
--   fresh_answer c             the answer of a fresh start: 2, 4, 5, 6, 7, then the empty state (fresh_refusal, fresh_state, fresh_refused)
--   node_checks c s i          9, 11 and 12: the checks of a firing of N_i in a state that 17 has passed
--   fire_checks c s i          the checks of manual firing, in order, never 8
--   fire_refusal c s i, fire_answer c s i
--                              what a firing is refused with, and the whole answer: the state as it was, or after the firing
--   Firing c s i, firing_is    the same as a record, which the code of a manual firing asks
-- What is named here and not declared stands in proofs/FireLaws.antt.
use Rattle.std.specs.Prelude.{◌≡◌, List, [], ◌∷◌, ◌++◌, ℕ}
use Rattle.std.proofs.Math.Path.{refl}
use Rattle.std.proofs.Common.{eq-eqb, ne_eqb}
use Rattle.chain.specs.Refusals.{refused, first, Silent}
use Rattle.chain.specs.Checks.{range_check, order_check}
use Rattle.chain.specs.Refusal.{Refusal}
use Rattle.chain.specs.declared.Chain.{Chain}
use Rattle.sizing.specs.Load.{busy_in}
use Rattle.sizing.specs.Checks.{analyse_checks, analyse_refusal, rate_check, analyse_numbers}
use Rattle.sizing.specs.Accepted.{Accepted}
use Rattle.state.specs.State.{empty_run, fresh_run, answered}
use Rattle.state.specs.Fired.{fired, May}
use Rattle.state.specs.Checks.{state_check, count_check, over_check, cramped, room_check, StateSound}
use Rattle.state.specs.declared.Run.{Run}
use Rattle.state.specs.declared.RunAnswer.{RunAnswer}

-- "a fresh start begins a new history"
unfoldable pub fresh_answer : Chain → RunAnswer
unfolding analyse_refusal answered fresh_run
fresh_answer c = answered (analyse_refusal c) empty_run (fresh_run c)

-- "answers 11, then 12; 9 .. tested before 11 and 12"
abbrev pub node_checks : Chain → Run → ℕ → List Refusal
node_checks c s i = count_check c s i ∷ over_check c s i ∷ room_check c s i ∷ []

-- "manual firing, runs and deadline questions check the analysis first, then their own numbers; every call that is handed a run state checks 17", which is
-- "tested after 8 and before 9"; 8 is of "runs and deadlines only"
abbrev pub fire_checks : Chain → Run → ℕ → List Refusal
fire_checks c s i = analyse_checks c ++ (state_check c s ∷ node_checks c s i)

-- what a firing is refused with
unfoldable pub fire_refusal : Chain → Run → ℕ → Refusal
unfolding first range_check order_check rate_check busy_in state_check cramped
fire_refusal c s i = first (fire_checks c s i)

-- "each step hands the whole run state back"
unfoldable pub fire_answer : Chain → Run → ℕ → RunAnswer
unfolding fire_refusal answered fired
fire_answer c s i = answered (fire_refusal c s i) s (fired c s i)

-- what the code of a manual firing asks: it is accepted (firing_is)
pub record Firing (c : Chain) (s : Run) (i : ℕ) : Type 0 where
  pub chain : Accepted c
  pub state : StateSound c s
  pub may : May c s i

-- a fresh start is refused as the analysis is; it gives the state that each queue starts with, or an empty one
module _ (c : Chain) where
  pub fresh_refusal : refused (fresh_answer c).number (fresh_answer c).place ≡ analyse_refusal c
  unfolding fresh_answer answered
  fresh_refusal = refl

  pub fresh_state : Silent (analyse_refusal c) → (fresh_answer c).run ≡ fresh_run c
  unfolding fresh_answer answered
  fresh_state z = simp (eq-eqb _ _ z)

  pub fresh_refused : (Silent (analyse_refusal c) → ⊥) → (fresh_answer c).run ≡ empty_run
  unfolding fresh_answer answered
  fresh_refused n = simp (ne_eqb _ _ n)

-- the numbers of its checks, in order: each speaks with its own
abbrev pub node_numbers : List ℕ
node_numbers = 17 ∷ 9 ∷ 11 ∷ 12 ∷ []

abbrev pub fire_numbers : List ℕ
fire_numbers = analyse_numbers ++ node_numbers
