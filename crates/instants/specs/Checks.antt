-- What a tick and a deadline run are refused with, and what they answer (01, Firing and Numbers a call may refuse with).
--   longest                    the largest number of ticks of a run, and the clock at which no tick is taken
--   clock_check s              9 of a tick: its clock is that large
--   spent_test s i, spent_check c s
--                              9 of a tick: the lowest node whose count cannot grow
--   tick_checks c s            the checks of a tick, in order
--   length_check T             9 of a deadline run
--   deadline_run_checks c T    the checks of a deadline run, in order
--   tick_refusal, deadline_run_refusal
--                              what they are refused with
--   outcome_of r s t           the answer of a call: the refusal r with the state s, or what t leaves where r is silent
--   tick_answer c s             the whole answer of a tick: the state as it was, or what the tick leaves
--   deadline_run_answer c T    the whole answer of a deadline run: an empty state, or what the run leaves
use Rattle.std.specs.Prelude.{cond, List, [], ◌∷◌, ◌++◌, ℕ, suc, eqb, ltb, leb}
use Rattle.words.specs.Table.{tab}
use Rattle.chain.specs.Refusals.{test, first}
use Rattle.chain.specs.Refusal.{Refusal}
use Rattle.chain.specs.declared.Chain.{Chain}
use Rattle.sizing.specs.Checks.{limit, run_checks, run_refusal}
use Rattle.state.specs.State.{count_at, empty_run, fresh_run}
use Rattle.state.specs.Checks.{state_check}
use Rattle.state.specs.declared.Run.{Run}
use Rattle.instants.specs.Steps.{tick, instants}
use Rattle.instants.specs.declared.Outcome.TheVariants.{Clean}
use Rattle.instants.specs.declared.Ticked.{Ticked}
use Rattle.instants.specs.Answered.{TickAnswer}

-- "T at most 1,000,000"
abbrev pub longest : ℕ
longest = 1000000

-- "a tick handed a clock of 1,000,000 or more is 9, place 0"
abbrev pub clock_check : Run → Refusal
clock_check s = test 9 0 (leb longest s.clock)

-- "then a count at 4,294,967,295 is 9", of one node
abbrev pub spent_test : Run → ℕ → Refusal
spent_test s i = test 9 i (eqb (count_at s i) limit)

-- "place the lowest such node", of the nodes 0 to n
unfoldable pub spent_check : Chain → Run → Refusal
unfolding first tab
spent_check c s = first (tab (suc c.n) (spent_test s))

-- the checks of every run, then 17, "tested after 8 and before 9", then both of 9
abbrev pub tick_checks : Chain → Run → List Refusal
tick_checks c s = run_checks c ++ (state_check c s ∷ clock_check s ∷ spent_check c s ∷ [])

-- "T at most 1,000,000 (else 9, place 0)"
abbrev pub length_check : ℕ → Refusal
length_check T = test 9 0 (ltb longest T)

-- the checks of every run, then 9
abbrev pub deadline_run_checks : Chain → ℕ → List Refusal
deadline_run_checks c T = run_checks c ++ (length_check T ∷ [])

-- what they are refused with
unfoldable pub tick_refusal : Chain → Run → Refusal
unfolding first run_refusal state_check spent_check
tick_refusal c s = first (tick_checks c s)

unfoldable pub deadline_run_refusal : Chain → ℕ → Refusal
unfolding first run_refusal
deadline_run_refusal c T = first (deadline_run_checks c T)

-- "a refusal gives number and place, all other results zero, .. run state as before": s is the state that is given then
unfoldable pub outcome_of : Refusal → Run → Ticked → TickAnswer
outcome_of r s t = record {
  number = r.number;
  place = r.place;
  outcome = cond (eqb r.number 0) t.outcome Clean;
  run = cond (eqb r.number 0) t.run s;
}

-- "one tick at clock t"
unfoldable pub tick_answer : Chain → Run → TickAnswer
unfolding tick_refusal outcome_of tick
tick_answer c s = outcome_of (tick_refusal c s) s (tick c s)

-- "a run of T ticks from a fresh start"
unfoldable pub deadline_run_answer : Chain → ℕ → TickAnswer
unfolding deadline_run_refusal outcome_of instants fresh_run
deadline_run_answer c T = outcome_of (deadline_run_refusal c T) empty_run (instants c T (fresh_run c))
