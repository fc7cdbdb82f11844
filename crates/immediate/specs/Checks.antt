-- The immediate run (01, Firing): its checks and its answer.
--   most                       the largest count of an immediate run
--   length_test c k i, length_check c k
--                              9 of node i, and of the run: the lowest node whose count would pass it
--   immediate_checks c k       the checks of an immediate run, in order
--   immediate_refusal c k, immediate_answer c k
--                              what it is refused with, and the whole answer: the state after its schedule, from a fresh start
--   FirstTooLong               9 in words
use Rattle.std.specs.Prelude.{List, [], ◌∷◌, ◌++◌, ℕ, suc, ◌≤◌, ◌<◌, ltb}
use Rattle.words.specs.Table.{tab}
use Rattle.chain.specs.Refusals.{test, first}
use Rattle.chain.specs.Refusal.{Refusal}
use Rattle.chain.specs.declared.Chain.{Chain}
use Rattle.sizing.specs.Checks.{run_checks, run_refusal, run_numbers}
use Rattle.state.specs.State.{empty_run, fresh_run, answered}
use Rattle.state.specs.declared.RunAnswer.{RunAnswer}
use Rattle.history.specs.History.{after}
use Rattle.schedule.specs.Counts.{F}
use Rattle.schedule.specs.Schedule.{schedule}

-- a count may reach it, and not pass it
abbrev pub most : ℕ
most = 1000000

-- 9 of one node: its count "would pass 1,000,000", place the node
abbrev pub length_test : Chain → ℕ → ℕ → Refusal
length_test c k i = test 9 i (ltb most (F c k i))

-- 9 of the nodes 0 to n: "place the lowest such node"
unfoldable pub length_check : Chain → ℕ → Refusal
unfolding first tab F
length_check c k = first (tab (suc c.n) (length_test c k))

-- the checks of every run, then 9
abbrev pub immediate_checks : Chain → ℕ → List Refusal
immediate_checks c k = run_checks c ++ (length_check c k ∷ [])

-- and their numbers
abbrev pub immediate_numbers : List ℕ
immediate_numbers = run_numbers ++ (9 ∷ [])

-- what an immediate run is refused with
unfoldable pub immediate_refusal : Chain → ℕ → Refusal
unfolding first run_refusal length_check
immediate_refusal c k = first (immediate_checks c k)

-- "a run of k source firings from a fresh start"
unfoldable pub immediate_answer : Chain → ℕ → RunAnswer
unfolding immediate_refusal answered after fresh_run schedule
immediate_answer c k = answered (immediate_refusal c k) empty_run (after c (fresh_run c) (schedule c k))

-- 9 in words: L is the lowest node whose count passes the limit
pub record FirstTooLong (c : Chain) (k L : ℕ) : Type 0 where
  pub node : L ≤ c.n
  pub above : most < F c k L
  pub before : (j : ℕ) → j < L → F c k j ≤ most
