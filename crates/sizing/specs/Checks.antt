-- The checks of the analysis, 6 and 7, and of a run, 8 (01, Numbers a call may refuse with).
--   limit, limit_word          4,294,967,295, the largest number of 32 bits
--   too_large x y              whether a rate passes it (too_large_true, _false)
--   rate_test c i, rate_check c  6 of node i+1, and of the chain: the lowest such node
--   load_check c               7: overloaded
--   capacity_test c i, capacity_check c
--                              8 of queue i, and of the chain: the lowest such queue
--   size_checks c              6 and 7, of a chain that 2, 4 and 5 have passed
--   analyse_checks c, run_checks c
--                              the checks of the analysis, and of every run and deadline question, in order
--   analyse_refusal c, run_refusal c, analyse_answer c, run_answer c
--                              what a chain is refused with, and the whole answer
--   short_test a i, short_in a  8 as an analysis shows it; short_is_capacity: which is 8 of the chain
--   InLimit, FirstTooLarge, Short, Enough, FirstShort
--                              01's conditions of 6 and 8, in words
-- What is named here and not declared stands in proofs/ChecksLaws.antt.
use Rattle.std.specs.Prelude.{◌≡◌, refl, Bool, not, ◌||◌, ◌&&◌, ◌≢◌, ◌⊎◌, List, [], ◌∷◌, ◌++◌, eqb, get_or}
use Rattle.std.proofs.Common.{le-ltb}
use Rattle.std.proofs.Math.Bool.{true, false, cond}
use Prim.Native.Nat.{ℕ, suc, ◌≤◌, ◌<◌}
use Rattle.std.proofs.Math.Nat.{le_refl}
use Rattle.std.proofs.Math.Dec.{ltb}
use Rattle.words.specs.Table.{tab}
use Rattle.chain.specs.Refusals.{test, first}
use Rattle.chain.specs.Record.{row_of}
use Rattle.chain.specs.Checks.{range_check, order_check, chain_checks}
use Rattle.chain.specs.Checks.{chain_numbers}
use Rattle.chain.specs.Refusal.{Refusal}
use Rattle.chain.specs.declared.Chain.{Chain}
use Rattle.onequeue.specs.Capacity.{capacity}
use Rattle.sizing.specs.Nodes.{x_of, y_of}
use Rattle.sizing.specs.Load.{busy_in, busy_of, cycle_of}
use Rattle.sizing.specs.Sizes.{minimum_of, no_size, sized}
use Rattle.sizing.specs.declared.Analysis.{Analysis}
use Rattle.sizing.specs.declared.AnalysisAnswer.{AnalysisAnswer}

-- the largest x and the largest y of a rate
abbrev pub limit : ℕ
limit = 4294967295

-- "some x or y of a rate is above 4,294,967,295"
abbrev pub too_large : ℕ → ℕ → Bool
too_large x y = ltb limit x || ltb limit y

-- 6 of one node, place the node
abbrev pub rate_test : Chain → ℕ → Refusal
rate_test c i = test 6 (suc i) (too_large (x_of c (suc i)) (y_of c (suc i)))

-- 6: the "lowest node"
unfoldable pub rate_check : Chain → Refusal
unfolding first tab x_of y_of
rate_check c = first (tab c.n (rate_test c))

-- 7: "exact busy above y_n", place 0
abbrev pub load_check : Chain → Refusal
load_check c = test 7 0 (ltb (cycle_of c) (busy_of c))

-- 8 of one queue: "B (not 0) below b", place the queue
abbrev pub capacity_test : Chain → ℕ → Refusal
capacity_test c i = test 8 i (not (eqb (row_of c i).capacity 0) && ltb (row_of c i).capacity (minimum_of (row_of c i)))

-- 8: the "lowest queue"
unfoldable pub capacity_check : Chain → Refusal
unfolding first tab
capacity_check c = first (tab c.n (capacity_test c))

-- 8 as the analysis shows it: the lowest queue whose capacity in force is below its minimum
abbrev pub short_test : Analysis → ℕ → Refusal
short_test a i = test 8 i (ltb (get_or a.queues i no_size).capacity (get_or a.queues i no_size).minimum)

unfoldable pub short_in : Analysis → Refusal
unfolding first tab
short_in a = first (tab a.n (short_test a))

-- "analysis checks also 6, 7"
abbrev pub size_checks : Chain → List Refusal
size_checks c = rate_check c ∷ load_check c ∷ []

abbrev pub analyse_checks : Chain → List Refusal
analyse_checks c = chain_checks c ++ size_checks c

-- 8 is of "runs and deadlines only"
abbrev pub run_checks : Chain → List Refusal
run_checks c = analyse_checks c ++ (capacity_check c ∷ [])

unfoldable pub analyse_refusal : Chain → Refusal
unfolding first range_check order_check rate_check busy_in
analyse_refusal c = first (analyse_checks c)

unfoldable pub run_refusal : Chain → Refusal
unfolding first range_check order_check rate_check busy_in capacity_check
run_refusal c = first (run_checks c)

-- the analysis of a chain handed in as a record, and of one that is to be run
unfoldable pub analyse_answer : Chain → AnalysisAnswer
unfolding analyse_refusal sized
analyse_answer c = sized (analyse_refusal c) c

unfoldable pub run_answer : Chain → AnalysisAnswer
unfolding run_refusal sized
run_answer c = sized (run_refusal c) c

-- both numbers of N_i's rate are within the limit
abbrev pub InLimit : Chain → ℕ → Type 0
InLimit c i = (x_of c i ≤ limit) × (y_of c i ≤ limit)

-- 6 in words: L is the lowest node of which x or y passes the limit
pub record FirstTooLarge (c : Chain) (L : ℕ) : Type 0 where
  pub node : (1 ≤ L) × (L ≤ c.n)
  pub above : (limit < x_of c L) ⊎ (limit < y_of c L)
  pub before : (j : ℕ) → 1 ≤ j → j < L → InLimit c j

-- the capacity in force is below the minimum exactly where one is written, and that is
pub short_alike : (B b : ℕ) → ltb (capacity B b) b ≡ (not (eqb B 0) && ltb B b)
unfolding capacity
short_alike B b = by (eqb B 0)
  where
    by : (t : Bool) → ltb (cond t b B) b ≡ (not t && ltb B b)
    by true = le-ltb b b (le_refl b)
    by false = refl

-- queue i's capacity is written, and below its minimum; or it is not written, or not below
abbrev pub Short : Chain → ℕ → Type 0
Short c i = ((row_of c i).capacity ≢ 0) × ((row_of c i).capacity < minimum_of (row_of c i))

abbrev pub Enough : Chain → ℕ → Type 0
Enough c i = ((row_of c i).capacity ≡ 0) ⊎ (minimum_of (row_of c i) ≤ (row_of c i).capacity)

-- 8 in words: L is the lowest queue whose capacity is written and below its minimum
pub record FirstShort (c : Chain) (L : ℕ) : Type 0 where
  pub queue : L < c.n
  pub short : Short c L
  pub before : (j : ℕ) → j < L → Enough c j

-- the numbers of the checks of an analysis and of a run, in order: each speaks with its own
abbrev pub analyse_numbers : List ℕ
analyse_numbers = chain_numbers ++ (6 ∷ 7 ∷ [])

abbrev pub run_numbers : List ℕ
run_numbers = analyse_numbers ++ (8 ∷ [])
