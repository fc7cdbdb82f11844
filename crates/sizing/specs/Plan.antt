-- What deadlines and work are made from, in one list that code lends from call to call beside a flow.
--   capacity_in, work_in l j, period_in l
--                            the numbers of a plan: each queue's capacity in force B, e of the node that it feeds, and the source's y
--   Plans l c                the plan l has the numbers of the chain c
--   Draws, DrawnGives        what the code asks that draws a plan, and what it gives
--   Blank, SizedPlans, RunPlans
--                            the same of the code that checks a chain, and that checks it for a run
--   Drawn c i l              a plan of which the first i queues are filled in: y is in its place
--   drawn_none, _more, _plans
--                            at the start, with one queue more, and at the end
use Rattle.std.specs.Prelude.{◌≡◌, ◌≢◌, Result, IfOk, OnOk, List, ℕ, ◌+◌, ◌≤◌, ◌<◌, length, get_or, set}
use Rattle.std.proofs.Common.{◌∙◌, arith, length-set, get_or-set_same, get_or-set_other}
use Rattle.words.specs.Table.{below_next}
use Rattle.chain.specs.Record.{row_of, work_of}
use Rattle.chain.specs.declared.Chain.{Chain}
use Rattle.chain.specs.Refusals.{first}
use Rattle.chain.specs.Said.{said}
use Rattle.chain.specs.declared.reasons.Refused.{Refused}
use Rattle.chain.specs.Sound.{Sound}
use Rattle.sizing.specs.Sizes.{capacity_of}
use Rattle.sizing.specs.Checks.{size_checks, capacity_check, analyse_refusal, run_refusal}

-- where each number stands: B of queue j, e of N_(j+1), and y
abbrev pub capacity_in : List ℕ → ℕ → ℕ
capacity_in l j = get_or l j 0

abbrev pub work_in : List ℕ → ℕ → ℕ
work_in l j = get_or l (16 + j) 0

abbrev pub period_in : List ℕ → ℕ
period_in l = get_or l 32 0

-- the plan has the numbers of the chain
pub record Plans (l : List ℕ) (c : Chain) : Type 0 where
  pub long : length l ≡ 33
  pub capacities : (j : ℕ) → j < c.n → capacity_in l j ≡ capacity_of (row_of c j)
  pub works : (j : ℕ) → j < c.n → work_in l j ≡ work_of c j
  pub period : period_in l ≡ c.period

-- a chain that 2, 4 and 5 pass, and the words of a plan
pub record Draws (c : Chain) (l : List ℕ) : Type 0 where
  pub chain : Sound c
  pub long : length l ≡ 33

-- what 6 and 7 say; and where they are silent what 8 says, and the plan
pub record DrawnGives (c : Chain) (l : List ℕ) (r : Result (Result Unit Refused) Refused) : Type 0 where
  pub sizes : said r ≡ first (size_checks c)
  pub short : IfOk r (λ s. said s ≡ capacity_check c)
  pub plans : OnOk r (Plans l c)

-- the words of a plan
pub record Blank (l : List ℕ) : Type 0 where
  pub long : length l ≡ 33

-- what refuses a chain, or its plan
pub record SizedPlans (c : Chain) (l : List ℕ) (r : Result Unit Refused) : Type 0 where
  pub says : said r ≡ analyse_refusal c
  pub plans : OnOk r (Plans l c)

-- the same of a chain that is to be run
pub record RunPlans (c : Chain) (l : List ℕ) (r : Result Unit Refused) : Type 0 where
  pub says : said r ≡ run_refusal c
  pub plans : OnOk r (Plans l c)

-- the first i queues are filled in
pub record Drawn (c : Chain) (i : ℕ) (l : List ℕ) : Type 0 where
  pub reach : i ≤ c.n
  pub long : length l ≡ 33
  pub capacities : (j : ℕ) → j < i → capacity_in l j ≡ capacity_of (row_of c j)
  pub works : (j : ℕ) → j < i → work_in l j ≡ work_of c j
  pub period : period_in l ≡ c.period

-- none is
pub drawn_none : (c : Chain) (l : List ℕ) → length l ≡ 33 → Drawn c 0 (set l 32 c.period)
drawn_none c l long = record {
  reach = omega arith;
  long = length-set l 32 c.period ∙ long;
  capacities = λ j h. absurd (omega arith);
  works = λ j h. absurd (omega arith);
  period = get_or-set_same l 32 c.period 0 (omega arith);
}

-- one queue more
module _ {c : Chain} {i : ℕ} {l : List ℕ} (few : c.n ≤ 16) (d : Drawn c i l) (h : i < c.n) {b : ℕ} (e : b ≡ capacity_of (row_of c i)) where
  abbrev one : List ℕ
  one = set l i b

  abbrev two : List ℕ
  two = set one (16 + i) (work_of c i)

  other : (y : ℕ) → y ≢ i → y ≢ 16 + i → get_or two y 0 ≡ get_or l y 0
  other y a b = get_or-set_other one (16 + i) y _ 0 b ∙ get_or-set_other l i y _ 0 a

  long_one : length one ≡ 33
  long_one = length-set l i _ ∙ d.long

  pub drawn_more : Drawn c (i + 1) two
  drawn_more = record {
    reach = omega arith;
    long = length-set one (16 + i) _ ∙ long_one;
    capacities = below_next {P = λ j. capacity_in two j ≡ capacity_of (row_of c j)} i
        (get_or-set_other one (16 + i) i _ 0 (λ e. omega arith) ∙ get_or-set_same l i _ 0 (omega (arith, d.long)) ∙ e)
        (λ j n. other j (λ e. omega arith) (λ e. omega arith) ∙ d.capacities j n);
    works = below_next {P = λ j. work_in two j ≡ work_of c j} i
        (get_or-set_same one (16 + i) _ 0 (omega (arith, long_one)))
        (λ j n. other (16 + j) (λ e. omega arith) (λ e. omega arith) ∙ d.works j n);
    period = other 32 (λ e. omega arith) (λ e. omega arith) ∙ d.period;
  }

-- all queues
pub drawn_plans : {c : Chain} {i : ℕ} {l : List ℕ} → c.n ≤ i → Drawn c i l → Plans l c
drawn_plans e d = record {
  long = d.long;
  capacities = λ j h. d.capacities j (omega arith);
  works = λ j h. d.works j (omega arith);
  period = d.period;
}
