-- The analysis of a chain (01, Rates, load, minimum): its queues one by one, and its load.
--   start q                  what a queue holds at a fresh start: nothing
--   least_of q               its minimum b with its naming count; minimum_of q, naming_of q: each of the two
--   capacity_of q, margin_of q the capacity in force, and how much that is above the minimum
--   row_by q, Parted, row_known
--                            the numbers that the queue's code is handed
--   size_by q x y            one queue's line of the analysis, its consumer having the rate x in y
--   size_of c i               queue i's
--   no_size, empty_analysis  a slot that no queue has, and the analysis of a refused call: all zero
--   analysis_of c            the whole
--   sized r c                the answer of a call that makes an analysis: the refusal r, or the analysis where r is silent
--   refused_with N L         the answer that is all zero but for number and place, as each refused one is (sized_refused)
--   analysis_said r          the answer that C has of an analysis or an error
--   analysis_says, _alike    number and place are what the result says, and no two results have the same answer
--   minimum-, naming-, capacity_most
--                            how large the numbers of a sound queue's line can be
-- What is named here and not declared stands in proofs/SizesLaws.antt.
use Rattle.std.specs.Prelude.{◌≡◌, refl, cond, Result, ℕ, suc, ◌/◌, ◌≤◌, eqb, replicate, ℤ, pos}
use Rattle.std.proofs.Common.{Ok, Err, sym, ap, le_trans, arith}
use Rattle.words.specs.Table.{tab, slots}
use Rattle.words.specs.declared.Queue.{Queue}
use Rattle.chain.specs.Record.{row_of}
use Rattle.chain.specs.Sound.{SoundRow}
use Rattle.chain.specs.Refusal.{Refusal}
use Rattle.chain.specs.Refusals.{refused}
use Rattle.chain.specs.Said.{code, said, speaks, refusal_alike}
use Rattle.chain.specs.declared.reasons.Refused.{Refused}
use Rattle.chain.specs.declared.Chain.{Chain}
use Rattle.arith.specs.Gcd.{gcd}
use Rattle.onequeue.specs.Known.{Known}
use Rattle.onequeue.specs.Least.{least}
use Rattle.onequeue.proofs.LeastLaws.{minimum_fits, naming_fits}
use Rattle.onequeue.specs.Capacity.{capacity, margin}
use Rattle.onequeue.proofs.CapacityLaws.{capacity_fits}
use Rattle.onequeue.specs.declared.Row.{Row}
use Rattle.onequeue.specs.declared.Shown.{Shown}
use Rattle.sizing.specs.Nodes.{x_of, y_of}
use Rattle.sizing.specs.Load.{busy_in, busy_of, cycle_of}
use Rattle.sizing.specs.declared.QueueSize.{QueueSize}
use Rattle.sizing.specs.declared.Analysis.{Analysis}
use Rattle.sizing.specs.declared.AnalysisAnswer.{AnalysisAnswer}

-- "every queue starts empty"
abbrev pub start : Queue → ℕ
start q = 0

-- "minimum b of a queue" with "the naming count of demand 3", and each of the two
abbrev pub least_of : Queue → Shown
least_of q = least (start q) q.produce q.threshold q.consume

abbrev pub minimum_of : Queue → ℕ
minimum_of q = (least_of q).minimum

abbrev pub naming_of : Queue → ℕ
naming_of q = (least_of q).by

-- "with B=0 the capacity is b", else B
abbrev pub capacity_of : Queue → ℕ
capacity_of q = capacity q.capacity (minimum_of q)

-- "margin: B − b, signed; with B=0 the capacity is b and the margin 0"
abbrev pub margin_of : Queue → ℤ
margin_of q = margin (capacity_of q) (minimum_of q)

-- the numbers that the queue's code is handed: with the gcd of produce and consume, and what it leaves of consume
unfoldable pub row_by : Queue → Row
unfolding gcd
row_by q = record { produce = q.produce; threshold = q.threshold; consume = q.consume; g = gcd q.produce q.consume; share = q.consume / gcd q.produce q.consume }

pub row_known : {q : Queue} → SoundRow q → Known (row_by q)
unfolding row_by
row_known s = record { produce = s.produce; threshold = s.threshold; consume = s.consume; order = s.order; g = refl; share = refl }

-- a sound queue and its numbers, as the code of its line asks
pub record Parted (q : Queue) (row : Row) : Type 0 where
  pub sound : SoundRow q
  pub parts : row ≡ row_by q

-- one queue's line, with its consumer's rate
unfoldable pub size_by : Queue → ℕ → ℕ → QueueSize
unfolding least capacity margin
size_by q x y = record { x = x; y = y; minimum = minimum_of q; by = naming_of q; capacity = capacity_of q; margin = margin_of q }

-- queue i's consumer is N_(i+1)
abbrev pub size_of : Chain → ℕ → QueueSize
size_of c i = size_by (row_of c i) (x_of c (suc i)) (y_of c (suc i))

-- a slot that no queue has
abbrev pub no_size : QueueSize
no_size = record { x = 0; y = 0; minimum = 0; by = 0; capacity = 0; margin = pos 0 }

-- "all other results zero"
abbrev pub empty_analysis : Analysis
empty_analysis = record { n = 0; queues = replicate 16 no_size; busy = 0; cycle = 0 }

-- the first n slots are the queues', the others zero
unfoldable pub analysis_of : Chain → Analysis
unfolding tab size_by x_of y_of busy_in
analysis_of c = record { n = c.n; queues = slots (size_of c) no_size 16 c.n; busy = busy_of c; cycle = cycle_of c }

-- "a refusal gives number and place, all other results zero"
unfoldable pub sized : Refusal → Chain → AnalysisAnswer
unfolding analysis_of
sized r c = record { number = r.number; place = r.place; analysis = cond (eqb r.number 0) (analysis_of c) empty_analysis }

-- all zero but for number and place
abbrev pub refused_with : ℕ → ℕ → AnalysisAnswer
refused_with N L = record { number = N; place = L; analysis = empty_analysis }

-- the answer that a result makes which is an analysis or an error
abbrev pub analysis_said : Result Analysis Refused → AnalysisAnswer
analysis_said (Ok a) = record { number = 0; place = 0; analysis = a }
analysis_said (Err e) = refused_with (code e.reason) e.place

-- number and place are those of what the result says
pub analysis_says : (r : Result Analysis Refused) → refused (analysis_said r).number (analysis_said r).place ≡ said r
analysis_says (Ok a) = refl
analysis_says (Err e) = refl

-- equal answers come from equal results
pub analysis_alike : (r s : Result Analysis Refused) → analysis_said r ≡ analysis_said s → r ≡ s
analysis_alike (Ok a) (Ok b) e = ap Ok (ap (λ (x : AnalysisAnswer). x.analysis) e)
analysis_alike (Ok a) (Err f) e = absurd (speaks f (ap (λ (x : AnalysisAnswer). x.number) (sym e)))
analysis_alike (Err d) (Ok b) e = absurd (speaks d (ap (λ (x : AnalysisAnswer). x.number) e))
analysis_alike (Err d) (Err f) e = ap Err (refusal_alike d f (ap (λ (x : AnalysisAnswer). refused x.number x.place) e))

-- how large minimum, naming count and capacity of a sound queue can be
pub minimum_most : {q : Queue} → SoundRow q → minimum_of q ≤ 131069
minimum_most {q} s = minimum_fits 0 q.produce q.threshold q.consume s.threshold.0 s.produce.0 s.threshold.1 s.produce.1

pub naming_most : {q : Queue} → SoundRow q → naming_of q ≤ 65535
naming_most {q} s = le_trans (naming_fits 0 q.produce q.threshold q.consume s.produce.0 s.order) s.threshold.1

pub capacity_most : {q : Queue} → SoundRow q → capacity_of q ≤ 1000000
capacity_most {q} s = capacity_fits 1000000 q.capacity (minimum_of q) s.capacity (le_trans (minimum_most s) (omega arith))
