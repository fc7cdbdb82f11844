-- Laws of specs/Chains.antt that rest on a definition which an edit of must-fail/ changes.
-- The slots of a chain past n are not read: chains that differ only there have the same answers (01, Firing: "the slots past n are neither
-- read nor changed").
--   alike_refl               a chain and itself
--   record_alike, chain_alike
--                            such chains are tested and refused alike as records
--   rates_alike, cycle_alike, busy_alike
--                            they have the same rates, cycle and load
--   sizes_alike              and the same analysis
--   checks_alike, analyse_alike, analysis_alike
--                            the analysis tests and refuses them alike, and has the same answer
--   run_alike, run_analysis_alike
--                            and so has a run
use Rattle.std.specs.Prelude.{◌≡◌, not, ◌&&◌, eqb}
use Rattle.std.proofs.Math.Path.{refl, ap, ap₂}
use Rattle.std.proofs.Common.{◌∙◌, arith}
use Rattle.std.proofs.Math.Bool.{cond}
use mathlib.Core.List.{List, [], ◌∷◌, ◌++◌, map}
use Prim.Native.Nat.{ℕ, zero, suc, ◌+◌, ◌*◌, ◌/◌, ◌≤◌, ◌<◌}
use Rattle.std.proofs.Math.Dec.{ltb}
use Rattle.words.specs.Flat.{flat}
use Rattle.words.specs.Table.{tab, slots, slots_alike}
use Rattle.words.specs.declared.Queue.{Queue}
use Rattle.chain.specs.Refusals.{test, first}
use Rattle.chain.specs.Record.{row_of, work_of}
use Rattle.chain.specs.Checks.{Field, ticks, row_fields, fields, count_check, out_of_range, range_check, overdrawn, order_check, record_range, record_order, chain_checks, chain_refusal}
use Rattle.chain.specs.Refusal.{Refusal}
use Rattle.chain.specs.declared.Chain.{Chain}
use Rattle.rates.specs.Rates.{next_x, next_y}
use Rattle.sizing.specs.Nodes.{x_of, y_of}
use Rattle.sizing.specs.Load.{busy_in, cycle_of, busy_of}
use Rattle.sizing.specs.Sizes.{minimum_of, size_by, size_of, no_size, empty_analysis, analysis_of, sized}
use Rattle.sizing.specs.Checks.{too_large, rate_test, rate_check, load_check, capacity_test, capacity_check, analyse_checks, analyse_refusal, run_refusal, analyse_answer, run_answer}
use Rattle.slots.specs.Chains.{AlikeChains, tabs_alike, flat_alike}

-- a chain and itself
pub alike_refl : (c : Chain) → AlikeChains c c
alike_refl c = record { n = refl; period = refl; rows = λ i l. refl; work = λ i l. refl }

module _ {c d : Chain} (a : AlikeChains c d) where
  -- every field, in 01's order
  fields_alike : (q w : ℕ) → fields c q w ≡ fields d q w
  unfolding fields
  fields_alike q w = ap₂ ◌∷◌ (ap (ticks 4) a.period) (ap₂ ◌++◌ rows nodes)
    where
      rows : flat (λ i. row_fields (row_of c i) (q + 20 * i)) c.n ≡ flat (λ i. row_fields (row_of d i) (q + 20 * i)) d.n
      rows =
          flat_alike (λ i. row_fields (row_of c i) (q + 20 * i)) (λ i. row_fields (row_of d i) (q + 20 * i)) c.n (λ i l. ap (λ (r : Queue). row_fields r (q + 20 * i)) (a.rows i l))
          ∙ ap (λ (k : ℕ). flat (λ i. row_fields (row_of d i) (q + 20 * i)) k) a.n

      nodes : tab c.n (λ i. ticks (w + 4 * i) (work_of c i)) ≡ tab d.n (λ i. ticks (w + 4 * i) (work_of d i))
      nodes = tabs_alike _ _ a.n (λ i l. ap (ticks (w + 4 * i)) (a.work i l))

  -- 4 of the record
  range_alike : record_range c ≡ record_range d
  unfolding range_check
  range_alike = ap (λ (k : ℕ). range_check c 20 (20 + 20 * k)) a.n ∙ ap (λ (fs : List Field). first (map out_of_range fs)) (fields_alike 20 (20 + 20 * d.n))

  -- 5 of the record
  order_alike : record_order c ≡ record_order d
  unfolding order_check
  order_alike = ap first (tabs_alike _ _ a.n (λ i l. ap (λ (r : Queue). overdrawn r (20 + 20 * i)) (a.rows i l)))

  -- what a record is tested for
  pub record_alike : chain_checks c ≡ chain_checks d
  record_alike = λ k. count_check (a.n k) ∷ range_alike k ∷ order_alike k ∷ []

  -- a record is refused alike
  pub chain_alike : chain_refusal c ≡ chain_refusal d
  unfolding chain_refusal
  chain_alike = ap first record_alike

  -- the rate of each node
  pub rates_alike : (i : ℕ) → i ≤ c.n → (x_of c i ≡ x_of d i) × (y_of c i ≡ y_of d i)
  unfolding x_of y_of
  rates_alike zero l = (refl, a.period)
  rates_alike (suc i) l =
      let r = a.rows i l in
      let e = rates_alike i (omega arith) in
      (λ k. next_x (r k).produce (r k).consume (e.0 k), λ k. next_y (r k).produce (r k).consume (e.0 k) (e.1 k))

  -- the cycle
  pub cycle_alike : cycle_of c ≡ cycle_of d
  cycle_alike = (rates_alike c.n (omega arith)).1 ∙ ap (y_of d) a.n

  -- the ticks that the nodes up to N_i work in m ticks
  busy_upto : (m i : ℕ) → i ≤ c.n → busy_in c m i ≡ busy_in d m i
  unfolding busy_in
  busy_upto m zero l = refl
  busy_upto m (suc i) l =
      let e = rates_alike (suc i) l in
      λ k. busy_upto m i (omega arith) k + a.work i l k * e.0 k * (m / e.1 k)

  -- the load
  pub busy_alike : busy_of c ≡ busy_of d
  busy_alike = busy_upto (cycle_of c) c.n (omega arith) ∙ ap₂ (busy_in d) cycle_alike a.n

  -- the line of each queue
  size_alike : (i : ℕ) → i < c.n → size_of c i ≡ size_of d i
  size_alike i l = let e = rates_alike (suc i) l in λ k. size_by (a.rows i l k) (e.0 k) (e.1 k)

  -- the analysis
  pub sizes_alike : analysis_of c ≡ analysis_of d
  unfolding analysis_of
  sizes_alike = λ k. record { n = a.n k; queues = queues k; busy = busy_alike k; cycle = cycle_alike k }
    where
      queues : slots (size_of c) no_size 16 c.n ≡ slots (size_of d) no_size 16 d.n
      queues = slots_alike (size_of c) (size_of d) no_size 16 c.n size_alike ∙ ap (λ (m : ℕ). slots (size_of d) no_size 16 m) a.n

  -- and an answer with it
  answer_alike : {r s : Refusal} → r ≡ s → sized r c ≡ sized s d
  unfolding sized
  answer_alike e = λ k. record { number = (e k).number; place = (e k).place; analysis = cond (eqb (e k).number 0) (sizes_alike k) empty_analysis }

  -- 6
  rate_alike : rate_check c ≡ rate_check d
  unfolding rate_check
  rate_alike = ap first (tabs_alike (rate_test c) (rate_test d) a.n (λ i l. let e = rates_alike (suc i) l in λ k. test 6 (suc i) (too_large (e.0 k) (e.1 k))))

  -- 7
  load_alike : load_check c ≡ load_check d
  load_alike = λ k. test 7 0 (ltb (cycle_alike k) (busy_alike k))

  -- 8
  capacity_alike : capacity_check c ≡ capacity_check d
  unfolding capacity_check
  capacity_alike = ap first (tabs_alike (capacity_test c) (capacity_test d) a.n (λ i l. ap (λ (r : Queue). test 8 i (not (eqb r.capacity 0) && ltb r.capacity (minimum_of r))) (a.rows i l)))

  -- what the analysis tests for
  pub checks_alike : analyse_checks c ≡ analyse_checks d
  checks_alike = ap₂ ◌++◌ record_alike (λ k. rate_alike k ∷ load_alike k ∷ [])

  -- the analysis refuses alike
  pub analyse_alike : analyse_refusal c ≡ analyse_refusal d
  unfolding analyse_refusal
  analyse_alike = ap first checks_alike

  -- and its answer is the same
  pub analysis_alike : analyse_answer c ≡ analyse_answer d
  unfolding analyse_answer
  analysis_alike = answer_alike analyse_alike

  -- a run refuses alike
  pub run_alike : run_refusal c ≡ run_refusal d
  unfolding run_refusal
  run_alike = ap first (ap₂ ◌++◌ checks_alike (λ k. capacity_alike k ∷ []))

  -- and its answer is the same
  pub run_analysis_alike : run_answer c ≡ run_answer d
  unfolding run_answer
  run_analysis_alike = answer_alike run_alike
