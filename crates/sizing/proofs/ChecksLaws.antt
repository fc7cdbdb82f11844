-- Laws of specs/Checks.antt that rest on a definition which an edit of must-fail/ changes.
-- The checks of the analysis, 6 and 7, and of a run, 8 (01, Numbers a call may refuse with).
--   limit, limit_word          4,294,967,295, the largest number of 32 bits
--   analyse_parts, run_parts   each list is the one before it, and then its own checks
--   rate-, load-, capacity_exact
--                              each check speaks exactly under its condition
--   rate-, rates-, load-, enough-, capacity_silent
--                              and is silent exactly elsewhere: of one node or queue, and of all
--   enough_capacity            a capacity that is enough is not below the minimum
--   rate-, load-, capacity_only
--                              and speaks with its own number
--   analyse_2 to analyse_7, run_8, run_earlier
--                              when a chain is refused with each number
use Rattle.std.proofs.Math.Logic.Iff
use Rattle.std.specs.Prelude.{◌≡◌, refl, Bool, not, ◌&&◌, ◌↔◌, ◌≢◌, ◌⊎◌, [], ◌∷◌, ◌++◌, eqb, get_or, take}
use Rattle.std.proofs.Common.{sym, ◌∙◌, arith, eq-eqb}
use Rattle.std.proofs.Math.Path.{ap}
use Rattle.std.proofs.Math.Bool.{true, false, cond}
use Rattle.std.proofs.Math.Logic.{⊎_elim, true-and}
use Prim.Native.Nat.{ℕ, zero, suc, ◌+◌, ◌*◌, ◌^◌, ◌≤◌, ◌<◌}
use Rattle.std.proofs.Math.Nat.{le_refl}
use Rattle.std.proofs.Math.Dec.{ltb}
use Rattle.words.specs.Table.{tab, tab_alike}
use Rattle.chain.specs.Tests.{Out, below_true, below_false, differ_true, differ_false, or_true, or_false, and_true, and_false}
use Rattle.chain.specs.Refusals.{refused, fine, test, first, or_else, first_append, first_last, Silent, Silents, Numbered, Lowest}
use Rattle.chain.proofs.RefusalsLaws.{exact_at}
use Rattle.chain.specs.Refusals.{lowest_is, Only, only_test, only_tab, test_exact, test_silent, all_silent, said_earlier, numbered_append}
use Rattle.chain.specs.Record.{row_of}
use Rattle.chain.specs.Checks.{count_check, record_range, chain_checks, chain_refusal, fields}
use Rattle.chain.specs.Checks.{FirstOut, FirstOver, chain_numbers}
use Rattle.chain.proofs.ChecksLaws.{count_exact, range_exact, order_exact, chain_numbered}
use Rattle.chain.specs.declared.Chain.{Chain}
use Rattle.onequeue.specs.Capacity.{capacity}
use Rattle.sizing.specs.Nodes.{x_of, y_of}
use Rattle.sizing.specs.Load.{busy_of, cycle_of}
use Rattle.sizing.specs.Sizes.{minimum_of, capacity_of, size_by, analysis_of}
use Rattle.sizing.proofs.SizesLaws.{size_at}
use Rattle.sizing.specs.declared.QueueSize.{QueueSize}
use Rattle.sizing.specs.Checks.{limit, too_large, rate_test, rate_check, load_check, capacity_test, capacity_check, short_test, short_in, size_checks, analyse_checks}
use Rattle.sizing.specs.Checks.{run_checks, analyse_refusal, run_refusal, InLimit, FirstTooLarge, short_alike, Short, Enough, FirstShort, analyse_numbers, run_numbers}

-- it is the largest number of 32 bits
pub limit_word : limit + 1 ≡ 2 ^ 32
limit_word = refl

pub too_large_true : (x y : ℕ) → (too_large x y ≡ true) ↔ ((limit < x) ⊎ (limit < y))
too_large_true x y = or_true (below_true limit x) (below_true limit y)

pub too_large_false : (x y : ℕ) → (too_large x y ≡ false) ↔ ((x ≤ limit) × (y ≤ limit))
too_large_false x y = or_false (below_false limit x) (below_false limit y)

-- the checks of the record, then 6 and 7; and those of the analysis, then 8
pub analyse_parts : (c : Chain) → analyse_refusal c ≡ or_else (chain_refusal c) (first (size_checks c))
unfolding analyse_refusal chain_refusal
analyse_parts c = first_append (chain_checks c) (size_checks c)

pub run_parts : (c : Chain) → run_refusal c ≡ or_else (analyse_refusal c) (capacity_check c)
unfolding run_refusal analyse_refusal capacity_check first
run_parts c = first_append (analyse_checks c) (capacity_check c ∷ []) ∙ ap (or_else (first (analyse_checks c))) (first_last (tab c.n (capacity_test c)))

-- by which the check proves a call that makes them one behind the other
pub ruleset parts = (analyse_parts, run_parts)

module _ (c : Chain) where
  pub rate_silent : (i : ℕ) → Silent (rate_test c i) ↔ InLimit c (suc i)
  rate_silent i = Iff.trans (test_silent 6 (suc i) (λ e. omega arith) _) (too_large_false (x_of c (suc i)) (y_of c (suc i)))

  rate_says : (i L : ℕ) → (rate_test c i ≡ refused 6 L) ↔ (((limit < x_of c (suc i)) ⊎ (limit < y_of c (suc i))) × (L ≡ suc i))
  rate_says i L = Iff.trans (test_exact 6 L (suc i) (λ e. omega arith) _) (Iff.and (too_large_true (x_of c (suc i)) (y_of c (suc i))) Iff.rfl)

  pub rate_exact : (L : ℕ) → (rate_check c ≡ refused 6 L) ↔ FirstTooLarge c L
  unfolding rate_check
  rate_exact L = Iff.trans (lowest_is 6 L (λ e. omega arith) (rate_test c) c.n) (out, back L)
    where
      earlier : (k : ℕ) → ((j : ℕ) → j < k → Silent (rate_test c j)) → (j : ℕ) → 1 ≤ j → j < suc k → InLimit c j
      earlier k h zero p l = absurd (omega arith)
      earlier k h (suc j) p l = (rate_silent j).0 (h j (omega arith))

      out : Lowest (rate_test c) c.n 6 L → FirstTooLarge c L
      out f =
          let e = (rate_says f.at L).0 f.says in
          rw e.1 (record { node = (omega arith, f.inside); above = e.0; before = earlier f.at f.before })

      back : (m : ℕ) → FirstTooLarge c m → Lowest (rate_test c) c.n 6 m
      back zero f = absurd (omega (arith, f.node.0))
      back (suc k) f = record {
        at = k;
        inside = f.node.1;
        says = (rate_says k (suc k)).1 (f.above, refl);
        before = λ j l. (rate_silent j).1 (f.before (suc j) (omega arith) (omega arith));
      }

  pub rates_silent : Silent (rate_check c) ↔ ((i : ℕ) → i < c.n → InLimit c (suc i))
  unfolding rate_check
  rates_silent = Iff.trans (all_silent (rate_test c) c.n) (λ h i l. (rate_silent i).0 (h i l), λ h i l. (rate_silent i).1 (h i l))

  pub load_exact : (L : ℕ) → (load_check c ≡ refused 7 L) ↔ ((cycle_of c < busy_of c) × (L ≡ 0))
  load_exact L = Iff.trans (test_exact 7 L 0 (λ e. omega arith) _) (Iff.and (below_true (cycle_of c) (busy_of c)) Iff.rfl)

  pub load_silent : Silent (load_check c) ↔ (busy_of c ≤ cycle_of c)
  load_silent = Iff.trans (test_silent 7 0 (λ e. omega arith) _) (below_false (cycle_of c) (busy_of c))

module _ (c : Chain) where
  pub enough_silent : (i : ℕ) → Silent (capacity_test c i) ↔ Enough c i
  enough_silent i = Iff.trans (test_silent 8 i (λ e. omega arith) _) (and_false (differ_false (row_of c i).capacity 0) (below_false (row_of c i).capacity (minimum_of (row_of c i))))

  short_says : (i L : ℕ) → (capacity_test c i ≡ refused 8 L) ↔ (Short c i × (L ≡ i))
  short_says i L = Iff.trans (test_exact 8 L i (λ e. omega arith) _) (Iff.and (and_true (differ_true (row_of c i).capacity 0) (below_true (row_of c i).capacity (minimum_of (row_of c i)))) Iff.rfl)

  pub capacity_exact : (L : ℕ) → (capacity_check c ≡ refused 8 L) ↔ FirstShort c L
  unfolding capacity_check
  capacity_exact L = Iff.trans (lowest_is 8 L (λ e. omega arith) (capacity_test c) c.n) (out, back)
    where
      out : Lowest (capacity_test c) c.n 8 L → FirstShort c L
      out f =
          let e = (short_says f.at L).0 f.says in
          rw e.1 (record { queue = f.inside; short = e.0; before = λ j l. (enough_silent j).0 (f.before j l) })

      back : FirstShort c L → Lowest (capacity_test c) c.n 8 L
      back f = record { at = L; inside = f.queue; says = (short_says L L).1 (f.short, refl); before = λ j l. (enough_silent j).1 (f.before j l) }

  -- and then the capacity in force is not below the minimum
  pub enough_capacity : (i : ℕ) → Enough c i → minimum_of (row_of c i) ≤ capacity_of (row_of c i)
  unfolding capacity
  enough_capacity i = ⊎_elim (λ e. simp (eq-eqb _ _ e) (le_refl _)) (λ l. by (eqb (row_of c i).capacity 0) l)
    where
      by : (t : Bool) → minimum_of (row_of c i) ≤ (row_of c i).capacity → minimum_of (row_of c i) ≤ cond t (minimum_of (row_of c i)) (row_of c i).capacity
      by true l = le_refl _
      by false l = l

  pub capacity_silent : Silent (capacity_check c) ↔ ((i : ℕ) → i < c.n → Enough c i)
  unfolding capacity_check
  capacity_silent = Iff.trans (all_silent (capacity_test c) c.n) (λ h i l. (enough_silent i).0 (h i l), λ h i l. (enough_silent i).1 (h i l))

  -- the analysis shows 8: a capacity in force is below the minimum only where it is written
  pub short_is_capacity : c.n ≤ 16 → short_in (analysis_of c) ≡ capacity_check c
  unfolding short_in capacity_check analysis_of size_by
  short_is_capacity few = ap first (tab_alike c.n (short_test (analysis_of c)) (capacity_test c) alike)
    where
      alike : (i : ℕ) → i < c.n → short_test (analysis_of c) i ≡ capacity_test c i
      alike i l =
          ap (λ (q : QueueSize). test 8 i (ltb q.capacity q.minimum)) (size_at c i few l)
          ∙ ap (test 8 i) (short_alike (row_of c i).capacity (minimum_of (row_of c i)))

  -- each check speaks with its own number only
  pub rate_only : Only 6 (rate_check c)
  unfolding rate_check
  rate_only = only_tab 6 (rate_test c) (λ i. only_test 6 (suc i) (too_large (x_of c (suc i)) (y_of c (suc i)))) c.n

  pub load_only : Only 7 (load_check c)
  load_only = only_test 7 0 (ltb (cycle_of c) (busy_of c))

  pub capacity_only : Only 8 (capacity_check c)
  unfolding capacity_check
  capacity_only = only_tab 8 (capacity_test c) (λ i. only_test 8 i (not (eqb (row_of c i).capacity 0) && ltb (row_of c i).capacity (minimum_of (row_of c i)))) c.n

pub analyse_numbered : (c : Chain) → Numbered analyse_numbers (analyse_checks c)
unfolding Numbered
analyse_numbered c = numbered_append chain_numbers (6 ∷ 7 ∷ []) (chain_checks c) (size_checks c) (chain_numbered c) (rate_only c, (load_only c, tt))

pub run_numbered : (c : Chain) → Numbered run_numbers (run_checks c)
unfolding Numbered
run_numbered c = numbered_append analyse_numbers (8 ∷ []) (analyse_checks c) (capacity_check c ∷ []) (analyse_numbered c) (capacity_only c, tt)

-- a chain is refused with a number exactly when no earlier check speaks and the number's own condition holds
module _ (c : Chain) (L : ℕ) where
  analyse_at : (k : ℕ) → k < 5 → (analyse_refusal c ≡ refused (get_or analyse_numbers k 0) L)
      ↔ (Silents (take k (analyse_checks c)) × (get_or (analyse_checks c) k fine ≡ refused (get_or analyse_numbers k 0) L))
  unfolding analyse_refusal
  analyse_at k l = exact_at analyse_numbers (analyse_checks c) (analyse_numbered c) tt k L l

  pub analyse_2 : (analyse_refusal c ≡ refused 2 L) ↔ (Out 1 16 c.n × (L ≡ 0))
  unfolding Silents
  analyse_2 = Iff.trans (analyse_at 0 (omega arith)) (Iff.trans true-and (count_exact L c.n))

  pub analyse_4 : (analyse_refusal c ≡ refused 4 L) ↔ (Silents (count_check c.n ∷ []) × FirstOut (fields c 20 (20 + 20 * c.n)) L)
  analyse_4 = Iff.trans (analyse_at 1 (omega arith)) (Iff.and Iff.rfl (range_exact L c 20 (20 + 20 * c.n)))

  pub analyse_5 : (analyse_refusal c ≡ refused 5 L) ↔ (Silents (count_check c.n ∷ record_range c ∷ []) × FirstOver c 20 L)
  analyse_5 = Iff.trans (analyse_at 2 (omega arith)) (Iff.and Iff.rfl (order_exact L c 20))

  pub analyse_6 : (analyse_refusal c ≡ refused 6 L) ↔ (Silents (chain_checks c) × FirstTooLarge c L)
  analyse_6 = Iff.trans (analyse_at 3 (omega arith)) (Iff.and Iff.rfl (rate_exact c L))

  pub analyse_7 : (analyse_refusal c ≡ refused 7 L) ↔ (Silents (chain_checks c ++ (rate_check c ∷ [])) × ((cycle_of c < busy_of c) × (L ≡ 0)))
  analyse_7 = Iff.trans (analyse_at 4 (omega arith)) (Iff.and Iff.rfl (load_exact c L))

  pub run_8 : (run_refusal c ≡ refused 8 L) ↔ (Silents (analyse_checks c) × FirstShort c L)
  unfolding run_refusal
  run_8 = Iff.trans (exact_at run_numbers (run_checks c) (run_numbered c) tt 5 L (omega arith)) (Iff.and Iff.rfl (capacity_exact c L))

  -- every other number is said of a chain that is to be run exactly when the analysis says it
  pub run_earlier : (N : ℕ) → N ≢ 0 → N ≢ 8 → (run_refusal c ≡ refused N L) ↔ (analyse_refusal c ≡ refused N L)
  unfolding run_refusal analyse_refusal Numbered
  run_earlier N some other = said_earlier N L some (analyse_checks c) (8 ∷ []) (capacity_check c ∷ []) (capacity_only c, tt) (λ e. other (sym e), tt)
