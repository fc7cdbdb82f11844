-- Demand 2, 9 of both kinds of run and 11 and 13 of a deadline question, with their places, by the numbers of the chain: of the words by which they are defined none
-- stands in these laws.
--   c, i, j, k, T, L         a chain, a node, a node on the way down to the source, a number or an index, ticks, a place
--   MayRun c                 none of 2 to 8 has a reason to refuse c (PlacesInNumbers)
--   LowestOf Reason L        L has the reason, and none before it has (Order)
--   CountIs c k i m          the immediate run of k source firings would fire N_i m times; of_source, below_threshold, from_threshold: its cases
--   count_some, count_one    every node has such a count, and one only
--   CountPasses c k i, immediate_nine, immediate_runs
--                            it is above 1,000,000; when the run is refused 9; and when it is not refused
--   deadline_run_nine        when a deadline run is
--   deadline_eleven          when a deadline question is refused 11
--   IndexAt c i k j m        N_j's index on the way down from N_i's k is m; asked, one_down: its cases
--   index_some, index_one    every node on the way has such an index, and one only
--   IndexPasses c i k j, PassesFirst c i k L, deadline_thirteen, deadline_answered
--                            it is above 4,294,967,295; N_L's is the first that is; when a question is refused 13; and when it is not refused
use Rattle.std.proofs.Math.Logic.Iff
use Rattle.std.specs.Prelude.{◌≡◌, ◌↔◌, ◌⊎◌}
use Rattle.std.proofs.Math.Path.{refl, sym, ap, subst}
use Rattle.std.proofs.Common.{◌∙◌}
use Rattle.std.proofs.Math.Logic.{by_cases}
use Prim.Native.Nat.{ℕ, zero, suc, ◌+◌, ◌-◌, ◌*◌, ◌/◌, ◌≤◌, ◌<◌}
use Rattle.std.proofs.Math.Decide.{ℕ_discrete, dec_le, dec_lt}
use native.Mathlib.Omega.{arith}
use Rattle.ardenquill.specs.Analyses.{run_checks}
use Rattle.ardenquill.specs.Runs as runs
use Rattle.ardenquill.specs.Immediate.{F, fires, fires_below, fires_from, immediate_refusal, immediate_answer, immediate_9}
use Rattle.ardenquill.specs.Deadlines.{index, FirstPassing, ask_check, ask_silent, answered_due, deadline_refusal, deadline_answer, deadline_11, deadline_13}
use Rattle.ardenquill.specs.Ticks.{outcome_of, deadline_run_refusal, deadline_run_answer, deadline_run_9}
use Rattle.ardenquill.specs.Records.{Chain}
use Rattle.promises.specs.Order.{LowestOf, said}
use Rattle.promises.specs.Replay.{p_of, τ_of, c_of, Accepts, line, Runs}
use Rattle.promises.specs.Laws.{silents_last, fed_by}
use Rattle.promises.specs.PlacesInNumbers.{MayRun, checked_silent}
use Rattle.promises.specs.Demand2.{index_before, index_asked, index_next, deadline_when, immediate_when}

-- "F_0 = k; F_(i+1) is 0 while p×F_i is below τ, else (p×F_i − τ)/c rounded down, plus 1 (004, Lemma 5.1)": N_i would fire m times, whether the run is refused or not
pub data CountIs (c : Chain) (k : ℕ) : ℕ → ℕ → Type 0 where
  of_source : CountIs c k 0 k
  below_threshold : {i m : ℕ} → CountIs c k i m → p_of c i * m < τ_of c i → CountIs c k (suc i) 0
  from_threshold : {i m : ℕ} → CountIs c k i m → τ_of c i ≤ p_of c i * m → CountIs c k (suc i) ((p_of c i * m - τ_of c i) / c_of c i + 1)

-- N_i has a count
pub record HasCount (c : Chain) (k i : ℕ) : Type 0 where
  pub count : ℕ
  pub is : CountIs c k i count

-- 9's "some count would pass 1,000,000", at N_i
pub record CountPasses (c : Chain) (k i : ℕ) : Type 0 where
  pub node : i ≤ c.n
  pub of : HasCount c k i
  pub above : 1000000 < of.count

module _ (c : Chain) (k : ℕ) where
  -- the count that the run is defined by is such a count
  count_is : (i : ℕ) → CountIs c k i (F c k i)
  unfolding F
  count_is zero = of_source
  count_is (suc i) = by_cases (dec_lt (p_of c i * F c k i) (τ_of c i))
      (λ l. subst (CountIs c k (suc i)) (sym (fed_by c k i ∙ fires_below _ _ _ l)) (below_threshold (count_is i) l))
      (λ n. let l : τ_of c i ≤ p_of c i * F c k i = omega arith in subst (CountIs c k (suc i)) (sym (fed_by c k i ∙ fires_from _ _ _ l)) (from_threshold (count_is i) l))

  -- and the only one
  count_only : {i m : ℕ} → CountIs c k i m → m ≡ F c k i
  unfolding F
  count_only of_source = refl
  count_only (below_threshold {i} {m} h l) = sym (fires_below _ _ _ l) ∙ ap (λ (n : ℕ). fires (τ_of c i) (c_of c i) (p_of c i * n)) (count_only h) ∙ sym (fed_by c k i)
  count_only (from_threshold {i} {m} h l) = sym (fires_from _ _ _ l) ∙ ap (λ (n : ℕ). fires (τ_of c i) (c_of c i) (p_of c i * n)) (count_only h) ∙ sym (fed_by c k i)

  -- every node has a count
  pub count_some : (i : ℕ) → HasCount c k i
  count_some i = record { count = F c k i; is = count_is i }

  -- and one only
  pub count_one : {i m m' : ℕ} → CountIs c k i m → CountIs c k i m' → m ≡ m'
  count_one a b = count_only a ∙ sym (count_only b)

  -- a count within the limit does not pass it, and one that does not is within
  few : (i : ℕ) → i ≤ c.n → (F c k i ≤ 1000000) ↔ (CountPasses c k i → ⊥)
  unfolding count_some
  few i l = (
    λ m p. omega (arith, m, p.above, count_only p.of.is),
    λ none. by_cases (dec_le (F c k i) 1000000) (λ m. m) (λ n. absurd (none (record { node = l; of = count_some i; above = omega arith }))),
  )

  -- "Refusal 9 when some count would pass 1,000,000, place the lowest such node"; the source's is k, so more than 1,000,000 of it are 9, place 0
  pub immediate_nine : (L : ℕ) → (((immediate_answer c k).number ≡ 9) × ((immediate_answer c k).place ≡ L)) ↔ (MayRun c × LowestOf (CountPasses c k) L)
  unfolding immediate_answer runs.answered count_some
  immediate_nine L = Iff.trans (said (immediate_refusal c k) 9 L) (Iff.trans (immediate_9 c k L) (Iff.and (checked_silent c) (
    λ f. record { has = record { node = f.node; of = count_some L; above = f.above }; before = λ j l p. (few j p.node).0 (f.before j l) p },
    λ f. record {
      node = f.has.node;
      above = omega (arith, f.has.above, count_only f.has.of.is);
      before = λ j l. (few j (omega (arith, f.has.node))).1 (f.before j l);
    },
  )))

  -- and it runs exactly where no check has a reason
  pub immediate_runs : Runs c k ↔ (MayRun c × ((i : ℕ) → CountPasses c k i → ⊥))
  immediate_runs = Iff.trans (immediate_when c k) (Iff.and Iff.rfl (λ h i p. (few i p.node).0 (h i p.node) p, λ h i l. (few i l).1 (h i)))

-- "T at most 1,000,000 (else 9, place 0)"
pub deadline_run_nine : (c : Chain) (T L : ℕ) → (((deadline_run_answer c T).number ≡ 9) × ((deadline_run_answer c T).place ≡ L)) ↔ (MayRun c × ((1000000 < T) × (L ≡ 0)))
unfolding deadline_run_answer outcome_of
deadline_run_nine c T L = Iff.trans (said (deadline_run_refusal c T) 9 L) (Iff.trans (deadline_run_9 c T L) (Iff.and (checked_silent c) Iff.rfl))

-- "(k−1)×y for N_0, else N_(i−1)'s deadline for index ((k−1)×c+B)/p rounded down, plus 1": the index that is asked of N_i, and each one node further down
pub data IndexAt (c : Chain) (i k : ℕ) : ℕ → ℕ → Type 0 where
  asked : IndexAt c i k i k
  one_down : {j m : ℕ} → IndexAt c i k (suc j) m → IndexAt c i k j (((m - 1) * c_of c j + (line c j).capacity) / p_of c j + 1)

-- N_j has an index
pub record HasIndex (c : Chain) (i k j : ℕ) : Type 0 where
  pub value : ℕ
  pub is : IndexAt c i k j value

-- 13's "passes 4,294,967,295", at N_j
pub record IndexPasses (c : Chain) (i k j : ℕ) : Type 0 where
  pub of : HasIndex c i k j
  pub above : 4294967295 < of.value

-- "node whose index it is", the first on the way down: no node from N_i down to before it has such an index
pub record PassesFirst (c : Chain) (i k L : ℕ) : Type 0 where
  pub has : IndexPasses c i k L
  pub before : (j : ℕ) → L < j → IndexPasses c i k j → ⊥

-- the index of one node further down
index_one_down : (c : Chain) → Accepts c → (i k j : ℕ) → i ≤ c.n → j < i → index c i k j ≡ index_before c j (index c i k (suc j))
index_one_down c ok zero k j l m = absurd (omega arith)
index_one_down c ok (suc i) k j l m = by_cases (ℕ_discrete j i)
    (λ e.
    rw e (index_next c ok i k i l (omega arith) ∙ index_asked c i (index_before c i k) ∙ ap (index_before c i) (sym (index_asked c (suc i) k))))
    (λ n.
    let below : j < i = omega arith in
    index_next c ok i k j l (omega arith)
    ∙ index_one_down c ok i (index_before c i k) j (omega arith) below
    ∙ ap (index_before c j) (sym (index_next c ok i k (suc j) l below)))

module _ (c : Chain) (ok : Accepts c) (i k : ℕ) (node : i ≤ c.n) where
  -- the index that the deadline is defined by is such an index, d nodes down
  index_is : (d j : ℕ) → j + d ≡ i → IndexAt c i k j (index c i k j)
  index_is zero j e = let same : j ≡ i = omega arith in rw (same, index_asked c i k) asked
  index_is (suc d) j e = rw (index_one_down c ok i k j node (omega arith)) (one_down (index_is d (suc j) (omega arith)))

  -- and the only one
  index_only : {j m : ℕ} → IndexAt c i k j m → (j ≤ i) × (m ≡ index c i k j)
  index_only asked = (omega arith, sym (index_asked c i k))
  index_only (one_down {j} {m} h) =
      let above = index_only h in
      let below : j < i = above.0 in
      (omega arith, ap (index_before c j) above.1 ∙ sym (index_one_down c ok i k j node below))

  -- every node on the way down has an index
  pub index_some : (j : ℕ) → j ≤ i → HasIndex c i k j
  index_some j l = record { value = index c i k j; is = index_is (i - j) j (omega arith) }

  -- and one only
  pub index_one : {j m m' : ℕ} → IndexAt c i k j m → IndexAt c i k j m' → m ≡ m'
  index_one a b = (index_only a).1 ∙ sym (index_only b).1

  -- an index within the limit does not pass it, and one that does not is within
  had : (j : ℕ) → j ≤ i → (index c i k j ≤ 4294967295) ↔ (IndexPasses c i k j → ⊥)
  unfolding index_some
  had j l = (
    λ m p. omega (arith, m, p.above, (index_only p.of.is).1),
    λ none. by_cases (dec_le (index c i k j) 4294967295) (λ m. m) (λ n. absurd (none (record { of = index_some j l; above = omega arith }))),
  )

  -- the first that passes it
  passing_is : (L : ℕ) → FirstPassing c i k L ↔ PassesFirst c i k L
  unfolding index_some
  passing_is L = (
    λ f. record {
      has = record { of = index_some L f.node; above = f.passes };
      before = λ j l p. let m = (index_only p.of.is).0 in (had j m).0 (f.before j l m) p;
    },
    λ f.
        let is = index_only f.has.of.is in
        record { node = is.0; passes = omega (arith, is.1, f.has.above); before = λ j l m. (had j m).1 (f.before j l) },
  )

module _ (c : Chain) (i k L : ℕ) where
  -- 11's "no such node, firing index 0", place "node"
  pub deadline_eleven : (((deadline_answer c i k).number ≡ 11) × ((deadline_answer c i k).place ≡ L)) ↔ (MayRun c × (((c.n < i) ⊎ (k ≡ 0)) × (L ≡ i)))
  unfolding deadline_answer answered_due
  deadline_eleven = Iff.trans (said (deadline_refusal c i k) 11 L) (Iff.trans (deadline_11 c i k L) (Iff.and (checked_silent c) Iff.rfl))

  -- 13: "a deadline index passes 4,294,967,295", place "node whose index it is"
  pub deadline_thirteen : (((deadline_answer c i k).number ≡ 13) × ((deadline_answer c i k).place ≡ L)) ↔ ((MayRun c × ((i ≤ c.n) × (1 ≤ k))) × PassesFirst c i k L)
  unfolding deadline_answer answered_due
  deadline_thirteen = Iff.trans (said (deadline_refusal c i k) 13 L) (Iff.trans (deadline_13 c i k L) (
    λ h.
        let q = (silents_last (run_checks c) (ask_check c i k)).0 h.0 in
        let may = (checked_silent c).0 q.0 in
        let there = (ask_silent c i k).0 q.1 in
        ((may, there), (passing_is c may.0 i k there.0 L).0 h.1),
    λ h. ((silents_last (run_checks c) (ask_check c i k)).1 ((checked_silent c).1 h.0.0, (ask_silent c i k).1 h.0.1), (passing_is c h.0.0.0 i k h.0.1.0 L).1 h.1),
  ))

-- and a question is answered exactly where no check has a reason
pub deadline_answered : (c : Chain) (i k : ℕ) → ((deadline_answer c i k).number ≡ 0) ↔ ((MayRun c × ((i ≤ c.n) × (1 ≤ k))) × ((j : ℕ) → IndexPasses c i k j → ⊥))
deadline_answered c i k = Iff.trans (deadline_when c i k) (
  λ h.
      let own = had c h.0.0 i k h.1.0.0 in
      ((h.0, h.1.0), λ j p. let l = (index_only c h.0.0 i k h.1.0.0 p.of.is).0 in (own j l).0 (h.1.1 j l) p),
  λ h. (h.0.0, (h.0.1, λ j l. (had c h.0.0.0 i k h.0.1.0 j l).1 (h.1 j))),
)
