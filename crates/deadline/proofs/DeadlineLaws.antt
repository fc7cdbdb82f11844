-- Laws of specs/Deadline.antt that rest on a definition which an edit of must-fail/ changes.
-- The deadline of a node's k-th firing (01, Firing; 000, definition 1).
--   index_exact, _silent, _only
--                              13 speaks exactly under its condition, is silent exactly elsewhere, and has its own number
--   earlier_mono, _shift, _some
--                              the index grows with k, moves along with whole exchanges of tokens, and is never 0
--   deadline_mono              deadlines are monotone in the index
--   deadline_shift             and shift by Δ_0×y where each queue below is fed what it gives: p×Δ_(i−1) = c×Δ_i
use Rattle.std.proofs.Math.Logic.Iff
use Rattle.std.specs.Prelude.{◌≡◌, ◌↔◌, ◌⊎◌, ltb}
use Rattle.std.proofs.Math.Path.{refl, subst}
use Rattle.std.proofs.Common.{ap, inl, inr, ⊎_elim, le-leb}
use Rattle.std.proofs.Math.Logic.{by_cases}
use Prim.Native.Nat.{ℕ, zero, suc, ◌+◌, ◌-◌, ◌*◌, ◌/◌, ◌≤◌, ◌<◌}
use Rattle.std.proofs.Math.Nat.{mul-le-mul_right, le_step, le_refl}
use Rattle.std.proofs.Math.Decide.{dec_le}
use native.Mathlib.Omega.{arith}
use Rattle.std.proofs.lemmas.Bool.{lt-leb}
use Rattle.arith.specs.Division.{floor_mono, floor_shift}
use Rattle.words.specs.declared.Queue.{Queue}
use Rattle.chain.specs.Tests.{below_true, below_false, sum_iff}
use Rattle.chain.specs.Refusals.{refused, test, Silent, or_says, or_silents, test_exact, test_silent, Only, only_test, only_or}
use Rattle.chain.specs.Record.{row_of}
use Rattle.chain.specs.declared.Chain.{Chain}
use Rattle.sizing.specs.Sizes.{capacity_of}
use Rattle.sizing.specs.Checks.{limit}
use Rattle.deadline.specs.Deadline.{earlier, deadline, index_check, index, FirstPassing}

module _ (c : Chain) where
  index_here : (i k j : ℕ) → i ≤ j → index c i k j ≡ k
  unfolding index
  index_here zero k j l = refl
  index_here (suc i) k j l = simp (le-leb (suc i) j l)

  index_down : (i k j : ℕ) → j ≤ i → index c (suc i) k j ≡ index c i (earlier (row_of c i) k) j
  unfolding index
  index_down i k j l = simp (lt-leb (suc i) j (omega arith))

  -- one node further down
  passing_here : (i k : ℕ) → limit < k → FirstPassing c i k i
  passing_here i k l = record { node = le_refl i; passes = rw (index_here i k i (le_refl i)) l; before = λ j a b. absurd (omega arith) }

  passing_down : (i k L : ℕ) → k ≤ limit → FirstPassing c i (earlier (row_of c i) k) L → FirstPassing c (suc i) k L
  passing_down i k L l f = record {
    node = le_step f.node;
    passes = rw (index_down i k L f.node) f.passes;
    before = λ j a b. by_cases (dec_le j i) (λ h. rw (index_down i k j h) (f.before j a h)) (λ h. rw (index_here (suc i) k j (omega arith)) l);
  }

  -- the other way: the index at the node asked passes, or one further down is the first
  passing_up : (i k L : ℕ) → FirstPassing c (suc i) k L → ((limit < k) × (L ≡ suc i)) ⊎ ((k ≤ limit) × FirstPassing c i (earlier (row_of c i) k) L)
  passing_up i k L f = by_cases (dec_le L i)
      (λ h. inr (
        subst (λ (m : ℕ). m ≤ limit) (index_here (suc i) k (suc i) (le_refl (suc i))) (f.before (suc i) (omega arith) (le_refl (suc i))),
        record {
          node = h;
          passes = subst (λ (m : ℕ). limit < m) (index_down i k L h) f.passes;
          before = λ j a b. subst (λ (m : ℕ). m ≤ limit) (index_down i k j b) (f.before j a (omega arith));
        },
      ))
      (λ n. inl (subst (λ (m : ℕ). limit < m) (index_here (suc i) k L (omega arith)) f.passes, omega (arith, f.node)))

  pub index_exact : (i k L : ℕ) → (index_check c i k ≡ refused 13 L) ↔ FirstPassing c i k L
  unfolding index_check
  index_exact zero k L = Iff.trans (Iff.trans (test_exact 13 L 0 (λ e. omega arith) (ltb limit k)) (Iff.and (below_true limit k) Iff.rfl)) (
    λ h. rw h.1 (passing_here 0 k h.0),
    λ f. let z : L ≡ 0 = omega (arith, f.node) in (subst (λ (m : ℕ). limit < m) (index_here 0 k L (omega arith)) f.passes, z),
  )
  index_exact (suc i) k L =
      Iff.trans (or_says 13 L (λ e. omega arith) (test 13 (suc i) (ltb limit k)) (index_check c i (earlier (row_of c i) k)))
      (Iff.trans (sum_iff (Iff.trans (test_exact 13 L (suc i) (λ e. omega arith) (ltb limit k)) (Iff.and (below_true limit k) Iff.rfl))
      (Iff.and (Iff.trans (test_silent 13 (suc i) (λ e. omega arith) (ltb limit k)) (below_false limit k)) (index_exact i (earlier (row_of c i) k) L)))
      (⊎_elim (λ h. rw h.1 (passing_here (suc i) k h.0)) (λ h. passing_down i k L h.0 h.1), passing_up i k L))

  pub index_silent : (i k : ℕ) → Silent (index_check c i k) ↔ ((j : ℕ) → j ≤ i → index c i k j ≤ limit)
  unfolding index_check
  index_silent zero k = Iff.trans (Iff.trans (test_silent 13 0 (λ e. omega arith) (ltb limit k)) (below_false limit k))
      (λ h j l. rw (index_here 0 k j (omega arith)) h, λ h. subst (λ (m : ℕ). m ≤ limit) (index_here 0 k 0 (omega arith)) (h 0 (omega arith)))
  index_silent (suc i) k =
      Iff.trans (or_silents (test 13 (suc i) (ltb limit k)) (index_check c i (earlier (row_of c i) k)))
      (Iff.trans (Iff.and (Iff.trans (test_silent 13 (suc i) (λ e. omega arith) (ltb limit k)) (below_false limit k)) (index_silent i (earlier (row_of c i) k))) (out, back))
    where
      out : (k ≤ limit) × ((j : ℕ) → j ≤ i → index c i (earlier (row_of c i) k) j ≤ limit) → (j : ℕ) → j ≤ suc i → index c (suc i) k j ≤ limit
      out h j l = by_cases (dec_le j i) (λ m. rw (index_down i k j m) (h.1 j m)) (λ n. rw (index_here (suc i) k j (omega arith)) h.0)

      back : ((j : ℕ) → j ≤ suc i → index c (suc i) k j ≤ limit) → (k ≤ limit) × ((j : ℕ) → j ≤ i → index c i (earlier (row_of c i) k) j ≤ limit)
      back h = (
        subst (λ (m : ℕ). m ≤ limit) (index_here (suc i) k (suc i) (le_refl (suc i))) (h (suc i) (le_refl (suc i))),
        λ j l. subst (λ (m : ℕ). m ≤ limit) (index_down i k j l) (h j (omega arith)),
      )

  pub index_only : (i k : ℕ) → Only 13 (index_check c i k)
  unfolding index_check
  index_only zero k = only_test 13 0 (ltb limit k)
  index_only (suc i) k = only_or (test 13 (suc i) (ltb limit k)) (index_check c i (earlier (row_of c i) k)) (only_test 13 (suc i) (ltb limit k)) (index_only i (earlier (row_of c i) k))

-- an index is at least 1
pub earlier_some : (q : Queue) (k : ℕ) → 1 ≤ earlier q k
unfolding earlier
earlier_some q k = omega arith

pub earlier_mono : (q : Queue) (j k : ℕ) → j ≤ k → earlier q j ≤ earlier q k
unfolding earlier
earlier_mono q j k l =
    omega (
      arith,
      floor_mono ((j - 1) * q.consume + capacity_of q) ((k - 1) * q.consume + capacity_of q)
          q.produce (omega (arith, mul-le-mul_right {m = j - 1} {n = k - 1} q.consume (omega arith))),
    )

-- d firings of the producer give what e firings of the consumer take
pub earlier_shift : (q : Queue) (k d e : ℕ) → 0 < q.produce → 1 ≤ k → q.produce * d ≡ q.consume * e → earlier q (k + e) ≡ earlier q k + d
unfolding earlier
earlier_shift q k d e some first even =
    let l : k + e - 1 ≡ (k - 1) + e = omega arith in
    let s : (k + e - 1) * q.consume + capacity_of q ≡ (k - 1) * q.consume + capacity_of q + q.produce * d = rw l (omega (arith, even)) in
    omega (arith, ap (λ (n : ℕ). n / q.produce) s, floor_shift ((k - 1) * q.consume + capacity_of q) q.produce d some)

module _ (c : Chain) where
  pub deadline_mono : (i j k : ℕ) → j ≤ k → deadline c i j ≤ deadline c i k
  unfolding deadline
  deadline_mono zero j k l = mul-le-mul_right c.period (omega arith)
  deadline_mono (suc i) j k l = deadline_mono i (earlier (row_of c i) j) (earlier (row_of c i) k) (earlier_mono (row_of c i) j k l)

  -- only the queues before N_i matter
  pub deadline_shift : (Δ : ℕ → ℕ) (i k : ℕ) → ((j : ℕ) → j < i → 0 < (row_of c j).produce) → ((j : ℕ) → j < i → (row_of c j).produce * Δ j ≡ (row_of c j).consume * Δ (suc j)) → 1 ≤ k
      → deadline c i (k + Δ i) ≡ deadline c i k + Δ 0 * c.period
  unfolding deadline
  deadline_shift Δ zero k some even first = let l : k + Δ 0 - 1 ≡ (k - 1) + Δ 0 = omega arith in rw l (omega arith)
  deadline_shift Δ (suc i) k some even first =
      let top : i < suc i = le_refl (suc i) in
      rw (earlier_shift (row_of c i) k (Δ i) (Δ (suc i)) (some i top) first (even i top))
      (deadline_shift Δ i (earlier (row_of c i) k) (λ j h. some j (le_step h)) (λ j h. even j (le_step h)) (earlier_some (row_of c i) k))
