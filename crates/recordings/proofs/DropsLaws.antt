-- What a firing does whose production is dropped whole (02, Item 2).
--   dropped_output, _input, _other
--                              its output queue is as it was, its input queue has c less, said with no minus, and every other queue is as it was
--   dropped_whole, _slots      it keeps the number of slots
--   dropped_keeps              and the clock and all work done
--   fired_dropped              had the production been put in, its queue would have p more, and nothing else would be other
--   dropped_balance            so p tokens more of its output queue are lost, and none of any other
--   dropped_filled             and no queue passes its capacity
use Rattle.std.specs.Prelude.{◌≡◌, ◌≢◌, cond, eqb, length}
use Rattle.std.proofs.Math.Path.{refl}
use Rattle.std.proofs.Common.{sym, ap, subst, ◌∙◌, add-zero, arith, eq-eqb, ne_eqb}
use Rattle.std.proofs.Math.Logic.{by_cases}
use Prim.Native.Nat.{ℕ, zero, suc, ◌+◌, ◌-◌, ◌≤◌, ◌<◌}
use Rattle.std.proofs.Math.Decide.{ℕ_discrete}
use Rattle.std.proofs.Math.ListN.{length-set}
use Rattle.std.proofs.Math.Seq.{get_or-set_same, get_or-set_other}
use Rattle.chain.specs.Record.{row_of}
use Rattle.chain.specs.declared.Chain.{Chain}
use Rattle.sizing.specs.Sizes.{capacity_of}
use Rattle.state.specs.State.{held_at}
use Rattle.state.specs.Fired.{consumed, fired, Over, Slots, BalanceWith, over_enough}
use Rattle.state.proofs.FiredLaws.{counts_length, held_output, held_input, held_other, balance_with_kept}
use Rattle.state.specs.declared.Run.{Run}
use Rattle.slots.specs.Runs.{Whole}
use Rattle.instants.specs.Filled.{Filled}
use Rattle.recordings.specs.Steps.{dropped}

module _ (c : Chain) (s : Run) where
  pub dropped_output : (i : ℕ) → held_at (dropped c s i) i ≡ held_at s i
  unfolding consumed
  dropped_output zero = refl
  dropped_output (suc j) = get_or-set_other s.held j (suc j) _ 0 (λ e. omega arith)

  pub dropped_input : (j : ℕ) → j < length s.held → (row_of c j).consume ≤ held_at s j → held_at (dropped c s (suc j)) j + (row_of c j).consume ≡ held_at s j
  unfolding consumed
  dropped_input j l enough = omega (arith, get_or-set_same s.held j (held_at s j - (row_of c j).consume) 0 l)

  pub dropped_other : (i j : ℕ) → suc j ≢ i → held_at (dropped c s i) j ≡ held_at s j
  unfolding consumed
  dropped_other zero j ne = refl
  dropped_other (suc k) j ne = get_or-set_other s.held k j _ 0 (λ e. ne (ap suc e))

  holds_kept : (i : ℕ) → length (dropped c s i).held ≡ length s.held
  unfolding consumed
  holds_kept zero = refl
  holds_kept (suc j) = length-set s.held j _

  pub dropped_whole : (i : ℕ) → Whole s → Whole (dropped c s i)
  dropped_whole i w = record { counts = counts_length c s i ∙ w.counts; held = holds_kept i ∙ w.held; done = w.done }

  pub dropped_slots : {n : ℕ} (i : ℕ) → Slots n s → Slots n (dropped c s i)
  dropped_slots i k = record { counts = omega (arith, k.counts, counts_length c s i); held = omega (arith, k.held, holds_kept i) }

-- the clock and all work done are as they were
pub dropped_keeps : (c : Chain) (s : Run) (i : ℕ) → ((dropped c s i).clock ≡ s.clock) × ((dropped c s i).done ≡ s.done)
dropped_keeps c s i = (refl, refl)

-- a firing of N_i, which has an output queue and finds what it takes
module _ (c : Chain) (s : Run) (i : ℕ) (has : i < c.n) (k : Slots c.n s) (enough : (j : ℕ) → j < c.n → i ≡ suc j → (row_of c j).consume ≤ held_at s j) where
  -- "dropped whole: nothing is put into the queue", and "all else of the firing happens as ever"
  pub fired_dropped : (j : ℕ) → j < c.n → held_at (fired c s i) j ≡ held_at (dropped c s i) j + cond (eqb i j) (row_of c i).produce 0
  fired_dropped j l = by_cases (ℕ_discrete i j)
      (λ e. subst (λ (m : ℕ). held_at (fired c s i) m ≡ held_at (dropped c s i) m + cond (eqb i m) (row_of c i).produce 0) e
      (held_output c s i has (omega (arith, k.held)) ∙ ap (λ (x : ℕ). x + (row_of c i).produce) (sym (dropped_output c s i)) ∙ simp (eq-eqb i i refl)))
      (λ ne. by_cases (ℕ_discrete (suc j) i)
      (λ e. same j (subst (λ (m : ℕ). held_at (fired c s m) j ≡ held_at (dropped c s m) j) e (took j l (sym e))) ne)
      (λ ne'. same j (held_other c s i j (λ e. ne (sym e)) ne' ∙ sym (dropped_other c s i j ne')) ne))
    where
      same : (m : ℕ) → held_at (fired c s i) m ≡ held_at (dropped c s i) m → i ≢ m → held_at (fired c s i) m ≡ held_at (dropped c s i) m + cond (eqb i m) (row_of c i).produce 0
      same m e ne = e ∙ sym (add-zero _) ∙ simp (ne_eqb i m ne)

      took : (m : ℕ) → m < c.n → i ≡ suc m → held_at (fired c s (suc m)) m ≡ held_at (dropped c s (suc m)) m
      took m h e = omega (arith, held_input c s m (omega (arith, k.held)) (enough m h e), dropped_input c s m (omega (arith, k.held)) (enough m h e))

  pub dropped_balance : (j : ℕ) → j < c.n → (x : ℕ) → BalanceWith c s j x → BalanceWith c (dropped c s i) j (x + cond (eqb i j) (row_of c i).produce 0)
  dropped_balance j l x b = omega (arith, balance_with_kept c s i j k l (enough j l) x b, fired_dropped j l)

-- what a step needs is kept: a queue that is dropped into holds no more than before
pub dropped_filled : {c : Chain} {s : Run} → Filled c s → (i : ℕ) → Over c s i → Filled c (dropped c s i)
dropped_filled {c} {s} f i o = record { chain = f.chain; whole = dropped_whole c s i f.whole; within = within; below = f.below }
  where
    within : (j : ℕ) → j < c.n → held_at (dropped c s i) j ≤ capacity_of (row_of c j)
    within j l = by_cases (ℕ_discrete (suc j) i)
        (λ e. omega (
          arith,
          subst (λ (m : ℕ). held_at (dropped c s m) j + (row_of c j).consume ≡ held_at s j) e
              (dropped_input c s j (omega (arith, f.whole.held, f.chain.chain.count.1)) (over_enough f.chain.chain s j l (subst (Over c s) (sym e) o))),
          f.within j l,
        ))
        (λ ne. rw (dropped_other c s i j ne) (f.within j l))
