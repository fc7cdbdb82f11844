-- Laws of specs/Fired.antt that rest on a definition which an edit of must-fail/ changes.
-- What one firing does (01, Firing; 004, definition 5.2).
--   count_fired, _other      N_i has fired once more, and no other node
--   held_output, _input, _other, _sink
--                            its output queue has p more and its input queue c less, said with no minus; every other queue is as it was
--   counts-, holds_length    a firing keeps the number of slots
--   Slots n s, slots_kept    the state has a slot for each node and queue, and a firing keeps them
--   balance_with_kept, balance_kept
--                            a firing keeps each queue's balance
use Rattle.std.specs.Prelude.{◌≡◌, ◌≢◌, ℕ, suc, ◌+◌, ◌-◌, ◌≤◌, ◌<◌}
use Rattle.std.proofs.Common.{sym, ◌∙◌, add-zero, sub-add_cancel, arith, lt-ltb, le-ltb}
use Rattle.std.proofs.Math.Logic.{by_cases}
use Rattle.std.proofs.Math.Decide.{ℕ_discrete}
use Rattle.std.proofs.Math.ListN.{length, get_or, length-set}
use Rattle.std.proofs.Math.Seq.{get_or-set_same, get_or-set_other}
use Rattle.chain.specs.Record.{row_of}
use Rattle.chain.specs.declared.Chain.{Chain}
use Rattle.state.specs.State.{count_at, held_at}
use Rattle.state.specs.declared.Run.{Run}
use Rattle.state.specs.Fired.{produced, consumed, fired, length_produced, produced_other, length_consumed, consumed_other, Balance, BalanceWith, put_balance, take_balance, keep_balance, Slots}

module _ (c : Chain) (s : Run) where
  pub count_fired : (i : ℕ) → i < length s.counts → count_at (fired c s i) i ≡ count_at s i + 1
  unfolding fired
  count_fired i l = get_or-set_same s.counts i _ 0 l

  pub count_other : (i j : ℕ) → j ≢ i → count_at (fired c s i) j ≡ count_at s j
  unfolding fired
  count_other i j ne = get_or-set_other s.counts i j _ 0 ne

  pub held_output : (i : ℕ) → i < c.n → i < length s.held → held_at (fired c s i) i ≡ held_at s i + (row_of c i).produce
  unfolding fired produced
  held_output i l m = consumed_other c i (produced c i s.held) i (λ e. omega arith) ∙ simp (lt-ltb i c.n l, get_or-set_same s.held i (held_at s i + (row_of c i).produce) 0 m)

  pub held_input : (j : ℕ) → j < length s.held → (row_of c j).consume ≤ held_at s j → held_at (fired c s (suc j)) j + (row_of c j).consume ≡ held_at s j
  unfolding fired consumed
  held_input j m l =
      let before : get_or (produced c (suc j) s.held) j 0 ≡ held_at s j = produced_other c (suc j) s.held j (λ e. omega arith) in
      let slot : j < length (produced c (suc j) s.held) = omega (arith, length_produced c (suc j) s.held) in
      rw (get_or-set_same (produced c (suc j) s.held) j (get_or (produced c (suc j) s.held) j 0 - (row_of c j).consume) 0 slot, before) (sub-add_cancel l)

  pub held_other : (i j : ℕ) → j ≢ i → suc j ≢ i → held_at (fired c s i) j ≡ held_at s j
  unfolding fired
  held_other i j ne ne' = consumed_other c i (produced c i s.held) j ne' ∙ produced_other c i s.held j ne

  -- the sink has no output queue
  pub held_sink : (i j : ℕ) → c.n ≤ j → suc j ≢ i → held_at (fired c s i) j ≡ held_at s j
  unfolding fired produced
  held_sink i j l ne = consumed_other c i (produced c i s.held) j ne ∙ by_cases (ℕ_discrete j i) (λ e. simp (le-ltb i c.n (omega arith))) (λ n. produced_other c i s.held j n)

  pub counts_length : (i : ℕ) → length (fired c s i).counts ≡ length s.counts
  unfolding fired
  counts_length i = length-set s.counts i _

  pub holds_length : (i : ℕ) → length (fired c s i).held ≡ length s.held
  unfolding fired
  holds_length i = length_consumed c i _ ∙ length_produced c i s.held

pub slots_kept : {n : ℕ} (c : Chain) (s : Run) (i : ℕ) → Slots n s → Slots n (fired c s i)
slots_kept c s i k = record { counts = omega (arith, k.counts, counts_length c s i); held = omega (arith, k.held, holds_length c s i) }

module _ (c : Chain) (s : Run) (i j : ℕ) (k : Slots c.n s) (l : j < c.n) (enough : i ≡ suc j → (row_of c j).consume ≤ held_at s j) where
  pub balance_with_kept : (x : ℕ) → BalanceWith c s j x → BalanceWith c (fired c s i) j x
  balance_with_kept x b = by_cases (ℕ_discrete j i)
      (λ e. put_balance _ _ _ _ _ _ _ _ _ _ (rw e (count_fired c s i (omega (arith, k.counts))))
      (count_other c s i (suc j) (λ f. omega arith)) (rw e (held_output c s i (omega arith) (omega (arith, k.held)))) b)
      (λ ne. by_cases (ℕ_discrete (suc j) i)
      (λ e. take_balance _ _ _ _ _ _ _ _ _ _ (count_other c s i j ne) (rw e (count_fired c s i (omega (arith, k.counts)))) (rw (← e) (held_input c s j (omega (arith, k.held)) (enough (sym e)))) b)
      (λ ne'. keep_balance _ _ _ _ _ _ _ _ _ _ (count_other c s i j ne) (count_other c s i (suc j) ne') (held_other c s i j ne ne') b))

  pub balance_kept : Balance c s j → Balance c (fired c s i) j
  balance_kept b = balance_with_kept 0 (b ∙ sym (add-zero _)) ∙ add-zero _
