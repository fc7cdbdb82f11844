-- What holds of every state that firings lead to from a fresh start, whatever their order (01, Firing; 004, Lemma 5.1).
--   Reached c s              such a state: clock and work done 0, each queue's balance, and no consumer ahead of what its threshold allows
--   reached_fresh            a fresh start is one
--   reached_slots            it has a count for each node and a slot for each queue
--   reached_done             no node has work done
--   reached_fired            a firing of a node that may fire leads to one
--   reached_along, reached_after
--                            so does a permitted order, from any of them and from a fresh start
--   Calm c s i               no node after N_i is over threshold; of i = 0: only the source may fire
--   fresh_calm               a fresh start is calm
use Rattle.std.specs.Prelude.{◌≡◌, cond, List, [], ◌∷◌, ltb, length, get_or, replicate}
use Rattle.std.proofs.Math.Path.{refl, ap}
use Rattle.std.proofs.Common.{sym, ◌∙◌, mul-zero, arith}
use Rattle.std.proofs.Math.Logic.{by_cases}
use Prim.Native.Nat.{ℕ, suc, ◌+◌, ◌*◌, ◌≤◌, ◌<◌}
use Rattle.std.proofs.Math.Decide.{ℕ_discrete, dec_lt}
use Rattle.std.proofs.lemmas.List.{length-replicate}
use Rattle.std.proofs.Math.ListN.{get_or-eq_default}
use Rattle.words.specs.Table.{slots, length_tab, slot_free}
use Rattle.chain.specs.Record.{row_of}
use Rattle.chain.specs.Sound.{Sound}
use Rattle.chain.specs.declared.Chain.{Chain}
use Rattle.sizing.specs.Sizes.{start}
use Rattle.state.specs.State.{count_at, held_at, done_at, fresh_run, zeros, fresh_count, fresh_held}
use Rattle.state.specs.Fired.{fired, Over, over_enough, Balance, Slots}
use Rattle.state.proofs.FiredLaws.{counts_length, holds_length, count_fired, count_other, held_sink, balance_kept}
use Rattle.state.proofs.FireLaws.{fire_accepts}
use Rattle.state.specs.declared.Run.{Run}
use Rattle.history.specs.History.{after, Permitted, EachFiring}

-- a state that firings lead to: "clock and work done stay 0", the slots past n are as a fresh start has them, each queue has its balance,
-- and its consumer's last firing found τ
pub record Reached (c : Chain) (s : Run) : Type 0 where
  pub clock : s.clock ≡ 0
  pub done : s.done ≡ replicate 16 0
  pub wide : length s.counts ≡ 17
  pub deep : length s.held ≡ 16
  pub balance : (j : ℕ) → j < c.n → Balance c s j
  pub owed : (j : ℕ) → j < c.n → 0 < count_at s (suc j)
      → (row_of c j).consume * count_at s (suc j) + (row_of c j).threshold ≤ start (row_of c j) + (row_of c j).produce * count_at s j + (row_of c j).consume
  pub counts_past : (j : ℕ) → c.n < j → count_at s j ≡ 0
  pub held_past : (j : ℕ) → c.n ≤ j → held_at s j ≡ 0

-- at a fresh start, a slot past the chain's queues is 0
fresh_past : (c : Chain) (j : ℕ) → c.n ≤ j → held_at (fresh_run c) j ≡ 0
unfolding fresh_run
fresh_past c j l = by_cases (dec_lt j 16)
    (λ m. slot_free (λ i. start (row_of c i)) 0 16 c.n j 0 m l)
    (λ f. get_or-eq_default (slots (λ i. start (row_of c i)) 0 16 c.n) 0 {n = j} (omega (arith, length_tab 16 (λ i. cond (ltb i c.n) (start (row_of c i)) 0))))

-- what a queue starts with, and no firing yet
fresh_balance : (s p d N M x : ℕ) → N ≡ 0 → M ≡ 0 → x ≡ s → s + p * N ≡ x + d * M
fresh_balance s p d N M x e f g = rw (e, f, g) (omega (arith, mul-zero p, mul-zero d))

-- a fresh start is one
pub reached_fresh : {c : Chain} → Sound c → Reached c (fresh_run c)
unfolding fresh_run
reached_fresh {c} k = record {
  clock = refl;
  done = refl;
  wide = length-replicate {A = ℕ} 17 0;
  deep = length_tab 16 (λ i. cond (ltb i c.n) (start (row_of c i)) 0);
  balance = λ j l. fresh_balance (start (row_of c j)) (row_of c j).produce (row_of c j).consume _ _ _ (fresh_count c j) (fresh_count c (suc j)) (fresh_held k j l);
  owed = λ j l h. absurd (omega (arith, fresh_count c (suc j)));
  counts_past = λ j l. fresh_count c j;
  held_past = fresh_past c;
}

-- what is owed of one queue: its producer fires
put_owed : (s p τ d N M N' M' : ℕ) → N' ≡ N + 1 → M' ≡ M → (0 < M → d * M + τ ≤ s + p * N + d) → 0 < M' → d * M' + τ ≤ s + p * N' + d
put_owed s p τ d N M N' M' e f k = rw (e, f) (λ z. omega (arith, k z))

-- its consumer fires
take_owed : (s p τ d N M x N' M' : ℕ) → N' ≡ N → M' ≡ M + 1 → τ ≤ x → s + p * N ≡ x + d * M → 0 < M' → d * M' + τ ≤ s + p * N' + d
take_owed s p τ d N M x N' M' e f l b = rw (e, f) (λ z. omega (arith, b))

-- neither fires
keep_owed : (s p τ d N M N' M' : ℕ) → N' ≡ N → M' ≡ M → (0 < M → d * M + τ ≤ s + p * N + d) → 0 < M' → d * M' + τ ≤ s + p * N' + d
keep_owed s p τ d N M N' M' e f k = rw (e, f) k

-- over threshold, of a node said by an equation
over_at : (c : Chain) (s : Run) (i j : ℕ) → i ≡ suc j → Over c s i → (row_of c j).threshold ≤ held_at s j
over_at c s i j e o = rw e at o

module _ {c : Chain} {s : Run} (k : Sound c) (r : Reached c s) where
  -- it has a count for each node and a slot for each queue
  pub reached_slots : Slots c.n s
  reached_slots = record { counts = omega (arith, r.wide, k.count.1); held = omega (arith, r.deep, k.count.1) }

  -- no node has work done
  pub reached_done : (j : ℕ) → done_at s j ≡ 0
  reached_done j = ap (λ (l : List ℕ). get_or l j 0) r.done ∙ zeros 16 j

  -- a firing keeps that no consumer is ahead of what its threshold allows
  owed_kept : (i : ℕ) → i ≤ c.n → Over c s i → (j : ℕ) → j < c.n → 0 < count_at (fired c s i) (suc j)
      → (row_of c j).consume * count_at (fired c s i) (suc j) + (row_of c j).threshold ≤ start (row_of c j) + (row_of c j).produce * count_at (fired c s i) j + (row_of c j).consume
  owed_kept i m o j l = by_cases (ℕ_discrete j i)
      (λ e. put_owed _ _ _ _ _ _ _ _ (rw e (count_fired c s i (omega (arith, reached_slots.counts)))) (count_other c s i (suc j) (λ f. omega arith)) (r.owed j l))
      (λ ne. by_cases (ℕ_discrete (suc j) i)
      (λ e. take_owed _ _ _ _ _ _ (held_at s j) _ _ (count_other c s i j ne) (rw e (count_fired c s i (omega (arith, reached_slots.counts)))) (over_at c s i j (sym e) o) (r.balance j l))
      (λ ne'. keep_owed _ _ _ _ _ _ _ _ (count_other c s i j ne) (count_other c s i (suc j) ne') (r.owed j l)))

  -- a firing of a node that may fire leads to such a state
  pub reached_fired : (i : ℕ) → i ≤ c.n → Over c s i → Reached c (fired c s i)
  unfolding fired
  reached_fired i m o = record {
    clock = r.clock;
    done = r.done;
    wide = counts_length c s i ∙ r.wide;
    deep = holds_length c s i ∙ r.deep;
    balance = λ j l. balance_kept c s i j reached_slots l (λ e. over_enough k s j l (over_at c s i j e o)) (r.balance j l);
    owed = owed_kept i m o;
    counts_past = λ j l. count_other c s i j (λ e. omega arith) ∙ r.counts_past j l;
    held_past = λ j l. held_sink c s i j l (λ e. omega arith) ∙ r.held_past j l;
  }

-- each firing of a permitted order is of a node that may fire
pub reached_along : {c : Chain} {s : Run} → Sound c → (h : List ℕ) → Reached c s → Permitted c s h → Reached c (after c s h)
unfolding after EachFiring
reached_along k [] r p = r
reached_along {c} {s} k (i ∷ h) r p =
    let may = ((fire_accepts c s i).0 p.0).1.1 in
    reached_along {s = fired c s i} k h (reached_fired k r i may.node may.over) p.1

-- and so from a fresh start
pub reached_after : {c : Chain} → Sound c → (h : List ℕ) → Permitted c (fresh_run c) h → Reached c (after c (fresh_run c) h)
reached_after k h = reached_along k h (reached_fresh k)

-- no node after N_i may fire
abbrev pub Calm : Chain → Run → ℕ → Type 0
Calm c s i = (j : ℕ) → i ≤ j → j < c.n → held_at s j < (row_of c j).threshold

-- at a fresh start no node but the source may fire
pub fresh_calm : {c : Chain} → Sound c → (i : ℕ) → Calm c (fresh_run c) i
fresh_calm k i j m l = omega (arith, fresh_held k j l, (k.rows j l).threshold.0)

-- what is held, from the counts
pub held_alike : (s p d N M x N' M' x' : ℕ) → N ≡ N' → M ≡ M' → s + p * N ≡ x + d * M → s + p * N' ≡ x' + d * M' → x ≡ x'
held_alike s p d N M x N' M' x' e f b b' = omega (arith, rw (e, f) at b, b')
