-- What a manual firing and an immediate run leave, slot by slot, and that their laws leave one state only (01, Firing).
--   c, s, t, i, k            a chain, run states, a node, source firings
--   FiredOnce c s i t, SlotsKept n s t
--                            what an accepted firing of N_i makes of the slots up to n (Demand2); t has the slots past n of s (InSlots)
--   fire_only                these two and the number of slots leave one state, the one that is answered
--   CountIs c k i m          01's count of N_i after k source firings is m (RunsInNumbers)
--   RunsTo c k t             t has these counts, what they leave in each queue, and all else 0
--   immediate_to, immediate_only
--                            the immediate run ends in such a state, and there is no other
use Rattle.std.specs.Prelude.{◌≡◌, List, ℕ, zero, suc, ◌+◌, ◌*◌, ◌≤◌, ◌<◌, length, get_or, replicate}
use Rattle.std.proofs.Common.{sym, ap, subst, ◌∙◌, arith, ext_get_or}
use Rattle.std.proofs.Math.Logic.{by_cases}
use Rattle.std.proofs.Math.Decide.{ℕ_discrete, dec_lt, dec_le}
use Rattle.ardenquill.specs.Runs.{count_at, held_at, fire_answer}
use Rattle.ardenquill.specs.Immediate.{immediate_answer}
use Rattle.ardenquill.specs.Records.{Chain, Run}
use Rattle.promises.specs.Replay.{p_of, τ_of, c_of, AllSlots, Runs}
use Rattle.promises.specs.Zeros.{RunSlots}
use Rattle.promises.specs.InSlots.{SlotsKept}
use Rattle.promises.specs.Demand1.{fire_kept, immediate_slots}
use Rattle.promises.specs.Demand2.{FiredOnce, fire_does, immediate_exact, immediate_rest}
use Rattle.promises.specs.RunsInNumbers.{CountIs, of_source, below_threshold, from_threshold, count_one}
use Rattle.promises.specs.HandedOut.{by_fire, by_immediate, handed_out_slots, handed_out_passes}

-- states of equal parts are equal
same_state : {s t : Run} → s.clock ≡ t.clock → s.counts ≡ t.counts → s.held ≡ t.held → s.done ≡ t.done → s ≡ t
same_state k a h d = λ i. record { clock = k i; counts = a i; held = h i; done = d i }

-- lists of as many slots that agree in every slot are equal
same_list : (N : ℕ) (x y : List ℕ) → length x ≡ N → length y ≡ N → ((i : ℕ) → get_or x i 0 ≡ get_or y i 0) → x ≡ y
same_list N x y a b e = ext_get_or 0 x y (a ∙ sym b) (λ i l. e i)

-- "Each step hands the whole run state back": of an accepted firing these laws leave no slot open
pub fire_only : (c : Chain) (s : Run) (i : ℕ) → AllSlots s → (fire_answer c s i).number ≡ 0 → (t : Run) → AllSlots t → FiredOnce c s i t → SlotsKept c.n s t → t ≡ (fire_answer c s i).run
fire_only c s i slots ok t long f k = same_state
    (f.clock ∙ sym g.clock)
    (same_list 17 t.counts u.counts long.counts wide.counts count)
    (same_list 16 t.held u.held long.held wide.held held)
    (f.done ∙ sym g.done)
  where
    u : Run
    u = (fire_answer c s i).run

    g : FiredOnce c s i u
    g = fire_does c s i slots ok

    wide : AllSlots u
    wide = handed_out_slots (by_fire s i slots ok)

    count : (m : ℕ) → get_or t.counts m 0 ≡ get_or u.counts m 0
    count m = by_cases (ℕ_discrete m i)
        (λ e. subst (λ (x : ℕ). count_at t x ≡ count_at u x) (sym e) (f.count ∙ sym g.count))
        (λ n. f.counts m n ∙ sym (g.counts m n))

    same_less : (x y a b : ℕ) → x + a ≡ b → y + a ≡ b → x ≡ y
    same_less x y a b p q = omega arith

    held : (j : ℕ) → get_or t.held j 0 ≡ get_or u.held j 0
    held j = by_cases (dec_lt j c.n)
        (λ l. by_cases (ℕ_discrete j i)
        (λ e. subst (λ (x : ℕ). held_at t x ≡ held_at u x) (sym e) (f.output (omega arith) ∙ sym (g.output (omega arith))))
        (λ n. by_cases (ℕ_discrete (suc j) i)
        (λ e. same_less _ _ _ _ (f.input j (sym e)) (g.input j (sym e)))
        (λ o. f.others j n o ∙ sym (g.others j n o))))
        (λ n. let l : c.n ≤ j = omega arith in k.held j l ∙ sym ((fire_kept c s i).held j l))

-- "Exact counts: F_0 = k; F_(i+1)", what they leave in each queue, "clock and work done stay 0", and nothing in the slots past n
pub record RunsTo (c : Chain) (k : ℕ) (t : Run) : Type 0 where
  pub clock : t.clock ≡ 0
  pub counts : (i : ℕ) → i ≤ c.n → CountIs c k i (get_or t.counts i 0)
  pub held : (j : ℕ) → j < c.n → p_of c j * get_or t.counts j 0 ≡ get_or t.held j 0 + c_of c j * get_or t.counts (suc j) 0
  pub done : t.done ≡ replicate 16 0
  pub past : RunSlots c.n t

module _ (c : Chain) (k : ℕ) (ran : Runs c k) where
  -- the counts that the run answers
  counts_are : (i : ℕ) → i ≤ c.n → CountIs c k i (get_or (immediate_answer c k).run.counts i 0)
  counts_are zero l = subst (CountIs c k 0) (sym (immediate_exact c k ran).0) of_source
  counts_are (suc i) l =
      let before : CountIs c k i (count_at (immediate_answer c k).run i) = counts_are i (omega arith) in
      let step = (immediate_exact c k ran).1 i l in
      by_cases (dec_lt (p_of c i * count_at (immediate_answer c k).run i) (τ_of c i))
      (λ few. subst (CountIs c k (suc i)) (sym (step.0 few)) (below_threshold before few))
      (λ n. let enough : τ_of c i ≤ p_of c i * count_at (immediate_answer c k).run i = omega arith in subst (CountIs c k (suc i)) (sym (step.1 enough)) (from_threshold before enough))

  -- the immediate run ends in such a state
  pub immediate_to : RunsTo c k (immediate_answer c k).run
  immediate_to = record {
    clock = (immediate_rest c k ran).0;
    counts = counts_are;
    held = λ j l. sym (zero_first _) ∙ (handed_out_passes (by_immediate k ran) j l).balance;
    done = (immediate_rest c k ran).1;
    past = immediate_slots c k ran;
  }
    where
      zero_first : (x : ℕ) → 0 + x ≡ x
      zero_first x = omega arith

  -- and there is no other
  pub immediate_only : (t : Run) → RunsTo c k t → t ≡ (immediate_answer c k).run
  immediate_only t r = same_state
      (r.clock ∙ sym g.clock)
      (ext_get_or 0 t.counts u.counts (r.past.counts.long ∙ sym g.past.counts.long) count)
      (ext_get_or 0 t.held u.held (r.past.held.long ∙ sym g.past.held.long) held)
      (r.done ∙ sym g.done)
    where
      u : Run
      u = (immediate_answer c k).run

      g : RunsTo c k u
      g = immediate_to

      same : (i : ℕ) → i ≤ c.n → get_or t.counts i 0 ≡ get_or u.counts i 0
      same i l = count_one c k (r.counts i l) (g.counts i l)

      count : (i : ℕ) → i < length t.counts → get_or t.counts i 0 ≡ get_or u.counts i 0
      count i l = by_cases (dec_le i c.n) (λ m. same i m)
          (λ n. r.past.counts.past i (omega arith) (omega (arith, r.past.counts.long)) ∙ sym (g.past.counts.past i (omega arith) (omega (arith, r.past.counts.long))))

      same_left : (x y p q a b v w : ℕ) → p * a ≡ x + q * b → p * v ≡ y + q * w → a ≡ v → b ≡ w → x ≡ y
      same_left x y p q a b v w e f m n = omega (arith, e, f, ap (λ (z : ℕ). p * z) m, ap (λ (z : ℕ). q * z) n)

      held : (j : ℕ) → j < length t.held → get_or t.held j 0 ≡ get_or u.held j 0
      held j l = by_cases (dec_lt j c.n)
          (λ m. same_left _ _ _ _ _ _ _ _ (r.held j m) (g.held j m) (same j (omega arith)) (same (suc j) m))
          (λ n. r.past.held.past j (omega arith) (omega (arith, r.past.held.long)) ∙ sym (g.past.held.past j (omega arith) (omega (arith, r.past.held.long))))
