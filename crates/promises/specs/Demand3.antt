-- Demand 3, "for every accepted chain, counted from a fresh start", of what the public calls answer.
--   c, j, i, k               a chain, a queue (N_j feeds it and N_(j+1) empties it), a node, a number of source firings
--   h                        a list of nodes, fired by manual firing in this order from a fresh start: Fires c h where each is accepted, so that the chain is, too,
--                            and then replay_answer c h .run is the state (Replay)
--   start q, times i h       what a queue starts with, 0; how often N_i stands in h
--   line c j                 what analyse answers of queue j: minimum is b, by the naming count, x and y its consumer's rate
--   Always, Sometime, AtOnce, NearestFirst, Runs
--                            at every moment, at some moment; each node at once, the one nearest the sink first; an immediate run that is not refused (Replay)
--   schedule c k             the firings of the immediate run of k source firings, in order: manual firing accepts them, they are by the rule, and they
--                            lead to its state (Demand2: immediate_fires, _rule, _state)
--   counted, balance         "each queue holds what its producer's firings put in less what its consumer's took out"
--   nearest_at_once, peak, never_full, run_peak
--                            "no queue passes that minimum", and none that has the room for it is too small
--   rate_x c i, rate_y c i   N_i's rate as it is reported (Replay)
--   Exhausted c k h          h fires the source k times, and nodes that may fire until only the source may, all said by counts alone (ByCounts)
--   exact_rate, _rates, order_rates, rate, rates, rate_exact
--                            "a node that has fired keeps exactly its x firings per y ticks": one cycle and m of them, of such orders, of permitted orders and of
--                            immediate runs; and that y is whole periods of the source
--   naming                   "unless that queue has held at least the minimum"
--   never_over, held_up      no permitted order passes a capacity in force; so where one is below the minimum, its producer never fires the naming count
use Rattle.std.specs.Prelude.{◌≡◌, List}
use Rattle.std.proofs.Common.{sym, subst, ◌∙◌, le_refl, one-mul, arith}
use Rattle.std.proofs.Math.Logic.{by_cases}
use Prim.Native.Nat.{ℕ, suc, ◌+◌, ◌*◌, ◌/◌, ◌≤◌, ◌<◌, ◌∣◌}
use Rattle.ardenquill.specs.Chains.{refused, row_of}
use Rattle.ardenquill.specs.Analyses.{y_source, start, minimum_of, capacity_of, enough_capacity, Accepted}
use Rattle.ardenquill.specs.Runs.{count_at, held_at, fresh_run, answered, fire_refusal, fire_answer, fire_12}
use Rattle.ardenquill.specs.Histories as histories
use Rattle.ardenquill.specs.Histories.{times, after, at_some, HasHeld}
use Rattle.ardenquill.specs.Immediate as immediate
use Rattle.ardenquill.specs.Immediate.{Reached, reached_after, below_minimum, schedule, immediate_answer}
use Rattle.ardenquill.specs.Records.{Chain, Run}
use Rattle.promises.specs.Replay.{p_of, c_of, Accepts, line, replay_answer, Fires, Always, Sometime, Ample, LowAt, AtOnce, NearestFirst, Runs, accepts_is, rate_x, rate_y, Low}
use Rattle.promises.specs.Laws.{y_is, minimum_is, by_is, accepted, permits, state_is, moment, prompts, parts, rate_x_is, rate_y_is, capacity_is, running_at}
use Rattle.promises.specs.Demand2.{immediate_fires, immediate_rule, immediate_counted}
use Rattle.std.proofs.Math.Decide.{dec_lt}
use Rattle.promises.specs.ByCounts.{Exhausted, count_is, rule_exhausted, fires_exhausted}

-- an order by the rule fires no node while the node that it feeds is over threshold
pub nearest_at_once : (c : Chain) (h : List ℕ) → NearestFirst c h → AtOnce c h
nearest_at_once c h near g k i e = (near g k i e).nearest i (le_refl i)

module _ (c : Chain) (h : List ℕ) (ok : Fires c h) where
  -- counts are the numbers of each node in the list
  pub counted : (i : ℕ) → i ≤ c.n → count_at (replay_answer c h).run i ≡ times i h
  counted i l = rw (state_is c h ok) (histories.counted c (accepted c h ok) h i l)

  -- "after any permitted firings, each queue holds what its producer's firings put in less what its consumer's took out", as a sum
  pub balance : (j : ℕ) → j < c.n → start (row_of c j) + p_of c j * times j h ≡ held_at (replay_answer c h).run j + c_of c j * times (suc j) h
  balance j l = rw (state_is c h ok) (histories.balance c (accepted c h ok) h (permits c h ok) j l)

  -- "When nodes fire at once, the one nearest the sink first, and no capacity is below the reported minimum, no queue passes that minimum", at no moment: of every
  -- order by the rule (nearest_at_once), and of every other in which nodes fire at once; capacities may be below, since manual firing does not check them
  pub peak : AtOnce c h → (j : ℕ) → j < c.n → Always c h (λ s. held_at s j ≤ (line c j).minimum)
  peak low j l g k e =
      let m : HasHeld c h j (held_at (after c (fresh_run c) g) j) = record { before = g; later = k; parts = e; holds = le_refl _ } in
      rw (moment c h ok g k e, minimum_is c (accepted c h ok) j l) (histories.peak c (accepted c h ok) h (permits c h ok) (prompts c h ok low) j l _ m)

  -- with B = 0 the capacity is that minimum, and 12 alone would keep a queue within it: what the sentence then says is that no firing at once is stopped by a full queue.
  -- Where its capacity is not below the reported minimum, manual firing does not refuse N_i with 12 while the node that it feeds is below threshold
  pub never_full : (i : ℕ) → Ample c i → LowAt c (replay_answer c h).run i → (fire_answer c (replay_answer c h).run i).number ≡ 12 → ⊥
  unfolding fire_answer answered
  never_full i big low e =
      let a : Accepted c = accepted c h ok in
      let s : Run = (replay_answer c h).run in
      let r : Reached c s = rw (state_is c h ok) (reached_after a.chain h (permits c h ok)) in
      let L : ℕ = (fire_refusal c s i).place in
      let says : fire_refusal c s i ≡ refused 12 L = λ t. record { number = e t; place = L } in
      let f = ((fire_12 c s i L).0 says).1.0 in
      let cap : minimum_of (row_of c i) ≤ capacity_of (row_of c i) = enough_capacity c i (rw (minimum_is c a i f.0) at big) in
      omega (arith, below_minimum a.chain r i f.0 (low f.0), cap, f.1)

  -- "In no permitted order can a producer fire as often as 01 names for its queue unless that queue has held at least the minimum"
  pub naming : (j : ℕ) → j < c.n → (line c j).by ≤ times j h → Sometime c h (λ s. (line c j).minimum ≤ held_at s j)
  naming j l often =
      at_some (λ g k e m. rw (moment c h ok g k e, minimum_is c (accepted c h ok) j l) m) (histories.naming c (accepted c h ok) h (permits c h ok) j l (rw (by_is c (accepted c h ok) j l) at often))

  -- 01's "Filling to exactly the capacity is allowed", and no more: no permitted order holds more than the capacity in force, at any moment
  pub never_over : (j : ℕ) → j < c.n → Always c h (λ s. held_at s j ≤ (line c j).capacity)
  never_over j l g k e = rw (capacity_is c (accepted c h ok) j l) ((running_at c h ok g k e).state j l).0.1

  -- so where that capacity is below the reported minimum its producer is held up for good: no permitted order lets it fire as often as 01 names for its queue
  pub held_up : (j : ℕ) → j < c.n → (line c j).capacity < (line c j).minimum → times j h < (line c j).by
  held_up j l short = by_cases (dec_lt (times j h) (line c j).by)
      (λ few. few)
      (λ n. let m = naming j l (omega arith) in absurd (omega (arith, m.holds, never_over j l m.before m.later m.parts)))

-- "When nodes fire at once .. no queue passes that minimum", of the immediate run, which is refused 8 where a capacity is below it
pub run_peak : (c : Chain) (k : ℕ) → Runs c k → (j : ℕ) → j < c.n → Always c (schedule c k) (λ s. held_at s j ≤ (line c j).minimum)
run_peak c k ran = peak c (schedule c k) (immediate_fires c k ran) (nearest_at_once c (schedule c k) (immediate_rule c k ran))

-- "a node that has fired keeps exactly its x firings per y ticks", of every node and any number of source firings: y ticks are y/period of them (rate_exact), and F_i is
-- how often N_i stands in any order that fires the source so often and nodes that may fire until only the source may, such as the one by 01's rule (rule_exhausted)
module _ (c : Chain) (ok : Accepts c) (i : ℕ) (l : i ≤ c.n) where
  -- of m times y ticks
  pub exact_rates : (k m : ℕ) {g h : List ℕ} → Exhausted c k g → Exhausted c (k + m * (rate_y c i / c.period)) h → 0 < times i g → times i h ≡ times i g + m * rate_x c i
  exact_rates k m x y has =
      let a : Accepted c = (accepts_is c).0 ok in
      let was = count_is a x i l in
      count_is a y i l ∙ rw (was, rate_x_is c a i l, rate_y_is c a i l) (immediate.rates c a.chain i l k m (rw was at has))

  -- 01's "For a node that has fired by k, k + y_i/y firings of the source give it x_i firings more"
  pub exact_rate : (k : ℕ) {g h : List ℕ} → Exhausted c k g → Exhausted c (k + rate_y c i / c.period) h → 0 < times i g → times i h ≡ times i g + rate_x c i
  exact_rate k {g} {h} x y has = rw (one-mul (rate_x c i)) at (exact_rates k 1 x (subst (λ (m : ℕ). Exhausted c (k + m) h) (sym (one-mul _)) y) has)

-- so of permitted orders that leave only the source to fire, by the rule or not
pub order_rates : (c : Chain) (g h : List ℕ) → Fires c g → Fires c h → Low c (replay_answer c g).run → Low c (replay_answer c h).run
    → (i : ℕ) → i ≤ c.n → (m : ℕ) → times 0 h ≡ times 0 g + m * (rate_y c i / c.period) → 0 < times i g → times i h ≡ times i g + m * rate_x c i
order_rates c g h ok ok' low low' i l m e =
    exact_rates c ((accepts_is c).1 (accepted c g ok)) i l (times 0 g) m (fires_exhausted c g ok low) (subst (λ (k : ℕ). Exhausted c k h) e (fires_exhausted c h ok' low'))

-- and of immediate runs, whose source's count is k (immediate_exact)
module _ (c : Chain) (j : ℕ) (l : j < c.n) where
  -- of m times y ticks
  pub rates : (k m : ℕ) → Runs c k → Runs c (k + m * ((line c j).y / c.period)) → 0 < count_at (immediate_answer c k).run (suc j)
      → count_at (immediate_answer c (k + m * ((line c j).y / c.period))).run (suc j) ≡ count_at (immediate_answer c k).run (suc j) + m * (line c j).x
  rates k m ran more has =
      let ok : Accepts c = (accepts_is c).1 (parts c k ran).0.0 in
      let was : count_at (immediate_answer c k).run (suc j) ≡ times (suc j) (schedule c k) = immediate_counted c k ran (suc j) l in
      immediate_counted c _ more (suc j) l ∙ rw was (exact_rates c ok (suc j) l k m (rule_exhausted c ok k) (rule_exhausted c ok _) (rw was at has))

  -- and of y ticks
  pub rate : (k : ℕ) → Runs c k → Runs c (k + (line c j).y / c.period) → 0 < count_at (immediate_answer c k).run (suc j)
      → count_at (immediate_answer c (k + (line c j).y / c.period)).run (suc j) ≡ count_at (immediate_answer c k).run (suc j) + (line c j).x
  rate k ran more has =
      let one : 1 * ((line c j).y / c.period) ≡ (line c j).y / c.period = one-mul _ in
      rw (one, one-mul (line c j).x) at (rates k 1 ran (rw one more) has)

  -- and y is a whole number of periods
  pub rate_exact : Accepts c → c.period ∣ (line c j).y
  rate_exact ok = let a : Accepted c = (accepts_is c).0 ok in rw (y_is c a j l) (y_source c a.chain (suc j) l)
