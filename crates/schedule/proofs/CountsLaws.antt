-- Laws of specs/Counts.antt that rest on a definition which an edit of must-fail/ changes.
-- The exact counts of the immediate run (01, Firing; 004, Lemma 5.1), node by node from the source on.
--   feed_counts              P5: Feed's sink
--   fed_mono, F-mono         more firings give no fewer
--   F-feeds                  a node that has fired was fed by one that has
--   rates                    m times as many source firings more give N_i m times x_i firings more
--   rate                     "for a node that has fired by k, k + y_i/y firings of the source give it x_i firings more"
use Rattle.std.specs.Prelude.{◌≡◌, refl, [], ◌∷◌, map}
use Rattle.std.proofs.Common.{sym, ◌∙◌, mul-le-mul_left, one-mul, mul_assoc, arith}
use Rattle.std.proofs.Math.Path.{ap}
use Prim.Native.Nat.{ℕ, zero, suc, ◌+◌, ◌*◌, ◌/◌, ◌≤◌, ◌<◌}
use Rattle.std.proofs.Math.Nat.{mul-div_assoc, mul-div_cancel}
use Rattle.chain.specs.Record.{row_of}
use Rattle.chain.specs.Sound.{Sound}
use Rattle.chain.specs.Factory.{factory_answer}
use Rattle.chain.specs.declared.Chain.{Chain}
use Rattle.rates.specs.Rates.{next_x}
use Rattle.rates.proofs.RatesLaws.{next_balance}
use Rattle.events.specs.Counts.{fires}
use Rattle.events.proofs.CountsLaws.{fires_pos, fires_mono, fires_shift}
use Rattle.sizing.specs.Nodes.{x_of, y_of, stretch_of, y_stretch, y_source}
use Rattle.sizing.specs.Sizes.{start}
use Rattle.schedule.specs.Counts.{fed, F, some_fed, more, turns_of}

-- P5: Feed's sink after 0 to 4 firings of the source
pub feed_counts : map (λ k. F (factory_answer 0).chain k 1) (0 ∷ 1 ∷ 2 ∷ 3 ∷ 4 ∷ []) ≡ 0 ∷ 0 ∷ 1 ∷ 2 ∷ 4 ∷ []
unfolding F factory_answer
feed_counts = refl

-- more firings of the producer give no fewer of the consumer
pub fed_mono : (c : Chain) (i N M : ℕ) → N ≤ M → fed c i N ≤ fed c i M
fed_mono c i N M l = fires_mono _ _ _ _ (omega (arith, mul-le-mul_left (row_of c i).produce l))

-- more firings of the source give no fewer of any node
pub F-mono : (c : Chain) (k l i : ℕ) → k ≤ l → F c k i ≤ F c l i
unfolding F
F-mono c k l zero h = h
F-mono c k l (suc i) h = fed_mono c i (F c k i) (F c l i) (F-mono c k l i h)

-- a node that has fired was fed by one that has
pub F-feeds : {c : Chain} → Sound c → (k i : ℕ) → i < c.n → 0 < F c k (suc i) → 0 < F c k i
unfolding F
F-feeds {c} s k i l h = some_fed (start (row_of c i)) (row_of c i).produce (row_of c i).threshold (F c k i) (s.rows i l).threshold.0 (fires_pos _ _ _ h)

module _ (c : Chain) (s : Sound c) where
  -- the source's cycle is one firing of it
  pub turns_source : turns_of c 0 ≡ 1
  unfolding y_of
  turns_source = ap (λ (n : ℕ). n / c.period) (sym (one-mul c.period)) ∙ mul-div_cancel 1 s.period.0

  -- the next node's cycle is so many of this node's cycles
  pub turns_next : (i : ℕ) → i < c.n → turns_of c (suc i) ≡ stretch_of c i * turns_of c i
  turns_next i l = ap (λ (n : ℕ). n / c.period) (y_stretch c s i l) ∙ mul-div_assoc c.period (stretch_of c i) (y_source c s i (omega arith))

  -- m cycles
  pub rates : (i : ℕ) → i ≤ c.n → (k m : ℕ) → 0 < F c k i → F c (k + m * turns_of c i) i ≡ F c k i + m * x_of c i
  unfolding F x_of
  rates zero l k m h = ap (λ (n : ℕ). k + m * n) turns_source
  rates (suc i) l k m h =
      let q : ℕ = stretch_of c i in
      let hc : 0 < (row_of c i).consume = (s.rows i l).consume.0 in
      let split : k + m * turns_of c (suc i) ≡ k + m * q * turns_of c i = ap (λ (n : ℕ). k + m * n) (turns_next i l) ∙ ap (λ (n : ℕ). k + n) (sym (mul_assoc m q (turns_of c i))) in
      ap (λ (n : ℕ). fed c i (F c n i)) split
      ∙ ap (fed c i) (rates i (omega arith) k (m * q) (F-feeds s k i l h))
      ∙ ap (fires (row_of c i).threshold (row_of c i).consume)
      (more (start (row_of c i)) _ _ q (x_of c i) (next_x (row_of c i).produce (row_of c i).consume (x_of c i)) (F c k i) m (next_balance _ _ _ hc))
      ∙ fires_shift _ _ _ (m * next_x (row_of c i).produce (row_of c i).consume (x_of c i)) hc h

  -- "for a node that has fired by k, k + y_i/y firings of the source give it x_i firings more"
  pub rate : (i : ℕ) → i ≤ c.n → (k : ℕ) → 0 < F c k i → F c (k + y_of c i / c.period) i ≡ F c k i + x_of c i
  rate i l k h = ap (λ (n : ℕ). F c (k + n) i) (sym (one-mul (turns_of c i))) ∙ rates i l k 1 h ∙ ap (λ (n : ℕ). F c k i + n) (one-mul (x_of c i))
