-- The rates of a chain's nodes (01, Rates, load, minimum), node by node from the source on.
--   x_of c i, y_of c i       N_i fires x times in y ticks
--   stretch_of c i           how many times y_i the next y is
--   source_rate              the source fires once in a period
--   x_pos, y_pos, grows      neither is 0, nor is the stretch
--   y_stretch                y_(i+1) is a multiple of y_i, namely this many times
--   y_multiple               each y is a multiple of every y before it; y_source: and so of the period
--   tokens_balance           what N_(i+1) takes out per tick is what N_i puts in
--   cycle_least              in no smaller multiple of y_i is that a whole number of firings
use Rattle.std.specs.Prelude.{◌≡◌, refl}
use Rattle.std.proofs.Math.Path.{ap}
use Prim.Native.Nat.{ℕ, zero, suc, ◌*◌, ◌≤◌, ◌<◌, ◌∣◌}
use Rattle.std.proofs.Common.{mul-pos, eq-or-lt_of_le, ⊎_elim}
use Rattle.std.proofs.Math.Nat.{dvd_refl, dvd_trans, dvd-mul_left}
use native.Mathlib.Omega.{arith}
use Rattle.chain.specs.Record.{row_of}
use Rattle.chain.specs.Sound.{Sound}
use Rattle.chain.specs.declared.Chain.{Chain}
use Rattle.rates.specs.Rates.{next_x, next_y, stretch}
use Rattle.rates.proofs.RatesLaws.{next_pos, next_stretch, next_balance, stretch_pos, stretch_least}

-- "N_0 has x=1"; "x_(i+1) = p×x_i/g", with queue i's p and c
unfoldable pub x_of : Chain → ℕ → ℕ
unfolding next_x
x_of c zero = 1
x_of c (suc i) = next_x (row_of c i).produce (row_of c i).consume (x_of c i)

-- N_0 has "y the period"; "y_(i+1) = c×y_i/g"
unfoldable pub y_of : Chain → ℕ → ℕ
unfolding x_of next_y
y_of c zero = c.period
y_of c (suc i) = next_y (row_of c i).produce (row_of c i).consume (x_of c i) (y_of c i)

-- how many times y_i the next y is
abbrev pub stretch_of : Chain → ℕ → ℕ
stretch_of c i = stretch (row_of c i).produce (row_of c i).consume (x_of c i)

pub source_rate : (c : Chain) → (x_of c 0 ≡ 1) × (y_of c 0 ≡ c.period)
unfolding x_of y_of
source_rate c = (refl, refl)

module _ (c : Chain) (s : Sound c) where
  -- the numbers of a queue are not 0
  produces : (i : ℕ) → i < c.n → 0 < (row_of c i).produce
  produces i l = (s.rows i l).produce.0

  consumes : (i : ℕ) → i < c.n → 0 < (row_of c i).consume
  consumes i l = (s.rows i l).consume.0

  pub x_pos : (i : ℕ) → i ≤ c.n → 0 < x_of c i
  unfolding x_of
  x_pos zero l = omega arith
  x_pos (suc i) l = next_pos _ _ _ (consumes i l) (produces i l) (x_pos i (omega arith))

  pub grows : (i : ℕ) → i < c.n → 0 < stretch_of c i
  grows i l = stretch_pos _ _ _ (consumes i l)

  pub y_stretch : (i : ℕ) → i < c.n → y_of c (suc i) ≡ stretch_of c i * y_of c i
  unfolding y_of
  y_stretch i l = next_stretch _ _ _ (consumes i l) (y_of c i)

  pub y_pos : (i : ℕ) → i ≤ c.n → 0 < y_of c i
  unfolding y_of
  y_pos zero l = s.period.0
  y_pos (suc i) l = rw (next_stretch _ _ _ (consumes i l) (y_of c i)) (mul-pos (grows i l) (y_pos i (omega arith)))

  pub y_multiple : (j i : ℕ) → i ≤ j → j ≤ c.n → y_of c i ∣ y_of c j
  y_multiple zero i l m = let e : i ≡ 0 = omega arith in rw e (dvd_refl _)
  y_multiple (suc j) i l m = ⊎_elim
      (λ e. rw e (dvd_refl _))
      (λ h. dvd_trans _ (y_multiple j i (omega arith) (omega arith)) (rw (y_stretch j m) (dvd-mul_left (y_of c j) (stretch_of c j))))
      (eq-or-lt_of_le l)

  pub y_source : (i : ℕ) → i ≤ c.n → c.period ∣ y_of c i
  unfolding y_of
  y_source i l = y_multiple i 0 (omega arith) l

  pub tokens_balance : (i : ℕ) → i < c.n → (row_of c i).consume * x_of c (suc i) * y_of c i ≡ (row_of c i).produce * x_of c i * y_of c (suc i)
  unfolding x_of
  tokens_balance i l =
      omega (
        arith,
        ap (λ (n : ℕ). n * y_of c i) (next_balance (row_of c i).produce (row_of c i).consume (x_of c i) (consumes i l)),
        ap (λ (n : ℕ). (row_of c i).produce * x_of c i * n) (y_stretch i l),
      )

  pub cycle_least : (i k : ℕ) → i < c.n → 0 < k → (row_of c i).consume ∣ (row_of c i).produce * x_of c i * k → stretch_of c i ≤ k
  cycle_least i k l = stretch_least _ _ _ (consumes i l) k
