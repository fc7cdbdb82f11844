-- The load of a chain (01, Rates, load, minimum).
--   busy_in c m i            the ticks that N_1 .. N_i work in m ticks
--   cycle_of c, busy_of c    the cycle y_n, and the ticks that all nodes work in it
--   parts_exact              each y divides the cycle, so each node's part of it is exact
--   busy_scale               k times as many ticks have k times the work
--   busy_next                one node more, in the longer cycle that it makes
use Rattle.std.specs.Prelude.{◌≡◌}
use Rattle.std.proofs.Math.Path.{ap, ap₂}
use Rattle.std.proofs.Common.{◌∙◌}
use Prim.Native.Nat.{ℕ, zero, suc, ◌+◌, ◌*◌, ◌/◌, ◌≤◌, ◌<◌, ◌∣◌}
use Rattle.std.proofs.Math.Nat.{dvd_trans, dvd_refl, mul-div_assoc, mul-div_cancel', div_self, mul-one}
use native.Mathlib.Omega.{arith}
use Rattle.chain.specs.Record.{work_of}
use Rattle.chain.specs.Sound.{Sound}
use Rattle.chain.specs.declared.Chain.{Chain}
use Rattle.sizing.specs.Nodes.{x_of, y_of, stretch_of, y_pos, y_multiple, y_stretch}

-- what 01 sums over all nodes and per cycle, over the nodes up to N_i and in m ticks: e×x×(m/y_node) for each
unfoldable pub busy_in : Chain → ℕ → ℕ → ℕ
unfolding x_of y_of
busy_in c m zero = 0
busy_in c m (suc i) = busy_in c m i + work_of c i * x_of c (suc i) * (m / y_of c (suc i))

-- "per cycle y_n"
abbrev pub cycle_of : Chain → ℕ
cycle_of c = y_of c c.n

-- "sum over nodes 1..n of e×x×(y_n/y_node), called busy"
abbrev pub busy_of : Chain → ℕ
busy_of c = busy_in c (cycle_of c) c.n

module _ (c : Chain) (s : Sound c) where
  pub parts_exact : (i : ℕ) → i < c.n → y_of c (suc i) * (cycle_of c / y_of c (suc i)) ≡ cycle_of c
  parts_exact i l = mul-div_cancel' _ (y_multiple c s c.n (suc i) l (omega arith))

  pub busy_scale : (k m i : ℕ) → i ≤ c.n → y_of c i ∣ m → busy_in c (k * m) i ≡ busy_in c m i * k
  unfolding busy_in
  busy_scale k m zero l d = omega arith
  busy_scale k m (suc i) l d =
      let before = busy_scale k m i (omega arith) (dvd_trans _ (y_multiple c s (suc i) i (omega arith) l) d) in
      let part : k * m / y_of c (suc i) ≡ k * (m / y_of c (suc i)) = mul-div_assoc _ k d in
      omega (arith, before, ap (λ (n : ℕ). work_of c i * x_of c (suc i) * n) part)

  pub busy_next : (i : ℕ) → i < c.n → busy_in c (y_of c (suc i)) (suc i) ≡ busy_in c (y_of c i) i * stretch_of c i + work_of c i * x_of c (suc i)
  unfolding busy_in
  busy_next i l =
      let before : busy_in c (y_of c (suc i)) i ≡ busy_in c (y_of c i) i * stretch_of c i =
      ap (λ (m : ℕ). busy_in c m i) (y_stretch c s i l) ∙ busy_scale (stretch_of c i) (y_of c i) i (omega arith) (dvd_refl _) in
      let once : y_of c (suc i) / y_of c (suc i) ≡ 1 = div_self (y_pos c s (suc i) l) in
      ap₂ ◌+◌ before (ap (λ (n : ℕ). work_of c i * x_of c (suc i) * n) once ∙ mul-one _)
