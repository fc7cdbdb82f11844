-- Laws of specs/Rates.antt that rest on a definition which an edit of must-fail/ changes.
-- The rate of a node from that of the node before it (01, Rates, load, minimum; 003, equation 1), over plain numbers: a queue
-- with produce p and consume c, and a node before it that fires x times in y ticks.
--   permeate_figure          the rate that a spreadsheet's g gets wrong, computed
--   next_stretch             the new y is `stretch` times y
--   next_balance             in `stretch` times y ticks the node takes out exactly what was put in
--   stretch_least            and in no smaller number of y can it, so no smaller g would do
--   next_pos, stretch_pos    neither the new x nor stretch is 0
--   stretch_below            stretch is at most c
--   rate_by_parts            the same numbers by the gcd of p and c, and of x and what that leaves of c
use Rattle.std.specs.Prelude.{◌≡◌, ℕ, ◌*◌, ◌/◌, ◌≤◌, ◌<◌}
use Rattle.std.proofs.Math.Path.{refl, sym, ap}
use Rattle.std.proofs.Common.{◌∙◌, mul-pos, mul-one, arith}
use Rattle.std.specs.Int.{◌∣◌}
use Rattle.std.proofs.Math.Nat.{div-le_self, div-div-eq-div-mul, dvd-mul_left, dvd_of_mul-dvd-mul_left, le_of_dvd, eq_of_mul-eq-mul_left}
use Rattle.arith.specs.Gcd.{gcd, gcd_pos_right, gcd_mul_left, gcd_mul_right, gcd_greatest, cofactor_pos}
use Rattle.arith.specs.Products.{gcd_scale, gcd_product}
use Rattle.rates.specs.Rates.{common, next_x, next_y, stretch, rate_after, exact}

-- Permeate's second node has 6 per 15 (P2); g from p and c alone would give it 12 per 30
pub permeate_figure : (next_x 3 2 4 ≡ 6) × (next_y 3 2 4 15 ≡ 15)
unfolding next_x next_y
permeate_figure = (refl, refl)

module _ (p c x : ℕ) (hc : 0 < c) where
  common_pos : 0 < common p c x
  unfolding common
  common_pos = gcd_pos_right (p * x) c hc

  -- c and p * x by their common factor
  consume_parts : common p c x * stretch p c x ≡ c
  unfolding common stretch
  consume_parts = gcd_mul_right (p * x) c

  produce_parts : common p c x * next_x p c x ≡ p * x
  unfolding common next_x
  produce_parts = gcd_mul_left (p * x) c

  pub stretch_pos : 0 < stretch p c x
  stretch_pos = cofactor_pos c (common p c x) (stretch p c x) consume_parts hc

  pub stretch_below : stretch p c x ≤ c
  unfolding stretch
  stretch_below = div-le_self c (common p c x)

  pub next_pos : 0 < p → 0 < x → 0 < next_x p c x
  next_pos hp hx = cofactor_pos (p * x) (common p c x) (next_x p c x) produce_parts (mul-pos hp hx)

  pub next_stretch : (y : ℕ) → next_y p c x y ≡ stretch p c x * y
  unfolding next_y
  next_stretch y = exact (c * y) (common p c x) (stretch p c x * y) common_pos (omega (arith, ap (λ (n : ℕ). n * y) consume_parts))

  pub next_balance : c * next_x p c x ≡ p * x * stretch p c x
  next_balance = omega (arith, ap (λ (n : ℕ). n * next_x p c x) consume_parts, ap (λ (n : ℕ). n * stretch p c x) produce_parts)

  -- what p * x and c leave once their common factor is taken out has no common factor
  apart : gcd (next_x p c x) (stretch p c x) ≡ 1
  unfolding common
  apart = eq_of_mul-eq-mul_left _ common_pos _ _ (sym (gcd_scale (next_x p c x) (stretch p c x) (common p c x)) ∙ whole ∙ sym (mul-one (common p c x)))
    where
      whole : gcd (common p c x * next_x p c x) (common p c x * stretch p c x) ≡ common p c x
      whole = rw (produce_parts, consume_parts) refl

  -- where p * x * k is a multiple of c, stretch divides k
  pub stretch_least : (k : ℕ) → 0 < k → c ∣ p * x * k → stretch p c x ≤ k
  stretch_least k hk d = le_of_dvd hk (divides (common p c x) (next_x p c x) (stretch p c x) common_pos consume_parts produce_parts apart)
    where
      divides : (g a w : ℕ) → 0 < g → g * w ≡ c → g * a ≡ p * x → gcd a w ≡ 1 → w ∣ k
      divides g a w hg ec ep one =
          let moved : p * x * k ≡ g * (k * a) = omega (arith, ap (λ (n : ℕ). n * k) ep) in
          let both : g * w ∣ g * (k * a) = rw (ec, ← moved) d in
          let whole : gcd (k * a) (k * w) ≡ k = gcd_scale a w k ∙ ap (λ (n : ℕ). k * n) one ∙ mul-one k in
          rw whole at (gcd_greatest (k * a) (k * w) w (dvd_of_mul-dvd-mul_left w hg both) (dvd-mul_left w k))

-- the same numbers by the gcd of p and c, and of x and what that leaves of c
module _ (p c x : ℕ) (hc : 0 < c) where
  common_parts : common p c x ≡ gcd p c * gcd x (c / gcd p c)
  unfolding common
  common_parts = gcd_product p x c

  stretch_by_parts : stretch p c x ≡ c / gcd p c / gcd x (c / gcd p c)
  unfolding stretch
  stretch_by_parts = rw common_parts (sym (div-div-eq-div-mul c (gcd p c) (gcd x (c / gcd p c))))

  next_by_parts : next_x p c x ≡ p / gcd p c * (x / gcd x (c / gcd p c))
  unfolding next_x
  next_by_parts = exact (p * x) (common p c x) _ (common_pos p c x hc)
      (rw common_parts (products p x (gcd p c) (gcd x (c / gcd p c)) _ _ (gcd_mul_left p c) (gcd_mul_left x (c / gcd p c))))
    where
      products : (a b g h s t : ℕ) → g * s ≡ a → h * t ≡ b → a * b ≡ g * h * (s * t)
      products a b g h s t ea eb = omega (arith, ap (λ (n : ℕ). n * b) ea, ap (λ (n : ℕ). g * s * n) eb)

-- the three numbers by parts, as code has them: g is the gcd of p and c, w what it leaves of c, h the gcd of x and w
pub rate_by_parts : (p c g w x y h : ℕ) → 0 < c → g ≡ gcd p c → w ≡ c / g → h ≡ gcd x w → record { x = p / g * (x / h); y = w / h * y; stretch = w / h } ≡ rate_after p c x y
unfolding rate_after
rate_by_parts p c g w x y h hc eg ew eh =
    rw (eh, ew, eg, next_by_parts p c x hc, next_stretch p c x hc y, stretch_by_parts p c x hc)
