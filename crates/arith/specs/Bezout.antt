-- Bezout over the natural numbers, and the remainders that the multiples of a number meet.
--   Bezout a b g        g is a multiple of a less one of b, and a multiple of b less one of a, said with no minus
--   bezout              so is gcd a b, where neither a nor b is 0
--   Meets p c r j w     one of the w multiples p * j, p * (j + 1), .. p * (j + w - 1) leaves the remainder of r on division by c
--   window              each multiple of gcd p c is met so within any c / gcd p c multiples of p in a row
use Rattle.std.specs.Prelude.{◌≡◌, ℕ, zero, suc, ◌+◌, ◌*◌, ◌/◌, ◌%◌, ◌≤◌, ◌<◌}
use Rattle.std.proofs.Common.{sym, ◌∙◌, ap, le_refl, zero-lt-suc, mod-lt, arith}
use Rattle.std.proofs.Math.Nat.{div-add-mod, add-mul-mod_self_left}
use Rattle.arith.specs.Division.{rest_of_sum}
use Rattle.arith.specs.Gcd.{gcd, gcd_zero, gcd_step, gcd_mul_left, gcd_mul_right, cofactors, cofactor_pos}

-- Bezout's identity a * x - b * y = g, and the same with a and b exchanged; each is a sum, since ℕ has no negative numbers
pub record Bezout (a b g : ℕ) : Type 0 where
  pub x : ℕ
  pub y : ℕ
  pub of_left : a * x ≡ g + b * y
  pub u : ℕ
  pub v : ℕ
  pub of_right : b * u ≡ g + a * v

-- where b divides a, b itself is such a number
whole : (a b q : ℕ) → 0 < a → b * q ≡ a → Bezout a b b
whole a b zero h e = absurd (omega arith)
whole a b (suc q) h e = record { x = 1; y = q; of_left = omega arith; u = 1; v = 0; of_right = omega arith }

-- with a = b * q + r, such a number of b and r is one of a and b
back : (a b q r g : ℕ) → b * q + r ≡ a → Bezout b r g → Bezout a b g
back a b q r g e z =
    record {
      x = z.u;
      y = q * z.u + z.v;
      of_left = omega (arith, ap (λ (n : ℕ). n * z.u) e);
      u = q * z.y + z.x;
      v = z.y;
      of_right = omega (arith, ap (λ (n : ℕ). n * z.y) e);
    }

-- one turn of Euclid's rule, the last or one with more to come
turn : (a b q r : ℕ) → 0 < a → b * q + r ≡ a → (0 < r → Bezout b r (gcd b r)) → Bezout a b (gcd b r)
turn a b q zero h e rest = rw gcd_zero (whole a b q h (omega arith))
turn a b q (suc r) h e rest = back a b q (suc r) (gcd b (suc r)) e (rest (zero-lt-suc r))

-- its turns, of which b are enough
bezout_in : (k a b : ℕ) → b ≤ k → 0 < a → 0 < b → Bezout a b (gcd a b)
bezout_in zero a b h ha hb = absurd (omega arith)
bezout_in (suc k) a b h ha hb =
    rw (gcd_step a b) (turn a b (a / b) (a % b) ha (div-add-mod a b) (bezout_in k b (a % b) (omega (arith, mod-lt a hb)) hb))

pub bezout : (a b : ℕ) → 0 < a → 0 < b → Bezout a b (gcd a b)
bezout a b = bezout_in b a b (le_refl b)

-- among p * j, p * (j + 1), .. p * (j + w - 1) is one, p * at, that leaves the remainder of r on division by c
pub record Meets (p c r j w : ℕ) : Type 0 where
  pub at : ℕ
  pub low : j ≤ at
  pub high : at < j + w
  pub meets : (p * at) % c ≡ r % c

-- with p * x = g + c * y, and w multiples of p a multiple of c, p * at leaves the remainder of g * m
same_rest : (p c g x y s w m at over j : ℕ) → p * x ≡ g + c * y → p * w ≡ c * s → at + w * over ≡ x * m + w * j → (p * at) % c ≡ (g * m) % c
same_rest p c g x y s w m at over j e cross same =
    sym (add-mul-mod_self_left (p * at) c (s * over))
    ∙ rest_of_sum (p * at + c * (s * over)) (g * m) c (y * m + s * j)
    (omega (arith, ap (λ (n : ℕ). n * m) e, ap (λ (n : ℕ). n * over) cross, ap (λ (n : ℕ). n * j) cross, ap (λ (n : ℕ). p * n) same))

-- the number that differs from x * m by a multiple of w and lies in the window of w numbers from j on
meets_in : (p c g s w m j : ℕ) → 0 < w → p * w ≡ c * s → Bezout p c g → Meets p c (g * m) j w
meets_in p c g s zero m j h cross z = absurd (omega arith)
meets_in p c g s (suc k) m j h cross z =
    let i : ℕ = z.x * m + k * j in
    record {
      at = j + i % suc k;
      low = omega arith;
      high = omega (arith, mod-lt i h);
      meets = same_rest p c g z.x z.y s (suc k) m (j + i % suc k) (i / suc k) j z.of_left cross (omega (arith, div-add-mod i (suc k)));
    }

-- whatever the place j where the window starts, it has a multiple of p that leaves the remainder of gcd p c * m
pub window : (p c m j : ℕ) → 0 < p → 0 < c → Meets p c (gcd p c * m) j (c / gcd p c)
window p c m j hp hc =
    meets_in p c (gcd p c) (p / gcd p c) (c / gcd p c) m j
    (cofactor_pos c (gcd p c) (c / gcd p c) (gcd_mul_right p c) hc)
    (cofactors p c (gcd p c) (p / gcd p c) (c / gcd p c) (gcd_mul_left p c) (gcd_mul_right p c))
    (bezout p c hp hc)
