-- The gcd of products.
--   gcd_comm            which number comes first does not matter
--   gcd_scale           a factor that both numbers have stands before the gcd
--   gcd_coprime         a factor of one number that shares no divisor but 1 with the other can be left out
--   gcd_product         the gcd of p * x and c is what p shares with c, times what x shares with the rest of c
-- All of them hold at 0 too, where gcd 0 0 is 0.
use Rattle.std.specs.Prelude.{◌≡◌, ℕ, zero, suc, ◌+◌, ◌*◌, ◌/◌, ◌%◌, ◌≤◌, ◌<◌}
use Rattle.std.proofs.Common.{sym, ◌∙◌, ap, ap₂, subst, ⊎_elim, le_refl, zero-lt-suc, mul-zero, mul-one, mul_comm, mul_assoc, mod-lt, eq-zero-or-pos, arith}
use Rattle.std.specs.Int.{◌∣◌}
use Rattle.std.proofs.Math.Nat.{div-add-mod, dvd-mul_left_of_dvd, dvd-mul_right_of_dvd, eq_of_mul-eq-mul_left}
use Rattle.arith.specs.Division.{rest_of_sum}
use Rattle.arith.specs.Gcd.{gcd, gcd_dvd_left, gcd_dvd_right, gcd_greatest, gcd_unique, gcd_zero, gcd_step, gcd_mul_left, gcd_mul_right}

pub gcd_comm : (a b : ℕ) → gcd a b ≡ gcd b a
gcd_comm a b = gcd_unique b a (gcd a b) (gcd_dvd_right a b) (gcd_dvd_left a b) (λ d x y. gcd_greatest a b d y x)

-- a turn of Euclid's rule on the products
scale_step : (k a b q r : ℕ) → b * q + r ≡ a → gcd (k * a) (k * b) ≡ gcd (k * b) (k * r)
scale_step k a b q r e =
    let same : (k * a) % (k * b) ≡ (k * r) % (k * b) = rest_of_sum (k * a) (k * r) (k * b) q (omega (arith, ap (λ (n : ℕ). k * n) e)) in
    gcd_step (k * a) (k * b) ∙ ap (gcd (k * b)) same ∙ sym (gcd_step (k * r) (k * b)) ∙ gcd_comm (k * r) (k * b)

-- where the turns end
scale_end : (k a : ℕ) → gcd (k * a) (k * 0) ≡ k * gcd a 0
scale_end k a = rw (mul-zero, gcd_zero (k * a), gcd_zero a)

-- its turns, of which b are enough
scale_in : (n a b k : ℕ) → b ≤ n → gcd (k * a) (k * b) ≡ k * gcd a b
scale_in zero a zero k h = scale_end k a
scale_in zero a (suc b) k h = absurd (omega arith)
scale_in (suc n) a zero k h = scale_end k a
scale_in (suc n) a (suc b) k h =
    scale_step k a (suc b) (a / suc b) (a % suc b) (div-add-mod a (suc b))
    ∙ scale_in n (suc b) (a % suc b) k (omega (arith, mod-lt a (zero-lt-suc b))) ∙ ap (λ (g : ℕ). k * g) (sym (gcd_step a (suc b)))

pub gcd_scale : (a b k : ℕ) → gcd (k * a) (k * b) ≡ k * gcd a b
gcd_scale a b k = scale_in b a b k (le_refl b)

-- what divides a * x and b divides x: it divides a * x and b * x, whose gcd is x
pub gcd_coprime : (a x b : ℕ) → gcd a b ≡ 1 → gcd (a * x) b ≡ gcd x b
gcd_coprime a x b e =
    let whole : gcd (a * x) (b * x) ≡ x = rw (mul_comm a x, mul_comm b x, gcd_scale a b x, e) (mul-one x) in
    gcd_unique x b (gcd (a * x) b)
    (subst (λ (n : ℕ). gcd (a * x) b ∣ n) whole (gcd_greatest (a * x) (b * x) (gcd (a * x) b) (gcd_dvd_left (a * x) b) (dvd-mul_right_of_dvd _ (gcd_dvd_right (a * x) b) x)))
    (gcd_dvd_right (a * x) b)
    (λ d u v. gcd_greatest (a * x) b d (dvd-mul_left_of_dvd _ u a) v)

-- s and w are the quotients of p and c by their gcd
product : (g s w x : ℕ) → gcd (g * s) (g * w) ≡ g → gcd (g * s * x) (g * w) ≡ g * gcd x w
product g s w x e = rw (mul_assoc, gcd_scale (s * x) w g) (⊎_elim none some (eq-zero-or-pos g))
  where
    none : g ≡ 0 → g * gcd (s * x) w ≡ g * gcd x w
    none z = rw z (omega arith)

    some : 0 < g → g * gcd (s * x) w ≡ g * gcd x w
    some h = ap (λ (n : ℕ). g * n) (gcd_coprime s x w (eq_of_mul-eq-mul_left g h (gcd s w) 1 (sym (gcd_scale s w g) ∙ e ∙ sym (mul-one g))))

pub gcd_product : (p x c : ℕ) → gcd (p * x) c ≡ gcd p c * gcd x (c / gcd p c)
gcd_product p x c =
    let ep : gcd p c * (p / gcd p c) ≡ p = gcd_mul_left p c in
    let ec : gcd p c * (c / gcd p c) ≡ c = gcd_mul_right p c in
    ap₂ (λ (a b : ℕ). gcd (a * x) b) (sym ep) (sym ec) ∙ product (gcd p c) (p / gcd p c) (c / gcd p c) x (ap₂ gcd ep ec)
