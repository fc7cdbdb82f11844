-- The greatest common divisor, by Euclid's rule.
--   gcd a b                     the greatest number that divides both a and b; 0 where both are 0
--   gcd_dvd_left, _right        it divides a, and it divides b
--   gcd_greatest                each number that divides both divides it
--   gcd_unique                  and it is the only number with these three laws
--   gcd_zero, _step             Euclid's rule: gcd a 0 is a, and gcd a b is gcd b (a % b)
--   gcd_pos_left, _right        it is not 0 where a is not, nor where b is not
--   gcd_le_left, _right         it is at most a where a is not 0, and so for b
--   gcd_one                     the gcd of a and 1 is 1
--   gcd_mul_left, _right        it times its quotient in a is a, and so for b
--   cofactors                   a * (b / g) is b * (a / g) for a common divisor g, said with no division
--   cofactor_pos                the quotient of a number that is not 0 is not 0
use Rattle.std.specs.Prelude.{◌≡◌, refl, ℕ, zero, suc, ◌*◌, ◌/◌, ◌%◌, ◌≤◌, ◌<◌}
use Rattle.std.proofs.Common.{ap, le_refl, zero-lt-suc, not-suc-le-zero, mod-lt, arith}
use Rattle.std.specs.Int.{◌∣◌}
use Rattle.std.proofs.Math.Nat.{le_of_dvd, dvd_refl, dvd-zero, dvd-mod_iff, dvd_antisymm, pos_of_dvd_of_pos, mul-div_cancel', lt_of_mul-lt-mul_left}

-- Euclid's rule in at most k steps, of which b are enough: the second number falls with each
gcd_in : ℕ → ℕ → ℕ → ℕ
gcd_in zero a b = a
gcd_in (suc k) a zero = a
gcd_in (suc k) a (suc b) = gcd_in k (suc b) (a % suc b)

-- the greatest common divisor: of a and 0 it is a, of a and b that of b and a % b
unfoldable pub gcd : ℕ → ℕ → ℕ
unfolding gcd_in
gcd a b = gcd_in b a b

-- after a step, one step less is enough
rest_le : (a b k : ℕ) → suc b ≤ suc k → a % suc b ≤ k
rest_le a b k h = omega (arith, mod-lt a (zero-lt-suc b))

gcd_in_dvd : (k a b : ℕ) → b ≤ k → (gcd_in k a b ∣ a) × (gcd_in k a b ∣ b)
unfolding gcd_in
gcd_in_dvd zero a zero h = (dvd_refl a, dvd-zero a)
gcd_in_dvd zero a (suc b) h = absurd (not-suc-le-zero h)
gcd_in_dvd (suc k) a zero h = (dvd_refl a, dvd-zero a)
gcd_in_dvd (suc k) a (suc b) h =
    let r = gcd_in_dvd k (suc b) (a % suc b) (rest_le a b k h) in
    ((dvd-mod_iff _ r.0).0 r.1, r.0)

gcd_in_greatest : (k a b d : ℕ) → d ∣ a → d ∣ b → d ∣ gcd_in k a b
unfolding gcd_in
gcd_in_greatest zero a b d x y = x
gcd_in_greatest (suc k) a zero d x y = x
gcd_in_greatest (suc k) a (suc b) d x y = gcd_in_greatest k (suc b) (a % suc b) d y ((dvd-mod_iff d y).1 x)

pub gcd_dvd_left : (a b : ℕ) → gcd a b ∣ a
unfolding gcd
gcd_dvd_left a b = (gcd_in_dvd b a b (le_refl b)).0

pub gcd_dvd_right : (a b : ℕ) → gcd a b ∣ b
unfolding gcd
gcd_dvd_right a b = (gcd_in_dvd b a b (le_refl b)).1

pub gcd_greatest : (a b d : ℕ) → d ∣ a → d ∣ b → d ∣ gcd a b
unfolding gcd
gcd_greatest a b d = gcd_in_greatest b a b d

-- the three laws above are what characterises it
pub gcd_unique : (a b g : ℕ) → g ∣ a → g ∣ b → ((d : ℕ) → d ∣ a → d ∣ b → d ∣ g) → g ≡ gcd a b
gcd_unique a b g x y top = dvd_antisymm (gcd_greatest a b g x y) (top (gcd a b) (gcd_dvd_left a b) (gcd_dvd_right a b))

-- where Euclid's loop ends
pub gcd_zero : (a : ℕ) → gcd a 0 ≡ a
unfolding gcd
gcd_zero a = refl

-- what a turn of Euclid's loop keeps
pub gcd_step : (a b : ℕ) → gcd a b ≡ gcd b (a % b)
gcd_step a b =
    gcd_unique b (a % b) (gcd a b) (gcd_dvd_right a b) ((dvd-mod_iff _ (gcd_dvd_right a b)).1 (gcd_dvd_left a b))
    (λ d x y. gcd_greatest a b d ((dvd-mod_iff d x).0 y) x)

pub gcd_pos_left : (a b : ℕ) → 0 < a → 0 < gcd a b
gcd_pos_left a b h = pos_of_dvd_of_pos (gcd_dvd_left a b) h

pub gcd_pos_right : (a b : ℕ) → 0 < b → 0 < gcd a b
gcd_pos_right a b h = pos_of_dvd_of_pos (gcd_dvd_right a b) h

pub gcd_le_left : (a b : ℕ) → 0 < a → gcd a b ≤ a
gcd_le_left a b h = le_of_dvd h (gcd_dvd_left a b)

pub gcd_le_right : (a b : ℕ) → 0 < b → gcd a b ≤ b
gcd_le_right a b h = le_of_dvd h (gcd_dvd_right a b)

-- where it ends too: no number but 1 divides 1
pub gcd_one : (a : ℕ) → gcd a 1 ≡ 1
gcd_one a = omega (arith, gcd_le_right a 1 (zero-lt-suc 0), gcd_pos_right a 1 (zero-lt-suc 0))

-- the quotients by it are exact
pub gcd_mul_left : (a b : ℕ) → gcd a b * (a / gcd a b) ≡ a
gcd_mul_left a b = mul-div_cancel' _ (gcd_dvd_left a b)

pub gcd_mul_right : (a b : ℕ) → gcd a b * (b / gcd a b) ≡ b
gcd_mul_right a b = mul-div_cancel' _ (gcd_dvd_right a b)

-- s and w are the quotients of a and b by a common divisor g
pub cofactors : (a b g s w : ℕ) → g * s ≡ a → g * w ≡ b → a * w ≡ b * s
cofactors a b g s w ea eb = omega (arith, ap (λ (n : ℕ). n * w) ea, ap (λ (n : ℕ). n * s) eb)

pub cofactor_pos : (b g w : ℕ) → g * w ≡ b → 0 < b → 0 < w
cofactor_pos b g w e h = lt_of_mul-lt-mul_left g (omega arith)
