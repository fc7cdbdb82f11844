-- Division rounded down, n / m, division rounded up, and the remainder n % m.
--   Divisor d                   what the code of a division asks: d is not 0
--   floor_below, _above         m * (n / m) ≤ n < m * (n / m + 1)
--   floor_unique                and n / m is the only such number
--   floor_mono, _shift          a larger n gives no smaller n / m; k times m more in n is k more in n / m
--   ceil n m                    n over m, rounded up
--   rest_of_sum                 k times c more leaves the remainder on division by c as it was
--   same_rest_gap               of two numbers with one remainder on division by c, the lower is lower by c or more
-- In the logic n / 0 is 0 and n % 0 is n; a law here that asks for 0 < m is false without it.
use Rattle.std.specs.Prelude.{◌≡◌, ℕ, zero, suc, ◌+◌, ◌-◌, ◌*◌, ◌/◌, ◌%◌, ◌≤◌, ◌<◌}
use Rattle.std.proofs.Common.{le_refl, le_trans, zero-lt-suc, div-mul-le_self, le-div_iff_mul-le, mul-le-mul_left, arith}
use Rattle.std.proofs.Math.Nat.{div-zero, div-add-mod, mul-div-le, lt-mul-div-succ, div-eq_of_lt-le, add-mul-div_left, add-mul-mod_self_left, lt_of_mul-lt-mul_left}

-- a number that code may divide by
pub record Divisor (d : ℕ) : Type 0 where
  pub some : 0 < d

pub floor_below : (n m : ℕ) → m * (n / m) ≤ n
floor_below n m = mul-div-le n m

pub floor_above : (n m : ℕ) → 0 < m → n < m * (n / m + 1)
floor_above n m h = lt-mul-div-succ n h

pub floor_unique : (n m q : ℕ) → m * q ≤ n → n < m * (q + 1) → n / m ≡ q
floor_unique n m q lo hi = div-eq_of_lt-le m (omega arith) (omega arith)

pub floor_mono : (a b m : ℕ) → a ≤ b → a / m ≤ b / m
floor_mono a b zero l = simp div-zero (le_refl 0)
floor_mono a b (suc m) l = (le-div_iff_mul-le (zero-lt-suc m)).1 (le_trans (div-mul-le_self a (suc m)) l)

pub floor_shift : (a m k : ℕ) → 0 < m → (a + m * k) / m ≡ a / m + k
floor_shift a m k h = add-mul-div_left a k h

-- n over m, rounded up; at m = 0, the one place where the minus is not exact, it is 0, as n / 0 is
unfoldable pub ceil : ℕ → ℕ → ℕ
ceil n m = (n + (m - 1)) / m

-- a and b, which differ by a multiple of c, have one remainder
pub rest_of_sum : (a b c k : ℕ) → a ≡ b + c * k → a % c ≡ b % c
rest_of_sum a b c k e = rw e (add-mul-mod_self_left b c k)

-- two different numbers with one remainder lie c or more apart
pub same_rest_gap : (x r c : ℕ) → x % c ≡ r % c → x < r → x + c ≤ r
same_rest_gap x r c e l =
    let d : x / c < r / c = lt_of_mul-lt-mul_left c (omega (arith, div-add-mod x c, div-add-mod r c)) in
    omega (arith, mul-le-mul_left c d, div-add-mod x c, div-add-mod r c)
