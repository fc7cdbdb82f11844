-- Laws of specs/Division.antt that rest on a definition which an edit of must-fail/ changes.
-- Division rounded down, n / m, division rounded up, and the remainder n % m.
--   ceil_suc                    the same with no minus, at m = k + 1
--   ceil_above, _least, _below  m * ceil n m is a multiple of m that is at least n, the least such, and less than m above n
--   ceil_unique                 and ceil n m is the only such number
--   ceil_quotient               it is n / m, and one more where a remainder is left
--   ceil_mono, _shift           as for n / m
--   ceil_zero                   no multiple is needed for 0
--   ceil_multiple, _between     one more in n is one more in ceil n m where m divides n, and no more elsewhere
--   ceil_rises                  so where it is one more, n is the multiple
use Rattle.std.specs.Prelude.{◌≡◌, refl, ◌≢◌, ℕ, zero, suc, ◌+◌, ◌-◌, ◌*◌, ◌/◌, ◌%◌, ◌≤◌, ◌<◌, min}
use Rattle.std.proofs.Common.{sym, ap, subst, zero-lt-suc, div-lt_iff_lt-mul, arith}
use Rattle.std.specs.Int.{◌∣◌}
use Rattle.std.proofs.Math.Nat.{mul-div_cancel', dvd-mul_right, div-zero}
use Rattle.arith.specs.Division.{floor_below, floor_above, floor_unique, floor_mono, ceil}

-- the minus is exact at each m that is not 0
pub ceil_suc : (n k : ℕ) → ceil n (suc k) ≡ (n + k) / suc k
unfolding ceil
ceil_suc n k = ap (λ (i : ℕ). (n + i) / suc k) (omega arith)

pub ceil_above : (n m : ℕ) → 0 < m → n ≤ m * ceil n m
unfolding ceil
ceil_above n m h = omega (arith, floor_above (n + (m - 1)) m h)

pub ceil_least : (n m q : ℕ) → n ≤ m * q → ceil n m ≤ q
unfolding ceil
ceil_least n zero q l = rw div-zero (omega arith)
ceil_least n (suc k) q l = omega (arith, (div-lt_iff_lt-mul {x = n + (suc k - 1)} {y = q + 1} (zero-lt-suc k)).1 (omega arith))

pub ceil_below : (n m : ℕ) → 0 < m → m * ceil n m < n + m
unfolding ceil
ceil_below n m h = omega (arith, floor_below (n + (m - 1)) m)

pub ceil_unique : (n m q : ℕ) → n ≤ m * q → m * q < n + m → ceil n m ≡ q
unfolding ceil
ceil_unique n m q lo hi = floor_unique (n + (m - 1)) m q (omega arith) (omega arith)

pub ceil_quotient : (n m : ℕ) → 0 < m → ceil n m ≡ n / m + min 1 (n % m)
ceil_quotient n m h = by (n % m) refl
  where
    by : (r : ℕ) → n % m ≡ r → ceil n m ≡ n / m + min 1 r
    by zero e = ceil_unique n m (n / m + min 1 0) (omega arith) (omega arith)
    by (suc r) e = let one : min 1 (suc r) ≡ 1 = omega arith in rw one (ceil_unique n m (n / m + 1) (omega arith) (omega arith))

pub ceil_mono : (a b m : ℕ) → a ≤ b → ceil a m ≤ ceil b m
unfolding ceil
ceil_mono a b m l = floor_mono (a + (m - 1)) (b + (m - 1)) m (omega arith)

pub ceil_shift : (a m k : ℕ) → 0 < m → ceil (a + m * k) m ≡ ceil a m + k
ceil_shift a m k h = ceil_unique (a + m * k) m (ceil a m + k) (omega (arith, ceil_above a m h)) (omega (arith, ceil_below a m h))

pub ceil_zero : (m : ℕ) → 0 < m → ceil 0 m ≡ 0
ceil_zero m h = ceil_unique 0 m 0 (omega arith) (omega arith)

-- the next number after a multiple, and after none
pub ceil_multiple : (n m : ℕ) → 0 < m → m ∣ n → ceil (suc n) m ≡ suc (ceil n m)
ceil_multiple n m h d =
    let e : m * (n / m) ≡ n = mul-div_cancel' m d in
    let q : ceil n m ≡ n / m = ceil_unique n m (n / m) (omega (arith, e)) (omega (arith, e)) in
    rw q (ceil_unique (suc n) m (suc (n / m)) (omega (arith, e)) (omega (arith, e)))

pub ceil_between : (n m : ℕ) → 0 < m → (m ∣ n → ⊥) → ceil (suc n) m ≡ ceil n m
ceil_between n m h none =
    let other : n ≢ m * ceil n m = λ e. none (subst (λ (x : ℕ). m ∣ x) (sym e) (dvd-mul_right m (ceil n m))) in
    ceil_unique (suc n) m (ceil n m) (omega (arith, other, ceil_above n m h)) (omega (arith, ceil_below n m h))

pub ceil_rises : (n m : ℕ) → 0 < m → ceil (suc n) m ≡ suc (ceil n m) → ceil n m * m ≡ n
ceil_rises n m h e = omega (arith, ceil_above n m h, subst (λ (q : ℕ). m * q < suc n + m) e (ceil_below (suc n) m h))
