-- The binary gcd: the twos of a number are taken out by a shift, and a difference of odd numbers stands for a remainder.
--   twos n                the factors of two that n has: how many zeros end its 32 digits
--   OddPart n r           r is n without them: r is odd, and r times that power of two is n
--   odd_part              the shift that the code makes gives it
--   twos_lt               a number that is not 0 has fewer than 32 of them
--   distance x y          how far x and y are apart
--   Turn a b x y          what the loop keeps: x and y are odd, and their gcd times the twos that a and b share is gcd a b
--   turn_first            it holds of the odd parts of a and b
--   turn_next             and is kept where the lesser number and the odd part of the distance come next
--   turn_less             whose sum is less
--   turn_last             so where x and y are equal, x shifted by those twos is gcd a b
use Rattle.std.specs.Prelude.{◌≡◌, refl, ◌⊎◌, ℕ, zero, suc, ◌+◌, ◌-◌, ◌*◌, ◌/◌, ◌%◌, ◌^◌, ◌≤◌, ◌<◌, min}
use Rattle.std.proofs.Common.{sym, ap, ap₂, ◌∙◌, subst, inl, inr, ⊎_elim, zero-le, suc-le-suc, one-mul, mul_comm, mul_assoc, div-one, lt_of_not-le, lt_of_le_of_lt, mod-eq_of_lt}
use Rattle.std.proofs.Common.{arith, pow-add, pow_pos, pow_mono}
use Rattle.std.specs.Int.{◌∣◌}
use Rattle.std.proofs.Math.Nat.{pow-succ', div-div-eq-div-mul, dvd_refl, dvd-add, dvd-sub}
use Rattle.std.specs.Int.Count.{count_trailing_zeros, under}
use Rattle.arith.specs.Gcd.{gcd, gcd_dvd_left, gcd_dvd_right, gcd_greatest, gcd_unique, gcd_step, gcd_le_left, gcd_one}
use Rattle.arith.specs.Products.{gcd_comm, gcd_scale, gcd_coprime}

-- how many twos a number of 32 digits has as factors
abbrev pub twos : ℕ → ℕ
twos n = count_trailing_zeros 32 n

-- r is n without its factors of two
pub record OddPart (n r : ℕ) : Type 0 where
  pub odd : r % 2 ≡ 1
  pub whole : 2 ^ twos n * r ≡ n

-- halving an even number takes one two out of it, so the twos of n / 2 and one more are those of n
zeros_whole : (k n : ℕ) → 2 ^ count_trailing_zeros k n * (n / 2 ^ count_trailing_zeros k n) ≡ n
unfolding count_trailing_zeros
zeros_whole zero n = one-mul (n / 1) ∙ div-one n
zeros_whole (suc k) n = go (n % 2) refl (zeros_whole k (n / 2))
  where
    go : (r : ℕ) → n % 2 ≡ r → 2 ^ count_trailing_zeros k (n / 2) * (n / 2 / 2 ^ count_trailing_zeros k (n / 2)) ≡ n / 2
        → 2 ^ under r (count_trailing_zeros k (n / 2)) * (n / 2 ^ under r (count_trailing_zeros k (n / 2))) ≡ n
    go zero e ih =
        let t = count_trailing_zeros k (n / 2) in
        ap (λ (x : ℕ). x * (n / x)) (pow-succ' 2 t)
        ∙ ap (λ (x : ℕ). 2 * 2 ^ t * x) (sym (div-div-eq-div-mul n 2 (2 ^ t)))
        ∙ mul_assoc 2 (2 ^ t) (n / 2 / 2 ^ t)
        ∙ ap (λ (x : ℕ). 2 * x) ih
        ∙ omega arith
    go (suc r) e ih = one-mul (n / 1) ∙ div-one n

half_below : (k n : ℕ) → n < 2 ^ suc k → n / 2 < 2 ^ k
half_below k n l = omega (arith, pow-succ' 2 k)

-- and what is left at the end is odd
zeros_odd : (k n : ℕ) → 0 < n → n < 2 ^ k → n / 2 ^ count_trailing_zeros k n % 2 ≡ 1
unfolding count_trailing_zeros
zeros_odd zero n h l = absurd (omega arith)
zeros_odd (suc k) n h l = go (n % 2) refl (λ (e : n % 2 ≡ 0). zeros_odd k (n / 2) (omega arith) (half_below k n l))
  where
    go : (r : ℕ) → n % 2 ≡ r → (n % 2 ≡ 0 → n / 2 / 2 ^ count_trailing_zeros k (n / 2) % 2 ≡ 1) → n / 2 ^ under r (count_trailing_zeros k (n / 2)) % 2 ≡ 1
    go zero e ih =
        let t = count_trailing_zeros k (n / 2) in
        ap (λ (x : ℕ). x % 2) (ap (λ (x : ℕ). n / x) (pow-succ' 2 t) ∙ sym (div-div-eq-div-mul n 2 (2 ^ t))) ∙ ih e
    go (suc r) e ih = ap (λ (x : ℕ). x % 2) (div-one n) ∙ omega arith

pub odd_part : (n : ℕ) → 0 < n → n < 2 ^ 32 → OddPart n (n / 2 ^ twos n)
odd_part n h l = record { odd = zeros_odd 32 n h l; whole = zeros_whole 32 n }

power_le : (p r : ℕ) → 0 < r → p ≤ p * r
power_le p zero h = elim h [ ]
power_le p (suc r) h = omega arith

odd_part_le : (n r : ℕ) → OddPart n r → r ≤ n
odd_part_le n r o = omega (arith, power_le r (2 ^ twos n) (pow_pos (twos n)), mul_comm r (2 ^ twos n), o.whole)

-- 32 of them would make 2 ^ 32, which is more than n
pub twos_lt : (n : ℕ) → 0 < n → n < 2 ^ 32 → twos n < 32
twos_lt n h l =
    let o = odd_part n h l in
    let some : 0 < n / 2 ^ twos n = omega (arith, o.odd) in
    lt_of_not-le (λ (g : 32 ≤ twos n). omega (arith, pow_mono g, power_le (2 ^ twos n) (n / 2 ^ twos n) some, o.whole))

-- an odd number has no factor of two
gcd_two : (v : ℕ) → v % 2 ≡ 1 → gcd 2 v ≡ 1
gcd_two v e = gcd_comm 2 v ∙ gcd_step v 2 ∙ ap (gcd 2) e ∙ gcd_one 2

-- so the factors of two of the other number can be left out
gcd_odd : (t u v : ℕ) → v % 2 ≡ 1 → gcd (2 ^ t * u) v ≡ gcd u v
gcd_odd zero u v e = ap (λ (n : ℕ). gcd n v) (one-mul u)
gcd_odd (suc t) u v e =
    ap (λ (n : ℕ). gcd n v) (ap (λ (n : ℕ). n * u) (pow-succ' 2 t) ∙ mul_assoc 2 (2 ^ t) u)
    ∙ gcd_coprime 2 (2 ^ t * u) v (gcd_two v e) ∙ gcd_odd t u v e

-- of two numbers, one is at most the other
ordered : (i j : ℕ) → (i ≤ j) ⊎ (j ≤ i)
ordered zero j = inl zero-le
ordered (suc i) zero = inr zero-le
ordered (suc i) (suc j) = ⊎_elim (λ l. inl (suc-le-suc l)) (λ l. inr (suc-le-suc l)) (ordered i j)

-- of the twos of two numbers, their gcd has the fewer: where the first has no more than the second
twos_below : (i k u v : ℕ) → u % 2 ≡ 1 → gcd (2 ^ i * u) (2 ^ (i + k) * v) ≡ 2 ^ i * gcd u v
twos_below i k u v e =
    ap (λ (n : ℕ). gcd (2 ^ i * u) n) (ap (λ (n : ℕ). n * v) (pow-add 2 i k) ∙ mul_assoc (2 ^ i) (2 ^ k) v)
    ∙ gcd_scale u (2 ^ k * v) (2 ^ i)
    ∙ ap (λ (n : ℕ). 2 ^ i * n) (gcd_comm u (2 ^ k * v) ∙ gcd_odd k v u e ∙ gcd_comm v u)

-- and either way
twos_shared : (i j u v : ℕ) → u % 2 ≡ 1 → v % 2 ≡ 1 → gcd (2 ^ i * u) (2 ^ j * v) ≡ 2 ^ min i j * gcd u v
twos_shared i j u v eu ev = ⊎_elim fewer more (ordered i j)
  where
    fewer : i ≤ j → gcd (2 ^ i * u) (2 ^ j * v) ≡ 2 ^ min i j * gcd u v
    fewer l =
        let ej : j ≡ i + (j - i) = omega arith in
        let em : min i j ≡ i = omega arith in
        ap (λ (n : ℕ). gcd (2 ^ i * u) (2 ^ n * v)) ej ∙ twos_below i (j - i) u v eu ∙ ap (λ (n : ℕ). 2 ^ n * gcd u v) (sym em)

    more : j ≤ i → gcd (2 ^ i * u) (2 ^ j * v) ≡ 2 ^ min i j * gcd u v
    more l =
        let ei : i ≡ j + (i - j) = omega arith in
        let em : min i j ≡ j = omega arith in
        gcd_comm (2 ^ i * u) (2 ^ j * v) ∙ ap (λ (n : ℕ). gcd (2 ^ j * v) (2 ^ n * u)) ei ∙ twos_below j (i - j) v u ev
        ∙ ap (λ (n : ℕ). 2 ^ j * n) (gcd_comm v u) ∙ ap (λ (n : ℕ). 2 ^ n * gcd u v) (sym em)

-- the difference shares with the lesser number what the greater shares with it
gcd_minus : (x d : ℕ) → gcd x (x + d) ≡ gcd x d
gcd_minus x d = sym (
    gcd_unique x (x + d) (gcd x d) (gcd_dvd_left x d) (dvd-add _ (gcd_dvd_left x d) (gcd_dvd_right x d))
    (λ e p q. gcd_greatest x d e p (subst (λ (n : ℕ). e ∣ n) (rest x d) (dvd-sub e q p))))
  where
    rest : (x d : ℕ) → x + d - x ≡ d
    rest x d = omega arith

-- how far two numbers are apart
abbrev pub distance : ℕ → ℕ → ℕ
distance x y = (x - y) + (y - x)

gcd_distance : (x y : ℕ) → gcd x y ≡ gcd (min x y) (distance x y)
gcd_distance x y = ⊎_elim up down (ordered x y)
  where
    up : x ≤ y → gcd x y ≡ gcd (min x y) (distance x y)
    up l =
        let em : min x y ≡ x = omega arith in
        let ed : y ≡ x + distance x y = omega arith in
        ap (gcd x) ed ∙ gcd_minus x (distance x y) ∙ ap (λ (n : ℕ). gcd n (distance x y)) (sym em)

    down : y ≤ x → gcd x y ≡ gcd (min x y) (distance x y)
    down l =
        let em : min x y ≡ y = omega arith in
        let ed : x ≡ y + distance x y = omega arith in
        gcd_comm x y ∙ ap (gcd y) ed ∙ gcd_minus y (distance x y) ∙ ap (λ (n : ℕ). gcd n (distance x y)) (sym em)

-- what the loop of the binary gcd keeps
pub record Turn (a b x y : ℕ) : Type 0 where
  pub odd_x : x % 2 ≡ 1
  pub odd_y : y % 2 ≡ 1
  pub shared : 2 ^ min (twos a) (twos b) * gcd x y ≡ gcd a b

pub turn_first : (a b x y : ℕ) → OddPart a x → OddPart b y → Turn a b x y
turn_first a b x y ox oy = record {
  odd_x = ox.odd;
  odd_y = oy.odd;
  shared =
      sym (twos_shared (twos a) (twos b) x y ox.odd oy.odd) ∙ ap (λ (n : ℕ). gcd n (2 ^ twos b * y)) ox.whole ∙ ap (gcd a) oy.whole;
}

-- one of two odd numbers is odd
lesser_odd : (x y : ℕ) → x % 2 ≡ 1 → y % 2 ≡ 1 → min x y % 2 ≡ 1
lesser_odd x y ex ey = omega arith

-- m is the lesser of x and y, and d their distance
pub turn_next : (a b x y m d r : ℕ) → Turn a b x y → m ≡ min x y → d ≡ distance x y → OddPart d r → Turn a b m r
turn_next a b x y m d r t em ed o =
    let odd-m : m % 2 ≡ 1 = ap (λ (n : ℕ). n % 2) em ∙ lesser_odd x y t.odd_x t.odd_y in
    let same : gcd m r ≡ gcd x y =
    gcd_comm m r ∙ sym (gcd_odd (twos d) r m odd-m) ∙ ap (λ (n : ℕ). gcd n m) o.whole ∙ gcd_comm d m
    ∙ ap₂ gcd em ed ∙ sym (gcd_distance x y) in
    record { odd_x = odd-m; odd_y = o.odd; shared = ap (λ (n : ℕ). 2 ^ min (twos a) (twos b) * n) same ∙ t.shared }

pub turn_less : (a b x y m d r : ℕ) → Turn a b x y → m ≡ min x y → d ≡ distance x y → OddPart d r → m + r < x + y
turn_less a b x y m d r t em ed o = omega (arith, t.odd_x, t.odd_y, odd_part_le d r o)

gcd_self : (x : ℕ) → gcd x x ≡ x
gcd_self x = sym (gcd_unique x x x (dvd_refl x) (dvd_refl x) (λ d p q. p))

-- the gcd is at most a, so no digit is shifted out of the 32
pub turn_last : (a b x y t : ℕ) → Turn a b x y → x ≡ y → t ≡ min (twos a) (twos b) → 0 < a → a < 2 ^ 32 → (x * 2 ^ t) % 2 ^ 32 ≡ gcd a b
turn_last a b x y t turn e et some fits =
    let all : x * 2 ^ t ≡ gcd a b =
    mul_comm x (2 ^ t) ∙ ap₂ (λ (n k : ℕ). 2 ^ k * n) (sym (gcd_self x) ∙ ap (gcd x) e) et ∙ turn.shared in
    ap (λ (n : ℕ). n % 2 ^ 32) all ∙ mod-eq_of_lt (lt_of_le_of_lt (gcd_le_left a b some) fits)
