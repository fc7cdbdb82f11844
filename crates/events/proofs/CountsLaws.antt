-- Laws of specs/Counts.antt that rest on a definition which an edit of must-fail/ changes.
-- How often the node behind a queue has fired in the immediate run (01, Firing; 004, Lemma 5.1).
--   fires_below                 it is 0 below τ; fires_from, in FiresFrom.antt, has the other case
--   fires_pos                   it is 0 unless τ tokens came
--   fires_reach                 it is k + 1 or more exactly from τ + c * k tokens on
--   fires_mono, fires_shift     more tokens give no fewer firings; c * k more tokens, k more firings
--   fires_settles               so many firings leave less than τ
--   fires_unique, fires_is      it is the only count that leaves less than τ and whose last firing found τ
use Rattle.std.specs.Prelude.{◌≡◌, ◌↔◌, ℕ, zero, suc, ◌+◌, ◌-◌, ◌*◌, ◌/◌, ◌≤◌, ◌<◌}
use Rattle.std.proofs.Common.{sym, ap, lt_of_not-le, le-div_iff_mul-le, arith, lt-ltb}
use Rattle.std.proofs.Math.Decide.{dec_le}
use Rattle.arith.specs.Division.{floor_above, floor_unique, floor_mono, floor_shift}
use Rattle.events.specs.Counts.{fires}
use Rattle.events.proofs.FiresFrom.{fires_from}

-- below τ none
pub fires_below : (τ c m : ℕ) → m < τ → fires τ c m ≡ 0
unfolding fires
fires_below τ c m h = simp (lt-ltb m τ h)

-- a firing needs τ tokens
pub fires_pos : (τ c m : ℕ) → 0 < fires τ c m → τ ≤ m
fires_pos τ c m h = by (dec_le τ m)
  where
    by : Dec (τ ≤ m) → τ ≤ m
    by (yes l) = l
    by (no f) = absurd (omega (arith, fires_below τ c m (lt_of_not-le f)))

-- the firing after k others needs τ + c * k of them
pub fires_reach : (τ c m k : ℕ) → 0 < c → (suc k ≤ fires τ c m) ↔ (τ + c * k ≤ m)
fires_reach τ c m k hc = (out, back)
  where
    out : suc k ≤ fires τ c m → τ + c * k ≤ m
    out h =
        let l : τ ≤ m = fires_pos τ c m (omega arith) in
        let d : k ≤ (m - τ) / c = omega (arith, fires_from τ c m l) in
        omega (arith, (le-div_iff_mul-le {x = k} {y = m - τ} hc).0 d)

    back : τ + c * k ≤ m → suc k ≤ fires τ c m
    back h = omega (arith, fires_from τ c m (omega arith), (le-div_iff_mul-le {x = k} {y = m - τ} hc).1 (omega arith))

-- more tokens give no fewer firings
pub fires_mono : (τ c m n : ℕ) → m ≤ n → fires τ c m ≤ fires τ c n
fires_mono τ c m n l = by (dec_le τ m)
  where
    by : Dec (τ ≤ m) → fires τ c m ≤ fires τ c n
    by (yes h) = omega (arith, fires_from τ c m h, fires_from τ c n (omega arith), floor_mono (m - τ) (n - τ) c (omega arith))
    by (no f) = omega (arith, fires_below τ c m (lt_of_not-le f))

-- c * k more tokens give k more firings, once there is one
pub fires_shift : (τ c m k : ℕ) → 0 < c → 0 < fires τ c m → fires τ c (m + c * k) ≡ fires τ c m + k
fires_shift τ c m k hc h =
    let l : τ ≤ m = fires_pos τ c m h in
    let e : m + c * k - τ ≡ (m - τ) + c * k = omega arith in
    omega (arith, fires_from τ c m l, fires_from τ c (m + c * k) (omega arith), ap (λ (n : ℕ). n / c) e, floor_shift (m - τ) c k hc)

-- so many firings leave less than τ
pub fires_settles : (τ c m : ℕ) → 0 < c → m < τ + c * fires τ c m
fires_settles τ c m hc = by (dec_le τ m)
  where
    by : Dec (τ ≤ m) → m < τ + c * fires τ c m
    by (yes h) = omega (arith, ap (λ (n : ℕ). c * n) (fires_from τ c m h), floor_above (m - τ) c hc)
    by (no f) = omega (arith, lt_of_not-le f)

-- it is the only count that leaves less than τ and whose last firing found τ
pub fires_unique : (τ c N M x : ℕ) → 0 < c → x + c * M ≡ N → x < τ → (0 < M → τ ≤ x + c) → M ≡ fires τ c N
fires_unique τ c N zero x hc bal low last = sym (fires_below τ c N (omega arith))
fires_unique τ c N (suc M) x hc bal low last =
    let found : τ ≤ x + c = last (omega arith) in
    let q : (N - τ) / c ≡ M = floor_unique (N - τ) c M (omega arith) (omega arith) in
    omega (arith, fires_from τ c N (omega arith))

-- the same with what `owed` says of the last firing
pub fires_is : (τ c N M x : ℕ) → 0 < c → N ≡ x + c * M → x < τ → (0 < M → c * M + τ ≤ N + c) → M ≡ fires τ c N
fires_is τ c N M x hc bal low last = fires_unique τ c N M x hc (sym bal) low (λ some. omega (arith, last some))
