-- Laws of specs/Capacity.antt that rest on a definition which an edit of must-fail/ changes.
-- The capacity in force, and the margin.
--   capacity_written, _minimum
--                       the two cases
--   capacity_fits       it is at most a number that B and b both are at most
--   margin_balance      b and the margin make k, so it is the only such number
--   margin_over, _under it is k - b where b ≤ k, and minus b - k where k < b
--   margin_zero         with B = 0 the margin is 0
--   margin_negative     it is negative exactly where k is below b
--   short_is            and so exactly where B is not 0 and below b
use Rattle.std.specs.Prelude.{◌≡◌, refl, Bool, true, false, cond, ◌↔◌, ◌≢◌, ℕ, suc, ◌-◌, ◌≤◌, ◌<◌, ltb, eqb, pos, negsuc, neg_ℤ, ◌+ℤ◌}
use Rattle.std.proofs.Common.{ap, le_refl, arith, lt-ltb, le-ltb, ltb-true, ltb-false, ne_eqb}
use Rattle.std.specs.Int.Signed.{lt_z}
use Rattle.onequeue.specs.Capacity.{capacity, margin}

pub capacity_written : (B b : ℕ) → B ≢ 0 → capacity B b ≡ B
unfolding capacity
capacity_written B b h = simp (ne_eqb B 0 h)

pub capacity_minimum : (b : ℕ) → capacity 0 b ≡ b
unfolding capacity
capacity_minimum b = refl

pub capacity_fits : (m B b : ℕ) → B ≤ m → b ≤ m → capacity B b ≤ m
unfolding capacity
capacity_fits m B b hB hb = by (eqb B 0)
  where
    by : (t : Bool) → cond t b B ≤ m
    by true = hb
    by false = hB

pub margin_over : (k b : ℕ) → b ≤ k → margin k b ≡ pos (k - b)
unfolding margin
margin_over k b h = simp (le-ltb k b h)

pub margin_under : (k b : ℕ) → k < b → margin k b ≡ neg_ℤ (pos (b - k))
unfolding margin
margin_under k b h = let e : b - k ≡ suc (b - suc k) = omega arith in simp (lt-ltb k b h, e)

pub margin_balance : (k b : ℕ) → pos b +ℤ margin k b ≡ pos k
unfolding margin
margin_balance k b = by (ltb k b) refl
  where
    by : (t : Bool) → ltb k b ≡ t → pos b +ℤ cond t (negsuc (b - suc k)) (pos (k - b)) ≡ pos k
    by true e =
        let h : k < b = ltb-true k b e in
        let n : b - suc (b - suc k) ≡ k = omega arith in
        simp (le-ltb b (suc (b - suc k)) (omega arith), n)
    by false e = let h : b ≤ k = ltb-false k b e in ap pos (omega arith)

pub margin_zero : (b : ℕ) → margin (capacity 0 b) b ≡ pos 0
margin_zero b = rw (capacity_minimum b, margin_over b b (le_refl b)) (ap pos (omega arith))

pub margin_negative : (k b : ℕ) → (lt_z (margin k b) (pos 0) ≡ true) ↔ (k < b)
unfolding margin
margin_negative k b = (out (ltb k b) refl, λ h. simp (lt-ltb k b h))
  where
    out : (t : Bool) → ltb k b ≡ t → lt_z (cond t (negsuc (b - suc k)) (pos (k - b))) (pos 0) ≡ true → k < b
    out true q e = ltb-true k b q
    out false q e = absurd (omega (arith, ltb-true (k - b) 0 e))

pub short_is : (B b : ℕ) → (lt_z (margin (capacity B b) b) (pos 0) ≡ true) ↔ ((B ≢ 0) × (B < b))
short_is B b = (out, back)
  where
    out : lt_z (margin (capacity B b) b) (pos 0) ≡ true → (B ≢ 0) × (B < b)
    out e =
        let l : capacity B b < b = (margin_negative (capacity B b) b).0 e in
        let n : B ≢ 0 = λ z. let m : capacity B b ≡ b = rw z (capacity_minimum b) in omega arith in
        (n, omega (arith, capacity_written B b n))

    back : (B ≢ 0) × (B < b) → lt_z (margin (capacity B b) b) (pos 0) ≡ true
    back h = (margin_negative (capacity B b) b).1 (omega (arith, capacity_written B b h.0, h.1))
