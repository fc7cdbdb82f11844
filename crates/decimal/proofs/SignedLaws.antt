-- Laws of specs/Signed.antt that rest on a definition which an edit of must-fail/ changes.
-- Signed numbers as decimal text (01, Report program: "a minus sign before a negative margin").
--   integer_minus, _plain  its two cases
--   minus_exact            the first byte is a minus sign exactly where the number is negative
--   integer_short, _word   at most a byte more than the text of its size; at most 11 for a number of 32 bits
use Rattle.std.specs.Prelude.{◌≡◌, refl, true, false, ◌↔◌, ◌∷◌, ℕ, suc, ◌+◌, ◌^◌, ◌≤◌, ◌<◌, length, get_or, ℤ, pos, negsuc, nat_abs}
use Rattle.std.proofs.Common.{arith, ltb-true}
use Rattle.std.specs.Int.Signed.{lt_z}
use Rattle.decimal.specs.Digits.{decimal}
use Rattle.decimal.proofs.DigitsLaws.{decimal_some, decimal_digits, decimal_short}
use Rattle.decimal.specs.Signed.{integer}

pub integer_minus : (z : ℤ) → lt_z z (pos 0) ≡ true → integer z ≡ 45 ∷ decimal (nat_abs z)
unfolding integer
integer_minus (pos n) e = absurd (omega (arith, ltb-true n 0 e))
integer_minus (negsuc n) e = refl

pub integer_plain : (z : ℤ) → lt_z z (pos 0) ≡ false → integer z ≡ decimal (nat_abs z)
unfolding integer
integer_plain (pos n) e = refl
integer_plain (negsuc n) e = let f : ◌≡◌ {A = ℕ} 0 1 = cc in absurd (omega arith)

pub minus_exact : (z : ℤ) → (get_or (integer z) 0 0 ≡ 45) ↔ (lt_z z (pos 0) ≡ true)
unfolding integer
minus_exact (pos n) = (λ e. absurd (omega (arith, decimal_digits n 0 (decimal_some n))), λ e. absurd (omega (arith, ltb-true n 0 e)))
minus_exact (negsuc n) = (λ e. refl, λ e. refl)

pub integer_short : (d : ℕ) (z : ℤ) → nat_abs z < 10 ^ d → 0 < d → length (integer z) ≤ d + 1
unfolding integer
integer_short d (pos n) h p = omega (arith, decimal_short d n h p)
integer_short d (negsuc n) h p = omega (arith, decimal_short d (suc n) h p)

pub integer_word : (z : ℤ) → nat_abs z ≤ 2 ^ 31 → length (integer z) ≤ 11
integer_word z h = integer_short 10 z (omega arith) (omega arith)
