-- How often a byte stands in a text.
--   occurrences b t     how many bytes of t are b; occurrences_append: of two texts in a row
--   Without b t         none is
--   without_append      nor of two such texts in a row
--   without_decimal, _integer
--                       nor of the text of a number, where b is below all that stand in one
use Rattle.std.specs.Prelude.{◌≡◌, cond, ◌≢◌, ℕ, suc, ◌+◌, ◌<◌, eqb, ℤ, pos, negsuc}
use Rattle.std.proofs.Math.Path.{refl}
use mathlib.Core.List.{List, [], ◌∷◌, ◌++◌}
use native.Mathlib.Omega.{arith}
use Rattle.std.proofs.Common.{ne_eqb}
use Rattle.decimal.specs.Digits.{Digits, decimal}
use Rattle.decimal.proofs.DigitsLaws.{decimal_digits}
use Rattle.decimal.specs.Signed.{integer}

-- how many bytes are b
unfoldable pub occurrences : ℕ → List ℕ → ℕ
occurrences b [] = 0
occurrences b (a ∷ t) = cond (eqb a b) 1 0 + occurrences b t

-- none is
pub record Without (b : ℕ) (t : List ℕ) : Type 0 where
  pub none : occurrences b t ≡ 0

pub occurrences_append : (b : ℕ) (s t : List ℕ) → occurrences b (s ++ t) ≡ occurrences b s + occurrences b t
unfolding occurrences
occurrences_append b [] t = omega arith
occurrences_append b (a ∷ s) t = omega (arith, occurrences_append b s t)

pub without_append : {b : ℕ} {s t : List ℕ} → Without b s → Without b t → Without b (s ++ t)
without_append {b} {s} {t} p q = record { none = omega (arith, occurrences_append b s t, p.none, q.none) }

-- a byte below '-' (45) stands in no text of a number
module _ (b : ℕ) (low : b < 45) where
  digits_none : (t : List ℕ) → Digits t → occurrences b t ≡ 0
  unfolding occurrences
  digits_none [] d = refl
  digits_none (a ∷ t) d =
      let other : a ≢ b = λ e. omega (arith, d 0 (omega arith)) in
      simp (ne_eqb a b other) (omega (arith, digits_none t (λ i l. d (suc i) (omega arith))))

  pub without_decimal : (n : ℕ) → Without b (decimal n)
  without_decimal n = record { none = digits_none (decimal n) (decimal_digits n) }

  pub without_integer : (z : ℤ) → Without b (integer z)
  unfolding integer occurrences
  without_integer (pos n) = without_decimal n
  without_integer (negsuc n) =
      let other : 45 ≢ b = λ e. omega arith in
      without_append {s = 45 ∷ []} (record { none = simp (ne_eqb 45 b other) }) (without_decimal (suc n))
