-- Numbers as decimal text (01, Report program: "writes decimal text", in its example without leading zeros).
--   last_digit n        the byte of n's last digit
--   digits_in k n       the bytes of n's digits, none for 0; k bounds how many
--   decimal n           the bytes of n's digits, the highest first
--   value_from v t      the number that the digits t stand for behind those of v
--   value_of t           the number that digits in a row stand for
--   Digits t            each byte of t is a digit
--   column n b          a number's text and one byte behind it
-- What is named here and not declared stands in proofs/DigitsLaws.antt.
use Rattle.std.specs.Prelude.{◌≡◌, refl, Bool, true, false, ◌⊎◌, List, [], ◌∷◌, ◌++◌, ℕ, zero, suc, ◌+◌, ◌*◌, ◌-◌, ◌/◌, ◌%◌, ◌≤◌, ◌<◌, ltb, length, get_or}
use Rattle.std.proofs.Common.{inl, inr, ltb-true, ltb-false}

pub below : (a b : ℕ) → (a < b) ⊎ (b ≤ a)
below a b = by (ltb a b) refl
  where
    by : (t : Bool) → ltb a b ≡ t → (a < b) ⊎ (b ≤ a)
    by true e = inl (ltb-true a b e)
    by false e = inr (ltb-false a b e)

-- '0' is 48, and the other digits follow it
abbrev pub last_digit : ℕ → ℕ
last_digit n = 48 + n % 10

-- the digits of n, of which 0 has none; k bounds how many
unfoldable pub digits_in : ℕ → ℕ → List ℕ
digits_in zero n = []
digits_in (suc k) zero = []
digits_in (suc k) (suc n) = digits_in k (suc n / 10) ++ (last_digit (suc n) ∷ [])

-- "decimal text": the digits before the last one, of which a number below 10 has none, and the last one
unfoldable pub decimal : ℕ → List ℕ
unfolding digits_in
decimal n = digits_in n (n / 10) ++ (last_digit n ∷ [])

-- digits behind a number that was read so far: each one makes it ten times as much, and itself more
unfoldable pub value_from : ℕ → List ℕ → ℕ
value_from v [] = v
value_from v (b ∷ t) = value_from (10 * v + (b - 48)) t

unfoldable pub value_of : List ℕ → ℕ
unfolding value_from
value_of t = value_from 0 t

pub value_last : (v : ℕ) (s : List ℕ) (b : ℕ) → value_from v (s ++ (b ∷ [])) ≡ 10 * value_from v s + (b - 48)
unfolding value_from
value_last v [] b = refl
value_last v (a ∷ s) b = value_last (10 * v + (a - 48)) s b

-- '0' to '9'
abbrev pub Digits : List ℕ → Type 0
Digits t = (i : ℕ) → i < length t → (48 ≤ get_or t i 0) × (get_or t i 0 ≤ 57)

-- a number and what ends it, a comma or a line feed (01, Report program)
unfoldable pub column : ℕ → ℕ → List ℕ
unfolding decimal
column n b = decimal n ++ (b ∷ [])
