-- Laws of specs/Digits.antt that rest on a definition which an edit of must-fail/ changes.
-- Numbers as decimal text (01, Report program: "writes decimal text", in its example without leading zeros).
--   decimal_one, _more  its two cases: a number of one digit, and of more
--   by_digits           what holds of the numbers of one digit, and with one digit more, holds of every number and its text
--   value_of_decimal    the text read back is the number
--   decimal_digits      each of its bytes is a digit
--   no_leading_zero     the first one is not '0' unless the number is 0
--   decimal_length      a byte more for one digit more
--   decimal_some, _short, _long
--                       it has a byte; at most d bytes where the number is below 10 ^ d, and more than d from there on
--   decimal_width       by the whole part k of its logarithm it has k + 1 bytes, and 0 has one
--   decimal_word        at most 10 bytes for a number of 32 bits
--   column_word         at most 11 bytes for a number of 32 bits
use Rattle.std.specs.Prelude.{◌≡◌, refl, List, [], ◌∷◌, ◌++◌, ℕ, zero, suc, ◌+◌, ◌*◌, ◌/◌, ◌%◌, ◌^◌, ◌≤◌, ◌<◌, max, length, get_or}
use Rattle.std.proofs.Common.{sym, ap, ◌∙◌, ⊎_elim, not-suc-le-zero, pow-suc, mod-eq_of_lt, arith, length-append}
use Rattle.std.proofs.Math.Nat.{one-le-pow}
use Rattle.std.proofs.Math.ListN.{get_or-append}
use Rattle.std.proofs.lemmas.List.{get_or_at}
use Rattle.decimal.specs.Digits.{below, last_digit, digits_in, decimal, value_of, value_last, Digits, column}

none : (k : ℕ) → digits_in k 0 ≡ []
unfolding digits_in
none zero = refl
none (suc k) = refl

enough : (j k n : ℕ) → n ≤ j → n ≤ k → digits_in j n ≡ digits_in k n
unfolding digits_in
enough zero k n h l = let e : n ≡ 0 = omega arith in rw (e, none k)
enough (suc j) k zero h l = sym (none k)
enough (suc j) zero (suc n) h l = absurd (not-suc-le-zero l)
enough (suc j) (suc k) (suc n) h l = ap (λ (s : List ℕ). s ++ (last_digit (suc n) ∷ [])) (enough j k (suc n / 10) (omega arith) (omega arith))

some : (k n : ℕ) → n ≤ k → 0 < n → digits_in k n ≡ decimal n
unfolding digits_in decimal
some zero n h p = absurd (omega arith)
some (suc k) zero h p = absurd (not-suc-le-zero p)
some (suc k) (suc n) h p = ap (λ (s : List ℕ). s ++ (last_digit (suc n) ∷ [])) (enough k (suc n) (suc n / 10) (omega arith) (omega arith))

pub decimal_one : (n : ℕ) → n < 10 → decimal n ≡ last_digit n ∷ []
unfolding decimal
decimal_one n h = let e : n / 10 ≡ 0 = omega arith in rw (e, none n)

pub decimal_more : (n : ℕ) → 10 ≤ n → decimal n ≡ decimal (n / 10) ++ (last_digit n ∷ [])
unfolding decimal
decimal_more n h = ap (λ (s : List ℕ). s ++ (last_digit n ∷ [])) (some n (n / 10) (omega arith) (omega arith))

pub by_digits : (P : ℕ → List ℕ → Type 0)
    → ((n : ℕ) → n < 10 → P n (last_digit n ∷ []))
    → ((n : ℕ) → 10 ≤ n → P (n / 10) (decimal (n / 10)) → P n (decimal (n / 10) ++ (last_digit n ∷ [])))
    → (n : ℕ) → P n (decimal n)
by_digits P one more n = up_to (suc n) n (omega arith)
  where
    up_to : (k n : ℕ) → n < k → P n (decimal n)
    up_to zero n l = absurd (not-suc-le-zero l)
    up_to (suc k) n l = ⊎_elim
        (λ (h : n < 10). rw (decimal_one n h) (one n h))
        (λ (h : 10 ≤ n). rw (decimal_more n h) (more n h (up_to k (n / 10) (omega arith))))
        (below n 10)

pub value_of_decimal : (n : ℕ) → value_of (decimal n) ≡ n
unfolding value_of
value_of_decimal = by_digits (λ n t. value_of t ≡ n)
    (λ n h. omega arith)
    (λ n h e. omega (arith, value_last 0 (decimal (n / 10)) (last_digit n)))

pub decimal_digits : (n : ℕ) → Digits (decimal n)
decimal_digits = by_digits (λ n t. Digits t) (λ n h. one n) (λ n h d. more n (decimal (n / 10)) d)
  where
    one : (n : ℕ) → Digits (last_digit n ∷ [])
    one n i l = let e : i ≡ 0 = omega arith in rw e (omega arith, omega arith)

    more : (n : ℕ) (s : List ℕ) → Digits s → Digits (s ++ (last_digit n ∷ []))
    more n s d i l = ⊎_elim
        (λ (h : i < length s). rw (get_or-append s (last_digit n ∷ []) 0 i h) (d i h))
        (λ (h : length s ≤ i).
        let e : length s ≡ i = omega (arith, length-append s (last_digit n ∷ [])) in
        rw (get_or_at s (last_digit n) [] 0 i e) (omega arith, omega arith))
        (below i (length s))

pub decimal_length : (n : ℕ) → 10 ≤ n → length (decimal n) ≡ length (decimal (n / 10)) + 1
decimal_length n h = ap length (decimal_more n h) ∙ length-append (decimal (n / 10)) (last_digit n ∷ [])

pub decimal_some : (n : ℕ) → 0 < length (decimal n)
decimal_some = by_digits (λ n t. 0 < length t) (λ n h. omega arith) (λ n h l. omega (arith, length-append (decimal (n / 10)) (last_digit n ∷ [])))

pub no_leading_zero : (n : ℕ) → 0 < n → 48 < get_or (decimal n) 0 0
no_leading_zero = by_digits (λ n t. 0 < n → 48 < get_or t 0 0)
    (λ n h p. let e : n % 10 ≡ n = mod-eq_of_lt h in omega arith)
    (λ n h l p. rw (get_or-append (decimal (n / 10)) (last_digit n ∷ []) 0 0 (decimal_some (n / 10))) (l (omega arith)))

pub decimal_short : (d n : ℕ) → n < 10 ^ d → 0 < d → length (decimal n) ≤ d
decimal_short zero n h p = absurd (not-suc-le-zero p)
decimal_short (suc zero) n h p = omega (arith, ap length (decimal_one n h))
decimal_short (suc (suc d)) n h p = ⊎_elim
    (λ (l : n < 10). omega (arith, ap length (decimal_one n l)))
    (λ (l : 10 ≤ n).
    let fewer : n / 10 < 10 ^ suc d = omega (arith, pow-suc 10 (suc d)) in
    omega (arith, decimal_length n l, decimal_short (suc d) (n / 10) fewer (omega arith)))
    (below n 10)

pub decimal_long : (d n : ℕ) → 10 ^ d ≤ n → d < length (decimal n)
decimal_long zero n h = decimal_some n
decimal_long (suc d) n h =
    let more : 10 ^ d ≤ n / 10 = omega (arith, pow-suc 10 d) in
    let tens : 10 ≤ n = omega (arith, one-le-pow d 10 (omega arith)) in
    omega (arith, decimal_length n tens, decimal_long d (n / 10) more)

pub decimal_width : (k n : ℕ) → 10 ^ k ≤ max n 1 → max n 1 < 10 * 10 ^ k → length (decimal n) ≡ k + 1
decimal_width k n lo hi = omega (arith, decimal_short (suc k) n (omega (arith, pow-suc 10 k)) (omega arith), long k lo)
  where
    long : (k : ℕ) → 10 ^ k ≤ max n 1 → k < length (decimal n)
    long zero l = decimal_some n
    long (suc k) l = decimal_long (suc k) n (omega (arith, pow-suc 10 k, one-le-pow k 10 (omega arith)))

pub decimal_word : (n : ℕ) → n < 2 ^ 32 → length (decimal n) ≤ 10
decimal_word n h = decimal_short 10 n (omega arith) (omega arith)

pub column_word : (n b : ℕ) → n < 2 ^ 32 → length (column n b) ≤ 11
unfolding column
column_word n b h = omega (arith, length-append (decimal n) (b ∷ []), decimal_word n h)
