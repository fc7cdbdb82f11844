-- Texts that write a number (01, Report program: "writes decimal text, a minus sign before a negative margin"), said without `decimal` and `integer`; and which bytes the words
-- of a report are.
--   text_none, text_more
--                      the bytes `text s` of a string s are the codes of its characters, in order
--   Writes t n         the bytes t write n: one digit d, or what writes the tens, which are not 0, and one digit behind it
--   WritesSigned t z   the bytes t write the signed number z: as its size, with a minus sign before a negative one
--   writes_same, signed_same
--                      two texts that write one number are the same text
--   writes_decimal, signed_integer
--                      it is `decimal`'s, and `integer`'s, and nothing else
use Rattle.std.specs.Prelude.{◌≡◌, refl, ◌↔◌, List, [], ◌∷◌, ◌++◌, ℕ, suc, ◌+◌, ◌*◌, ◌/◌, ◌%◌, ◌<◌, ℤ, pos, negsuc}
use Rattle.std.proofs.Common.{ap, subst, mod-eq_of_lt, arith}
use Prim.Native.Char.{Char, code}
use Prim.Native.String.{String, [] as none, ◌∷◌ as ◌then◌}
use Rattle.ardenquill.specs.Reports.{decimal, by_digits, integer, text}

-- a byte for each character of a string
pub text_none : text none ≡ []
text_none = refl

pub text_more : (c : Char) (s : String) → text (c then s) ≡ code c ∷ text s
text_more c s = refl

-- "decimal text": '0' is 48, and a digit behind a text makes its number ten times as much, and itself more
pub data Writes : List ℕ → ℕ → Type 0 where
  one : (d : ℕ) → d < 10 → Writes ((48 + d) ∷ []) d
  more : {t : List ℕ} {n : ℕ} (d : ℕ) → d < 10 → 0 < n → Writes t n → Writes (t ++ ((48 + d) ∷ [])) (10 * n + d)

-- "a minus sign before a negative": '-' is 45, pos n is n and negsuc n is -(n+1)
pub data WritesSigned : List ℕ → ℤ → Type 0 where
  plain : {t : List ℕ} {n : ℕ} → Writes t n → WritesSigned t (pos n)
  minus : {t : List ℕ} {n : ℕ} → Writes t (suc n) → WritesSigned (45 ∷ t) (negsuc n)

-- two texts that write equal numbers are the same text
same : {s t : List ℕ} {m n : ℕ} → Writes s m → Writes t n → m ≡ n → s ≡ t
same (one d l) (one e k) q = rw q
same (one d l) (more e k some w) q = absurd (omega arith)
same (more d l some v) (one e k) q = absurd (omega arith)
same (more {n = m} d l i v) (more {n} e k j w) q =
    let last : d ≡ e = omega arith in
    let tens : m ≡ n = omega arith in
    rw last (ap (λ (u : List ℕ). u ++ ((48 + e) ∷ [])) (same v w tens))

pub writes_same : {s t : List ℕ} {n : ℕ} → Writes s n → Writes t n → s ≡ t
writes_same v w = same v w refl

-- and so of signed numbers
pub signed_same : {s t : List ℕ} {z : ℤ} → WritesSigned s z → WritesSigned t z → s ≡ t
signed_same (plain v) (plain w) = writes_same v w
signed_same (minus v) (minus w) = ap (λ (u : List ℕ). 45 ∷ u) (writes_same v w)

-- the texts of Digits and Signed write their numbers
decimal_writes : (n : ℕ) → Writes (decimal n) n
decimal_writes = by_digits (λ n t. Writes t n)
    (λ n h. rw (mod-eq_of_lt h) (one n h))
    (λ n h w. subst (Writes (decimal (n / 10) ++ ((48 + n % 10) ∷ []))) (omega arith) (more (n % 10) (omega arith) (omega arith) w))

integer_writes : (z : ℤ) → WritesSigned (integer z) z
unfolding integer
integer_writes (pos n) = plain (decimal_writes n)
integer_writes (negsuc n) = minus (decimal_writes (suc n))

-- and no other text does
pub writes_decimal : (t : List ℕ) (n : ℕ) → Writes t n ↔ (t ≡ decimal n)
writes_decimal t n = (λ w. writes_same w (decimal_writes n), λ e. rw e (decimal_writes n))

pub signed_integer : (t : List ℕ) (z : ℤ) → WritesSigned t z ↔ (t ≡ integer z)
signed_integer t z = (λ w. signed_same w (integer_writes z), λ e. rw e (integer_writes z))
