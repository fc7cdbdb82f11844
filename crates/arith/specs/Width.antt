-- What fits a width still fits it after a division, a remainder or a gcd, at any number w of bits.
--   quotient_fits       a / b fits where a does, whatever b is: a / b ≤ a, and a / 0 is 0
--   remainder_fits      a % b fits where a does, whatever b is: a % b ≤ a, and a % 0 is a
--   gcd_fits            gcd a b fits where both do; each is needed, since gcd a 0 is a and gcd 0 b is b
use Rattle.std.specs.Prelude.{ℕ, zero, suc, ◌/◌, ◌%◌, ◌^◌, ◌<◌}
use Rattle.std.proofs.Common.{lt_of_le_of_lt, zero-lt-suc, div-le_self}
use Rattle.std.proofs.Math.Nat.{mod-le}
use Rattle.arith.specs.Gcd.{gcd, gcd_zero, gcd_le_right}

pub quotient_fits : (w a b : ℕ) → a < 2 ^ w → a / b < 2 ^ w
quotient_fits w a b h = lt_of_le_of_lt (div-le_self a b) h

pub remainder_fits : (w a b : ℕ) → a < 2 ^ w → a % b < 2 ^ w
remainder_fits w a b h = lt_of_le_of_lt (mod-le a b) h

pub gcd_fits : (w a b : ℕ) → a < 2 ^ w → b < 2 ^ w → gcd a b < 2 ^ w
gcd_fits w a zero ha hb = rw gcd_zero ha
gcd_fits w a (suc b) ha hb = lt_of_le_of_lt (gcd_le_right a (suc b) (zero-lt-suc b)) hb
