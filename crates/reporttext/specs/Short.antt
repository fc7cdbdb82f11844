-- How long a report can be.
--   AtMost k t       the text t has at most k bytes
--   longest_column   bytes enough for a number and the byte behind it
--   longest_line     bytes enough for every queue's line
--   longest_busy_line  bytes enough for every last line
--   longest_report   bytes enough for every report
--   LinesFit         what the code of the writer asks: few queues, and room
use Rattle.std.specs.Prelude.{List, [], ◌∷◌}
use Prim.Native.Nat.{ℕ, ◌+◌, ◌*◌, ◌^◌, ◌≤◌, ◌<◌}
use native.Mathlib.Omega.{arith}
use Rattle.std.proofs.Math.ListN.{length, length-append}
use Rattle.decimal.specs.Digits.{column}
use Rattle.decimal.proofs.DigitsLaws.{column_word}
use Rattle.reporttext.specs.Text.{heading_length, column_count, numbers, busy_word}

-- a text of at most k bytes
pub record AtMost (k : ℕ) (t : List ℕ) : Type 0 where
  pub bytes : length t ≤ k

-- a number of 32 bits has at most 10 digits, and one byte stands behind it
abbrev pub longest_column : ℕ
longest_column = 11

-- numbers of 32 bits
abbrev pub Words : List ℕ → Type 0
Words [] = Unit
Words (n ∷ ns) = (n < 2 ^ 32) × Words ns

pub numbers_short : (ns : List ℕ) → Words ns → length (numbers ns) ≤ longest_column * length ns
unfolding numbers
numbers_short [] h = omega arith
numbers_short (n ∷ ns) h = omega (arith, length-append (column n 44) (numbers ns), column_word n 44 h.0, numbers_short ns h.1)

-- each number with the comma behind it; 11 for the margin, which may have a sign, and 1 for the line feed
abbrev pub longest_line : ℕ
longest_line = longest_column * column_count + 12

-- the word with its comma, and two numbers
abbrev pub longest_busy_line : ℕ
longest_busy_line = length busy_word + 2 * longest_column

-- the first line, a line for each of 16 queues, and the last line
abbrev pub longest_report : ℕ
longest_report = heading_length + 16 * longest_line + longest_busy_line

-- room in the lent bytes l for k bytes from `at` on, of a report of n queues
pub record LinesFit (n : ℕ) (l : List ℕ) (at k : ℕ) : Type 0 where
  pub few : n ≤ 16
  pub room : at + k ≤ length l
