-- Laws of specs/Short.antt that rest on a definition which an edit of must-fail/ changes.
-- How long a report can be.
--   line_short       a queue's line has no more
--   report_short     the report of an accepted chain has no more
use Rattle.std.specs.Prelude.{[], ◌∷◌, ◌++◌, get_or}
use Prim.Native.Nat.{ℕ, zero, suc, ◌*◌, ◌^◌, ◌≤◌, ◌<◌}
use native.Mathlib.Omega.{arith}
use Rattle.std.proofs.Common.{rules}
use Rattle.std.proofs.Math.ListN.{length, length-append}
use Rattle.words.specs.Flat.{flat}
use Rattle.decimal.specs.Digits.{column}
use Rattle.decimal.proofs.DigitsLaws.{column_word}
use Rattle.decimal.specs.Signed.{integer}
use Rattle.decimal.proofs.SignedLaws.{integer_word}
use Rattle.chain.specs.declared.Chain.{Chain}
use Rattle.sizing.specs.Load.{busy_of, cycle_of}
use Rattle.sizing.specs.Sizes.{no_size, size_of, analysis_of}
use Rattle.sizing.proofs.SizesLaws.{size_at}
use Rattle.sizing.specs.Accepted.{Accepted, SizeFits}
use Rattle.sizing.proofs.AcceptedLaws.{size_fits, busy_fits, cycle_fits}
use Rattle.sizing.specs.declared.QueueSize.{QueueSize}
use Rattle.reporttext.specs.Text.{columns, numbers, line, lines, busy_line, text_of}
use Rattle.reporttext.specs.Short.{Words, numbers_short, longest_line, longest_busy_line, longest_report}

columns_words : (i : ℕ) (q : QueueSize) → i < 2 ^ 32 → SizeFits q → Words (columns i q)
columns_words i q h s = search rules

pub line_short : (i : ℕ) (q : QueueSize) → i < 2 ^ 32 → SizeFits q → length (line i q) ≤ longest_line
unfolding line
line_short i q h s =
    omega (
      arith,
      length-append (numbers (columns i q)) (integer q.margin ++ (10 ∷ [])),
      length-append (integer q.margin) (10 ∷ []),
      numbers_short (columns i q) (columns_words i q h s),
      integer_word q.margin (omega (arith, s.margin)),
    )

module _ (c : Chain) (a : Accepted c) where
  lines_short : (i : ℕ) → i ≤ c.n → length (lines (analysis_of c) i) ≤ longest_line * i
  unfolding flat
  lines_short zero l = omega arith
  lines_short (suc i) l =
      let last : length (line i (get_or (analysis_of c).queues i no_size)) ≤ longest_line =
      rw (size_at c i a.chain.count.1 l) (line_short i (size_of c i) (omega (arith, a.chain.count.1)) (size_fits c a i l)) in
      omega (arith, length-append (lines (analysis_of c) i) (line i (get_or (analysis_of c).queues i no_size)), lines_short i (omega arith), last)

  busy_short : length (busy_line (analysis_of c)) ≤ longest_busy_line
  unfolding busy_line analysis_of
  busy_short =
      omega (
        arith,
        length-append (column (busy_of c) 44) (column (cycle_of c) 10),
        column_word (busy_of c) 44 (omega (arith, busy_fits c a)),
        column_word (cycle_of c) 10 (omega (arith, cycle_fits c a)),
      )

  pub report_short : length (text_of (analysis_of c)) ≤ longest_report
  unfolding text_of analysis_of
  report_short = omega (arith, length-append (lines (analysis_of c) c.n) (busy_line (analysis_of c)), lines_short c.n (omega arith), busy_short, a.chain.count.1)
