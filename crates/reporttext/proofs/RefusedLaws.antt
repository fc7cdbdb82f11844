-- Laws of specs/Refused.antt that rest on a definition which an edit of must-fail/ changes.
-- The line of a refusal (01, Report program: "a refusal prints only the line `refused,number,place`").
--   refusal_short     it has no more
use Rattle.std.specs.Prelude.{ℕ, ◌^◌, ◌≤◌, ◌<◌, length}
use Rattle.std.proofs.Common.{arith, length-append}
use Rattle.decimal.specs.Digits.{column}
use Rattle.decimal.proofs.DigitsLaws.{column_word}
use Rattle.reporttext.specs.Refused.{refusal_text, longest_refusal}

pub refusal_short : (N L : ℕ) → N < 2 ^ 32 → L < 2 ^ 32 → length (refusal_text N L) ≤ longest_refusal
unfolding refusal_text
refusal_short N L n l = omega (arith, length-append (column N 44) (column L 10), column_word N 44 n, column_word L 10 l)
