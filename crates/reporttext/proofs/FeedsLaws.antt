-- Laws of specs/Feeds.antt that rest on a definition which an edit of must-fail/ changes.
-- "Each line ended by one line feed" (01, Report program).
--   report_feeds       a report of n queues has n + 2
use Rattle.std.specs.Prelude.{◌≡◌, refl, ◌++◌, ℕ, zero, suc, ◌+◌, get_or}
use Rattle.std.proofs.Common.{arith}
use Rattle.words.specs.Flat.{flat}
use Rattle.sizing.specs.Sizes.{no_size}
use Rattle.sizing.specs.declared.Analysis.{Analysis}
use Rattle.reporttext.specs.Occurrences.{occurrences, occurrences_append}
use Rattle.reporttext.specs.Text.{heading, line, lines, busy_line, text_of}
use Rattle.reporttext.specs.Feeds.{feeds, queue_one, busy_one, heading_one, one_feed}

lines_feeds : (a : Analysis) (i : ℕ) → feeds (lines a i) ≡ i
unfolding flat occurrences
lines_feeds a zero = refl
lines_feeds a (suc i) =
    omega (arith, occurrences_append 10 (lines a i) (line i (get_or a.queues i no_size)), lines_feeds a i, one_feed (queue_one i (get_or a.queues i no_size)))

pub report_feeds : (a : Analysis) → feeds (text_of a) ≡ a.n + 2
unfolding text_of
report_feeds a =
    omega (arith, occurrences_append 10 heading (lines a a.n ++ busy_line a), occurrences_append 10 (lines a a.n) (busy_line a), one_feed heading_one, lines_feeds a a.n, one_feed (busy_one a))
