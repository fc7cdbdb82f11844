-- The report's text (01, Report program; 02, Item 1), as bytes.
--   heading          the first line
--   heading_length   how many bytes it has
--   columns i q      the numbers of queue i's line before its margin
--   column_count     how many these are
--   numbers ns       the numbers ns in a row, a comma behind each
--   line i q         queue i's line: its numbers, then the margin
--   lines a i        the lines of the first i queues
--   busy_word        `busy,`
--   busy_line a      the last line: busy ticks and cycle
--   text_of a         the whole report of the analysis a
use Rattle.std.specs.Prelude.{List, [], ◌∷◌, ◌++◌, ℕ, length, get_or}
use Rattle.words.specs.Literal.{text}
use Rattle.words.specs.Flat.{flat}
use Rattle.decimal.specs.Digits.{column}
use Rattle.decimal.specs.Signed.{integer}
use Rattle.sizing.specs.Sizes.{no_size}
use Rattle.sizing.specs.declared.QueueSize.{QueueSize}
use Rattle.sizing.specs.declared.Analysis.{Analysis}

-- "the first line is always `queue,x,y,minimum,capacity,margin`", "a column `by` after `minimum`" (02, Item 1), and its line feed
abbrev pub heading : List ℕ
heading = text "queue,x,y,minimum,by,capacity,margin\n"

-- how many bytes these are
abbrev pub heading_length : ℕ
heading_length = length heading

-- "its number, its consumer's rate, b, capacity", the naming count behind b (02, Item 1)
abbrev pub columns : ℕ → QueueSize → List ℕ
columns i q = i ∷ q.x ∷ q.y ∷ q.minimum ∷ q.by ∷ q.capacity ∷ []

-- how many these are
abbrev pub column_count : ℕ
column_count = length (columns 0 no_size)

-- numbers in a row, a comma (44) behind each
unfoldable pub numbers : List ℕ → List ℕ
unfolding column
numbers [] = []
numbers (n ∷ ns) = column n 44 ++ numbers ns

-- and the "margin"; "each line ended by one line feed" (10)
unfoldable pub line : ℕ → QueueSize → List ℕ
unfolding numbers integer
line i q = numbers (columns i q) ++ (integer q.margin ++ (10 ∷ []))

-- "one line follows per queue"
abbrev pub lines : Analysis → ℕ → List ℕ
lines a i = flat (λ j. line j (get_or a.queues j no_size)) i

-- "the last line is `busy`, busy ticks, cycle"
abbrev pub busy_word : List ℕ
busy_word = text "busy,"

unfoldable pub busy_line : Analysis → List ℕ
unfolding column
busy_line a = busy_word ++ (column a.busy 44 ++ column a.cycle 10)

-- the whole report
unfoldable pub text_of : Analysis → List ℕ
unfolding line flat busy_line
text_of a = heading ++ (lines a a.n ++ busy_line a)
