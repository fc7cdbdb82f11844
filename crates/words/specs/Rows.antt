-- Queue rows: five words in a row (01, Chain file: "a queue row has five words").
--   none              the row of a slot that no queue has
--   row q             the five words of a row, in file order
--   row_from s at     the row of the five words from `at` on
--   row_at s at       that row; none where it would pass the end
--   same_row          rows of equal words are equal
use Rattle.std.specs.Prelude.{◌≡◌, cond, List, [], ◌∷◌, ℕ, ◌+◌, leb, length}
use Rattle.words.specs.Words.{word_at}
use Rattle.words.specs.declared.Queue.{Queue}

-- the row of a slot that no queue has
abbrev pub none : Queue
none = record { produce = 0; threshold = 0; consume = 0; capacity = 0; reserved = 0 }

-- produce p, threshold τ, consume c, capacity B, one reserved word
abbrev pub row : Queue → List ℕ
row q = q.produce ∷ q.threshold ∷ q.consume ∷ q.capacity ∷ q.reserved ∷ []

-- the row whose five words stand from `at` on
abbrev pub row_from : List ℕ → ℕ → Queue
row_from s at = record { produce = word_at s at; threshold = word_at s (at + 4); consume = word_at s (at + 8); capacity = word_at s (at + 12); reserved = word_at s (at + 16) }

-- the row whose first byte stands at `at`; none where it would pass the end
unfoldable pub row_at : List ℕ → ℕ → Queue
row_at s at = cond (leb (at + 20) (length s)) (row_from s at) none

pub same_row : {q r : Queue} → q.produce ≡ r.produce → q.threshold ≡ r.threshold → q.consume ≡ r.consume → q.capacity ≡ r.capacity → q.reserved ≡ r.reserved → q ≡ r
same_row a b c d e = λ i. record { produce = a i; threshold = b i; consume = c i; capacity = d i; reserved = e i }
