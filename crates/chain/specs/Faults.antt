-- Rows that the checks 4 and 5 pass, and where the code looks at them.
--   fine_row q e, fine_row_law      the one test of a queue row and its node row, which holds exactly where both are sound
--   AllFine row e k                 the first k rows pass it
--   Few n, TablesAt n q w, RowsAt n k q, RowPlace at
--                                   what the code of the checks asks: few rows, at places of a file
-- What is named here and not declared stands in proofs/FaultsLaws.antt.
use Rattle.std.specs.Prelude.{◌≡◌, Bool, true, ◌&&◌, ℕ, ◌+◌, ◌*◌, ◌≤◌, ◌<◌, leb, eqb}
use Rattle.words.specs.declared.Queue.{Queue}

-- nothing is refused of a queue row and its node row; as c is at most τ, τ needs no least and c no most
abbrev pub fine_row : Queue → ℕ → Bool
fine_row q e =
    leb 1 q.produce
    && leb q.produce 65535
    && leb q.threshold 65535
    && leb 1 q.consume
    && leb q.consume q.threshold
    && leb q.capacity 1000000
    && eqb q.reserved 0
    && leb 1 e
    && leb e 1000000

-- nothing is refused of the first k rows
abbrev pub AllFine : (ℕ → Queue) → (ℕ → ℕ) → ℕ → Type 0
AllFine row e k = (j : ℕ) → j < k → fine_row (row j) (e j) ≡ true

-- at most as many queues as a record has slots
pub record Few (n : ℕ) : Type 0 where
  pub few : n ≤ 16

-- tables of n rows that stand in a file at q and w
pub record TablesAt (n q w : ℕ) : Type 0 where
  pub few : n ≤ 16
  pub queues : q + 20 * n ≤ 4096
  pub nodes : w + 4 * n ≤ 4096

-- a table of n rows of k bytes that stands in a file at q
pub record RowsAt (n k q : ℕ) : Type 0 where
  pub few : n ≤ 16
  pub ends : q + k * n ≤ 4096

-- a queue row that stands at a place of a file
pub record RowPlace (at : ℕ) : Type 0 where
  pub ends : at + 20 ≤ 4096
