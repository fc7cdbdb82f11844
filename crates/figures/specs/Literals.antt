-- What the table is written in: chains, run states, bytes and answers in which every number stands for itself, and a slot that is not written is 0.
--   Row                      a question with its answer
--   filled k l               the numbers l and zeros behind them, k in all
--   repeated k l             l, k times
--   row p τ c B r            a queue row
--   chain_of n y rows work, chain y rows work
--                            a chain of n queues, and of as many as rows are written
--   feed, permeate, flush    01's factory chains
--   run t counts held done   a run state
--   changed f at bs          the bytes f with bs in place of those from `at` on
--   refused N L k            an answer: number and place, and k other results, all zero
--   chain_is c, state_is s   an answer that is not refused: a chain, a run state
--   sizes_are n lines busy cycle
--                            an answer that is not refused: an analysis, its n lines one after the other
--   keeps N L s, tick_keeps N L s
--                            a refusal that hands the run state back, of a manual firing and of a tick
--   ends N s values, clean_at s, overflowed_at s t q, undated_at s t i
--                            an outcome and the state that it leaves: clean, overflowed at tick t and queue q, 13 at tick t and node i
use Rattle.std.specs.Prelude.{List, [], ◌∷◌, ◌++◌, ℕ, zero, suc, ◌+◌, ◌-◌, length, take, drop, replicate}
use Rattle.ardenquill.specs.Records.{Queue, Chain, Run}
use Rattle.figures.specs.Questions.{Question, chain_numbers, state_numbers}

-- a question with its answer
abbrev pub Row : Type 0
Row = Question × List ℕ

-- zeros behind the numbers that are written
abbrev pub filled : ℕ → List ℕ → List ℕ
filled k l = l ++ replicate (k - length l) 0

unfoldable pub repeated : {A : Type 0} → ℕ → List A → List A
repeated zero l = []
repeated (suc k) l = l ++ repeated k l

-- "produce p, threshold τ, consume c, capacity B, one reserved word"
abbrev pub row : ℕ → ℕ → ℕ → ℕ → ℕ → Queue
row p τ c B r = record { produce = p; threshold = τ; consume = c; capacity = B; reserved = r }

-- a chain in its 16 slots
abbrev pub chain_of : ℕ → ℕ → List Queue → List ℕ → Chain
chain_of n y rows work = record { n = n; period = y; queues = rows ++ replicate (16 - length rows) (row 0 0 0 0 0); work = filled 16 work }

abbrev pub chain : ℕ → List Queue → List ℕ → Chain
chain y rows work = chain_of (length rows) y rows work

-- "0 Feed", "1 Permeate", "2 Flush"
abbrev pub feed : Chain
feed = chain 10 (row 4 7 3 0 0 ∷ []) (2 ∷ [])

abbrev pub permeate : Chain
permeate = chain 5 (row 4 7 3 0 0 ∷ row 3 4 2 0 0 ∷ []) (1 ∷ 1 ∷ [])

abbrev pub flush : Chain
flush = chain 100 (row 16 64 16 0 0 ∷ row 1 8 8 0 0 ∷ []) (5 ∷ 3 ∷ [])

-- a run state in its 17, 16 and 16 slots
abbrev pub run : ℕ → List ℕ → List ℕ → List ℕ → Run
run t counts held done = record { clock = t; counts = filled 17 counts; held = filled 16 held; done = filled 16 done }

-- other bytes in the place of some
abbrev pub changed : List ℕ → ℕ → List ℕ → List ℕ
changed f at bs = take at f ++ (bs ++ drop (at + length bs) f)

-- "a refusal gives number and place, all other results zero"
abbrev pub refused : ℕ → ℕ → ℕ → List ℕ
refused N L k = N ∷ L ∷ replicate k 0

-- the answers of calls that are not refused
abbrev pub chain_is : Chain → List ℕ
chain_is c = 0 ∷ 0 ∷ chain_numbers c

abbrev pub state_is : Run → List ℕ
state_is s = 0 ∷ 0 ∷ state_numbers s

abbrev pub sizes_are : ℕ → List ℕ → ℕ → ℕ → List ℕ
sizes_are n lines busy cycle = 0 ∷ 0 ∷ n ∷ (filled 112 lines ++ (busy ∷ cycle ∷ []))

-- "run state as before"
abbrev pub keeps : ℕ → ℕ → Run → List ℕ
keeps N L s = N ∷ L ∷ state_numbers s

abbrev pub tick_keeps : ℕ → ℕ → Run → List ℕ
tick_keeps N L s = N ∷ L ∷ 0 ∷ state_numbers s

-- the outcomes of a tick and of a deadline run
abbrev pub ends : ℕ → Run → List ℕ → List ℕ
ends N s values = 0 ∷ 0 ∷ N ∷ (state_numbers s ++ values)

abbrev pub clean_at : Run → List ℕ
clean_at s = ends 0 s []

abbrev pub overflowed_at : Run → ℕ → ℕ → List ℕ
overflowed_at s t q = ends 0 s (t ∷ q ∷ [])

abbrev pub undated_at : Run → ℕ → ℕ → List ℕ
undated_at s t i = ends 13 s (t ∷ i ∷ [])
