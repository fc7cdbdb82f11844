-- What firings, runs and deadline questions are refused with, 9, 11, 12, 13 and 17 (01, Numbers a call may refuse with), with 13 as an outcome: each number with its
-- place, each limit and one past it, and of two faults the one that is named.
--   plain B                  a chain of one queue that takes what is put in, one at a time, of capacity B
--   along q r                a chain of two queues
--   tokens B C D             a chain of three queues like the one of plain
--   fire_refused c s i N L, tick_refused c s N L
--                            a firing of N_i from the state s, and a tick, that are refused with N at L and leave s
--   tick_undated c s t i, tick_overflows c s t q
--                            a tick that ends with 13 at tick t and node i, and one that overflows at tick t and queue q; both leave s
--   counting, holding, run_outcomes, asking
--                            9; 11 and 12 of a manual firing; 13 of a tick; 11 and 13 of a deadline question
--   by_state                 the calls that are handed a state refuse it 17, before 9 and 11
--   past t a b x d           a state of a chain of one queue with slots past n that are not zero
--   bad_states, good_states  what is refused 17, and what is just not
--   run_refusals             the questions with their answers
use mathlib.Core.List.{List, [], ◌∷◌, ◌++◌, flat_map}
use Rattle.std.specs.Prelude.{ℕ, replicate}
use Rattle.ardenquill.specs.Records.{Queue, Chain, Run}
use Rattle.figures.specs.Questions.{fire, immediate, immediate_refusal, deadline, tick, tick_for_c, deadline_run, deadline_run_for_c, state_numbers}
use Rattle.figures.specs.Literals.{Row, row, chain, feed, permeate, run, refused, state_is, keeps, tick_keeps, clean_at, overflowed_at, undated_at}

-- chains of one, two and three queues, of period 10 and execution times 1
abbrev pub plain : ℕ → Chain
plain B = chain 10 (row 1 1 1 B 0 ∷ []) (1 ∷ [])

abbrev pub along : Queue → Queue → Chain
along q r = chain 10 (q ∷ r ∷ []) (1 ∷ 1 ∷ [])

abbrev pub tokens : ℕ → ℕ → ℕ → Chain
tokens B C D = chain 10 (row 1 1 1 B 0 ∷ row 1 1 1 C 0 ∷ row 1 1 1 D 0 ∷ []) (1 ∷ 1 ∷ 1 ∷ [])

-- "run state as before", and "the state being that before" the source's step
abbrev pub fire_refused : Chain → Run → ℕ → ℕ → ℕ → Row
fire_refused c s i N L = (fire c s i, keeps N L s)

abbrev pub tick_refused : Chain → Run → ℕ → ℕ → Row
tick_refused c s N L = (tick c s, tick_keeps N L s)

abbrev pub tick_undated : Chain → Run → ℕ → ℕ → Row
tick_undated c s t i = (tick c s, undated_at s t i)

abbrev pub tick_overflows : Chain → Run → ℕ → ℕ → Row
tick_overflows c s t q = (tick c s, overflowed_at s t q)

-- 9: "run too long"
abbrev pub counting : List Row
counting =
    -- immediate: a count of 1,000,000 and one past it, of the source; of N_1, which fires twice for each firing of the source; of N_2 alone; of N_1 and N_2
    (immediate_refusal (plain 0) 1000000, refused 0 0 0)
    ∷ (immediate (plain 0) 1000001, refused 9 0 50)
    ∷ (immediate (plain 0) 4294967295, refused 9 0 50)
    ∷ (immediate_refusal (chain 10 (row 2 1 1 0 0 ∷ []) (1 ∷ [])) 500000, refused 0 0 0)
    ∷ (immediate (chain 10 (row 2 1 1 0 0 ∷ []) (1 ∷ [])) 500001, refused 9 1 50)
    ∷ (immediate (along (row 1 1 1 0 0) (row 2 1 1 0 0)) 500001, refused 9 2 50)
    ∷ (immediate (along (row 2 1 1 0 0) (row 1 1 1 0 0)) 500001, refused 9 1 50)
    -- deadline run: as C is told it
    ∷ (deadline_run_for_c feed 1000001, refused 9 0 53)
    ∷ (deadline_run feed 4294967295, refused 9 0 51)
    -- tick: the clock
    ∷ (tick feed (run 999999 [] [] []), clean_at (run 1000000 [] [] []))
    ∷ tick_refused feed (run 1000000 [] [] []) 9 0
    ∷ (tick_for_c feed (run 1000000 [] [] []), refused 9 0 3 ++ state_numbers (run 1000000 [] [] []))
    -- a count of 4,294,967,295: of both nodes; of N_1 and N_2; of N_2 alone; and the clock before a count
    ∷ tick_refused (plain 0) (run 0 (4294967295 ∷ 4294967295 ∷ []) [] []) 9 0
    ∷ tick_refused (along (row 3 1 1 0 0) (row 1 1 1 0 0)) (run 0 (1431655765 ∷ 4294967295 ∷ 4294967295 ∷ []) [] []) 9 1
    ∷ tick_refused (along (row 1 1 1 0 0) (row 3 1 1 0 0)) (run 0 (1431655765 ∷ 1431655765 ∷ 4294967295 ∷ []) [] []) 9 2
    ∷ tick_refused (along (row 1 1 1 0 0) (row 3 1 1 0 0)) (run 1000000 (1431655765 ∷ 1431655765 ∷ 4294967295 ∷ []) [] []) 9 0
    -- counts one below it: the source does not fire, or fires
    ∷ (tick (plain 0) (run 1 (4294967294 ∷ 4294967294 ∷ []) [] []), clean_at (run 2 (4294967294 ∷ 4294967294 ∷ []) [] []))
    ∷ (tick (chain 10 (row 1 2 1 0 0 ∷ []) (1 ∷ [])) (run 0 (4294967294 ∷ 4294967294 ∷ []) [] []), clean_at (run 1 (4294967295 ∷ 4294967294 ∷ []) (1 ∷ []) []))
    -- manual: of the fired node alone; 9 before 11 and before 12; not of a node that there is not
    ∷ fire_refused (plain 10) (run 0 (4294967295 ∷ 4294967294 ∷ []) (1 ∷ []) []) 0 9 0
    ∷ (fire (plain 10) (run 0 (4294967295 ∷ 4294967294 ∷ []) (1 ∷ []) []) 1, state_is (run 0 (4294967295 ∷ 4294967295 ∷ []) [] []))
    ∷ fire_refused (plain 10) (run 0 (4294967295 ∷ 4294967295 ∷ []) [] []) 1 9 1
    ∷ fire_refused (plain 1) (run 0 (4294967295 ∷ 4294967294 ∷ []) (1 ∷ []) []) 0 9 0
    ∷ (fire (plain 10) (run 0 (4294967294 ∷ 4294967294 ∷ []) [] []) 0, state_is (run 0 (4294967295 ∷ 4294967294 ∷ []) (1 ∷ []) []))
    ∷ fire_refused (plain 10) (run 0 (1 ∷ 1 ∷ 4294967295 ∷ []) [] []) 2 11 2
    ∷ []

-- 11: "no such node, .. or node not over threshold"; 12: "a manual firing would pass a capacity"
abbrev pub holding : List Row
holding =
    -- 11: N_2 of a chain of one queue, a node far off, and N_1 with τ − 1 held; with τ it fires
    fire_refused feed (run 0 [] [] []) 2 11 2
    ∷ fire_refused feed (run 0 [] [] []) 4294967295 11 4294967295
    ∷ fire_refused feed (run 0 (3 ∷ 2 ∷ []) (6 ∷ []) []) 1 11 1
    ∷ (fire feed (run 0 (4 ∷ 3 ∷ []) (7 ∷ []) []) 1, state_is (run 0 (4 ∷ 4 ∷ []) (4 ∷ []) []))
    -- 12: "filling to exactly the capacity is allowed", here 10, and one more is not; a capacity below p
    ∷ (fire feed (run 0 (3 ∷ 2 ∷ []) (6 ∷ []) []) 0, state_is (run 0 (4 ∷ 2 ∷ []) (10 ∷ []) []))
    ∷ fire_refused feed (run 0 (4 ∷ 3 ∷ []) (7 ∷ []) []) 0 12 0
    ∷ fire_refused (chain 10 (row 4 7 3 3 0 ∷ []) (2 ∷ [])) (run 0 [] [] []) 0 12 0
    -- both queues of Permeate are full: each node names its own, and the sink has none
    ∷ fire_refused permeate (run 0 (4 ∷ 2 ∷ 1 ∷ []) (10 ∷ 4 ∷ []) []) 0 12 0
    ∷ fire_refused permeate (run 0 (4 ∷ 2 ∷ 1 ∷ []) (10 ∷ 4 ∷ []) []) 1 12 1
    ∷ (fire permeate (run 0 (4 ∷ 2 ∷ 1 ∷ []) (10 ∷ 4 ∷ []) []) 2, state_is (run 0 (4 ∷ 2 ∷ 2 ∷ []) (10 ∷ 2 ∷ []) []))
    ∷ (fire permeate (run 0 (4 ∷ 2 ∷ 2 ∷ []) (10 ∷ 2 ∷ []) []) 1, state_is (run 0 (4 ∷ 3 ∷ 2 ∷ []) (7 ∷ 5 ∷ []) []))
    -- 11 before 12
    ∷ fire_refused permeate (run 0 (3 ∷ 2 ∷ 1 ∷ []) (6 ∷ 4 ∷ []) []) 1 11 1
    ∷ []

-- 13 of a tick: "the lowest such over-threshold node, the state being that before the source's step"
abbrev pub run_outcomes : List Row
run_outcomes =
    -- N_1 is over threshold once the source has fired
    tick_undated (plain 10) (run 0 (4294967294 ∷ 4294967294 ∷ []) [] []) 0 1
    -- where the source does not step: its index for N_1's next firing is 4,294,967,295, and one more, B being 10 and 11
    ∷ (tick (plain 10) (run 1 (4294967285 ∷ 4294967284 ∷ []) (1 ∷ []) []), clean_at (run 2 (4294967285 ∷ 4294967285 ∷ []) [] []))
    ∷ tick_undated (plain 11) (run 1 (4294967285 ∷ 4294967284 ∷ []) (1 ∷ []) []) 1 1
    -- the same, as C is told it: kind 2, the tick, the node
    ∷ (tick_for_c (plain 11) (run 1 (4294967285 ∷ 4294967284 ∷ []) (1 ∷ []) []), 0 ∷ 0 ∷ 2 ∷ 1 ∷ 1 ∷ state_numbers (run 1 (4294967285 ∷ 4294967284 ∷ []) (1 ∷ []) []))
    -- N_1 and N_2 have no deadline; N_2 alone; N_2 is not over threshold
    ∷ tick_undated (along (row 1 1 1 10 0) (row 1 1 1 10 0)) (run 1 (4294967294 ∷ 4294967293 ∷ 4294967292 ∷ []) (1 ∷ 1 ∷ []) []) 1 1
    ∷ tick_undated (along (row 1 1 1 1 0) (row 1 1 1 1000000 0)) (run 1 (4294967000 ∷ 4294966999 ∷ 4294966998 ∷ []) (1 ∷ 1 ∷ []) []) 1 2
    ∷ (
      tick (along (row 1 1 1 1 0) (row 1 2 1 1000000 0)) (run 1 (4294967000 ∷ 4294966999 ∷ 4294966998 ∷ []) (1 ∷ 1 ∷ []) []),
      clean_at (run 2 (4294967000 ∷ 4294967000 ∷ 4294966998 ∷ []) (0 ∷ 2 ∷ []) []),
    )
    -- an overflow of the source comes before 13 of N_2
    ∷ tick_overflows (along (row 1 1 1 1 0) (row 1 1 1 1000000 0)) (run 0 (4294967000 ∷ 4294966999 ∷ 4294966998 ∷ []) (1 ∷ 1 ∷ []) []) 0 0
    ∷ []

-- 11 and 13 of a deadline question
abbrev pub asking : List Row
asking =
    -- 11: N_2 of a chain of one queue; a firing 0, of the source too; both; and 11 before 13
    (deadline feed 2 1, refused 11 2 1)
    ∷ (deadline feed 0 0, refused 11 0 1)
    ∷ (deadline feed 4294967295 0, refused 11 4294967295 1)
    ∷ (deadline (plain 10) 2 4294967295, refused 11 2 1)
    -- an index of 4,294,967,295 of the source, and of the source for N_1's; one more is 13, place the source
    ∷ (deadline (plain 10) 0 4294967295, 0 ∷ 0 ∷ 42949672940 ∷ [])
    ∷ (deadline (plain 10) 1 4294967285, 0 ∷ 0 ∷ 42949672940 ∷ [])
    ∷ (deadline (plain 10) 1 4294967286, refused 13 0 1)
    -- for N_3's k the indices of N_2, N_1 and the source are k + 3, k + 8 and k + 18
    ∷ (deadline (tokens 10 5 3) 3 4294967277, 0 ∷ 0 ∷ 42949672940 ∷ [])
    ∷ (deadline (tokens 10 5 3) 3 4294967278, refused 13 0 1)
    ∷ (deadline (tokens 10 5 3) 3 4294967287, refused 13 0 1)
    ∷ (deadline (tokens 10 5 3) 3 4294967288, refused 13 1 1)
    ∷ (deadline (tokens 10 5 3) 3 4294967292, refused 13 1 1)
    ∷ (deadline (tokens 10 5 3) 3 4294967293, refused 13 2 1)
    ∷ (deadline (tokens 10 5 3) 3 4294967295, refused 13 2 1)
    ∷ []

-- 17: "breaks the balance .., passes a capacity, or has work done of e or more"; before 11 of a node that there is not, and before 9 of the clock
unfoldable pub by_state : Chain × (Run × ℕ) → List Row
by_state (c, (s, L)) = fire_refused c s 17 17 L ∷ tick_refused c s 17 L ∷ []

-- the chain, the state, and the "lowest queue, for work done the one feeding the node"
abbrev pub bad_states : List (Chain × (Run × ℕ))
bad_states =
    -- the balance: 4 × 1 − 3 × 0 is 4, not 3 and not 5; 4 × 0 − 3 × 1 is not 0; nor is 2 × 2,147,483,648, nor is 0 − 4,294,967,295 what 32 bits keep of it
    (feed, (run 1000000 (1 ∷ []) (3 ∷ []) [], 0))
    ∷ (feed, (run 1000000 (1 ∷ []) (5 ∷ []) [], 0))
    ∷ (feed, (run 1000000 (0 ∷ 1 ∷ []) [] [], 0))
    ∷ (chain 10 (row 2 1 1 0 0 ∷ []) (1 ∷ []), (run 1000000 (2147483648 ∷ []) [] [], 0))
    ∷ (plain 0, (run 1000000 (0 ∷ 4294967295 ∷ []) (1 ∷ []) [], 0))
    -- the capacity: 11 of 10; in the second queue 7 of 6
    ∷ (feed, (run 1000000 (5 ∷ 3 ∷ []) (11 ∷ []) [], 0))
    ∷ (permeate, (run 1000000 (3 ∷ 3 ∷ 1 ∷ []) (3 ∷ 7 ∷ []) [], 1))
    -- work done of e, and of more; of N_2 alone, and of both
    ∷ (feed, (run 1000000 [] [] (2 ∷ []), 0))
    ∷ (feed, (run 1000000 [] [] (4294967295 ∷ []), 0))
    ∷ (permeate, (run 1000000 [] [] (0 ∷ 1 ∷ []), 1))
    ∷ (permeate, (run 1000000 [] [] (1 ∷ 1 ∷ []), 0))
    -- two queues; one of them for work done
    ∷ (permeate, (run 1000000 [] (0 ∷ 1 ∷ []) [], 1))
    ∷ (permeate, (run 1000000 [] (1 ∷ 1 ∷ []) [], 0))
    ∷ (permeate, (run 1000000 [] (0 ∷ 1 ∷ []) (1 ∷ []), 0))
    ∷ (permeate, (run 1000000 [] (1 ∷ []) (0 ∷ 1 ∷ []), 0))
    -- and before 9 of a count
    ∷ (plain 0, (run 0 (4294967295 ∷ 4294967295 ∷ []) (1 ∷ []) [], 0))
    ∷ []

-- a state of a chain of one queue whose slots past n are all as large as they may be
abbrev pub past : ℕ → ℕ → ℕ → ℕ → ℕ → Run
past t a b x d = run t (a ∷ b ∷ replicate 15 4294967295) (x ∷ replicate 15 4294967295) (d ∷ replicate 15 4294967295)

-- and what is just not refused
abbrev pub good_states : List Row
good_states =
    -- work done of e − 1: a manual firing leaves it, and a tick ends the work; a queue that is full
    (fire feed (run 3 (1 ∷ []) (4 ∷ []) (1 ∷ [])) 0, state_is (run 3 (2 ∷ []) (8 ∷ []) (1 ∷ [])))
    ∷ (tick feed (run 1 (4 ∷ 3 ∷ []) (7 ∷ []) (1 ∷ [])), clean_at (run 2 (4 ∷ 4 ∷ []) (4 ∷ []) []))
    ∷ (tick feed (run 1 (4 ∷ 2 ∷ []) (10 ∷ []) []), clean_at (run 2 (4 ∷ 2 ∷ []) (10 ∷ []) (1 ∷ [])))
    -- "the slots past n are neither read nor changed": a firing of the source, one of the sink, which has no queue behind it, and a tick that ends the sink's
    ∷ (fire feed (past 0 0 0 0 0) 0, state_is (past 0 1 0 4 0))
    ∷ (fire feed (past 0 4 3 7 1) 1, state_is (past 0 4 4 4 1))
    ∷ (tick feed (past 1 4 3 7 1), clean_at (past 2 4 4 4 0))
    ∷ []

-- all of these
abbrev pub run_refusals : List Row
run_refusals = counting ++ (holding ++ (run_outcomes ++ (asking ++ (flat_map by_state bad_states ++ good_states))))
