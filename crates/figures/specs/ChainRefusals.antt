-- What files and chains are refused with, 1 to 8 (01, Numbers a call may refuse with): each number with its place, each range at both ends and one past, and of two
-- faults the one that is named. A call that refuses has a further fault behind the one that it names, and what it was lent stays.
--   Fault A                  a file or a chain with number and place
--   by_file, by_record, by_analysis, by_run
--                            the calls that refuse: a file; a chain's own numbers, 2, 4 and 5; its rates or its load, 6 and 7; a capacity, 8
--   worst                    a state of largest numbers
--   accepted c               a chain that no check refuses: a fresh start, the source's first deadline, and runs that have not begun
--   turned_file              Feed with the node table first, which touches the queue table, and that the end
--   long_file total k        Feed with so many bytes behind it
--   largest, largest_file, smallest, smallest_file
--                            a chain with every number as large as it may be, and as small
--   one y p τ c B r e, two, last
--                            a chain of one queue; of two, the first of them Feed's; of 16, with another last row and last execution time
--   bad_files, bad_chains, bad_rates, bad_capacities
--                            what is refused, with which number and place
--   good_chains, just_accepted what is just not refused
--   chain_refusals           the questions with their answers
use mathlib.Core.List.{List, [], ◌∷◌, ◌++◌, flat_map}
use Rattle.std.specs.Prelude.{ℕ, take, replicate}
use Rattle.ardenquill.specs.Records.{Queue, Chain, Run}
use Rattle.ardenquill.specs.Reports.{text}
use Rattle.figures.specs.Questions.{read, write, report, analyse, checked_for_run, fresh, fire, immediate, deadline, tick, deadline_run}
use Rattle.figures.specs.Literals.{Row, repeated, row, chain_of, chain, feed, run, changed, refused, chain_is, state_is, sizes_are, keeps, tick_keeps, clean_at}
use Rattle.figures.specs.Files.{feed_file, apart_file, full, full_file, heading}

-- a file or a chain with number and place
abbrev pub Fault : Type 0 → Type 0
Fault A = A × (ℕ × ℕ)

-- the reader refuses it, and so does the report, which has no room either
unfoldable pub by_file : Fault (List ℕ) → List Row
by_file (f, (N, L)) = (read f, refused N L 98) ∷ (report f (7 ∷ []), N ∷ L ∷ 0 ∷ 7 ∷ []) ∷ []

-- every slot 4,294,967,295
abbrev pub worst : Run
worst = run 4294967295 (replicate 17 4294967295) (replicate 16 4294967295) (replicate 16 4294967295)

-- a run of too many firings or ticks, a node that there is not and a firing 0, a state with 17 and 9
unfoldable pub by_run : Fault Chain → List Row
by_run (c, (N, L)) =
    (checked_for_run c, refused N L 115)
    ∷ (immediate c 4294967295, refused N L 50)
    ∷ (deadline c 17 0, refused N L 1)
    ∷ (tick c worst, tick_keeps N L worst)
    ∷ (deadline_run c 4294967295, refused N L 51)
    ∷ []

-- and the calls that do not look at capacities
unfoldable pub by_analysis : Fault Chain → List Row
unfolding by_run
by_analysis (c, (N, L)) =
    (analyse c, refused N L 115)
    ∷ (fresh c, refused N L 50)
    ∷ (fire c worst 17, keeps N L worst)
    ∷ by_run (c, (N, L))

-- and the writer, which has no room
unfoldable pub by_record : Fault Chain → List Row
unfolding by_analysis
by_record (c, (N, L)) = (write c (7 ∷ []), N ∷ L ∷ 0 ∷ 7 ∷ []) ∷ by_analysis (c, (N, L))

-- no check from 2 to 8 speaks
unfoldable pub accepted : Chain → List Row
accepted c =
    (fresh c, state_is (run 0 [] [] []))
    ∷ (deadline c 0 1, 0 ∷ 0 ∷ 0 ∷ [])
    ∷ (immediate c 0, state_is (run 0 [] [] []))
    ∷ (deadline_run c 0, clean_at (run 0 [] [] []))
    ∷ []

-- the queue table at 24, the node table at 20
abbrev pub turned_file : List ℕ
turned_file =
    1 ∷ 0 ∷ 0 ∷ 0 ∷ 10 ∷ 0 ∷ 0 ∷ 0 ∷ 24 ∷ 0 ∷ 0 ∷ 0 ∷ 20 ∷ 0 ∷ 0 ∷ 0 ∷ 44 ∷ 0 ∷ 0 ∷ 0
    ∷ 2 ∷ 0 ∷ 0 ∷ 0
    ∷ 4 ∷ 0 ∷ 0 ∷ 0 ∷ 7 ∷ 0 ∷ 0 ∷ 0 ∷ 3 ∷ 0 ∷ 0 ∷ 0 ∷ 0 ∷ 0 ∷ 0 ∷ 0 ∷ 0 ∷ 0 ∷ 0 ∷ 0 ∷ []

-- the bytes of the total word, and how many bytes stand behind Feed's own 44
abbrev pub long_file : List ℕ → ℕ → List ℕ
long_file total k = changed feed_file 16 total ++ replicate k 9

-- 1,000,000 is 64 + 66 × 256 + 15 × 65,536
abbrev pub largest : Chain
largest = chain 1000000 (row 65535 65535 65535 1000000 0 ∷ []) (1000000 ∷ [])

abbrev pub largest_file : List ℕ
largest_file =
    1 ∷ 0 ∷ 0 ∷ 0 ∷ 64 ∷ 66 ∷ 15 ∷ 0 ∷ 20 ∷ 0 ∷ 0 ∷ 0 ∷ 40 ∷ 0 ∷ 0 ∷ 0 ∷ 44 ∷ 0 ∷ 0 ∷ 0
    ∷ 255 ∷ 255 ∷ 0 ∷ 0 ∷ 255 ∷ 255 ∷ 0 ∷ 0 ∷ 255 ∷ 255 ∷ 0 ∷ 0 ∷ 64 ∷ 66 ∷ 15 ∷ 0 ∷ 0 ∷ 0 ∷ 0 ∷ 0
    ∷ 64 ∷ 66 ∷ 15 ∷ 0 ∷ []

-- B at its smallest is 0
abbrev pub smallest : Chain
smallest = chain 1 (row 1 1 1 0 0 ∷ []) (1 ∷ [])

abbrev pub smallest_file : List ℕ
smallest_file =
    1 ∷ 0 ∷ 0 ∷ 0 ∷ 1 ∷ 0 ∷ 0 ∷ 0 ∷ 20 ∷ 0 ∷ 0 ∷ 0 ∷ 40 ∷ 0 ∷ 0 ∷ 0 ∷ 44 ∷ 0 ∷ 0 ∷ 0
    ∷ 1 ∷ 0 ∷ 0 ∷ 0 ∷ 1 ∷ 0 ∷ 0 ∷ 0 ∷ 1 ∷ 0 ∷ 0 ∷ 0 ∷ 0 ∷ 0 ∷ 0 ∷ 0 ∷ 0 ∷ 0 ∷ 0 ∷ 0
    ∷ 1 ∷ 0 ∷ 0 ∷ 0 ∷ []

-- the words of Feed's file stand at: n 0, y 4, queue offset 8, node offset 12, total 16; p 20, τ 24, c 28, B 32, reserved 36; e 40. Those of the file apart: rows
-- at 36 and 56, e at 24 and 28
abbrev pub bad_files : List (Fault (List ℕ))
bad_files =
    -- 1: lengths 0, 19 and 4,097, which is 1 + 16 × 256; a total word that is one off, or off in its highest byte; and 1 before 2
    ([], (1, 0))
    ∷ (take 19 feed_file, (1, 0))
    ∷ (long_file (1 ∷ 16 ∷ []) 4053, (1, 0))
    ∷ (changed feed_file 16 (43 ∷ []), (1, 0))
    ∷ (changed feed_file 16 (45 ∷ []), (1, 0))
    ∷ (changed feed_file 19 (1 ∷ []), (1, 0))
    ∷ (changed (changed feed_file 16 (45 ∷ [])) 0 (0 ∷ []), (1, 0))
    -- 2: n is 0, 17, or 1 with its highest byte 1; length 20 passes 1; and 2 before 3
    ∷ (changed (take 20 (changed feed_file 16 (20 ∷ []))) 0 (0 ∷ []), (2, 0))
    ∷ (changed feed_file 0 (0 ∷ []), (2, 0))
    ∷ (changed full_file 0 (17 ∷ []), (2, 0))
    ∷ (changed feed_file 3 (1 ∷ []), (2, 0))
    ∷ (changed (changed feed_file 8 (16 ∷ [])) 0 (0 ∷ []), (2, 0))
    -- 3, the queue offset: a table behind a header alone; at 16; at 18 and 22; past the end by a word and by a byte; at 4,294,967,292; both offsets wrong
    ∷ (take 20 (changed feed_file 16 (20 ∷ [])), (3, 8))
    ∷ (changed feed_file 8 (16 ∷ []), (3, 8))
    ∷ (changed feed_file 8 (18 ∷ []), (3, 8))
    ∷ (changed feed_file 8 (22 ∷ []), (3, 8))
    ∷ (changed turned_file 8 (28 ∷ []), (3, 8))
    ∷ (changed apart_file 8 (40 ∷ []), (3, 8))
    ∷ (changed feed_file 8 (252 ∷ 255 ∷ 255 ∷ 255 ∷ []), (3, 8))
    ∷ (changed feed_file 8 (16 ∷ 0 ∷ 0 ∷ 0 ∷ 16 ∷ []), (3, 8))
    -- the node offset: at 16; at 42; past the end by a word; at 4,294,967,292
    ∷ (changed feed_file 12 (16 ∷ []), (3, 12))
    ∷ (changed feed_file 12 (42 ∷ []), (3, 12))
    ∷ (changed feed_file 12 (44 ∷ []), (3, 12))
    ∷ (changed feed_file 12 (252 ∷ 255 ∷ 255 ∷ 255 ∷ []), (3, 12))
    -- the tables overlap by a word: the end of the queue table, moved from either side, and its begin; the same place; and 3 before 4
    ∷ (changed feed_file 12 (36 ∷ []), (3, 12))
    ∷ (changed feed_file 8 (24 ∷ []), (3, 12))
    ∷ (changed apart_file 8 (28 ∷ []), (3, 12))
    ∷ (changed turned_file 8 (20 ∷ []), (3, 12))
    ∷ (changed (changed feed_file 12 (16 ∷ [])) 4 (0 ∷ []), (3, 12))
    -- 4: y 0 and 1,000,001; p, τ and c 0 and 65,536; B 1,000,001; reserved 1, in its lowest and its highest byte; e 0 and 1,000,001
    ∷ (changed feed_file 4 (0 ∷ []), (4, 4))
    ∷ (changed feed_file 4 (65 ∷ 66 ∷ 15 ∷ []), (4, 4))
    ∷ (changed feed_file 20 (0 ∷ []), (4, 20))
    ∷ (changed feed_file 20 (0 ∷ 0 ∷ 1 ∷ []), (4, 20))
    ∷ (changed feed_file 24 (0 ∷ []), (4, 24))
    ∷ (changed feed_file 24 (0 ∷ 0 ∷ 1 ∷ []), (4, 24))
    ∷ (changed feed_file 28 (0 ∷ []), (4, 28))
    ∷ (changed feed_file 28 (0 ∷ 0 ∷ 1 ∷ []), (4, 28))
    ∷ (changed feed_file 32 (65 ∷ 66 ∷ 15 ∷ []), (4, 32))
    ∷ (changed feed_file 36 (1 ∷ []), (4, 36))
    ∷ (changed feed_file 39 (1 ∷ []), (4, 36))
    ∷ (changed feed_file 40 (0 ∷ []), (4, 40))
    ∷ (changed feed_file 40 (65 ∷ 66 ∷ 15 ∷ []), (4, 40))
    -- where the tables stand elsewhere: row 1's τ, and e of N_2
    ∷ (changed apart_file 60 (0 ∷ 0 ∷ []), (4, 60))
    ∷ (changed apart_file 28 (0 ∷ 0 ∷ 0 ∷ []), (4, 28))
    -- two of them: y and p; p and τ; row 0's reserved word and row 1's p; row 1's reserved word and the e before it; both e; and 4 in row 1 before 5 in row 0
    ∷ (changed (changed feed_file 20 (0 ∷ [])) 4 (0 ∷ []), (4, 4))
    ∷ (changed feed_file 20 (0 ∷ 0 ∷ 0 ∷ 0 ∷ 0 ∷ []), (4, 20))
    ∷ (changed apart_file 52 (1 ∷ 0 ∷ 0 ∷ 0 ∷ 0 ∷ 0 ∷ []), (4, 52))
    ∷ (changed (changed apart_file 72 (1 ∷ [])) 24 (0 ∷ 0 ∷ 0 ∷ []), (4, 72))
    ∷ (changed apart_file 24 (replicate 8 0), (4, 24))
    ∷ (changed (changed apart_file 72 (1 ∷ [])) 40 (5 ∷ []), (4, 72))
    -- 5: c is τ + 1, in Feed; in row 0 of the file apart, c 2,054 at 44; in row 1, c 1,284 at 64; in both
    ∷ (changed feed_file 28 (8 ∷ []), (5, 28))
    ∷ (changed apart_file 40 (5 ∷ 8 ∷ []), (5, 44))
    ∷ (changed apart_file 60 (3 ∷ 5 ∷ []), (5, 64))
    ∷ (changed (changed apart_file 60 (3 ∷ 5 ∷ [])) 40 (5 ∷ 8 ∷ []), (5, 44))
    ∷ []

-- chains that differ from fine ones in the numbers written
abbrev pub one : ℕ → ℕ → ℕ → ℕ → ℕ → ℕ → ℕ → Chain
one y p τ c B r e = chain y (row p τ c B r ∷ []) (e ∷ [])

abbrev pub two : Queue → ℕ → ℕ → Chain
two q e f = chain 5 (row 4 7 3 0 0 ∷ q ∷ []) (e ∷ f ∷ [])

abbrev pub last : Queue → ℕ → Chain
last q e = chain 16 (repeated 15 (row 1 1 1 0 0 ∷ []) ++ (q ∷ [])) (repeated 15 (1 ∷ []) ++ (e ∷ []))

-- "with places as in its packed file": rows at 20 and 40, e behind the last row
abbrev pub bad_chains : List (Fault Chain)
bad_chains =
    -- 2: n is 0, 17, 4,294,967,295; and 2 before 4
    (chain_of 0 10 (row 4 7 3 0 0 ∷ []) (2 ∷ []), (2, 0))
    ∷ (chain_of 17 10 (repeated 16 (row 1 1 1 0 0 ∷ [])) (repeated 16 (1 ∷ [])), (2, 0))
    ∷ (chain_of 4294967295 10 (row 4 7 3 0 0 ∷ []) (2 ∷ []), (2, 0))
    ∷ (chain_of 0 0 [] [], (2, 0))
    -- 4: each number below and above its range
    ∷ (one 0 4 7 3 0 0 2, (4, 4))
    ∷ (one 1000001 4 7 3 0 0 2, (4, 4))
    ∷ (one 10 0 7 3 0 0 2, (4, 20))
    ∷ (one 10 65536 7 3 0 0 2, (4, 20))
    ∷ (one 10 4 0 3 0 0 2, (4, 24))
    ∷ (one 10 4 65536 3 0 0 2, (4, 24))
    ∷ (one 10 4 7 0 0 0 2, (4, 28))
    ∷ (one 10 4 7 65536 0 0 2, (4, 28))
    ∷ (one 10 4 7 3 1000001 0 2, (4, 32))
    ∷ (one 10 4 7 3 4294967295 0 2, (4, 32))
    ∷ (one 10 4 7 3 0 1 2, (4, 36))
    ∷ (one 10 4 7 3 0 0 0, (4, 40))
    ∷ (one 10 4 7 3 0 0 1000001, (4, 40))
    -- in the second row, in the execution times behind it, and in the last row and the last execution time of 16
    ∷ (two (row 65536 4 2 0 0) 1 1, (4, 40))
    ∷ (two (row 3 65536 2 0 0) 1 1, (4, 44))
    ∷ (two (row 3 4 0 0 0) 1 1, (4, 48))
    ∷ (two (row 3 4 2 1000001 0) 1 1, (4, 52))
    ∷ (two (row 3 4 2 0 1) 1 1, (4, 56))
    ∷ (two (row 3 4 2 0 0) 0 1, (4, 60))
    ∷ (two (row 3 4 2 0 0) 1 0, (4, 64))
    ∷ (last (row 1 1 1 0 1) 1, (4, 336))
    ∷ (last (row 1 1 1 0 0) 0, (4, 400))
    -- two of them: y and p; p and τ; row 0's reserved word and row 1's p; row 1's reserved word and e; both e
    ∷ (one 0 0 7 3 0 0 2, (4, 4))
    ∷ (one 10 0 0 3 0 0 2, (4, 20))
    ∷ (chain 5 (row 4 7 3 0 1 ∷ row 0 4 2 0 0 ∷ []) (1 ∷ 1 ∷ []), (4, 36))
    ∷ (two (row 3 4 2 0 1) 0 1, (4, 56))
    ∷ (two (row 3 4 2 0 0) 0 0, (4, 60))
    -- 4 in row 1 or in e before 5 in row 0
    ∷ (chain 5 (row 4 7 8 0 0 ∷ row 0 4 2 0 0 ∷ []) (1 ∷ 1 ∷ []), (4, 40))
    ∷ (chain 5 (row 4 7 8 0 0 ∷ row 3 4 2 0 0 ∷ []) (1 ∷ 0 ∷ []), (4, 64))
    -- 5: c is τ + 1 in row 0, in row 1, in both; and 5 before 6
    ∷ (one 10 4 7 8 0 0 2, (5, 28))
    ∷ (two (row 3 4 5 0 0) 1 1, (5, 48))
    ∷ (chain 5 (row 4 7 8 0 0 ∷ row 3 4 5 0 0 ∷ []) (1 ∷ 1 ∷ []), (5, 28))
    ∷ (one 1000000 1 65520 65521 0 0 1, (5, 28))
    ∷ []

-- "analysis checks also 6, 7"
abbrev pub bad_rates : List (Fault Chain)
bad_rates =
    -- 6: y 131,072 × 32,768 = 4,294,967,296 at N_1; at N_2; at each of three nodes; x 32,768 × 32,768 × 4 = 4,294,967,296 at N_3, where 7 would be said, too
    (one 131072 1 32768 32768 0 0 1, (6, 1))
    ∷ (chain 65536 (row 1 32768 32768 0 0 ∷ row 1 2 2 0 0 ∷ []) (1 ∷ 1 ∷ []), (6, 2))
    ∷ (chain 131072 (row 1 32768 32768 0 0 ∷ row 1 2 2 0 0 ∷ row 1 2 2 0 0 ∷ []) (1 ∷ 1 ∷ 1 ∷ []), (6, 1))
    ∷ (chain 1 (row 32768 1 1 0 0 ∷ row 32768 1 1 0 0 ∷ row 4 1 1 0 0 ∷ []) (1 ∷ 1 ∷ 1 ∷ []), (6, 3))
    -- 7: 6 of 5 in one node and in two; Feed with 32 of 30; x 49,981 × 42,966 × 2 = 4,294,967,292; and 7 before 8
    ∷ (one 5 1 1 1 0 0 6, (7, 0))
    ∷ (chain 5 (row 1 1 1 0 0 ∷ row 1 1 1 0 0 ∷ []) (3 ∷ 3 ∷ []), (7, 0))
    ∷ (one 10 4 7 3 0 0 8, (7, 0))
    ∷ (chain 1 (row 49981 1 1 0 0 ∷ row 42966 1 1 0 0 ∷ row 2 1 1 0 0 ∷ []) (1 ∷ 1 ∷ 1 ∷ []), (7, 0))
    ∷ (one 10 4 7 3 9 0 8, (7, 0))
    ∷ []

-- 8: B is b − 1 in Feed; in both queues of Permeate; in the second
abbrev pub bad_capacities : List (Fault Chain)
bad_capacities =
    (one 10 4 7 3 9 0 2, (8, 0))
    ∷ (chain 5 (row 4 7 3 9 0 ∷ row 3 4 2 5 0 ∷ []) (1 ∷ 1 ∷ []), (8, 0))
    ∷ (chain 5 (row 4 7 3 10 0 ∷ row 3 4 2 5 0 ∷ []) (1 ∷ 1 ∷ []), (8, 1))
    ∷ []

-- chains that no check refuses: numbers at the ends of their ranges, B at the minimum, a load of 16 of 16 and of 5 of 5
abbrev pub good_chains : List Chain
good_chains = smallest ∷ largest ∷ full ∷ one 1 1 1 1 1 0 1 ∷ one 10 4 7 3 10 0 2 ∷ one 5 1 1 1 0 0 5 ∷ chain 5 (row 1 1 1 0 0 ∷ row 1 1 1 0 0 ∷ []) (2 ∷ 3 ∷ []) ∷ []

-- what a call does not refuse, or not with a number that is another call's
abbrev pub just_accepted : List Row
just_accepted =
    -- length 4,096, tables that touch, every number at the ends of its range
    (read (long_file (0 ∷ 16 ∷ []) 4052), chain_is feed)
    ∷ (read turned_file, chain_is feed)
    ∷ (read largest_file, chain_is largest)
    ∷ (read smallest_file, chain_is smallest)
    -- 6 and 7 are said of a report, before 10: y 131,072 × 65,535; 32 of 30; and not 28 of 30
    ∷ (report (changed (changed largest_file 4 (0 ∷ 0 ∷ 2 ∷ [])) 20 (1 ∷ 0 ∷ [])) (7 ∷ []), 6 ∷ 1 ∷ 0 ∷ 7 ∷ [])
    ∷ (report (changed feed_file 40 (8 ∷ [])) (7 ∷ []), 7 ∷ 0 ∷ 0 ∷ 7 ∷ [])
    ∷ (report (changed feed_file 40 (7 ∷ [])) (replicate 65 7), 0 ∷ 0 ∷ 65 ∷ (heading ++ text "0,4,30,10,4,10,0\nbusy,28,30\n"))
    -- and not of a file that is read or a record that is written
    ∷ (read (changed feed_file 40 (8 ∷ [])), chain_is (one 10 4 7 3 0 0 8))
    ∷ (write (one 131072 1 32768 32768 0 0 1) [], 10 ∷ 44 ∷ 0 ∷ [])
    ∷ (write (one 5 1 1 1 0 0 6) [], 10 ∷ 44 ∷ 0 ∷ [])
    -- y 65,537 × 65,535 = 4,294,967,295
    ∷ (analyse (one 65537 1 65535 65535 0 0 1), sizes_are 1 (1 ∷ 4294967295 ∷ 65535 ∷ 65535 ∷ 65535 ∷ 0 ∷ 0 ∷ []) 1 4294967295)
    -- a chain that is checked for a run and not refused is answered its analysis: B at the minimum
    ∷ (checked_for_run (one 10 4 7 3 10 0 2), sizes_are 1 (4 ∷ 30 ∷ 10 ∷ 4 ∷ 10 ∷ 0 ∷ 0 ∷ []) 8 30)
    -- 8 is not said of an analysis, of a fresh start, of a manual firing
    ∷ (analyse (one 10 4 7 3 9 0 2), sizes_are 1 (4 ∷ 30 ∷ 10 ∷ 4 ∷ 9 ∷ 1 ∷ 1 ∷ []) 8 30)
    ∷ (fresh (one 10 4 7 3 9 0 2), state_is (run 0 [] [] []))
    ∷ (fire (one 10 4 7 3 9 0 2) (run 0 [] [] []) 0, state_is (run 0 (1 ∷ []) (4 ∷ []) []))
    ∷ []

-- all of these
abbrev pub chain_refusals : List Row
chain_refusals = flat_map by_file bad_files ++ (flat_map by_record bad_chains ++ (flat_map by_analysis bad_rates
    ++ (flat_map by_run bad_capacities ++ (flat_map accepted good_chains ++ just_accepted))))
