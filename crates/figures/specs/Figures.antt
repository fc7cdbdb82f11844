-- The figures that the scope marks P, files, reports and refusals, in one table under one statement: each row's answer is what the call answers.
--   permeate_written, feed_consuming c, feed_working e B, large_cycle
--                            what the figures change in the factory chains, and P10's chain
--   due_first                a chain in whose run deadlines decide
--   example                  000's deadline example
--   scope_figures            P1 to P10, that example, and a run of each kind
--   table                    the questions with their answers: these, and those of Files, ChainRefusals and RunRefusals
--   same, all_right          the computed test
-- What is named here and not declared stands in proofs/FiguresLaws.antt.
use Rattle.std.specs.Prelude.{◌≡◌, refl, Bool, true, false, ◌&&◌, ℕ, zero, suc, ◌<◌, T, eqb, length, get_or, replicate}
use Rattle.std.proofs.Common.{ap₂, arith, eqb→eq}
use mathlib.Core.List.{List, [], ◌∷◌, ◌++◌}
use Rattle.ardenquill.specs.Records.{Chain}
use Rattle.figures.specs.Questions.{analyse, checked_for_run, fresh, fire, immediate, deadline, tick, tick_for_c, deadline_run}
use Rattle.figures.specs.Questions.{deadline_run_for_c, deadline_run_refusal, answer_to, state_numbers}
use Rattle.figures.specs.Literals.{Row, row, chain, feed, permeate, flush, run, refused, state_is, sizes_are, keeps, clean_at, overflowed_at}
use Rattle.figures.specs.Files.{full, files, reports}
use Rattle.figures.specs.ChainRefusals.{chain_refusals}
use Rattle.figures.specs.RunRefusals.{run_refusals}

-- what the figures change in the factory chains
abbrev pub permeate_written : Chain
permeate_written = chain 5 (row 4 7 3 12 0 ∷ row 3 4 2 5 0 ∷ []) (1 ∷ 1 ∷ [])

abbrev pub feed_consuming : ℕ → Chain
feed_consuming c = chain 10 (row 4 7 c 0 0 ∷ []) (2 ∷ [])

abbrev pub feed_working : ℕ → ℕ → Chain
feed_working e B = chain 10 (row 4 7 3 B 0 ∷ []) (e ∷ [])

abbrev pub large_cycle : Chain
large_cycle = chain 1000000 (row 1 65521 65521 0 0 ∷ []) (1 ∷ [])

abbrev pub due_first : Chain
due_first = chain 6 (row 3 3 3 3 0 ∷ row 1 3 3 5 0 ∷ []) (3 ∷ 4 ∷ [])

-- 000's: "(118,118,118), three of (256,256,256), (256,32768,16384), (32768,128,128), B all 0, y=1000, e all 1"
abbrev pub example : Chain
example = chain 1000 (row 118 118 118 0 0 ∷ row 256 256 256 0 0 ∷ row 256 256 256 0 0 ∷ row 256 256 256 0 0 ∷ row 256 32768 16384 0 0 ∷ row 32768 128 128 0 0 ∷ []) (replicate 6 1)

-- of an analysis: for each queue x, y, minimum, naming count, capacity, sign and size of the margin; then busy and cycle. Of a run state: the clock; the
-- counts from the source on; what the queues hold; the work done
abbrev pub scope_figures : List Row
scope_figures =
    -- P1, and P6's 4
    (analyse feed, sizes_are 1 (4 ∷ 30 ∷ 10 ∷ 4 ∷ 10 ∷ 0 ∷ 0 ∷ []) 8 30)
    -- P2
    ∷ (analyse permeate, sizes_are 2 (4 ∷ 15 ∷ 10 ∷ 4 ∷ 10 ∷ 0 ∷ 0 ∷ 6 ∷ 15 ∷ 6 ∷ 3 ∷ 6 ∷ 0 ∷ 0 ∷ []) 10 15)
    -- P3, and P6's 4 and 8
    ∷ (analyse flush, sizes_are 2 (1 ∷ 100 ∷ 64 ∷ 4 ∷ 64 ∷ 0 ∷ 0 ∷ 1 ∷ 800 ∷ 8 ∷ 8 ∷ 8 ∷ 0 ∷ 0 ∷ []) 43 800)
    -- P4: margins 2 and -1; what runs it refuses 8, place 1
    ∷ (analyse permeate_written, sizes_are 2 (4 ∷ 15 ∷ 10 ∷ 4 ∷ 12 ∷ 0 ∷ 2 ∷ 6 ∷ 15 ∷ 6 ∷ 3 ∷ 5 ∷ 1 ∷ 1 ∷ []) 10 15)
    ∷ (checked_for_run permeate_written, refused 8 1 115)
    ∷ (immediate permeate_written 0, refused 8 1 50)
    ∷ (immediate permeate_written 4, refused 8 1 50)
    ∷ (deadline_run permeate_written 1, refused 8 1 51)
    ∷ (tick permeate_written (run 0 [] [] []), refused 8 1 51)
    ∷ (deadline permeate_written 1 1, refused 8 1 1)
    -- P5: k = 0..4
    ∷ (immediate feed 0, state_is (run 0 [] [] []))
    ∷ (immediate feed 1, state_is (run 0 (1 ∷ 0 ∷ []) (4 ∷ []) []))
    ∷ (immediate feed 2, state_is (run 0 (2 ∷ 1 ∷ []) (5 ∷ []) []))
    ∷ (immediate feed 3, state_is (run 0 (3 ∷ 2 ∷ []) (6 ∷ []) []))
    ∷ (immediate feed 4, state_is (run 0 (4 ∷ 4 ∷ []) (4 ∷ []) []))
    -- P7: T = 34, 30, 0
    ∷ (deadline_run feed 34, clean_at (run 34 (4 ∷ 4 ∷ []) (4 ∷ []) []))
    ∷ (deadline_run feed 30, clean_at (run 30 (3 ∷ 2 ∷ []) (6 ∷ []) []))
    ∷ (deadline_run feed 0, clean_at (run 0 [] [] []))
    -- P8: load 28 of 30, yet an overflow at tick 40, queue 0, which a run of 40 ticks does not come to; clean to tick 90 with B = 12
    ∷ (analyse (feed_working 7 0), sizes_are 1 (4 ∷ 30 ∷ 10 ∷ 4 ∷ 10 ∷ 0 ∷ 0 ∷ []) 28 30)
    ∷ (deadline_run (feed_working 7 0) 41, overflowed_at (run 40 (4 ∷ 3 ∷ []) (7 ∷ []) (3 ∷ [])) 40 0)
    ∷ (deadline_run (feed_working 7 0) 40, clean_at (run 40 (4 ∷ 3 ∷ []) (7 ∷ []) (3 ∷ [])))
    ∷ (deadline_run (feed_working 7 12) 90, clean_at (run 90 (9 ∷ 10 ∷ []) (6 ∷ []) []))
    -- the overflow as C is told it: kind 1, the tick, the queue
    ∷ (deadline_run_for_c (feed_working 7 0) 41, 0 ∷ 0 ∷ 1 ∷ 40 ∷ 0 ∷ state_numbers (run 40 (4 ∷ 3 ∷ []) (7 ∷ []) (3 ∷ [])))
    -- a run whose deadlines decide: at ticks at which both nodes are over threshold it is not always the one nearest the sink that works
    ∷ (deadline_run due_first 20, clean_at (run 20 (4 ∷ 3 ∷ 0 ∷ []) (3 ∷ 3 ∷ []) (2 ∷ 3 ∷ [])))
    -- Feed goes on past tick 100
    ∷ (deadline_run (feed_working 2 10) 110, clean_at (run 110 (11 ∷ 13 ∷ []) (5 ∷ []) []))
    -- P9: c = τ is accepted, c = τ + 1 refused 5 at the place of c
    ∷ (analyse (feed_consuming 7), sizes_are 1 (4 ∷ 70 ∷ 10 ∷ 7 ∷ 10 ∷ 0 ∷ 0 ∷ []) 8 70)
    ∷ (analyse (feed_consuming 8), refused 5 28 115)
    -- P10: y would be 65,521,000,000
    ∷ (analyse large_cycle, refused 6 1 115)
    -- a fresh start, a manual firing of the source and one of the sink, which is below threshold: 11, place the node
    ∷ (fresh feed, state_is (run 0 [] [] []))
    ∷ (fire feed (run 0 [] [] []) 0, state_is (run 0 (1 ∷ 0 ∷ []) (4 ∷ []) []))
    ∷ (fire feed (run 0 [] [] []) 1, keeps 11 1 (run 0 [] [] []))
    -- the first tick, and as C is told it; a run that is too long; the deadline of the sink's first firing and of one that there is not
    ∷ (tick feed (run 0 [] [] []), clean_at (run 1 (1 ∷ 0 ∷ []) (4 ∷ []) []))
    ∷ (tick_for_c feed (run 0 [] [] []), refused 0 0 3 ++ state_numbers (run 1 (1 ∷ 0 ∷ []) (4 ∷ []) []))
    ∷ (deadline_run feed 1000001, refused 9 0 51)
    ∷ (deadline_run_refusal feed 1000000, refused 0 0 0)
    ∷ (deadline feed 1 1, 0 ∷ 0 ∷ 20 ∷ [])
    ∷ (deadline feed 1 0, refused 11 1 1)
    -- 16 queues, which one token passes in 16 ticks
    ∷ (immediate full 2, state_is (run 0 (replicate 17 2) [] []))
    ∷ (deadline_run full 17, clean_at (run 17 (2 ∷ 2 ∷ replicate 15 1) (0 ∷ 1 ∷ []) []))
    ∷ (deadline full 16 1, 0 ∷ 0 ∷ 256 ∷ [])
    -- 000's deadline example
    ∷ (deadline example 1 1, 0 ∷ 0 ∷ 1000 ∷ [])
    ∷ (deadline example 1 2, 0 ∷ 0 ∷ 2000 ∷ [])
    ∷ (deadline example 5 1, 0 ∷ 0 ∷ 132000 ∷ [])
    ∷ (deadline example 5 2, 0 ∷ 0 ∷ 196000 ∷ [])
    ∷ (deadline example 6 1, 0 ∷ 0 ∷ 196000 ∷ [])
    ∷ (deadline example 6 2, 0 ∷ 0 ∷ 196000 ∷ [])
    ∷ []

-- the questions with their answers
abbrev pub table : List Row
table = scope_figures ++ (files ++ (reports ++ (chain_refusals ++ run_refusals)))

-- whether two lists of numbers are the same
unfoldable pub same : List ℕ → List ℕ → Bool
same [] [] = true
same [] (n ∷ ns) = false
same (m ∷ ms) [] = false
same (m ∷ ms) (n ∷ ns) = eqb m n && same ms ns

-- whether each row's answer is what the call answers
unfoldable pub all_right : List Row → Bool
unfolding same answer_to
all_right [] = true
all_right (r ∷ rs) = same r.1 (answer_to r.0) && all_right rs

pub both : (a b : Bool) → T (a && b) → T a × T b
both true b h = (tt, h)
both false b h = absurd h

pub same_is : (ms ns : List ℕ) → T (same ms ns) → ms ≡ ns
unfolding same
same_is [] [] h = refl
same_is [] (n ∷ ns) h = absurd h
same_is (m ∷ ms) [] h = absurd h
same_is (m ∷ ms) (n ∷ ns) h = let p = both (eqb m n) (same ms ns) h in ap₂ ◌∷◌ (eqb→eq m n p.0) (same_is ms ns p.1)

-- what the test decides: row i's answer is what the call answers
pub right_rows : (rs : List Row) (d : Row) → T (all_right rs) → (i : ℕ) → i < length rs → (get_or rs i d).1 ≡ answer_to (get_or rs i d).0
unfolding all_right
right_rows [] d h i l = absurd (omega arith)
right_rows (r ∷ rs) d h zero l = same_is r.1 (answer_to r.0) (both (same r.1 (answer_to r.0)) (all_right rs) h).0
right_rows (r ∷ rs) d h (suc i) l = right_rows rs d (both (same r.1 (answer_to r.0)) (all_right rs) h).1 i (omega arith)
