-- Figures of ticks and deadline runs, each computed (01, P7 and P8).
--   feed, feed_working e B     the factory chain 0, and with execution time e and capacity B
--   row r                      what is left: the outcome's number, the counts of source and sink, what is held, and the outcome's values
--   late, late_run, late_tick  a node that the source's step brings over threshold, and whose deadline can't be had
-- What is named here and not declared stands in proofs/FiguresLaws.antt.
use Rattle.std.specs.Prelude.{List, [], ◌∷◌, ℕ}
use Rattle.chain.specs.Factory.{queue, made, factory_answer}
use Rattle.chain.specs.declared.Chain.{Chain}
use Rattle.state.specs.State.{count_at, held_at}
use Rattle.state.specs.declared.Run.{Run}
use Rattle.instants.specs.Steps.{number_of, values_of}
use Rattle.instants.specs.declared.Ticked.{Ticked}

-- the factory chain 0
abbrev pub feed : Chain
feed = (factory_answer 0).chain

-- with another execution time and capacity
abbrev pub feed_working : ℕ → ℕ → Chain
feed_working e B = made 10 (queue 4 7 3 B ∷ []) (e ∷ [])

-- what is left, of a chain of one queue
abbrev pub row : Ticked → List ℕ
row r = number_of r.outcome ∷ count_at r.run 0 ∷ count_at r.run 1 ∷ held_at r.run 0 ∷ values_of r.outcome

-- a node whose next index passes the limit at the source once the source's step has brought it over threshold
abbrev pub late : Chain
late = made 10 (queue 1 1 1 10 ∷ []) (1 ∷ [])

abbrev pub late_run : Run
late_run = record { clock = 0; counts = 4294967290 ∷ 4294967290 ∷ []; held = 0 ∷ []; done = 0 ∷ [] }
