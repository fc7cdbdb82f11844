-- Figures of recording runs, each computed (02, Item 2).
--   rec_row x                  what is left, of a chain of one queue: the outcome's number, the counts of source and sink, what is held, the length of the list, and the
--                              outcome's values
--   shallow, shallow_512, _last, _513
--                              a queue in which nothing fits: the list fills up, and the 257th loss stops the run
--   two, two_row, two_513      a second queue in which nothing fits: the run is stopped at a finish
--   both, both_run, both255    a chain with two losses in one tick, and a state and a list of 255 entries before it
--   steep, steep_run           a chain and a state in which the source's production does not fit and a node then lacks its deadline
--   steep_overflows, steep_taken_back
--                              as a deadline tick it overflows, and as a recording tick 13 ends it, taking back the source's loss
--   shallow_accepted, two_accepted
--                              chains that lose are accepted
-- What is named here and not declared stands in proofs/FiguresLaws.antt.
use Rattle.std.specs.Prelude.{◌≡◌, refl, List, [], ◌∷◌, ℕ, replicate}
use Rattle.chain.specs.Factory.{queue, made}
use Rattle.chain.specs.declared.Chain.{Chain}
use Rattle.sizing.specs.Checks.{analyse_refusal}
use Rattle.sizing.specs.Accepted.{Accepted}
use Rattle.sizing.proofs.AcceptedLaws.{analyse_accepts}
use Rattle.state.specs.State.{count_at, held_at, done_at}
use Rattle.state.specs.declared.Run.{Run}
use Rattle.instants.specs.Steps.{overflowed, tick}
use Rattle.losses.specs.Losses.{loss}
use Rattle.losses.specs.declared.Losses.{Losses}
use Rattle.recordings.specs.Steps.{rec_number_of, rec_values_of}
use Rattle.recordings.specs.declared.Recorded.{Recorded}

-- what is left, of a chain of one queue
abbrev pub rec_row : Recorded → List ℕ
rec_row x = rec_number_of x.outcome ∷ count_at x.run 0 ∷ count_at x.run 1 ∷ held_at x.run 0 ∷ x.losses.count ∷ rec_values_of x.outcome

-- a queue in which nothing fits
abbrev pub shallow : Chain
shallow = made 2 (queue 4 7 7 3 ∷ []) (1 ∷ [])

-- a second queue in which nothing fits
abbrev pub two : Chain
two = made 2 (queue 1 1 1 1 ∷ queue 4 4 4 3 ∷ []) (1 ∷ 1 ∷ [])

-- what is left of it: the outcome's number, all counts, contents and work done, the length of the list, the clock, and the outcome's values
abbrev pub two_row : Recorded → List ℕ
two_row x =
    rec_number_of x.outcome ∷ count_at x.run 0 ∷ count_at x.run 1 ∷ count_at x.run 2 ∷ held_at x.run 0 ∷ held_at x.run 1
    ∷ done_at x.run 0 ∷ done_at x.run 1 ∷ x.losses.count ∷ x.run.clock ∷ rec_values_of x.outcome

-- two queues, the second of which fits nothing, and a first node that takes two ticks
abbrev pub both : Chain
both = made 4 (queue 1 1 1 1 ∷ queue 4 4 4 3 ∷ []) (2 ∷ 1 ∷ [])

-- a state in which the first queue is full, the source is due and the node has one tick of work left
abbrev pub both_run : Run
both_run = record { clock = 1024; counts = 256 ∷ 0 ∷ 0 ∷ replicate 14 0; held = 1 ∷ replicate 15 0; done = 1 ∷ replicate 15 0 }

abbrev pub both255 : Losses
both255 = record { count = 255; entries = replicate 256 (loss 0 0 1) }

-- a chain in which a node lacks its deadline while its counts are small
abbrev pub steep : Chain
steep = made 2 (queue 1 1 1 1 ∷ queue 1 65535 65535 65535 ∷ queue 1 1 1 1000000 ∷ []) (1 ∷ 3 ∷ 1 ∷ [])

-- a state of it: the source is due, its queue is full, and N_3 is over threshold
abbrev pub steep_run : Run
steep_run = record { clock = 131072; counts = 65536 ∷ 65535 ∷ 1 ∷ 0 ∷ []; held = 1 ∷ 0 ∷ 1 ∷ []; done = 0 ∷ 0 ∷ 0 ∷ [] }

pub steep_overflows : tick steep steep_run ≡ overflowed steep_run 131072 0
unfolding tick
steep_overflows = refl

-- chains that lose are accepted
pub shallow_accepted : Accepted shallow
unfolding analyse_refusal
shallow_accepted = (analyse_accepts shallow).0 refl

pub two_accepted : Accepted two
unfolding analyse_refusal
two_accepted = (analyse_accepts two).0 refl
