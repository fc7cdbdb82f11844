-- Figures of Feed's queue, (4,7,3), from an empty start, each computed.
--   feed_run                    the queue's events of the immediate run of 4 source firings
--   feed_allowed, feed_settled  each take finds 7, and no put does
--   feed_three                  its events up to the third put
--   feed_three_allowed, feed_three_puts, feed_three_short
--                               an allowed list with 3 puts that never holds 10, so that no count below P6's 4 would do
-- What is named here and not declared stands in proofs/FiguresLaws.antt.
use Rattle.std.specs.Prelude.{◌≡◌, refl, List, [], ◌∷◌, ℕ, ◌+◌, ◌-◌, ◌<◌}
use Rattle.std.proofs.Common.{arith}
use Rattle.events.specs.Events.{Event, put, take, puts, Allowed}

-- P5's run with k = 4
abbrev pub feed_run : List Event
feed_run = put ∷ put ∷ take ∷ put ∷ take ∷ put ∷ take ∷ take ∷ []

-- each take finds 7
pub feed_allowed : Allowed 4 7 3 0 feed_run
unfolding Allowed
feed_allowed = (omega arith, (omega arith, (omega arith, (omega arith, tt))))

-- its events up to the third put
abbrev pub feed_three : List Event
feed_three = put ∷ put ∷ take ∷ put ∷ []

-- each take finds 7
pub feed_three_allowed : Allowed 4 7 3 0 feed_three
unfolding Allowed
feed_three_allowed = (omega arith, tt)

-- there are 3 puts
pub feed_three_puts : puts feed_three ≡ 3
unfolding puts
feed_three_puts = refl

-- at each moment less than b is held
unfoldable pub Below : ℕ → ℕ → ℕ → ℕ → List Event → Type 0
Below p c b x [] = x < b
Below p c b x (put ∷ es) = (x < b) × Below p c b (x + p) es
Below p c b x (take ∷ es) = (x < b) × Below p c b (x - c) es

-- the queue holds less than 10 at each moment of them
pub feed_three_below : Below 4 3 10 0 feed_three
unfolding Below
feed_three_below = (omega arith, (omega arith, (omega arith, (omega arith, omega arith))))
