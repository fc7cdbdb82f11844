-- Laws of specs/Figures.antt that rest on a definition which an edit of must-fail/ changes.
-- Figures of Feed's queue, (4,7,3), from an empty start, each computed.
--   feed_allowed, feed_settled  each take finds 7, and no put does
--   feed_top                    before its last two takes the queue holds its minimum
--   feed_three_allowed, feed_three_puts, feed_three_short
--                               an allowed list with 3 puts that never holds 10, so that no count below P6's 4 would do
use Rattle.std.specs.Prelude.{◌≡◌, refl, List, [], ◌∷◌, ◌++◌, ℕ, ◌+◌, ◌-◌, ◌<◌}
use Rattle.std.proofs.Common.{subst, arith}
use Rattle.onequeue.specs.Least.{least}
use Rattle.events.specs.Events.{Event, put, take, contents, Settled, Holds}
use Rattle.events.specs.Figures.{feed_run, feed_three, Below, feed_three_below}

-- and each put less
pub feed_settled : Settled 4 7 3 0 feed_run
unfolding Settled
feed_settled = (omega arith, (omega arith, (omega arith, (omega arith, tt))))

-- before its last two takes the queue holds its minimum
pub feed_top : contents 4 3 0 (put ∷ put ∷ take ∷ put ∷ take ∷ put ∷ []) ≡ (least 0 4 7 3).minimum
unfolding contents least
feed_top = refl

-- so at the end of what the list begins with
below_before : (p c b x : ℕ) (before after : List Event) → Below p c b x (before ++ after) → contents p c x before < b
unfolding Below contents
below_before p c b x [] [] h = h
below_before p c b x [] (put ∷ after) h = h.0
below_before p c b x [] (take ∷ after) h = h.0
below_before p c b x (put ∷ before) after h = below_before p c b (x + p) before after h.1
below_before p c b x (take ∷ before) after h = below_before p c b (x - c) before after h.1

-- so it has not held 10
pub feed_three_short : Holds 4 3 0 feed_three 10 → ⊥
feed_three_short h =
    omega (arith, h.holds, below_before 4 3 10 0 h.before h.after (subst (Below 4 3 10 0) h.parts feed_three_below))
