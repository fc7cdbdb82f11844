-- Figures of a history of Feed, from a fresh start, each computed.
--   feed                     the factory chain 0: one queue, (4,7,3)
--   feed_history             P5's run with k = 4: each firing of the source, then the sink until it is below threshold
--   feed_first, feed_top     after its first 6 firings the queue holds 10, its minimum
--   feed_permitted, feed_prompt
--                            manual firing accepts each firing in turn, and the source fires only below threshold
-- What is named here and not declared stands in proofs/FiguresLaws.antt.
use Rattle.std.specs.Prelude.{◌≡◌, refl, List, [], ◌∷◌, ℕ}
use Rattle.chain.specs.Record.{row_of}
use Rattle.chain.specs.Factory.{factory_answer}
use Rattle.chain.specs.declared.Chain.{Chain}
use Rattle.onequeue.specs.Least.{least}
use Rattle.sizing.specs.Sizes.{minimum_of}
use Rattle.state.specs.State.{held_at, fresh_run}
use Rattle.state.specs.Fired.{fired}
use Rattle.state.specs.Fire.{fire_refusal}
use Rattle.history.specs.History.{after, Permitted, EachFiring}

-- the factory chain 0
abbrev pub feed : Chain
feed = (factory_answer 0).chain

-- P5's run with k = 4
abbrev pub feed_history : List ℕ
feed_history = 0 ∷ 0 ∷ 1 ∷ 0 ∷ 1 ∷ 0 ∷ 1 ∷ 1 ∷ []

-- its first 6 firings
abbrev pub feed_first : List ℕ
feed_first = 0 ∷ 0 ∷ 1 ∷ 0 ∷ 1 ∷ 0 ∷ []

-- after them the queue holds 10, which is its minimum
pub feed_top : (held_at (after feed (fresh_run feed) feed_first) 0 ≡ 10) × (minimum_of (row_of feed 0) ≡ 10)
unfolding factory_answer fresh_run fired after least
feed_top = (refl, refl)

-- manual firing accepts each firing of the run
pub feed_permitted : Permitted feed (fresh_run feed) feed_history
unfolding factory_answer fresh_run fired fire_refusal EachFiring
feed_permitted = (refl, (refl, (refl, (refl, (refl, (refl, (refl, (refl, tt))))))))
