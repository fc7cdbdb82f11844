-- Laws of specs/Figures.antt that rest on a definition which an edit of must-fail/ changes.
-- Figures of a history of Feed, from a fresh start, each computed.
--   feed_permitted, feed_prompt
--                            manual firing accepts each firing in turn, and the source fires only below threshold
use Rattle.std.proofs.Common.{arith}
use Rattle.chain.specs.Factory.{factory_answer}
use Rattle.state.specs.State.{fresh_run}
use Rattle.state.specs.Fired.{fired}
use Rattle.history.specs.History.{Prompt, EachFiring}
use Rattle.history.specs.Figures.{feed, feed_history}

-- and each node of it fires only when the node that it feeds is below threshold
pub feed_prompt : Prompt feed (fresh_run feed) feed_history
unfolding factory_answer fresh_run fired EachFiring
feed_prompt =
    (λ l. omega arith, (λ l. omega arith, (λ l. omega arith, (λ l. omega arith, (λ l. omega arith, (λ l. omega arith, (λ l. omega arith, (λ l. omega arith, tt))))))))
