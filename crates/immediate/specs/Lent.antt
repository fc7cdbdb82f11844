-- Fire and settle over a lent flow: what they ask and give of the state that it shows.
--   Fire l i, Settle l q     the flow shows a state in which the call may be made
--   Showing P c l            the flow shows a state of which P holds
--   FireGives l i m, SettleGives l q m
--                            of every such state that l showed, m shows the one after it
--   Going l q m              what holds of m before each firing of queue q's consumer
--   Source c m s             only the source may fire, and has fired m times
--   Driven k c m l           the flow l shows a calm state after m of k source firings
--   Driving k l m u          of every fresh start that l shows, u shows it driven so far
-- What is named here and not declared stands in proofs/LentLaws.antt.
use Rattle.std.specs.Prelude.{◌≡◌, List, ℕ, ◌≤◌}
use Rattle.chain.specs.declared.Chain.{Chain}
use Rattle.state.specs.State.{count_at, fresh_run}
use Rattle.state.specs.declared.Run.{Run}
use Rattle.schedule.specs.Reached.{Calm}
use Rattle.flow.specs.Flow.{Shows}
use Rattle.immediate.specs.Steps.{Bounds, Held, Trail, FireAsk, FireDone, SettleAsk, SettleDone, Settling}

-- the flow shows a state in which N_i may fire, nearest the sink
pub record Fire (l : List ℕ) (i : ℕ) : Type 0 where
  pub runs : ℕ
  pub chain : Chain
  pub run : Run
  pub shows : Shows l chain run
  pub ask : FireAsk runs chain run i

-- the flow shows a state in which queue q may be settled
pub record Settle (l : List ℕ) (q : ℕ) : Type 0 where
  pub runs : ℕ
  pub chain : Chain
  pub run : Run
  pub shows : Shows l chain run
  pub ask : SettleAsk runs chain run q

-- the flow shows a state that has a property
pub record Showing (P : Run → Type 0) (c : Chain) (l : List ℕ) : Type 0 where
  pub run : Run
  pub shows : Shows l c run
  pub is : P run

-- of every state in which N_i may fire that l shows, m shows the one after it
pub record FireGives (l : List ℕ) (i : ℕ) (m : List ℕ) : Type 0 where
  pub gives : (k : ℕ) (c : Chain) (s : Run) → Shows l c s → FireAsk k c s i → Showing (FireDone c s i) c m

-- the same of a queue that may be settled
pub record SettleGives (l : List ℕ) (q : ℕ) (m : List ℕ) : Type 0 where
  pub gives : (k : ℕ) (c : Chain) (s : Run) → Shows l c s → SettleAsk k c s q → Showing (SettleDone c s q) c m

-- and on the way, before each firing of the consumer
pub record Going (l : List ℕ) (q : ℕ) (m : List ℕ) : Type 0 where
  pub gives : (k : ℕ) (c : Chain) (s : Run) → Shows l c s → SettleAsk k c s q → Showing (Settling c s q) c m

-- only the source may fire, and has fired m times
pub record Source (c : Chain) (m : ℕ) (s : Run) : Type 0 where
  pub trail : Trail c (fresh_run c) s
  pub held : Held c s
  pub calm : Calm c s 0
  pub count : count_at s 0 ≡ m

-- the flow shows such a state, m being at most k
pub record Driven (k : ℕ) (c : Chain) (m : ℕ) (l : List ℕ) : Type 0 where
  pub most : m ≤ k
  pub state : Showing (Source c m) c l

-- whatever fresh start l shows
pub record Driving (k : ℕ) (l : List ℕ) (m : ℕ) (u : List ℕ) : Type 0 where
  pub gives : (c : Chain) → Bounds k c → Shows l c (fresh_run c) → Driven k c m u
