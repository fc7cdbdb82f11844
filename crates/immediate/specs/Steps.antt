-- What fire and settle ask and give, and the steps of their proofs.
--   Bounds k c               a chain that may run, and whose counts stay within the limit for k source firings
--   Held c s                 what holds of every state on the way: firings led to it, and no queue is past its minimum
--   Trail c s r              firings, each by the rule (`Follows`), lead from s to r; trail_none, -then: none, and one trail after the other
--   FireAsk k c s i          N_i may fire, no node after it may, and its count is below the end's
--   FireDone c s i r         r has one firing more of N_i and is calm from N_i on; counts before it are as they were
--   SettleAsk k c s q        the nodes after queue q's consumer are calm, and its producer's count is not above the end's
--   SettleDone c s q r       r is calm from the queue's producer on; counts up to it are as they were
--   Settling c s q r         what holds before each firing of the consumer
-- What is named here and not declared stands in proofs/StepsLaws.antt.
use Rattle.std.specs.Prelude.{◌≡◌, refl, List, [], ◌∷◌, ◌++◌}
use Rattle.std.proofs.Common.{sym, ap, subst, ◌∙◌}
use Prim.Native.Nat.{ℕ, suc, ◌+◌, ◌≤◌, ◌<◌}
use Rattle.chain.specs.declared.Chain.{Chain}
use Rattle.sizing.specs.Checks.{Enough}
use Rattle.sizing.specs.Accepted.{Accepted}
use Rattle.state.specs.State.{count_at}
use Rattle.state.specs.Fired.{fired, Over}
use Rattle.state.specs.declared.Run.{Run}
use Rattle.history.specs.History.{after, EachFiring, after_append, each_append}
use Rattle.schedule.specs.Counts.{F}
use Rattle.schedule.specs.Reached.{Reached, Calm}
use Rattle.schedule.specs.Schedule.{Next, Follows, Tight}
use Rattle.immediate.specs.Checks.{most}

-- a chain that may run, and counts that stay within the limit
pub record Bounds (k : ℕ) (c : Chain) : Type 0 where
  pub accepted : Accepted c
  pub enough : (j : ℕ) → j < c.n → Enough c j
  pub within : (j : ℕ) → j ≤ c.n → F c k j ≤ most

-- firings led to the state from a fresh start, and no queue is past its minimum
pub record Held (c : Chain) (s : Run) : Type 0 where
  pub reached : Reached c s
  pub tight : Tight c s

-- N_i may fire, no node nearer the sink may, and N_i has not yet fired as often as it will
pub record FireAsk (k : ℕ) (c : Chain) (s : Run) (i : ℕ) : Type 0 where
  pub bounds : Bounds k c
  pub held : Held c s
  pub node : i ≤ c.n
  pub over : Over c s i
  pub calm : Calm c s i
  pub below : count_at s i < F c k i

-- firings by the rule lead from s to r
pub record Trail (c : Chain) (s r : Run) : Type 0 where
  pub firings : List ℕ
  pub follows : Follows c s firings
  pub is : after c s firings ≡ r

pub trail_none : (c : Chain) (s : Run) → Trail c s s
unfolding after EachFiring
trail_none c s = record { firings = []; follows = tt; is = refl }

pub trail_first : {c : Chain} {s r : Run} {i : ℕ} → Next c s i → Trail c (fired c s i) r → Trail c s r
unfolding after EachFiring
trail_first {i = i} n t = record { firings = i ∷ t.firings; follows = (n, t.follows); is = t.is }

pub trail_then : {c : Chain} {s r u : Run} → Trail c s r → Trail c r u → Trail c s u
trail_then {c} {s} {r} {u} a b = record {
  firings = a.firings ++ b.firings;
  follows = each_append c (Next c) s a.firings b.firings a.follows (subst (λ (x : Run). Follows c x b.firings) (sym a.is) b.follows);
  is = after_append c s a.firings b.firings ∙ ap (λ (x : Run). after c x b.firings) a.is ∙ b.is;
}

-- N_i has fired once more, and from it on no node may fire
pub record FireDone (c : Chain) (s : Run) (i : ℕ) (r : Run) : Type 0 where
  pub trail : Trail c s r
  pub held : Held c r
  pub calm : Calm c r i
  pub same : (j : ℕ) → j < i → count_at r j ≡ count_at s j
  pub once : count_at r i ≡ count_at s i + 1

-- no node nearer the sink than queue q's consumer may fire, and its producer has not fired more often than it will
pub record SettleAsk (k : ℕ) (c : Chain) (s : Run) (q : ℕ) : Type 0 where
  pub bounds : Bounds k c
  pub held : Held c s
  pub queue : q < c.n
  pub calm : Calm c s (suc q)
  pub below : count_at s q ≤ F c k q

-- the queue's consumer may not fire either
pub record SettleDone (c : Chain) (s : Run) (q : ℕ) (r : Run) : Type 0 where
  pub trail : Trail c s r
  pub held : Held c r
  pub calm : Calm c r q
  pub same : (j : ℕ) → j ≤ q → count_at r j ≡ count_at s j

-- before each firing of the queue's consumer, the nodes after that one are calm
pub record Settling (c : Chain) (s : Run) (q : ℕ) (r : Run) : Type 0 where
  pub trail : Trail c s r
  pub held : Held c r
  pub calm : Calm c r (suc q)
  pub same : (j : ℕ) → j ≤ q → count_at r j ≡ count_at s j
