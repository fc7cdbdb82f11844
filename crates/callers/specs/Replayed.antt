-- What a caller of `replay` learns, from its contract alone.
--   c, h, r                  a chain, a list of nodes, and the answer of replay
--   Kept c h s               demand 3 of a permitted order h that led to the state s: what each queue holds, what it has held, and that it is not full
--   Replayed c h r           r is the answer of fresh and then fire for each node of h; where it is not refused, demand 3 is kept
--   replayed                 the first part gives the second
use Rattle.std.specs.Prelude.{◌≡◌, List, ℕ, suc, ◌+◌, ◌*◌, ◌≤◌, ◌<◌}
use Rattle.std.proofs.Common.{sym, ap, subst, ◌∙◌}
use Rattle.ardenquill.specs.Chains.{row_of}
use Rattle.ardenquill.specs.Analyses.{start}
use Rattle.ardenquill.specs.Runs.{count_at, held_at, fresh_run, fire_answer}
use Rattle.ardenquill.specs.Histories.{times, after, Permitted}
use Rattle.ardenquill.specs.Records.{Chain, Run, RunAnswer}
use Rattle.promises.specs.Replay.{p_of, c_of, Accepts, line, replay_answer, Fires, Always, Sometime, Ample, LowAt, AtOnce, accepts_is, fires_is, fires_state}
use Rattle.promises.specs.Demand3 as demand

-- the chain is accepted, the order permitted, and s the state after it; each queue holds "what its producer's firings put in less what its
-- consumer's took out"; a producer that fired "as often as 01 names for its queue" has shown the minimum there; where nodes fired at once no
-- queue has passed it; and nodes that fire at once are never stopped by a full queue
pub record Kept (c : Chain) (h : List ℕ) (s : Run) : Type 0 where
  pub accepted : Accepts c
  pub permitted : Permitted c (fresh_run c) h
  pub state : s ≡ after c (fresh_run c) h
  pub counted : (i : ℕ) → i ≤ c.n → count_at s i ≡ times i h
  pub balance : (j : ℕ) → j < c.n → start (row_of c j) + p_of c j * times j h ≡ held_at s j + c_of c j * times (suc j) h
  pub naming : (j : ℕ) → j < c.n → (line c j).by ≤ times j h → Sometime c h (λ t. (line c j).minimum ≤ held_at t j)
  pub peak : AtOnce c h → (j : ℕ) → j < c.n → Always c h (λ t. held_at t j ≤ (line c j).minimum)
  pub never_full : (i : ℕ) → Ample c i → LowAt c s i → (fire_answer c s i).number ≡ 12 → ⊥

-- the answer, and what it promises where it is not refused
pub record Replayed (c : Chain) (h : List ℕ) (r : RunAnswer) : Type 0 where
  pub answer : r ≡ replay_answer c h
  pub kept : r.number ≡ 0 → Kept c h r.run

-- of the answer by its definition
kept_of : (c : Chain) (h : List ℕ) → Fires c h → Kept c h (replay_answer c h).run
kept_of c h ok = record {
  accepted = (accepts_is c).1 ((fires_is c h).0 ok).0;
  permitted = ((fires_is c h).0 ok).1;
  state = fires_state c h ok;
  counted = demand.counted c h ok;
  balance = demand.balance c h ok;
  naming = demand.naming c h ok;
  peak = demand.peak c h ok;
  never_full = demand.never_full c h ok;
}

-- the answer is enough
pub replayed : (c : Chain) (h : List ℕ) {r : RunAnswer} → r ≡ replay_answer c h → Replayed c h r
replayed c h e = record {
  answer = e;
  kept = λ z. subst (Kept c h) (ap (λ (t : RunAnswer). t.run) (sym e)) (kept_of c h (ap (λ (t : RunAnswer). t.number) (sym e) ∙ z));
}
