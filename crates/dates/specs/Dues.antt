-- What the code that follows an index down asks and gives of the chain and the state that a plan and a flow show.
--   Step p c b k             one step: the numbers of a queue and an index, in range
--   Shown l f c s            the plan l and the flow f show the chain c and the state s
--   Dues l f i k             they show a sound chain, which has a node i; k is an index of its firings
--   DueGives l f i k r       of every chain that they show, r says 13 of it, or is the deadline of N_i's k-th firing
--   FollowedGives l f i k r  r is that deadline, or never where 13 speaks; PassingGives: r is 13's place
--   Dated l f i              and N_i's count can grow
--   DatedGives l f i r       of every chain and state that they show, r is the deadline of N_i's next firing, or never
use Rattle.std.specs.Prelude.{◌≡◌, Result, IfOk, List, ℕ, suc, ◌≤◌, ◌<◌}
use Rattle.chain.specs.Sound.{Sound}
use Rattle.chain.specs.Tests.{In}
use Rattle.chain.specs.Refusals.{fine, Silent}
use Rattle.chain.specs.Said.{said}
use Rattle.chain.specs.declared.Chain.{Chain}
use Rattle.chain.specs.declared.reasons.Refused.{Refused}
use Rattle.sizing.specs.Checks.{limit}
use Rattle.state.specs.State.{count_at}
use Rattle.state.specs.declared.Run.{Run}
use Rattle.flow.specs.Flow.{Shows}
use Rattle.deadline.specs.Deadline.{deadline, index_check}
use Rattle.sizing.specs.Plan.{Plans}
use Rattle.dates.specs.Question.{never, dated_of}

-- the numbers of one step down: p, c and B of the queue, and the index k at the node that it feeds
pub record Step (p c b k : ℕ) : Type 0 where
  pub produce : 1 ≤ p
  pub consume : c ≤ 65535
  pub capacity : b ≤ 1000000
  pub index : In 1 limit k

-- the plan and the flow show the chain and the state
pub record Shown (l f : List ℕ) (c : Chain) (s : Run) : Type 0 where
  pub plans : Plans l c
  pub shows : Shows f c s

-- what the code of a deadline asks; that k is a word is known of an argument
pub record Dues (l f : List ℕ) (i k : ℕ) : Type 0 where
  pub chain : Chain
  pub run : Run
  pub shown : Shown l f chain run
  pub sound : Sound chain
  pub node : i ≤ chain.n
  pub index : 1 ≤ k

-- what it gives
pub record DueGives (l f : List ℕ) (i k : ℕ) (r : Result ℕ Refused) : Type 0 where
  pub says : {c : Chain} {s : Run} → Shown l f c s → said r ≡ index_check c i k
  pub due : {c : Chain} {s : Run} → Shown l f c s → IfOk r (λ (d : ℕ). d ≡ deadline c i k)

-- what the code gives of it in one word, and of 13's place
pub record FollowedGives (l f : List ℕ) (i k r : ℕ) : Type 0 where
  pub had : {c : Chain} {s : Run} → Shown l f c s → (r ≡ never → ⊥) → (fine ≡ index_check c i k) × (r ≡ deadline c i k)
  pub late : {c : Chain} {s : Run} → Shown l f c s → r ≡ never → Silent (index_check c i k) → ⊥

pub record PassingGives (l f : List ℕ) (i k r : ℕ) : Type 0 where
  pub place : {c : Chain} {s : Run} → Shown l f c s → r ≡ (index_check c i k).place

-- what the code of a next firing's deadline asks; that the count is below the limit is said here, since the words of a lent array come with no range
pub record Dated (l f : List ℕ) (i : ℕ) : Type 0 where
  pub chain : Chain
  pub run : Run
  pub shown : Shown l f chain run
  pub sound : Sound chain
  pub node : i ≤ chain.n
  pub count : count_at run i < limit

-- what it gives
pub record DatedGives (l f : List ℕ) (i r : ℕ) : Type 0 where
  pub due : {c : Chain} {s : Run} → Shown l f c s → r ≡ dated_of c i (suc (count_at s i))
