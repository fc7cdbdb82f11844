-- What the demands look at a chain, a state and a list of firings by: the slots of the lists that a call is handed and answers, each with the number that stands there.
--   c, d, s, t, i, j, h      chains, run states, a node, a queue, a list of nodes
--   row_slot, work_slot      row_of and work_of are the chain's slots
--   count_slot, held_slot, done_slot
--                            count_at, held_at and done_at are the state's
--   starts_empty             every queue starts with 0
--   times_none, -more, -else how often a node stands in a list
--   Begins c h P, sometime_is
--                            that something holds at some moment: after what h begins with
--   chains_alike             chains that agree in n, the period and the slots up to n are those that are answered alike
--   SlotsAgree n s t, runs_alike
--                            states that agree in the clock and the slots up to n are those
--   SlotsKept n s t          t has the slots past n of s
use Rattle.std.specs.Prelude.{◌≡◌, refl, ◌↔◌, ◌≢◌, List, [], ◌∷◌, ◌++◌, ℕ, ◌+◌, ◌≤◌, ◌<◌, get_or}
use Rattle.std.proofs.Common.{◌∙◌, arith}
use Rattle.ardenquill.specs.Chains.{row_of, work_of}
use Rattle.ardenquill.specs.Analyses.{start}
use Rattle.ardenquill.specs.Runs.{count_at, held_at, done_at, AlikeChains, AlikeRuns}
use Rattle.ardenquill.specs.Histories.{times, times_again, times_other}
use Rattle.ardenquill.specs.Records.{Queue, Chain, Run}
use Rattle.promises.specs.Replay.{replay_answer, Sometime}
use Rattle.promises.specs.Zeros.{zero_row}

-- "A queue row has five words", and "A node row is one word": each stands in the chain's own slot
pub row_slot : (c : Chain) (j : ℕ) → row_of c j ≡ get_or c.queues j zero_row
row_slot c j = refl

pub work_slot : (c : Chain) (j : ℕ) → work_of c j ≡ get_or c.work j 0
work_slot c j = refl

-- a count, the contents of a queue and work done are the numbers that stand in the state's slots
pub count_slot : (s : Run) (i : ℕ) → count_at s i ≡ get_or s.counts i 0
count_slot s i = refl

pub held_slot : (s : Run) (j : ℕ) → held_at s j ≡ get_or s.held j 0
held_slot s j = refl

pub done_slot : (s : Run) (j : ℕ) → done_at s j ≡ get_or s.done j 0
done_slot s j = refl

-- "every queue starts empty"
pub starts_empty : (q : Queue) → start q ≡ 0
starts_empty q = refl

-- how often N_i stands in a list
pub times_none : (i : ℕ) → times i [] ≡ 0
unfolding times
times_none i = refl

pub times_more : (i : ℕ) (h : List ℕ) → times i (i ∷ h) ≡ times i h + 1
times_more i h = times_again i i h refl ∙ omega arith

pub times_else : (i m : ℕ) (h : List ℕ) → m ≢ i → times i (m ∷ h) ≡ times i h
times_else i m h = times_other m i h

-- something holds after what h begins with
pub record Begins (c : Chain) (h : List ℕ) (P : Run → Type 0) : Type 0 where
  pub before : List ℕ
  pub later : List ℕ
  pub parts : h ≡ before ++ later
  pub holds : P (replay_answer c before).run

-- which is that it holds at some moment of h
pub sometime_is : (c : Chain) (h : List ℕ) (P : Run → Type 0) → Sometime c h P ↔ Begins c h P
sometime_is c h P = (
  λ m. record { before = m.before; later = m.later; parts = m.parts; holds = m.holds },
  λ m. record { before = m.before; later = m.later; parts = m.parts; holds = m.holds },
)

-- "In every run state the slots past n are neither read nor changed": chains, and states, that differ there only are those of which that is said (chain_past, write_past,
-- fire_past, tick_past)
pub chains_alike : (c d : Chain) → c.n ≡ d.n → c.period ≡ d.period → ((j : ℕ) → j < c.n → get_or c.queues j zero_row ≡ get_or d.queues j zero_row)
    → ((j : ℕ) → j < c.n → get_or c.work j 0 ≡ get_or d.work j 0) → AlikeChains c d
chains_alike c d n y rows work = record { n = n; period = y; rows = rows; work = work }

pub record SlotsAgree (n : ℕ) (s t : Run) : Type 0 where
  pub clock : s.clock ≡ t.clock
  pub counts : (i : ℕ) → i ≤ n → get_or s.counts i 0 ≡ get_or t.counts i 0
  pub held : (j : ℕ) → j < n → get_or s.held j 0 ≡ get_or t.held j 0
  pub done : (j : ℕ) → j < n → get_or s.done j 0 ≡ get_or t.done j 0

pub runs_alike : (n : ℕ) (s t : Run) → AlikeRuns n s t ↔ SlotsAgree n s t
runs_alike n s t = (
  λ a. record { clock = a.clock; counts = a.counts; held = a.held; done = a.done },
  λ a. record { clock = a.clock; counts = a.counts; held = a.held; done = a.done },
)

-- "nor changed": t has those of s
pub record SlotsKept (n : ℕ) (s t : Run) : Type 0 where
  pub counts : (i : ℕ) → n < i → get_or t.counts i 0 ≡ get_or s.counts i 0
  pub held : (j : ℕ) → n ≤ j → get_or t.held j 0 ≡ get_or s.held j 0
  pub done : (j : ℕ) → n ≤ j → get_or t.done j 0 ≡ get_or s.done j 0
