-- The checks of a run state, 17, and of a manual firing, 9, 11 and 12 (01, Numbers a call may refuse with).
--   broken_unless balanced q e x d
--                              whether a queue has one of 17's reasons, by whether its balance holds
--   broken q e a b x d         whether a queue has one of 17's reasons: q its row, e its consumer's execution time, a and b the counts of its
--                              producer and its consumer, x what it holds, d its consumer's work done
--   state_test c s i, state_check c s
--                              17 of queue i, and of the state: the lowest such queue
--   broken_with q e a b x l d, broken_at c s l i, state_test_with c s x i, state_check_with c s x
--                              the same where the balance counts l tokens of the queue as lost, and those that x has of each queue
--   spent c s i, count_check c s i
--                              9 of a manual firing of N_i: its count cannot grow
--   over c s i, over_true      whether N_i may fire
--   idle c s i, over_check c s i
--                              11: there is no such node, or it may not fire
--   cramped c s i, Cramped c s i, room_check c s i
--                              12: the firing would pass the capacity of the output queue
--   queue_test, BrokenAt, SteadyAt, FirstBrokenAt
--                              17 of one queue, its reasons in words and the lowest queue that has one, over the two sides of each queue's balance
--   Broken, Steady             17's reasons in words: the queue has one of them, or none
--   FirstBroken                the lowest queue that has one
--   StateSound c s             a state that passes 17
--   Planned c l, planned_capacity, planned_sized, planned_run
--                              what the code is handed: a sound chain and its plan, which has the capacities
--   Ruled q k, ruled           a sound queue and its capacity, which the plan has
--   most_lost, Accountable c l x, RuledWith q k l, ruled_with
--                              with the tokens that each queue lost, no more than a list can name
--   lent_run, state_lent, state_lent_with
--                              the state whose numbers are lent, which 17 is said of
-- What is named here and not declared stands in proofs/ChecksLaws.antt.
use Rattle.std.specs.Prelude.{◌≡◌, Bool, true, not, ◌||◌, ◌&&◌, ◌≢◌, ◌⊎◌, Result, List, ℕ, zero, suc, ◌+◌, ◌*◌, ◌≤◌, ◌<◌, ltb, leb, eqb, get_or}
use Rattle.std.proofs.Common.{Ok, Err, zero-add}
use Rattle.words.specs.Table.{tab}
use Rattle.words.specs.declared.Queue.{Queue}
use Rattle.chain.specs.Refusals.{test, first, Silent, silent_as}
use Rattle.chain.specs.Record.{row_of, work_of}
use Rattle.chain.specs.Refusal.{Refusal}
use Rattle.chain.specs.Said.{said, speaks}
use Rattle.chain.specs.declared.reasons.Refused.{Refused}
use Rattle.chain.specs.declared.Chain.{Chain}
use Rattle.onequeue.specs.Capacity.{capacity}
use Rattle.onequeue.specs.Least.{least}
use Rattle.chain.specs.Sound.{Sound, SoundRow}
use Rattle.sizing.specs.Sizes.{start, capacity_of}
use Rattle.sizing.specs.Checks.{limit}
use Rattle.sizing.proofs.AcceptedLaws.{analyse_accepts, run_accepts}
use Rattle.sizing.specs.Plan.{Plans, SizedPlans, RunPlans}
use Rattle.state.specs.State.{count_at, held_at, done_at}
use Rattle.state.specs.Fired.{supplied, accounted}
use Rattle.state.specs.declared.Run.{Run}

-- a queue's balance is broken, it holds more than its capacity, or its consumer has work done of e or more
abbrev pub broken_unless : Bool → Queue → ℕ → ℕ → ℕ → Bool
broken_unless balanced q e x d = not balanced || ltb (capacity_of q) x || leb e d

-- "breaks the balance (p × producer's count − c × consumer's count is not what is held), passes a capacity, or has work done of e or more"
unfoldable pub broken : Queue → ℕ → ℕ → ℕ → ℕ → ℕ → Bool
unfolding capacity least
broken q e a b x d = broken_unless (eqb (start q + q.produce * a) (x + q.consume * b)) q e x d

-- 17 of one queue, place the queue, "for work done the one feeding the node"
abbrev pub state_test : Chain → Run → ℕ → Refusal
state_test c s i = test 17 i (broken (row_of c i) (work_of c i) (count_at s i) (count_at s (suc i)) (held_at s i) (done_at s i))

-- the balance with l tokens of the queue that were produced and lost
unfoldable pub broken_with : Queue → ℕ → ℕ → ℕ → ℕ → ℕ → ℕ → Bool
unfolding capacity least
broken_with q e a b x l d = broken_unless (eqb (start q + q.produce * a) (x + q.consume * b + l)) q e x d

-- the same of queue i of a state
abbrev pub broken_at : Chain → Run → ℕ → ℕ → Bool
broken_at c s l i = broken_with (row_of c i) (work_of c i) (count_at s i) (count_at s (suc i)) (held_at s i) l (done_at s i)

-- 17: the "lowest queue"
unfoldable pub state_check : Chain → Run → Refusal
unfolding first tab broken
state_check c s = first (tab c.n (state_test c s))

-- "once its count is 4,294,967,295"; a node that does not exist has no count
abbrev pub spent : Chain → Run → ℕ → Bool
spent c s i = leb i c.n && eqb (count_at s i) limit

-- 9 of a manual firing, "with the node as place"
abbrev pub count_check : Chain → Run → ℕ → Refusal
count_check c s i = test 9 i (spent c s i)

-- "a node other than N_0 may fire when its input queue holds at least τ; N_0 always"
abbrev pub over : Chain → Run → ℕ → Bool
over c s zero = true
over c s (suc j) = leb (row_of c j).threshold (held_at s j)

-- "no such node, .. or node not over threshold"
abbrev pub idle : Chain → Run → ℕ → Bool
idle c s i = ltb c.n i || not (over c s i)

-- 11 of a manual firing, place the node
abbrev pub over_check : Chain → Run → ℕ → Refusal
over_check c s i = test 11 i (idle c s i)

-- "a manual firing would pass a capacity"; N_i's output queue is queue i, and the sink has none
unfoldable pub cramped : Chain → Run → ℕ → Bool
unfolding capacity least
cramped c s i = ltb i c.n && ltb (capacity_of (row_of c i)) (held_at s i + (row_of c i).produce)

-- the same in words
abbrev pub Cramped : Chain → Run → ℕ → Type 0
Cramped c s i = (i < c.n) × (capacity_of (row_of c i) < held_at s i + (row_of c i).produce)

-- 12 of a manual firing, place the queue
abbrev pub room_check : Chain → Run → ℕ → Refusal
room_check c s i = test 12 i (cramped c s i)

-- 17 of every queue of a state, over the two sides of each queue's balance
module _ (c : Chain) (s : Run) (left right : ℕ → ℕ) where
  -- one queue
  abbrev pub queue_test : ℕ → Refusal
  queue_test i = test 17 i (broken_unless (eqb (left i) (right i)) (row_of c i) (work_of c i) (held_at s i) (done_at s i))

  -- 17's reasons at queue i, one of which is enough
  abbrev pub BrokenAt : ℕ → Type 0
  BrokenAt i = ((left i ≢ right i) ⊎ (capacity_of (row_of c i) < held_at s i)) ⊎ (work_of c i ≤ done_at s i)

  -- and none of them
  abbrev pub SteadyAt : ℕ → Type 0
  SteadyAt i = ((left i ≡ right i) × (held_at s i ≤ capacity_of (row_of c i))) × (done_at s i < work_of c i)

  -- L is the lowest queue that has one
  pub record FirstBrokenAt (L : ℕ) : Type 0 where
    pub queue : L < c.n
    pub broken : BrokenAt L
    pub before : (j : ℕ) → j < L → SteadyAt j

-- 17 of one queue where x has the tokens that each queue lost
abbrev pub state_test_with : Chain → Run → List ℕ → ℕ → Refusal
state_test_with c s x = queue_test c s (supplied c s) (λ i. accounted c s i + get_or x i 0)

-- and of the state
unfoldable pub state_check_with : Chain → Run → List ℕ → Refusal
unfolding first tab capacity least
state_check_with c s x = first (tab c.n (state_test_with c s x))

-- 17's reasons at queue i, one of which is enough
abbrev pub Broken : Chain → Run → ℕ → Type 0
Broken c s = BrokenAt c s (supplied c s) (accounted c s)

-- and none of them
abbrev pub Steady : Chain → Run → ℕ → Type 0
Steady c s = SteadyAt c s (supplied c s) (accounted c s)

-- 17 in words: L is the lowest queue that has one
abbrev pub FirstBroken : Chain → Run → ℕ → Type 0
FirstBroken c s = FirstBrokenAt c s (supplied c s) (accounted c s)

-- every queue of the chain has none
abbrev pub StateSound : Chain → Run → Type 0
StateSound c s = (i : ℕ) → i < c.n → Steady c s i

-- what the code of these checks is handed: a sound chain and its plan
pub record Planned (c : Chain) (l : List ℕ) : Type 0 where
  pub chain : Sound c
  pub plans : Plans l c

-- the capacity that the plan has of queue i is the one in force
pub planned_capacity : {c : Chain} {l : List ℕ} → Planned c l → (i : ℕ) → i < c.n → get_or l (0 + i) 0 ≡ capacity_of (row_of c i)
planned_capacity k i h = rw zero-add (k.plans.capacities i h)

-- the counts, the contents and the work done of a state that is lent
abbrev pub lent_run : List ℕ → List ℕ → List ℕ → Run
lent_run counts held done = record { clock = 0; counts = counts; held = held; done = done }

-- the most tokens that the entries of a list can have in all: 256 numbers of 32 bits
abbrev pub most_lost : ℕ
most_lost = 256 * limit

-- a sound chain and its plan, and of each queue no more tokens lost than a list can name
pub record Accountable (c : Chain) (l x : List ℕ) : Type 0 where
  pub planned : Planned c l
  pub few : (i : ℕ) → i < c.n → get_or x i 0 ≤ most_lost

-- a sound queue and its capacity in force
pub record Ruled (q : Queue) (k : ℕ) : Type 0 where
  pub sound : SoundRow q
  pub capacity : k ≡ capacity_of q

-- the capacity that the plan has of queue i is the one in force
pub ruled : {c : Chain} {l : List ℕ} → Planned c l → (i : ℕ) → i < c.n → Ruled (row_of c i) (get_or l (0 + i) 0)
ruled k i h = record { sound = k.chain.rows i h; capacity = planned_capacity k i h }

-- with no more tokens lost than a list can name
pub record RuledWith (q : Queue) (k l : ℕ) : Type 0 where
  pub queue : Ruled q k
  pub few : l ≤ most_lost

-- queue i of a chain is one
pub ruled_with : {c : Chain} {l x : List ℕ} → Accountable c l x → (i : ℕ) → i < c.n → RuledWith (row_of c i) (get_or l (0 + i) 0) (get_or x i 0)
ruled_with k i h = record { queue = ruled k.planned i h; few = k.few i h }

-- a chain and its plan, as code was answered
pub planned_sized : {c : Chain} {l : List ℕ} {r : Result Unit Refused} → SizedPlans c l r → Silent (said r) → Planned c l
planned_sized {c} {r = Ok u} p z = record { chain = ((analyse_accepts c).0 (silent_as p.says z)).chain; plans = p.plans }
planned_sized {r = Err e} p z = absurd (speaks e z)

-- and of a chain that may run
pub planned_run : {c : Chain} {l : List ℕ} {r : Result Unit Refused} → RunPlans c l r → Silent (said r) → Planned c l
planned_run {c} {r = Ok u} p z = record { chain = ((run_accepts c).0 (silent_as p.says z)).0.chain; plans = p.plans }
planned_run {r = Err e} p z = absurd (speaks e z)
