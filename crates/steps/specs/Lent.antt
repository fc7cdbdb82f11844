-- The steps of a tick over what a run lends: what their code asks and gives of the chain and the state that are shown.
--   l, f, d, e               a plan, a flow, the deadline of each node's next firing, and the work done; g and h the flow and the work done afterwards
--   fired_at b t i           the firing of N_i at t, where b says that there is one
--   as_outcome h, tick_of h, place_of h
--                            what ticks end with that halt so, the clock at which, and its queue or node
--   outcome_in r, fired_in r  the outcome of a step's result, which is clean where that is Ok; and whether it tells of a firing
--   Stands l f c s           the plan and the flow show a state that is filled, and every count can grow
--   full_in l f i, Rooms     whether the production of N_i does not fit, and what the code of that test asks
--   Sources, SourcedTo, SourcedGives
--                            what the source's step asks, what it makes of one state, and that it does so of every state that is shown
--   Keeps d c s              of each node over threshold the deadline of its next firing is kept, or never
--   Looks, lack_of r, LackingGives, ChosenGives
--                            the same of 13 and of the choice
--   WorkFits e i k           what the code of k ticks of work asks
--   ended_at l e i           whether N_i has worked its execution time
--   Ends, EndsIn, FinishedTo, FinishedGives
--                            the same of the effect of a firing that is finished
use Rattle.std.specs.Prelude.{◌≡◌, Bool, false, cond, ◌&&◌, List, [], ◌∷◌, ℕ, zero, suc, ◌+◌, ◌≤◌, ◌<◌, ltb, leb, get_or, Option, Result, IfOk, IfErr}
use Rattle.std.proofs.Common.{Some, None, Ok, Err}
use Rattle.chain.specs.Refusals.{fine, refused, Silent}
use Rattle.chain.specs.Record.{work_of}
use Rattle.chain.specs.Sound.{Sound}
use Rattle.chain.specs.Refusal.{Refusal}
use Rattle.chain.specs.declared.Chain.{Chain}
use Rattle.sizing.specs.Checks.{limit}
use Rattle.state.specs.State.{count_at, done_at}
use Rattle.state.specs.Fired.{Over}
use Rattle.state.specs.declared.Run.{Run}
use Rattle.history.specs.History.{Entry}
use Rattle.flow.specs.Flow.{produce_in, held_in, size_in, Shows}
use Rattle.sizing.specs.Plan.{capacity_in, work_in}
use Rattle.dates.specs.Question.{dated_of}
use Rattle.dates.specs.Dues.{Shown}
use Rattle.instants.specs.Steps.{clean, sourced, next, lacking, chosen, worked, finished}
use Rattle.instants.specs.Filled.{Filled}
use Rattle.instants.specs.declared.Outcome.{Outcome}
use Rattle.instants.specs.declared.Outcome.TheVariants.{Clean, Overflowed, NoDeadline}
use Rattle.traces.specs.Trace.{tracing, source_entry}
use Rattle.steps.specs.declared.Halt.{Halt}
use Rattle.steps.specs.declared.Halt.TheVariants as halt

-- the firing of N_i at t, where there is one
abbrev pub fired_at : Bool → ℕ → ℕ → List Entry
fired_at b t i = cond b ((t, i) ∷ []) []

-- what ticks end with that halt so, the clock at which they do, and the queue or node of which they do
abbrev pub as_outcome : Halt → Outcome
as_outcome (halt.Overflowed t q) = Overflowed t q
as_outcome (halt.NoDeadline t i) = NoDeadline t i

abbrev pub tick_of : Halt → ℕ
tick_of (halt.Overflowed t q) = t
tick_of (halt.NoDeadline t i) = t

abbrev pub place_of : Halt → ℕ
place_of (halt.Overflowed t q) = q
place_of (halt.NoDeadline t i) = i

-- the outcome that a step's result tells
abbrev pub outcome_in : {A : Type 0} → Result A Halt → Outcome
outcome_in (Ok a) = Clean
outcome_in (Err h) = as_outcome h

-- whether it tells of a firing
abbrev pub fired_in : Result Bool Halt → Bool
fired_in (Ok b) = b
fired_in (Err h) = false

-- the plan and the flow show a state that is filled, and every count can grow
pub record Stands (l f : List ℕ) (c : Chain) (s : Run) : Type 0 where
  pub shown : Shown l f c s
  pub filled : Filled c s
  pub counts : (i : ℕ) → i ≤ c.n → count_at s i < limit

-- whether the queue after N_i, where there is one, has no room for its production
abbrev pub full_in : List ℕ → List ℕ → ℕ → Bool
full_in l f i = ltb i (size_in f) && ltb (capacity_in l i) (held_in f i + produce_in f i)

-- what its code asks
pub record Rooms (l f : List ℕ) (i : ℕ) : Type 0 where
  pub chain : Chain
  pub run : Run
  pub shown : Shown l f chain run
  pub filled : Filled chain run
  pub node : i ≤ chain.n

-- what the source's step asks
pub record Sources (l f : List ℕ) (t : ℕ) : Type 0 where
  pub chain : Chain
  pub run : Run
  pub stands : Stands l f chain run
  pub clock : run.clock ≡ t

-- what it makes of one state; the source's firing is the trace's
pub record SourcedTo (c : Chain) (s : Run) (t : ℕ) (g : List ℕ) (r : Result Bool Halt) : Type 0 where
  pub outcome : (sourced c s).outcome ≡ outcome_in r
  pub spills : IfErr r (λ h. h ≡ halt.Overflowed t 0)
  pub shows : Shows g c (sourced c s).run
  pub rests : IfOk r (λ fired. fired ≡ false → sourced c s ≡ clean s)
  pub entry : tracing (sourced c s).outcome s (λ u. source_entry c s) ≡ fired_at (fired_in r) t 0

-- and of every state that is shown
pub record SourcedGives (l f : List ℕ) (t : ℕ) (g : List ℕ) (r : Result Bool Halt) : Type 0 where
  pub gives : {c : Chain} {s : Run} → Stands l f c s → s.clock ≡ t → SourcedTo c s t g r

-- of each node over threshold the deadline of its next firing is kept, or never
pub record Keeps (d : List ℕ) (c : Chain) (s : Run) : Type 0 where
  pub due : (j : ℕ) → j < c.n → Over c s (suc j) → get_or d j 0 ≡ dated_of c (suc j) (next s (suc j))

-- what 13 and the choice ask
pub record Looks (f : List ℕ) : Type 0 where
  pub size : size_in f ≤ 16

-- 13 with a node, or nothing
abbrev pub lack_of : Option ℕ → Refusal
lack_of None = fine
lack_of (Some i) = refused 13 i

-- what 13 gives
pub record LackingGives (f d : List ℕ) (r : Option ℕ) : Type 0 where
  pub gives : {c : Chain} {s : Run} → Sound c → Shows f c s → Keeps d c s → lacking c s ≡ lack_of r

-- what the choice gives where 13 is silent
pub record ChosenGives (f d : List ℕ) (r : ℕ) : Type 0 where
  pub gives : {c : Chain} {s : Run} → Sound c → Shows f c s → Keeps d c s → Silent (lacking c s) → chosen c s ≡ r

-- what k ticks of work of N_i ask: work that can grow so far
pub record WorkFits (e : List ℕ) (i k : ℕ) : Type 0 where
  pub node : i ≤ 16
  pub less : (j : ℕ) → i ≡ suc j → get_or e j 0 + k ≤ limit

-- whether N_i has worked its execution time
unfoldable pub ended_at : List ℕ → List ℕ → ℕ → Bool
ended_at l e zero = false
ended_at l e (suc j) = leb (work_in l j) (get_or e j 0)

-- N_i, over threshold, has worked its execution time in the tick after the state u
pub record EndsIn (l f e : List ℕ) (i : ℕ) (c : Chain) (u : Run) : Type 0 where
  pub shown : Shown l f c u
  pub filled : Filled c u
  pub queue : ℕ
  pub is : i ≡ suc queue
  pub inside : queue < c.n
  pub over : Over c u (suc queue)
  pub count : count_at u (suc queue) < limit
  pub all : done_at u queue + 1 ≡ work_of c queue
  pub done : e ≡ (worked u (suc queue)).done

-- what the effect of its firing asks
pub record Ends (l f e : List ℕ) (i : ℕ) : Type 0 where
  pub chain : Chain
  pub run : Run
  pub ends : EndsIn l f e i chain run

-- what it makes of one state: r tells whether it fits
pub record FinishedTo (c : Chain) (u : Run) (i : ℕ) (g h : List ℕ) (r : Bool) : Type 0 where
  pub outcome : (finished c (worked u i)).outcome ≡ cond r Clean (Overflowed (u.clock + 1) i)
  pub shows : Shows g c (finished c (worked u i)).run
  pub done : h ≡ (finished c (worked u i)).run.done

-- and of every state that is shown
pub record FinishedGives (l f e : List ℕ) (i : ℕ) (g h : List ℕ) (r : Bool) : Type 0 where
  pub gives : {c : Chain} {u : Run} → EndsIn l f e i c u → FinishedTo c u i g h r
