-- One tick over what a run lends, its two halves, and the deadlines that are kept.
--   Stand l f                the plan and the flow show a state that is filled, and every count can grow
--   Wanted every c s j       the deadline of N_(j+1) is wanted: of every node, or of those that a tick may look at
--   DuesGive l f every m d   of every state that is shown, d has the deadlines that are wanted of the first m nodes
--   Known c s r              r is the node that works, if it tells one
--   AtStart t h              h is a halt at t of the source's production or of a node without a deadline
--   started_in r             whether the source has fired, by the result of the first half of a tick
--   BegunTo, BegunGives      what the source's step, 13 and the choice make together, of one state and of every state that is shown
--   CompletesIn l f e i c u  what one tick of work of N_i, and the effect of the firing then finished, ask of the state u; no node where i is 0
--   Completes, CompletedTo, halted_at, CompletedGives, completed_at
--                            there is such a state, what they make of it, and of every such state
--   PassIn l f d e t i c s   what a tick asks of the state s: t is its clock, e the work done, i the node that works, if that is known
--   Passes                   there is such a state
--   source_in c t r, node_in r, done_in r
--                            whether the source has fired by a tick's result, the node that worked or the place at which it halts, and whether that node has fired
--   PassTo c s t g h r       what it makes of s
--   PassGives                and of every such state
use Rattle.std.specs.Prelude.{◌≡◌, ◌≢◌, ◌⊎◌, Bool, true, false, List, ◌++◌, ℕ, zero, suc, ◌+◌, ◌≤◌, ◌<◌, get_or, Option, IfSome, Result, IfOk, IfErr, MatchResult}
use Rattle.std.proofs.Common.{Some, Ok, Err}
use Rattle.std.proofs.Math.Path.{refl, subst}
use Rattle.chain.specs.Refusals.{Silent}
use Rattle.chain.specs.declared.Chain.{Chain}
use Rattle.sizing.specs.Checks.{limit}
use Rattle.state.specs.State.{count_at}
use Rattle.state.specs.Fired.{Over}
use Rattle.state.specs.declared.Run.{Run}
use Rattle.flow.specs.Flow.{Shows}
use Rattle.dates.specs.Question.{dated_of}
use Rattle.dates.specs.Dues.{Shown}
use Rattle.instants.specs.Steps.{divides, clean, next, sourced, lacking, begun, chosen, worked, finished, tick}
use Rattle.instants.specs.Filled.{Filled}
use Rattle.traces.specs.Trace.{tracing, source_entry, finish_trace, tick_trace}
use Rattle.steps.specs.Lent.{fired_at, tick_of, place_of, outcome_in, fired_in, Stands, Keeps}
use Rattle.steps.specs.declared.Halt.{Halt}
use Rattle.steps.specs.declared.Halt.TheVariants as halt
use Rattle.steps.specs.declared.Start.{Start}
use Rattle.steps.specs.declared.Passed.{Passed}

-- the plan and the flow show a state that is filled, and every count can grow
pub record Stand (l f : List ℕ) : Type 0 where
  pub chain : Chain
  pub run : Run
  pub stands : Stands l f chain run

-- the deadline of N_(j+1) is wanted
abbrev pub Wanted : Bool → Chain → Run → ℕ → Type 0
Wanted every c s j = ((every ≡ true) ⊎ (j ≡ 0)) ⊎ Over c s (suc j)

-- d has the deadlines that are wanted of the first m nodes
pub record DuesGive (l f : List ℕ) (every : Bool) (m : ℕ) (d : List ℕ) : Type 0 where
  pub gives : {c : Chain} {s : Run} → Stands l f c s → (j : ℕ) → j < m → j < c.n → Wanted every c s j → get_or d j 0 ≡ dated_of c (suc j) (next s (suc j))

-- 13 is silent and i is the node that works, or it is to be chosen anew
abbrev pub Known : Chain → Run → Option ℕ → Type 0
Known c s r = IfSome r (λ i. Silent (lacking c s) × (chosen c s ≡ i))

-- a halt in the first half of a tick from t on
abbrev pub AtStart : ℕ → Halt → Type 0
AtStart t (halt.Overflowed u q) = (u ≡ t) × (q ≡ 0)
AtStart t (halt.NoDeadline u i) = u ≡ t

-- whether the source has fired, by the result of the first half of a tick
abbrev pub started_in : Result Start Halt → Bool
started_in (Ok x) = x.source
started_in (Err h) = false

-- what the source's step, 13 and the choice make of one state; the source's firing is the trace's
pub record BegunTo (c : Chain) (s : Run) (t : ℕ) (g : List ℕ) (r : Result Start Halt) : Type 0 where
  pub outcome : (begun c s).outcome ≡ outcome_in r
  pub halts : IfErr r (AtStart t)
  pub shows : Shows g c (begun c s).run
  pub entry : tracing (begun c s).outcome s (λ u. source_entry c s) ≡ fired_at (started_in r) t 0
  pub node : IfOk r (λ x. chosen c (begun c s).run ≡ x.node)
  pub low : MatchResult r (λ x. x.node ≤ c.n) (λ h. place_of h ≤ c.n)

-- and of every state that is shown
pub record BegunGives (l f d : List ℕ) (t : ℕ) (i : Option ℕ) (g : List ℕ) (r : Result Start Halt) : Type 0 where
  pub gives : {c : Chain} {s : Run} → Stands l f c s → s.clock ≡ t → Keeps d c (sourced c s).run → Known c s i → BegunTo c s t g r

-- what one tick of work of N_i and its effect ask of a state: N_i, where there is one, is over threshold, and its count can grow
pub record CompletesIn (l f e : List ℕ) (i : ℕ) (c : Chain) (u : Run) : Type 0 where
  pub shown : Shown l f c u
  pub filled : Filled c u
  pub done : e ≡ u.done
  pub node : i ≤ c.n
  pub over : (j : ℕ) → i ≡ suc j → Over c u (suc j)
  pub count : (j : ℕ) → i ≡ suc j → count_at u (suc j) < limit

-- there is such a state
pub record Completes (l f e : List ℕ) (i : ℕ) : Type 0 where
  pub chain : Chain
  pub run : Run
  pub is : CompletesIn l f e i chain run

-- what they make of it: the outcome and the state, and the firing, which is the trace's; no other node's count has changed
pub record CompletedTo (c : Chain) (u : Run) (i : ℕ) (g h : List ℕ) (r : Result Bool Halt) : Type 0 where
  pub outcome : (finished c (worked u i)).outcome ≡ outcome_in r
  pub spills : IfErr r (λ x. (x ≡ halt.Overflowed (u.clock + 1) i) × (0 < i))
  pub shows : Shows g c (finished c (worked u i)).run
  pub done : h ≡ (finished c (worked u i)).run.done
  pub entry : finish_trace c (worked u i) ≡ fired_at (fired_in r) (u.clock + 1) i
  pub rests : IfOk r (λ fired. fired ≡ false → finished c (worked u i) ≡ clean (worked u i))
  pub others : IfOk r (λ fired. (j : ℕ) → (fired ≡ true → i ≢ suc j) → count_at (finished c (worked u i)).run (suc j) ≡ count_at u (suc j))
  pub some : fired_in r ≡ true → 0 < i

-- a result with the tick t for that of its error
abbrev pub halted_at : ℕ → Result Bool Halt → Result Bool Halt
halted_at t (Ok b) = Ok b
halted_at t (Err x) = Err (halt.Overflowed t (place_of x))

-- and of every such state, whatever its clock; an error tells of t, which is its clock after the work where the caller says so (completed_at)
pub record CompletedGives (l f e : List ℕ) (t i : ℕ) (g h : List ℕ) (r : Result Bool Halt) : Type 0 where
  pub gives : {c : Chain} {u : Run} → CompletesIn l f e i c u → CompletedTo c u i g h (halted_at (u.clock + 1) r)
  pub told : IfErr r (λ x. x ≡ halt.Overflowed t i)

pub completed_at : {l f e : List ℕ} {t i : ℕ} {g h : List ℕ} {r : Result Bool Halt} → CompletedGives l f e t i g h r
    → {c : Chain} {u : Run} → CompletesIn l f e i c u → u.clock + 1 ≡ t → CompletedTo c u i g h r
completed_at {r = Ok b} w x k = w.gives x
completed_at {t = t} {i} {g} {h} {r = Err a} w {c} {u} x k = subst (λ (y : Result Bool Halt). CompletedTo c u i g h y) same (w.gives x)
  where
    same : halted_at (u.clock + 1) (Err a) ≡ Err a
    same = rw (k, w.told) refl

-- what a tick asks of a state
pub record PassIn (l f d e : List ℕ) (t : ℕ) (i : Option ℕ) (c : Chain) (s : Run) : Type 0 where
  pub stands : Stands l f c s
  pub clock : s.clock ≡ t
  pub early : t < limit
  pub done : e ≡ s.done
  pub keeps : Keeps d c (sourced c s).run
  pub known : Known c s i

-- there is such a state
pub record Passes (l f d e : List ℕ) (t : ℕ) (i : Option ℕ) : Type 0 where
  pub chain : Chain
  pub run : Run
  pub is : PassIn l f d e t i chain run

-- whether the source has fired in a tick from t on: a clean one tells; where a finish overflows, it has where y divides t; and else what it put in is taken back
abbrev pub source_in : Chain → ℕ → Result Passed Halt → Bool
source_in c t (Ok p) = p.source
source_in c t (Err (halt.Overflowed u zero)) = false
source_in c t (Err (halt.Overflowed u (suc j))) = divides c.period t
source_in c t (Err (halt.NoDeadline u i)) = false

-- the node that worked, or the place at which the tick halts, and whether the node has fired
abbrev pub node_in : Result Passed Halt → ℕ
node_in (Ok p) = p.node
node_in (Err h) = place_of h

abbrev pub done_in : Result Passed Halt → Bool
done_in (Ok p) = p.fired
done_in (Err h) = false

-- what it makes of it: the outcome and the state, and its firings, which are the trace's; the node that works is known where it has not fired, and no other
-- node's count has changed
pub record PassTo (c : Chain) (s : Run) (t : ℕ) (g h : List ℕ) (r : Result Passed Halt) : Type 0 where
  pub outcome : (tick c s).outcome ≡ outcome_in r
  pub clock : MatchResult r (λ p. (tick c s).run.clock ≡ t + 1) (λ x. (tick c s).run.clock ≡ tick_of x)
  pub shows : Shows g c (tick c s).run
  pub done : h ≡ (tick c s).run.done
  pub firings : tick_trace c s ≡ fired_at (source_in c t r) t 0 ++ fired_at (done_in r) (t + 1) (node_in r)
  pub known : IfOk r (λ p. p.fired ≡ false → Known c (tick c s).run (Some p.node))
  pub others : IfOk r (λ p. (j : ℕ) → (p.fired ≡ true → p.node ≢ suc j) → count_at (tick c s).run (suc j) ≡ count_at s (suc j))
  pub some : done_in r ≡ true → 0 < node_in r
  pub low : node_in r ≤ c.n

-- and of every such state
pub record PassGives (l f d e : List ℕ) (t : ℕ) (i : Option ℕ) (g h : List ℕ) (r : Result Passed Halt) : Type 0 where
  pub gives : {c : Chain} {s : Run} → PassIn l f d e t i c s → PassTo c s t g h r
