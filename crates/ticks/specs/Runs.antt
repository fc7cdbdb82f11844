-- What the code of the ticks asks and gives, of a tick and of a deadline run alike.
--   LendsIn l f e t T c s    the plan l, the flow f and the work done e show the state s of the chain c, which is filled, at its clock t, and T ticks can be made of it
--   Lends                    there is such a state, and every count can grow
--   lent_once, lends_once    a filled state, poured into a flow, whose clock and counts can grow, is lent for one tick
--   lent_fresh, lends_fresh  a fresh start is lent for as many as the longest run
--   clock_in r               the clock that ticks with the result r leave
--   RanTo c x g h r          the flow g, the work done h and the result r show x, what ticks leave
--   RanGives l f e t T g h r they show what T ticks leave of every such state
use Rattle.std.specs.Prelude.{◌≡◌, refl, ◌≢◌, List, ℕ, ◌+◌, ◌≤◌, ◌<◌, replicate, Result, IfErr}
use Rattle.std.proofs.Common.{Ok, Err, arith}
use Rattle.chain.specs.declared.Chain.{Chain}
use Rattle.sizing.specs.Checks.{limit}
use Rattle.sizing.specs.Plan.{Plans}
use Rattle.sizing.specs.Accepted.{Accepted}
use Rattle.state.specs.State.{fresh_run, count_at, fresh_count}
use Rattle.state.specs.declared.Run.{Run}
use Rattle.flow.specs.Flow.{Shows}
use Rattle.flow.specs.Poured.{Showing}
use Rattle.dates.specs.Dues.{Shown}
use Rattle.instants.specs.Steps.{ticks}
use Rattle.instants.specs.Checks.{longest}
use Rattle.instants.specs.Filled.{Filled}
use Rattle.instants.proofs.FilledLaws.{running_filled}
use Rattle.instants.proofs.FreshLaws.{fresh_running}
use Rattle.instants.specs.declared.Ticked.{Ticked}
use Rattle.steps.specs.Lent.{tick_of, place_of, outcome_in}
use Rattle.steps.specs.declared.Halt.{Halt}

-- a state that is filled is lent at its clock t; T ticks are no longer than the longest run, and no count passes the limit in them
pub record LendsIn (l f e : List ℕ) (t T : ℕ) (c : Chain) (s : Run) : Type 0 where
  pub shown : Shown l f c s
  pub filled : Filled c s
  pub clock : s.clock ≡ t
  pub done : e ≡ s.done
  pub long : t + T ≤ longest
  pub counts : (i : ℕ) → i ≤ c.n → count_at s i + T ≤ limit

-- there is such a state, and every count can grow
pub record Lends (l f e : List ℕ) (t T : ℕ) : Type 0 where
  pub chain : Chain
  pub run : Run
  pub lends : LendsIn l f e t T chain run
  pub counts : (i : ℕ) → i ≤ chain.n → count_at run i < limit

-- a filled state, poured into a flow, whose clock and counts can grow, is lent for one tick
module _ {p f : List ℕ} {c : Chain} {s : Run} (plans : Plans p c) (v : Showing f c s) (filled : Filled c s) (early : s.clock < longest) (countable : (i : ℕ) → i ≤ c.n → count_at s i ≢ limit) where
  grows : (i : ℕ) → i ≤ c.n → count_at s i < limit
  grows i h = let n : count_at s i ≢ limit = countable i h in omega (arith, v.typed.words i)

  pub lent_once : LendsIn p f s.done s.clock 1 c s
  lent_once = record {
    shown = record { plans = plans; shows = v.shows };
    filled = filled;
    clock = refl;
    done = refl;
    long = omega arith;
    counts = λ i h. omega (arith, grows i h);
  }

  pub lends_once : Lends p f s.done s.clock 1
  lends_once = record { chain = c; run = s; lends = lent_once; counts = grows }

-- a fresh start is lent for as many as the longest run
module _ {p f : List ℕ} {c : Chain} (plans : Plans p c) (shows : Shows f c (fresh_run c)) (a : Accepted c) {T : ℕ} (short : T ≤ longest) where
  pub lent_fresh : LendsIn p f (replicate 16 0) 0 T c (fresh_run c)
  unfolding fresh_run
  lent_fresh = record {
    shown = record { plans = plans; shows = shows };
    filled = running_filled (fresh_running a);
    clock = refl;
    done = refl;
    long = omega arith;
    counts = λ i h. omega (arith, fresh_count c i);
  }

  pub lends_fresh : Lends p f (replicate 16 0) 0 T
  lends_fresh = record { chain = c; run = fresh_run c; lends = lent_fresh; counts = λ i h. omega (arith, fresh_count c i) }

-- the clock that ticks leave: after the last, or where they halt
abbrev pub clock_in : Result ℕ Halt → ℕ
clock_in (Ok t) = t
clock_in (Err h) = tick_of h

-- the flow g, the work done h and the result r show what ticks leave
pub record RanTo (c : Chain) (x : Ticked) (g h : List ℕ) (r : Result ℕ Halt) : Type 0 where
  pub outcome : x.outcome ≡ outcome_in r
  pub clock : x.run.clock ≡ clock_in r
  pub shows : Shows g c x.run
  pub done : h ≡ x.run.done

-- they show what T ticks leave of every such state
pub record RanGives (l f e : List ℕ) (t T : ℕ) (g h : List ℕ) (r : Result ℕ Halt) : Type 0 where
  pub low : IfErr r (λ x. place_of x ≤ 16)
  pub gives : {c : Chain} {s : Run} → LendsIn l f e t T c s → RanTo c (ticks c T s) g h r
