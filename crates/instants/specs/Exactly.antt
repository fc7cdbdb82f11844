-- One tick as a relation (01, Firing): what it ends with and what it leaves, and that it is the only one that fits.
--   Spills c s                 the source is due and does not fit
--   Lacks c s i                it is not so, and after the source's step N_i is the lowest node over threshold with an index past the limit on its way
--   Spilled, Lacked, Stopped, Cleaned c s x
--                              the ways in which a tick of s ends with x: overflowed; with 13; one of these; clean
--   OneTick c s x              one of them
--   Then c s R                 R holds of the state that a clean tick of s leaves
--   TicksTo c T s x            T ticks of s, as far as they are clean, end with x
use Rattle.std.specs.Prelude.{◌≡◌, ◌⊎◌}
use Prim.Native.Nat.{ℕ, zero, suc}
use Rattle.chain.specs.declared.Chain.{Chain}
use Rattle.state.specs.declared.Run.{Run}
use Rattle.instants.specs.Steps.{overflowed, undated, clean}
use Rattle.instants.specs.Lacking.{FirstLacking}
use Rattle.instants.specs.Source.{Due, Full, Fits, SourceOnce}
use Rattle.instants.specs.Once.{TickOnce}
use Rattle.instants.specs.declared.Outcome.TheVariants.{Clean}
use Rattle.instants.specs.declared.Ticked.{Ticked}

-- "overflowed": "the source fires if y divides t", and its production does not fit
abbrev pub Spills : Chain → Run → Type 0
Spills c s = Due c s × Full c s

-- "13 .. when, after the source's step, an over-threshold node's deadline can't be had, place the lowest such over-threshold node"; at one instant the source's
-- overflow comes before it
pub record Lacks (c : Chain) (s : Run) (i : ℕ) : Type 0 where
  pub after : Run
  pub fits : Due c s → Fits c s
  pub source : SourceOnce c s after
  pub first : FirstLacking c after i

-- "overflowed at (tick, queue), the state being that before the production"
pub record Spilled (c : Chain) (s : Run) (x : Ticked) : Type 0 where
  pub is : x ≡ overflowed s s.clock 0
  pub spills : Spills c s

-- "with 13 at the first instant when ..", "the state being that before the source's step"
pub record Lacked (c : Chain) (s : Run) (x : Ticked) : Type 0 where
  pub node : ℕ
  pub is : x ≡ undated s s.clock node
  pub lacks : Lacks c s node

-- either ends a run
abbrev pub Stopped : Chain → Run → Ticked → Type 0
Stopped c s x = Spilled c s x ⊎ Lacked c s x

-- "it ends clean"
pub record Cleaned (c : Chain) (s : Run) (x : Ticked) : Type 0 where
  pub is : x.outcome ≡ Clean
  pub tick : TickOnce c s x.run

-- one of the three
abbrev pub OneTick : Chain → Run → Ticked → Type 0
OneTick c s x = Stopped c s x ⊎ Cleaned c s x

-- R holds of the state that a clean tick of s leaves
pub record Then (c : Chain) (s : Run) (R : Run → Type 0) : Type 0 where
  pub next : Run
  pub tick : TickOnce c s next
  pub holds : R next

-- "a run of T ticks": an outcome that is not clean ends it, and a clean tick is followed by the others
unfoldable pub TicksTo : Chain → ℕ → Run → Ticked → Type 0
TicksTo c zero s x = x ≡ clean s
TicksTo c (suc T) s x = Stopped c s x ⊎ Then c s (λ t. TicksTo c T t x)
