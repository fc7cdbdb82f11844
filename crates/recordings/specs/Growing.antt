-- The trace of a recording run, tick by tick (02, Item 2), from any state that a step may be made in and any list of 256 slots.
--   EachAt t h                 each firing of h is the source's at t, or a node's at t+1
--   Grows t g h                h is g, and then firings of the tick at t
use Rattle.std.specs.Prelude.{◌≡◌, ◌⊎◌}
use mathlib.Core.List.{List, [], ◌∷◌, ◌++◌}
use Prim.Native.Nat.{ℕ, ◌+◌, ◌<◌}
use Rattle.chain.specs.declared.Chain.{Chain}
use Rattle.recordings.specs.Marked.{Marked}
use Rattle.recordings.specs.Trace.{rec_tracing, rec_tick_trace}
use Rattle.recordings.specs.declared.RecordOutcome.{RecordOutcome}
use Rattle.recordings.specs.declared.RecordOutcome.TheVariants.{Clean, NoDeadline, ListFull}
use Rattle.recordings.specs.declared.Recorded.{Recorded}

-- each firing is the source's at t, or a node's at t+1
unfoldable pub EachAt : ℕ → List Marked → Type 0
EachAt t [] = Unit
EachAt t (e ∷ h) = (((e.0.1 ≡ 0) × (e.0.0 ≡ t)) ⊎ ((0 < e.0.1) × (e.0.0 ≡ t + 1))) × EachAt t h

-- h is g, and then firings of the tick at t
pub record Grows (t : ℕ) (g h : List Marked) : Type 0 where
  pub more : List Marked
  pub is : h ≡ g ++ more
  pub at : EachAt t more

-- firings one after the other, and those of an outcome
pub at_append : (t : ℕ) (g h : List Marked) → EachAt t g → EachAt t h → EachAt t (g ++ h)
unfolding EachAt
at_append t [] h a b = b
at_append t (e ∷ g) h a b = (a.0, at_append t g h a.1 b)

pub at_tracing : (o : RecordOutcome) (t : ℕ) (h : List Marked) → EachAt t h → EachAt t (rec_tracing o h)
unfolding EachAt rec_tracing
at_tracing Clean t h a = a
at_tracing (NoDeadline u i) t h a = tt
at_tracing (ListFull u q) t h a = tt

-- the firings of the tick that follows x, if it is clean
abbrev pub next_firings : Chain → Recorded → List Marked
next_firings c x = rec_tracing x.outcome (rec_tick_trace c x.run x.losses)

-- every firing of a tick by itself
pub at_each : (t : ℕ) (g h : List Marked) (e : Marked) → EachAt t (g ++ (e ∷ h)) → ((e.0.1 ≡ 0) × (e.0.0 ≡ t)) ⊎ ((0 < e.0.1) × (e.0.0 ≡ t + 1))
unfolding EachAt
at_each t [] h e a = a.0
at_each t (x ∷ g) h e a = at_each t g h e a.1
