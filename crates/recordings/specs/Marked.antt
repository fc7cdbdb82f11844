-- A history in which each firing is marked as lost or not (02, Item 2), with no clock, deadline or list.
--   Marked                     an instant, a node, and whether its production is lost
--   unmarked h, unmarked_more  the firings of such a list, with no marks, each as it stands
--   rec_step c s e             the state after one of them, and rec_after c s h after all of them
--   Fair c s e                 it is a firing that s allows, lost exactly where its production does not fit
--   EachFair c s h             each of them is, in the state that it is made in
--   losses_of c h              what the lost ones lose, in order: the instant, the queue and p
--   rec_after_none, _lost, _fits, losses_none, _lost, _fits
--                              what the first firing does and loses
-- What is named here and not declared stands in proofs/MarkedLaws.antt.
use Rattle.std.specs.Prelude.{◌≡◌, Bool, cond, ℕ, ◌≤◌}
use Rattle.std.proofs.Math.Path.{refl}
use Rattle.std.proofs.Math.Bool.{true, false}
use mathlib.Core.List.{List, [], ◌∷◌, map}
use Rattle.chain.specs.Record.{row_of}
use Rattle.chain.specs.declared.Chain.{Chain}
use Rattle.state.specs.Fired.{fired, Over, Room}
use Rattle.state.specs.Checks.{Cramped}
use Rattle.state.specs.declared.Run.{Run}
use Rattle.history.specs.History.{Entry}
use Rattle.losses.specs.Losses.{loss}
use Rattle.losses.specs.declared.Loss.{Loss}
use Rattle.recordings.specs.Steps.{dropped}

-- an instant, the node whose firing takes effect then, and whether its production is lost
abbrev pub Marked : Type 0
Marked = Entry × Bool

-- the firings with no marks
abbrev pub unmarked : List Marked → List Entry
unmarked h = map (λ (e : Marked). e.0) h

pub unmarked_more : (e : Entry) (b : Bool) (h : List Marked) → unmarked ((e, b) ∷ h) ≡ e ∷ unmarked h
unmarked_more e b h = refl

-- "dropped whole", or a firing as ever
abbrev pub rec_step : Chain → Run → Marked → Run
rec_step c s e = cond e.1 (dropped c s e.0.1) (fired c s e.0.1)

-- the state after the firings h, from s on
unfoldable pub rec_after : Chain → Run → List Marked → Run
unfolding fired
rec_after c s [] = s
rec_after c s (e ∷ h) = rec_after c (rec_step c s e) h

-- a node of the chain, over threshold; its production is lost exactly where it does not fit
pub record Fair (c : Chain) (s : Run) (e : Marked) : Type 0 where
  pub node : e.0.1 ≤ c.n
  pub over : Over c s e.0.1
  pub lost : e.1 ≡ true → Cramped c s e.0.1
  pub fits : e.1 ≡ false → Room c s e.0.1

-- each firing of h, in the state that it is made in, from s on
unfoldable pub EachFair : Chain → Run → List Marked → Type 0
EachFair c s [] = Unit
EachFair c s (e ∷ h) = Fair c s e × EachFair c (rec_step c s e) h

-- "its tick, queue and tokens", of each lost one
unfoldable pub losses_of : Chain → List Marked → List Loss
losses_of c [] = []
losses_of c (e ∷ h) = cond e.1 (loss e.0.0 e.0.1 (row_of c e.0.1).produce ∷ losses_of c h) (losses_of c h)

pub losses_none : (c : Chain) → losses_of c [] ≡ []
unfolding losses_of
losses_none c = refl

pub losses_lost : (c : Chain) (t i : ℕ) (h : List Marked) → losses_of c (((t, i), true) ∷ h) ≡ record { tick = t; queue = i; tokens = (row_of c i).produce } ∷ losses_of c h
unfolding losses_of
losses_lost c t i h = refl

pub losses_fits : (c : Chain) (t i : ℕ) (h : List Marked) → losses_of c (((t, i), false) ∷ h) ≡ losses_of c h
unfolding losses_of
losses_fits c t i h = refl
