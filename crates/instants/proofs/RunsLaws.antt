-- Laws of specs/Runs.antt that rest on a definition which an edit of must-fail/ changes.
-- A deadline run by instants and by ticks (01, Firing).
--   ticks_none, ticks_suc      no tick, and one more
--   instants_ticks             instants are the effect of a firing that is finished, and then ticks
--   ticks_more, ticks_last     a+b ticks are a ticks, carried on for b, and so for one
use Rattle.std.specs.Prelude.{◌≡◌, ℕ, suc, ◌+◌}
use Rattle.std.proofs.Math.Path.{refl}
use Rattle.chain.specs.declared.Chain.{Chain}
use Rattle.state.specs.declared.Run.{Run}
use Rattle.instants.specs.Steps.{clean, onward, finished, advanced, tick, ticks, instants}
use Rattle.instants.specs.Follows.{Many, Instants, many_more, many_last, instants_many}
use Rattle.instants.specs.Runs.{follows}

module _ (c : Chain) where
  pub ticks_none : (s : Run) → ticks c 0 s ≡ clean s
  unfolding ticks
  ticks_none s = refl

  pub ticks_suc : (T : ℕ) (s : Run) → ticks c (suc T) s ≡ onward (tick c s) (ticks c T)
  unfolding ticks
  ticks_suc T s = refl

  many : Many clean onward (tick c) (ticks c)
  many = record { none = ticks_none; more = ticks_suc }

  -- 01's instants are the effect of what is finished, and then tick after tick
  instant_last : (s : Run) → instants c 0 s ≡ finished c s
  unfolding instants
  instant_last s = refl

  instant_more : (T : ℕ) (s : Run) → instants c (suc T) s ≡ onward (onward (finished c s) (advanced c)) (instants c T)
  unfolding instants
  instant_more T s = refl

  each_instant : Instants clean onward (advanced c) (finished c) (instants c)
  each_instant = record { last = instant_last; more = instant_more }

  tick_advances : (s : Run) → tick c s ≡ onward (advanced c s) (finished c)
  unfolding tick
  tick_advances s = refl

  pub instants_ticks : (T : ℕ) (s : Run) → instants c T s ≡ onward (finished c s) (ticks c T)
  instants_ticks = instants_many follows many each_instant tick_advances

  -- a+b ticks are a ticks, carried on for b
  pub ticks_more : (a b : ℕ) (s : Run) → ticks c (a + b) s ≡ onward (ticks c a s) (ticks c b)
  ticks_more = many_more follows many

  -- so T+1 ticks are T ticks, carried on for one
  pub ticks_last : (T : ℕ) (s : Run) → ticks c (suc T) s ≡ onward (ticks c T s) (tick c)
  ticks_last = many_last follows many
