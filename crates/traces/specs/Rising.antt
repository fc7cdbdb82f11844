-- The instants of a trace (01, Firing).
--   Rising a h b               the instants of h never fall, the first being a or later and the last b or earlier
--   rising_later, rising_append
--                              a trace from an earlier instant on, and one trace and then another
-- What is named here and not declared stands in proofs/RisingLaws.antt.
use Rattle.std.proofs.Common.{le_trans}
use mathlib.Core.List.{List, [], ◌∷◌, ◌++◌}
use Prim.Native.Nat.{ℕ, ◌≤◌}
use Rattle.history.specs.History.{Entry}

-- each instant is that of the entry before or a later one, from a to b
unfoldable pub Rising : ℕ → List Entry → ℕ → Type 0
Rising a [] b = a ≤ b
Rising a (e ∷ h) b = (a ≤ e.0) × Rising e.0 h b

-- a trace from b on is a trace from any earlier a on
pub rising_later : (a b : ℕ) (h : List Entry) (d : ℕ) → a ≤ b → Rising b h d → Rising a h d
unfolding Rising
rising_later a b [] d l r = le_trans l r
rising_later a b (e ∷ h) d l r = (le_trans l r.0, r.1)

-- one trace and then another
pub rising_append : (a : ℕ) (g : List Entry) (b : ℕ) (h : List Entry) (d : ℕ) → Rising a g b → Rising b h d → Rising a (g ++ h) d
unfolding Rising
rising_append a [] b h d r q = rising_later a b h d r q
rising_append a (e ∷ g) b h d r q = (r.0, rising_append e.0 g b h d r.1 q)
