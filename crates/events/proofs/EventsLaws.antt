-- Laws of specs/Events.antt that rest on a definition which an edit of must-fail/ changes.
-- The events of one queue, and what it holds after them (01, Firing).
--   contents_after      and what is held after more events
--   balance             what was held and what was put is what is held and what was taken
use Rattle.std.specs.Prelude.{◌≡◌, refl, List, [], ◌∷◌, ◌++◌, ℕ, ◌+◌, ◌-◌, ◌*◌, ◌≤◌}
use Rattle.std.proofs.Common.{arith}
use Rattle.events.specs.Events.{Event, puts, takes, contents, Allowed, put, take}

-- what is held after more events
pub contents_after : (p c x : ℕ) (before after : List Event) → contents p c x (before ++ after) ≡ contents p c (contents p c x before) after
unfolding contents
contents_after p c x [] after = refl
contents_after p c x (put ∷ before) after = contents_after p c (x + p) before after
contents_after p c x (take ∷ before) after = contents_after p c (x - c) before after

-- the balance of 01's number 17: "p × producer's count − c × consumer's count" is what is held, from s on
pub balance : (s p τ c : ℕ) (es : List Event) → c ≤ τ → Allowed p τ c s es → s + p * puts es ≡ contents p c s es + c * takes es
unfolding puts takes contents Allowed
balance s p τ c [] ct al = omega arith
balance s p τ c (put ∷ es) ct al = omega (arith, balance (s + p) p τ c es ct al)
balance s p τ c (take ∷ es) ct al = omega (arith, al.0, balance (s - c) p τ c es ct al.1)
