-- The events of one queue, and what it holds after them (01, Firing).
--   s, x, p, τ, c       the contents at the start, and at some moment; produce, threshold and consume
--   Event               put: its producer has fired; take: its consumer has
--   puts es, takes es   how many of each there are in es
--   contents p c x es   what is held after es, where x was held before
--   Allowed p τ c x es  each take of es finds at least τ
--   Settled p τ c x es  each put of es finds less than τ
--   owed                where something was taken, the last take found τ
--   Holds p c x es b    at some moment of es the queue holds at least b
use Rattle.std.specs.Prelude.{◌≡◌, List, [], ◌∷◌, ◌++◌, ℕ, zero, suc, ◌+◌, ◌-◌, ◌*◌, ◌≤◌, ◌<◌}
use Rattle.std.proofs.Common.{arith}

-- 01's finished firing, as the queue sees it: that of the node before it, or that of the node behind it
pub data Event : Type 0 where
  put : Event
  take : Event

-- the producer's count
unfoldable pub puts : List Event → ℕ
puts [] = 0
puts (put ∷ es) = suc (puts es)
puts (take ∷ es) = puts es

-- the consumer's count
unfoldable pub takes : List Event → ℕ
takes [] = 0
takes (put ∷ es) = takes es
takes (take ∷ es) = suc (takes es)

-- "adds p to the output queue, if any, then removes c from the input queue, if any"
unfoldable pub contents : ℕ → ℕ → ℕ → List Event → ℕ
contents p c x [] = x
contents p c x (put ∷ es) = contents p c (x + p) es
contents p c x (take ∷ es) = contents p c (x - c) es

-- "may fire when its input queue holds at least τ"
unfoldable pub Allowed : ℕ → ℕ → ℕ → ℕ → List Event → Type 0
Allowed p τ c x [] = Unit {0}
Allowed p τ c x (put ∷ es) = Allowed p τ c (x + p) es
Allowed p τ c x (take ∷ es) = (τ ≤ x) × Allowed p τ c (x - c) es

-- "until the queue is below threshold", the immediate run's order: no put where a take may come first
unfoldable pub Settled : ℕ → ℕ → ℕ → ℕ → List Event → Type 0
Settled p τ c x [] = Unit {0}
Settled p τ c x (put ∷ es) = (x < τ) × Settled p τ c (x + p) es
Settled p τ c x (take ∷ es) = Settled p τ c (x - c) es

-- the last take found τ
pub owed : (s p τ c : ℕ) (es : List Event) → c ≤ τ → Allowed p τ c s es → 0 < takes es → c * takes es + τ ≤ s + p * puts es + c
unfolding puts takes Allowed
owed s p τ c [] ct al some = absurd (omega arith)
owed s p τ c (put ∷ es) ct al some = omega (arith, owed (s + p) p τ c es ct al some)
owed s p τ c (take ∷ es) ct al some = last (takes es) (owed (s - c) p τ c es ct al.1)
  where
    last : (m : ℕ) → (0 < m → c * m + τ ≤ s - c + p * puts es + c) → c * suc m + τ ≤ s + p * puts es + c
    last zero more = omega (arith, al.0)
    last (suc m) more = omega (arith, al.0, more (omega arith))

-- demand 3's moment at which the queue holds so much: after the events `before`
pub record Holds (p c x : ℕ) (es : List Event) (b : ℕ) : Type 0 where
  pub before : List Event
  pub after : List Event
  pub parts : es ≡ before ++ after
  pub holds : b ≤ contents p c x before
