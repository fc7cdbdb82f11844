-- The peak law: a settled queue never holds more than its minimum (000, Lemma 1).
--   s, p, τ, c                  the contents at the start; produce, threshold and consume
--   room                        a queue below τ has room for one production within its minimum
--   allowed_before, settled_before
--                               the first events of such a list are such a list
-- What is named here and not declared stands in proofs/PeakLaws.antt.
use Rattle.std.specs.Prelude.{◌≡◌, List, [], ◌∷◌, ◌++◌, ℕ, ◌+◌, ◌-◌, ◌*◌, ◌/◌, ◌%◌, ◌≤◌, ◌<◌}
use Rattle.std.proofs.Common.{sym, ◌∙◌, arith}
use Rattle.arith.specs.Division.{rest_of_sum}
use Rattle.arith.specs.Gcd.{gcd, gcd_pos_left, gcd_mul_left, gcd_mul_right}
use Rattle.onequeue.proofs.ResidueLaws.{residue_largest}
use Rattle.onequeue.specs.Least.{least}
use Rattle.events.specs.Events.{Event, put, take, Allowed}

-- by the balance, what is held has the remainder of s on division by a common divisor g of p and c
rest_held : (s p c g u w N M x : ℕ) → g * u ≡ p → g * w ≡ c → s + p * N ≡ x + c * M → x % g ≡ s % g
rest_held s p c g u w N M x ep ec bal =
    sym (rest_of_sum (x + c * M) x g (w * M) (rw (← ec) (omega arith)))
    ∙ rest_of_sum (x + c * M) s g (u * N) (sym bal ∙ rw (← ep) (omega arith))

-- a queue below τ has room for one production within its minimum
pub room : (s p τ c N M x : ℕ) → 0 < p → s < τ → s + p * N ≡ x + c * M → x < τ → x + p ≤ (least s p τ c).minimum
unfolding least
room s p τ c N M x hp hs bal low =
    let same : x % gcd p c ≡ s % gcd p c = rest_held s p c (gcd p c) (p / gcd p c) (c / gcd p c) N M x (gcd_mul_left p c) (gcd_mul_right p c) bal in
    omega (arith, (residue_largest s τ (gcd p c) hs (gcd_pos_left p c hp)).top x low same)

-- the first events of an allowed list are one
pub allowed_before : (p τ c x : ℕ) (before after : List Event) → Allowed p τ c x (before ++ after) → Allowed p τ c x before
unfolding Allowed
allowed_before p τ c x [] after al = tt
allowed_before p τ c x (put ∷ before) after al = allowed_before p τ c (x + p) before after al
allowed_before p τ c x (take ∷ before) after al = (al.0, allowed_before p τ c (x - c) before after al.1)
