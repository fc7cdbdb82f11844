-- Laws of specs/Least.antt that rest on a definition which an edit of must-fail/ changes.
-- The minimum b of a queue, with its naming count.
--   least_is            that is so of `least s p τ c`, and of no other pair
--   minimum_produce, _threshold, _bound, _fits
--                       the minimum is at least p and at least τ, less than τ + p, and so at most 131,069 in 01's ranges
--   minimum_rest        it is computed with one remainder
--   naming_pos, _fits   the naming count is not 0, and at most τ
use Rattle.std.specs.Prelude.{◌≡◌, refl, ◌↔◌, ℕ, ◌+◌, ◌-◌, ◌*◌, ◌/◌, ◌%◌, ◌≤◌, ◌<◌}
use Rattle.std.proofs.Common.{sym, ◌∙◌, ap, ap₂, zero-add, div-le_self, mul-le-mul_right, arith}
use Rattle.std.proofs.Math.Nat.{sub-zero, eq_of_mul-eq-mul_left}
use Rattle.arith.specs.Division.{ceil}
use Rattle.arith.proofs.DivisionLaws.{ceil_least}
use Rattle.arith.specs.Gcd.{gcd, gcd_pos_left, gcd_le_left, gcd_mul_right, cofactor_pos}
use Rattle.onequeue.specs.Residue.{residue, Largest, largest_unique, largest_next}
use Rattle.onequeue.proofs.ResidueLaws.{residue_largest, residue_rest}
use Rattle.onequeue.specs.declared.Shown.{Shown}
use Rattle.onequeue.specs.Least.{least, reaches, reaches_unique, IsLeast}

module _ (s p τ c : ℕ) (h : s < τ) (hp : 0 < p) where
  last : Largest s τ (gcd p c) (residue s τ (gcd p c))
  last = residue_largest s τ (gcd p c) h (gcd_pos_left p c hp)

  share_unique : (v w : ℕ) → gcd p c * v ≡ c → gcd p c * w ≡ c → v ≡ w
  share_unique v w e f = eq_of_mul-eq-mul_left (gcd p c) (gcd_pos_left p c hp) v w (e ∙ sym f)

  pub least_is : (m : Shown) → IsLeast s p τ c m ↔ (m ≡ least s p τ c)
  unfolding least
  least_is m = (only, λ e. rw e own)
    where
      own : IsLeast s p τ c (least s p τ c)
      own = record {
        left = residue s τ (gcd p c);
        largest = last;
        minimum = refl;
        firings = ceil (τ - c - s) p;
        near = reaches s p τ c hp;
        share = c / gcd p c;
        whole = gcd_mul_right p c;
        by = refl;
      }

      only : IsLeast s p τ c m → m ≡ least s p τ c
      only l =
          let below : l.left ≡ residue s τ (gcd p c) = largest_unique l.largest last in
          let near : l.firings ≡ ceil (τ - c - s) p = reaches_unique l.near (reaches s p τ c hp) in
          let whole : l.share ≡ c / gcd p c = share_unique _ _ l.whole (gcd_mul_right p c) in
          λ i. record { minimum = (l.minimum ∙ ap (λ (n : ℕ). n + p) below) i; by = (l.by ∙ ap₂ ◌+◌ near whole) i }

  pub minimum_threshold : τ ≤ (least s p τ c).minimum
  unfolding least
  minimum_threshold = omega (arith, largest_next (gcd_pos_left p c hp) last, gcd_le_left p c hp)

  pub minimum_bound : (least s p τ c).minimum < τ + p
  unfolding least
  minimum_bound = omega (arith, last.below)

  pub minimum_fits : τ ≤ 65535 → p ≤ 65535 → (least s p τ c).minimum ≤ 131069
  minimum_fits ht hq = omega (arith, minimum_bound)

pub minimum_produce : (s p τ c : ℕ) → p ≤ (least s p τ c).minimum
unfolding least
minimum_produce s p τ c = omega arith

-- the largest multiple of gcd p c below τ is τ - 1 less its remainder
pub minimum_rest : (p τ c : ℕ) → 0 < τ → (least 0 p τ c).minimum ≡ (τ - 1) - (τ - 1) % gcd p c + p
unfolding least
minimum_rest p τ c h = rw (residue_rest 0 τ (gcd p c) h, sub-zero, zero-add)

pub naming_pos : (s p τ c : ℕ) → 0 < c → 0 < (least s p τ c).by
unfolding least
naming_pos s p τ c hc = omega (arith, cofactor_pos c (gcd p c) (c / gcd p c) (gcd_mul_right p c) hc)

pub naming_fits : (s p τ c : ℕ) → 0 < p → c ≤ τ → (least s p τ c).by ≤ τ
unfolding least
naming_fits s p τ c hp ct =
    omega (arith, ceil_least (τ - c - s) p (τ - c - s) (omega (arith, mul-le-mul_right (τ - c - s) hp)), div-le_self c (gcd p c))
