-- The residue: the most that a queue holds while it is below its threshold.
--   s, τ, g             the contents at the start, 0 in a chain of 01; the threshold; the gcd of produce and consume
--   residue s τ g       the last number below τ on the way from s in steps of g
--   Largest s τ g r     r is the largest number below τ with the remainder of s on division by g
--   largest_unique      there is one such number at most
--   largest_next        one step of g more reaches τ
--   largest_near        and a number on the way from s that is below τ, but not so with one step more, is the largest
use Rattle.std.specs.Prelude.{◌≡◌, ℕ, zero, suc, ◌+◌, ◌-◌, ◌*◌, ◌/◌, ◌%◌, ◌≤◌, ◌<◌}
use Rattle.std.proofs.Common.{sym, ◌∙◌, le_antisymm, lt_of_not-le, arith}
use Rattle.std.proofs.Math.Nat.{add-mul-mod_self_right}
use Rattle.std.proofs.Math.Decide.{dec_le}
use Rattle.arith.specs.Division.{ceil, floor_below, floor_above, rest_of_sum, same_rest_gap}
use Rattle.arith.proofs.DivisionLaws.{ceil_unique}

-- "the largest multiple of g below τ" of 01, as 000's Lemma 1 writes it: (ceil τ g - 1) * g; from s on where the queue starts with s
unfoldable pub residue : ℕ → ℕ → ℕ → ℕ
unfolding ceil
residue s τ g = s + (ceil (τ - s) g - 1) * g

-- the same in words: below τ, with the remainder of s, and no such number is larger
pub record Largest (s τ g r : ℕ) : Type 0 where
  pub below : r < τ
  pub rest : r % g ≡ s % g
  pub top : (m : ℕ) → m < τ → m % g ≡ s % g → m ≤ r

pub largest_unique : {s τ g r q : ℕ} → Largest s τ g r → Largest s τ g q → r ≡ q
largest_unique {r = r} {q} a b = le_antisymm (b.top r a.below a.rest) (a.top q b.below b.rest)

pub largest_next : {s τ g r : ℕ} → 0 < g → Largest s τ g r → τ ≤ r + g
largest_next {s} {τ} {g} {r} hg l = by (dec_le τ (r + g))
  where
    by : Dec (τ ≤ r + g) → τ ≤ r + g
    by (yes h) = h
    by (no f) = absurd (omega (arith, l.top (r + g) (lt_of_not-le f) (rest_of_sum (r + g) r g 1 (omega arith) ∙ l.rest)))

pub largest_near : (s τ g k : ℕ) → s + k * g < τ → τ ≤ s + k * g + g → Largest s τ g (s + k * g)
largest_near s τ g k lo hi = record { below = lo; rest = same; top = λ m l e. by m l e (dec_le m (s + k * g)) }
  where
    same : (s + k * g) % g ≡ s % g
    same = add-mul-mod_self_right s k g

    by : (m : ℕ) → m < τ → m % g ≡ s % g → Dec (m ≤ s + k * g) → m ≤ s + k * g
    by m l e (yes h) = h
    by m l e (no f) = absurd (omega (arith, same_rest_gap (s + k * g) m g (same ∙ sym e) (lt_of_not-le f)))

-- n over g rounded up, less one, is n - 1 over g rounded down
pub ceil_less : (n g : ℕ) → 0 < n → 0 < g → ceil n g - 1 ≡ (n - 1) / g
ceil_less n g h hg =
    let lo : n ≤ g * ((n - 1) / g + 1) = omega (arith, floor_above (n - 1) g hg) in
    let hi : g * ((n - 1) / g + 1) < n + g = omega (arith, floor_below (n - 1) g) in
    omega (arith, ceil_unique n g ((n - 1) / g + 1) lo hi)

pub less_one : (k g : ℕ) → (k - 1) * g ≡ k * g - g
less_one zero g = omega arith
less_one (suc k) g = let e : suc k - 1 ≡ k = omega arith in rw e (omega arith)
