-- Laws of specs/Residue.antt that rest on a definition which an edit of must-fail/ changes.
-- The residue: the most that a queue holds while it is below its threshold.
--   residue_largest     which the residue is
--   residue_000, _004   the residue as 000 writes it and as 004 does, at s = 0; so the two agree
--   residue_floor       the residue at s = 0 with a division rounded down
--   residue_rest        the residue by one remainder
use Rattle.std.specs.Prelude.{◌≡◌, ◌≢◌, ℕ, zero, suc, ◌+◌, ◌-◌, ◌*◌, ◌/◌, ◌%◌, ◌≤◌, ◌<◌}
use Rattle.std.proofs.Common.{sym, ◌∙◌, ap, ⊎_elim, eq-or-lt_of_le, zero-lt-suc, zero-add, mul_comm, div-mul-le_self, div-add-mod', arith}
use Rattle.std.proofs.Math.Nat.{sub-zero, mod-zero, lt-div-mul-add}
use Rattle.arith.specs.Division.{ceil, floor_below, floor_above}
use Rattle.arith.proofs.DivisionLaws.{ceil_unique}
use Rattle.onequeue.specs.Residue.{residue, Largest, largest_near, ceil_less, less_one}

pub residue_largest : (s τ g : ℕ) → s < τ → 0 < g → Largest s τ g (residue s τ g)
unfolding residue
residue_largest s τ g h hg =
    let e : ceil (τ - s) g - 1 ≡ (τ - s - 1) / g = ceil_less (τ - s) g (omega arith) hg in
    let lo : s + (τ - s - 1) / g * g < τ = omega (arith, div-mul-le_self (τ - s - 1) g) in
    let hi : τ ≤ s + (τ - s - 1) / g * g + g = omega (arith, lt-div-mul-add {a = τ - s - 1} hg) in
    largest_near s τ g (ceil (τ - s) g - 1) (rw e lo) (rw e hi)

-- 000's Lemma 1, but for the last summand p
pub residue_000 : (τ g : ℕ) → residue 0 τ g ≡ (ceil τ g - 1) * g
unfolding residue
residue_000 τ g = rw sub-zero (zero-add _)

-- r of 004's section 7: τ - g where τ is k * g for some k, otherwise τ over g, rounded down, times g
pub residue_004 : (τ g : ℕ) → 0 < g
    → ((k : ℕ) → τ ≡ k * g → residue 0 τ g ≡ τ - g) × (((k : ℕ) → τ ≢ k * g) → residue 0 τ g ≡ τ / g * g)
residue_004 τ g hg = (whole, part)
  where
    whole : (k : ℕ) → τ ≡ k * g → residue 0 τ g ≡ τ - g
    whole k e =
        let up : ceil τ g ≡ k = ceil_unique τ g k (omega arith) (omega arith) in
        residue_000 τ g ∙ ap (λ (n : ℕ). (n - 1) * g) up ∙ less_one k g ∙ ap (λ (n : ℕ). n - g) (sym e)

    part : ((k : ℕ) → τ ≢ k * g) → residue 0 τ g ≡ τ / g * g
    part f =
        let past : g * (τ / g) < τ = ⊎_elim (λ e. absurd (f (τ / g) (sym e ∙ mul_comm g (τ / g)))) (λ l. l) (eq-or-lt_of_le (floor_below τ g)) in
        let up : ceil τ g ≡ τ / g + 1 = ceil_unique τ g (τ / g + 1) (omega (arith, floor_above τ g hg)) (omega arith) in
        let down : ceil τ g - 1 ≡ τ / g = omega arith in
        residue_000 τ g ∙ ap (λ (n : ℕ). n * g) down

pub residue_floor : (τ g : ℕ) → 0 < τ → 0 < g → residue 0 τ g ≡ (τ - 1) / g * g
residue_floor τ g h hg = residue_000 τ g ∙ ap (λ (n : ℕ). n * g) (ceil_less τ g h hg)

-- what τ - 1 passes s by, less its remainder: one division
pub residue_rest : (s τ g : ℕ) → s < τ → residue s τ g ≡ s + ((τ - 1 - s) - (τ - 1 - s) % g)
unfolding residue
residue_rest s τ zero h = rw mod-zero (omega arith)
residue_rest s τ (suc g) h =
    let e : ceil (τ - s) (suc g) - 1 ≡ (τ - s - 1) / suc g = ceil_less (τ - s) (suc g) (omega arith) (zero-lt-suc g) in
    let n : τ - s - 1 ≡ τ - 1 - s = omega arith in
    rw (e, n) (omega (arith, div-add-mod' (τ - 1 - s) (suc g)))
