-- How a tick or a run ends, by the number and the values that 01 gives it ("a definition sets out this paper's number and values for each of its cases. The promises
-- use that definition").
--   o, t, q, i               an outcome, an instant, a queue, a node
--   Says o N vs              the number of o is N, and its values are vs
--   Cleanly o, OverflowedAt o t q, UndatedAt o t i
--                            "It ends clean"; "overflowed at (tick, queue)"; "with 13" at an instant, of a node
--   cleanly_is, overflowed_is, undated_is
--                            which are the three cases of an outcome
--   says_tick                the first of two values is the outcome's instant
use Rattle.std.specs.Prelude.{◌≡◌, refl, ◌↔◌, List, [], ◌∷◌, ℕ, length, get_or}
use Rattle.std.proofs.Common.{ap, arith}
use Rattle.ardenquill.specs.Ticks.{number_of, values_of, tick_of}
use Rattle.ardenquill.specs.Records.{Outcome, Clean, Overflowed, NoDeadline}

-- 01's number and values of an outcome
abbrev pub Says : Outcome → ℕ → List ℕ → Type 0
Says o N vs = (number_of o ≡ N) × (values_of o ≡ vs)

-- "It ends clean"
abbrev pub Cleanly : Outcome → Type 0
Cleanly o = Says o 0 []

-- "or overflowed at (tick, queue)"
abbrev pub OverflowedAt : Outcome → ℕ → ℕ → Type 0
OverflowedAt o t q = Says o 0 (t ∷ q ∷ [])

-- "or with 13 at the first instant when .., place the lowest such over-threshold node"
abbrev pub UndatedAt : Outcome → ℕ → ℕ → Type 0
UndatedAt o t i = Says o 13 (t ∷ i ∷ [])

-- lists of other lengths differ
longer : {vs ws : List ℕ} → vs ≡ ws → (length vs ≡ length ws → ⊥) → ⊥
longer e n = n (ap length e)

-- an outcome says what an equal one does
says_as : {o p : Outcome} → o ≡ p → Says o (number_of p) (values_of p)
says_as e = (ap number_of e, ap values_of e)

pub cleanly_is : (o : Outcome) → Cleanly o ↔ (o ≡ Clean)
cleanly_is Clean = (λ h. refl, says_as)
cleanly_is (Overflowed t q) = (λ h. absurd (longer h.1 (λ e. omega arith)), says_as)
cleanly_is (NoDeadline t i) = (λ h. absurd (omega (arith, h.0)), says_as)

pub overflowed_is : (o : Outcome) (t q : ℕ) → OverflowedAt o t q ↔ (o ≡ Overflowed t q)
overflowed_is Clean t q = (λ h. absurd (longer h.1 (λ e. omega arith)), says_as)
overflowed_is (Overflowed u r) t q = (λ h. (λ k. Overflowed (get_or (h.1 k) 0 0) (get_or (h.1 k) 1 0)), says_as)
overflowed_is (NoDeadline u i) t q = (λ h. absurd (omega (arith, h.0)), says_as)

pub undated_is : (o : Outcome) (t i : ℕ) → UndatedAt o t i ↔ (o ≡ NoDeadline t i)
undated_is Clean t i = (λ h. absurd (omega (arith, h.0)), says_as)
undated_is (Overflowed u q) t i = (λ h. absurd (omega (arith, h.0)), says_as)
undated_is (NoDeadline u j) t i = (λ h. (λ k. NoDeadline (get_or (h.1 k) 0 0) (get_or (h.1 k) 1 0)), says_as)

-- an outcome of two values has its instant first, and is not clean
pub says_tick : (o : Outcome) (N t at : ℕ) → Says o N (t ∷ at ∷ []) → (tick_of o ≡ t) × (o ≡ Clean → ⊥)
says_tick Clean N t at h = absurd (longer h.1 (λ e. omega arith))
says_tick (Overflowed u q) N t at h = (ap (λ (vs : List ℕ). get_or vs 0 0) h.1, λ e. longer (ap values_of e) (λ k. omega arith))
says_tick (NoDeadline u j) N t at h = (ap (λ (vs : List ℕ). get_or vs 0 0) h.1, λ e. longer (ap values_of e) (λ k. omega arith))
