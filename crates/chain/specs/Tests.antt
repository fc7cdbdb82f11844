-- Tests on numbers, and the facts that they decide.
--   outside least most v     v is below the least or above the most
--   Out, In                  the two facts: out of the range, in it
--   outside-, below-, upto-, equal-, differ-, or-, and-, negated_true and _false
--                            the test holds, or fails, exactly under the fact named beside it
--   sum_iff                  facts that hold exactly under others, of which one holds
use Rattle.std.specs.Prelude.{◌≡◌, refl, Bool, true, false, ◌||◌, ◌&&◌, not, ◌↔◌, ◌≢◌, ◌⊎◌, ℕ, ◌≤◌, ◌<◌, ltb, leb, eqb}
use Rattle.std.proofs.Common.{sym, true≢false, inl, inr, ⊎_elim, lt-ltb, le-ltb, le-leb, ltb-true, ltb-false, leb-true, leb-false, eq-eqb, ne_eqb, eqb-true}
use Rattle.std.proofs.lemmas.Bool.{lt-leb, eqb-false, not-true, not-false}

-- v is below the least or above the most
abbrev pub outside : ℕ → ℕ → ℕ → Bool
outside least most v = ltb v least || ltb most v

-- a number is out of its range, or in it
abbrev pub Out : ℕ → ℕ → ℕ → Type 0
Out least most v = (v < least) ⊎ (most < v)

abbrev pub In : ℕ → ℕ → ℕ → Type 0
In least most v = (least ≤ v) × (v ≤ most)

-- either of two tests holds exactly when one of their facts does, and neither exactly when none does
pub or_true : {A B : Type 0} {a b : Bool} → (a ≡ true) ↔ A → (b ≡ true) ↔ B → (a || b ≡ true) ↔ (A ⊎ B)
or_true {a = true} h k = (λ e. inl (h.0 refl), λ s. refl)
or_true {a = false} h k = (λ e. inr (k.0 e), ⊎_elim (λ x. absurd (true≢false (sym (h.1 x)))) (λ y. k.1 y))

pub or_false : {A B : Type 0} {a b : Bool} → (a ≡ false) ↔ A → (b ≡ false) ↔ B → (a || b ≡ false) ↔ (A × B)
or_false {a = true} h k = (λ e. absurd (true≢false e), λ s. absurd (true≢false (h.1 s.0)))
or_false {a = false} h k = (λ e. (h.0 refl, k.0 e), λ s. k.1 s.1)

-- one of two facts holds exactly when one of two others does
pub sum_iff : {A B C D : Type 0} → A ↔ C → B ↔ D → (A ⊎ B) ↔ (C ⊎ D)
sum_iff h k = (⊎_elim (λ a. inl (h.0 a)) (λ b. inr (k.0 b)), ⊎_elim (λ c. inl (h.1 c)) (λ d. inr (k.1 d)))

pub differ_true : (a b : ℕ) → (not (eqb a b) ≡ true) ↔ (a ≢ b)
differ_true a b = (λ e. eqb-false a b (not-true _ e), λ n. simp (ne_eqb a b n))

pub differ_false : (a b : ℕ) → (not (eqb a b) ≡ false) ↔ (a ≡ b)
differ_false a b = (λ e. eqb-true a b (not-false _ e), λ n. simp (eq-eqb a b n))

pub equal_true : (a b : ℕ) → (eqb a b ≡ true) ↔ (a ≡ b)
equal_true a b = (λ e. eqb-true a b e, λ n. eq-eqb a b n)

pub upto_true : (a b : ℕ) → (leb a b ≡ true) ↔ (a ≤ b)
upto_true a b = (λ e. leb-true a b e, λ l. le-leb a b l)

pub upto_false : (a b : ℕ) → (leb a b ≡ false) ↔ (b < a)
upto_false a b = (λ e. leb-false a b e, λ l. lt-leb a b l)

pub below_true : (a b : ℕ) → (ltb a b ≡ true) ↔ (a < b)
below_true a b = (λ e. ltb-true a b e, λ l. lt-ltb a b l)

pub below_false : (a b : ℕ) → (ltb a b ≡ false) ↔ (b ≤ a)
below_false a b = (λ e. ltb-false a b e, λ l. le-ltb a b l)

pub and_true : {A B : Type 0} {a b : Bool} → (a ≡ true) ↔ A → (b ≡ true) ↔ B → (a && b ≡ true) ↔ (A × B)
and_true {a = true} h k = (λ e. (h.0 refl, k.0 e), λ s. k.1 s.1)
and_true {a = false} h k = (λ e. absurd (true≢false (sym e)), λ s. absurd (true≢false (sym (h.1 s.0))))

pub and_false : {A B : Type 0} {a b : Bool} → (a ≡ false) ↔ A → (b ≡ false) ↔ B → (a && b ≡ false) ↔ (A ⊎ B)
and_false {a = true} h k = (λ e. inr (k.0 e), ⊎_elim (λ x. absurd (true≢false (h.1 x))) (λ y. k.1 y))
and_false {a = false} h k = (λ e. inl (h.0 refl), λ s. refl)

-- the opposite of a test holds exactly when its fact does not
pub negated_true : {A : Type 0} {a : Bool} → (a ≡ true) ↔ A → (not a ≡ true) ↔ (A → ⊥)
negated_true {a = true} h = (λ e. absurd (true≢false (sym e)), λ n. absurd (n (h.0 refl)))
negated_true {a = false} h = (λ e x. true≢false (sym (h.1 x)), λ n. refl)

pub negated_false : {A : Type 0} {a : Bool} → (a ≡ true) ↔ A → (not a ≡ false) ↔ A
negated_false {a = true} h = (λ e. h.0 refl, λ x. refl)
negated_false {a = false} h = (λ e. absurd (true≢false e), λ x. absurd (true≢false (sym (h.1 x))))

pub outside_true : (least most v : ℕ) → (outside least most v ≡ true) ↔ Out least most v
outside_true least most v = or_true (below_true v least) (below_true most v)

pub outside_false : (least most v : ℕ) → (outside least most v ≡ false) ↔ In least most v
outside_false least most v = or_false (below_false v least) (below_false most v)
