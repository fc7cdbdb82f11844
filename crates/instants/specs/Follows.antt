-- One step after the other, whatever a step leaves (01, Firing): the laws of so many steps, up to the first outcome that ends them.
--   Follows clean onward       what "one thing after the other" is: a clean state goes on, nothing may follow, and three follow each other in one way only
--   Many step many             `many T` is T of the steps, as far as they are clean
--   many_more, many_last       a+b steps are a steps, carried on for b, and so for one
--   Instants work effect at    `at T` is 01's T instants before the last, of which each is the effect of what is finished and then the work
--   instants_many              which are that effect, and then so many ticks
--   Answered Clean step at T   `at t` is what t steps answer, of T at most: what is clean goes on with the step from there, and what is not stays
--   answered_stays, _before    so what is not clean is answered for good, and what is clean was clean before
--   answered_ends              an outcome is answered exactly where the answer before its step is clean and the step from there ends with it
--   answered_along             what each clean step hands on holds where all are clean
use Rattle.std.specs.Prelude.{◌≡◌, ◌↔◌, ◌⊎◌, ℕ, zero, suc, ◌+◌, ◌-◌, ◌≤◌, ◌<◌}
use Rattle.std.proofs.Common.{sym, ap, subst, ◌∙◌, ⊎_elim, zero-add, suc-add, add-zero, le_refl, add-one, arith}

module _ {S R : Type 0} (clean : S → R) (onward : R → (S → R) → R) where
  -- a clean state goes on; nothing follows; one thing after the other
  pub record Follows : Type 0 where
    pub goes : (s : S) (f : S → R) → onward (clean s) f ≡ f s
    pub none : (r : R) → onward r clean ≡ r
    pub then : (r : R) (f g : S → R) → onward (onward r f) g ≡ onward r (λ s. onward (f s) g)

  -- so many steps, as far as they are clean
  pub record Many (step : S → R) (many : ℕ → S → R) : Type 0 where
    pub none : (s : S) → many 0 s ≡ clean s
    pub more : (T : ℕ) (s : S) → many (suc T) s ≡ onward (step s) (many T)

  -- "at each instant t below T: the firing finished by then takes effect; then .. works one tick. At instant T only a finished firing takes effect"
  pub record Instants (work effect : S → R) (at : ℕ → S → R) : Type 0 where
    pub last : (s : S) → at 0 s ≡ effect s
    pub more : (T : ℕ) (s : S) → at (suc T) s ≡ onward (onward (effect s) work) (at T)

module _ {S R : Type 0} {clean : S → R} {onward : R → (S → R) → R} (k : Follows clean onward) {step : S → R} {many : ℕ → S → R} (m : Many clean onward step many) where
  -- a+b steps are a steps, carried on for b
  pub many_more : (a b : ℕ) (s : S) → many (a + b) s ≡ onward (many a s) (many b)
  many_more zero b s = ap (λ (T : ℕ). many T s) (zero-add b) ∙ sym (k.goes s (many b)) ∙ ap (λ (r : R). onward r (many b)) (sym (m.none s))
  many_more (suc a) b s =
      ap (λ (T : ℕ). many T s) (suc-add a b)
      ∙ m.more (a + b) s
      ∙ ap (onward (step s)) (λ i u. many_more a b u i)
      ∙ sym (k.then (step s) (many a) (many b))
      ∙ ap (λ (r : R). onward r (many b)) (sym (m.more a s))

  -- so T+1 steps are T steps, carried on for one
  pub many_last : (T : ℕ) (s : S) → many (suc T) s ≡ onward (many T s) step
  many_last T s = ap (λ (a : ℕ). many a s) (sym (add-one T)) ∙ many_more T 1 s ∙ ap (onward (many T s)) (λ i u. once u i)
    where
      once : (u : S) → many 1 u ≡ step u
      once u = m.more 0 u ∙ ap (onward (step u)) (λ i v. m.none v i) ∙ k.none (step u)

  -- where a step is the work and then its effect, 01's instants are the effect of what is finished, and then step after step
  pub instants_many : {work effect : S → R} {at : ℕ → S → R} → Instants clean onward work effect at → ((s : S) → step s ≡ onward (work s) effect)
      → (T : ℕ) (s : S) → at T s ≡ onward (effect s) (many T)
  instants_many {work} {effect} {at} n is zero s = n.last s ∙ sym (k.none (effect s)) ∙ ap (onward (effect s)) (λ i u. sym (m.none u) i)
  instants_many {work} {effect} {at} n is (suc T) s =
      n.more T s
      ∙ k.then (effect s) work (at T)
      ∙ ap (onward (effect s)) (λ i u. each (instants_many n is T) u i)
    where
      each : ((v : S) → at T v ≡ onward (effect v) (many T)) → (u : S) → onward (work u) (at T) ≡ many (suc T) u
      each before u =
          ap (onward (work u)) (λ i v. before v i)
          ∙ sym (k.then (work u) effect (many T))
          ∙ ap (λ (r : R). onward r (many T)) (sym (is u))
          ∙ sym (m.more T u)

-- what so many steps answer, one after the other from a clean start: a clean answer goes on, and any other stands
module _ {A : Type 0} (Clean : A → Type 0) (step : A → A) (at : ℕ → A) (T : ℕ) where
  pub record Answered : Type 0 where
    pub decided : (a : A) → Clean a ⊎ (Clean a → ⊥)
    pub start : Clean (at 0)
    pub next : (t : ℕ) → t < T → Clean (at t) → at (suc t) ≡ step (at t)
    pub stops : (t : ℕ) → t < T → (Clean (at t) → ⊥) → at (suc t) ≡ at t

module _ {A : Type 0} {Clean : A → Type 0} {step : A → A} {at : ℕ → A} {T : ℕ} (k : Answered Clean step at T) where
  -- what is not clean is answered for good
  pub answered_stays : (t m : ℕ) → t + m ≤ T → (Clean (at t) → ⊥) → at (t + m) ≡ at t
  answered_stays t zero l n = ap at (add-zero t)
  answered_stays t (suc m) l n =
      let e : at (t + m) ≡ at t = answered_stays t m (omega arith) n in
      let more : t + suc m ≡ suc (t + m) = omega arith in
      ap at more ∙ k.stops (t + m) (omega arith) (λ z. n (subst Clean e z)) ∙ e

  -- and what is clean was clean before
  pub answered_before : (t : ℕ) → t < T → Clean (at (suc t)) → Clean (at t)
  answered_before t l h = ⊎_elim (λ z. z) (λ n. absurd (n (subst Clean (k.stops t l n) h))) (k.decided (at t))

  -- an outcome P, which no clean answer has and which the step after m steps alone may end with
  module _ (P : A → Type 0) (apart : (a : A) → P a → Clean a → ⊥) (m : ℕ) (when : (t : ℕ) → t < T → Clean (at t) → P (step (at t)) → m ≡ t) where
    ends_by : (t : ℕ) → t ≤ T → P (at t) → (m < t) × (Clean (at m) × P (step (at m)))
    ends_by zero l p = absurd (apart (at 0) p k.start)
    ends_by (suc t) l p = ⊎_elim
        (λ z.
        let says : P (step (at t)) = subst P (k.next t l z) p in
        let here : m ≡ t = when t l z says in
        (omega (arith, here), (subst (λ (x : ℕ). Clean (at x)) (sym here) z, subst (λ (x : ℕ). P (step (at x))) (sym here) says)))
        (λ n. let b = ends_by t (omega arith) (subst P (k.stops t l n) p) in (omega (arith, b.0), b.1))
        (k.decided (at t))

    -- "the first instant when"
    pub answered_ends : P (at T) ↔ ((m < T) × (Clean (at m) × P (step (at m))))
    answered_ends = (ends_by T (le_refl T), back)
      where
        back : (m < T) × (Clean (at m) × P (step (at m))) → P (at T)
        back b =
            let says : P (at (suc m)) = subst P (sym (k.next m b.0 b.1.0)) b.1.1 in
            let rest : suc m + (T - suc m) ≡ T = omega (arith, b.0) in
            subst (λ (t : ℕ). P (at t)) rest (subst P (sym (answered_stays (suc m) (T - suc m) (omega (arith, b.0)) (apart (at (suc m)) says))) says)

  -- what each clean step hands on, from the start, holds where all are clean
  pub answered_along : (Q : ℕ → Type 0) → Q 0 → ((t : ℕ) → t < T → Clean (at t) → Clean (at (suc t)) → Q t → Q (suc t)) → Clean (at T) → Q T
  answered_along Q none more = to T (le_refl T)
    where
      to : (t : ℕ) → t ≤ T → Clean (at t) → Q t
      to zero l h = none
      to (suc t) l h = let z : Clean (at t) = answered_before t l h in more t l z h (to t (omega arith) z)
