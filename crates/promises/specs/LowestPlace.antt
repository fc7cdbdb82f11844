-- Checks in a row whose places rise: the first that speaks says the lowest place.
--   r, s, N, L, M            checks, a number, places
--   LowestOf P L             L has P, and no place before it has (Order)
--   Finds r N P              the check r says N at the lowest place that has P, and nothing where no place has
--   Among n P L              L is a place of one of the kinds P 0, .. P (n - 1)
--   finds_as, _then, _all    the same places said otherwise; one check and then another; so many checks in a row
use Rattle.std.proofs.Math.Logic.Iff
use Rattle.std.specs.Prelude.{◌≡◌, refl, ◌↔◌, ◌≢◌, ◌⊎◌, [], ◌∷◌}
use Rattle.std.proofs.Common.{sym, subst, ◌∙◌, eq-or-lt_of_le, arith}
use Rattle.std.proofs.Math.Path.{ap}
use Rattle.std.proofs.Math.Logic.{inl, inr, ⊎_elim}
use Prim.Native.Nat.{ℕ, zero, suc, ◌<◌}
use Rattle.ardenquill.specs.Chains.{refused, fine, or_else, first, Silent, or_says, or_silents, first_append, tab, tab_last}
use Rattle.ardenquill.specs.Records.{Refusal}
use Rattle.promises.specs.Order.{LowestOf}

-- a check says N at the lowest place that has P, and nothing where no place has
pub record Finds (r : Refusal) (N : ℕ) (P : ℕ → Type 0) : Type 0 where
  pub says : (L : ℕ) → (r ≡ refused N L) ↔ LowestOf P L
  pub silent : Silent r ↔ ((M : ℕ) → P M → ⊥)

-- one of n kinds of places
pub record Among (n : ℕ) (P : ℕ → ℕ → Type 0) (L : ℕ) : Type 0 where
  pub at : ℕ
  pub inside : at < n
  pub is : P at L

-- the lowest place of what is said otherwise
lowest_as : {P Q : ℕ → Type 0} → ((L : ℕ) → P L ↔ Q L) → (L : ℕ) → LowestOf P L ↔ LowestOf Q L
lowest_as h L = (
  λ p. record { has = (h L).0 p.has; before = λ M l k. p.before M l ((h M).1 k) },
  λ q. record { has = (h L).1 q.has; before = λ M l k. q.before M l ((h M).0 k) },
)

-- the same places, said otherwise
pub finds_as : {r : Refusal} {N : ℕ} {P Q : ℕ → Type 0} → ((L : ℕ) → P L ↔ Q L) → Finds r N P → Finds r N Q
finds_as h f = record {
  says = λ L. Iff.trans (f.says L) (lowest_as h L);
  silent = Iff.trans f.silent (λ n M q. n M ((h M).1 q), λ n M p. n M ((h M).0 p));
}

module _ (N : ℕ) (some : N ≢ 0) where
  -- one check and then another, whose places are all higher
  pub finds_then : {r s : Refusal} {P Q : ℕ → Type 0} → ((M K : ℕ) → P M → Q K → M < K) → Finds r N P → Finds s N Q → Finds (or_else r s) N (λ L. P L ⊎ Q L)
  finds_then {r} {s} {P} {Q} rises f g = record {
    says = λ L. Iff.trans (or_says N L some r s) (out L, back L);
    silent = Iff.trans (or_silents r s) (
      λ h M. ⊎_elim (f.silent.0 h.0 M) (g.silent.0 h.1 M),
      λ h. (f.silent.1 (λ M p. h M (inl p)), g.silent.1 (λ M q. h M (inr q))),
    );
  }
    where
      out : (L : ℕ) → (r ≡ refused N L) ⊎ (Silent r × (s ≡ refused N L)) → LowestOf (λ M. P M ⊎ Q M) L
      out L = ⊎_elim
          (λ e. let p = (f.says L).0 e in record { has = inl p.has; before = λ M l. ⊎_elim (p.before M l) (λ k. omega (arith, rises L M p.has k)) })
          (λ e. let q = (g.says L).0 e.1 in record { has = inr q.has; before = λ M l. ⊎_elim (f.silent.0 e.0 M) (q.before M l) })

      back : (L : ℕ) → LowestOf (λ M. P M ⊎ Q M) L → (r ≡ refused N L) ⊎ (Silent r × (s ≡ refused N L))
      back L h = ⊎_elim
          (λ p. inl ((f.says L).1 (record { has = p; before = λ M l k. h.before M l (inl k) })))
          (λ q. inr (f.silent.1 (λ M p. h.before M (rises M L p q) (inl p)), (g.says L).1 (record { has = q; before = λ M l k. h.before M l (inr k) })))
          h.has

  -- a check that says nothing
  finds_none : Finds fine N (λ L. ⊥)
  finds_none = record { says = λ L. (λ e. absurd (some (sym (ap (λ (r : Refusal). r.number) e))), λ h. absurd h.has); silent = (λ z M b. b, λ h. refl) }

  -- so many checks, whose places rise from one to the next
  module _ (g : ℕ → Refusal) (P : ℕ → ℕ → Type 0) (rises : (i j M K : ℕ) → i < j → P i M → P j K → M < K) (each : (i : ℕ) → Finds (g i) N (P i)) where
    -- the last of them comes last
    last_is : (n : ℕ) → first (tab (suc n) g) ≡ or_else (first (tab n g)) (or_else (g n) fine)
    unfolding first
    last_is n = ap first (tab_last n g) ∙ first_append (tab n g) (g n ∷ [])

    -- the lowest of all their places
    pub finds_all : (n : ℕ) → Finds (first (tab n g)) N (Among n P)
    unfolding first tab
    finds_all zero = finds_as (λ L. (λ b. absurd b, λ a. omega (arith, a.inside))) finds_none
    finds_all (suc n) = rw (last_is n)
        (finds_as more (finds_then (λ M K a. ⊎_elim (λ k. rises a.at n M K a.inside a.is k) (λ b. absurd b)) (finds_all n) (finds_then (λ M K p b. absurd b) (each n) finds_none)))
      where
        more : (L : ℕ) → (Among n P L ⊎ (P n L ⊎ ⊥)) ↔ Among (suc n) P L
        more L = (
          ⊎_elim (λ a. record { at = a.at; inside = omega (arith, a.inside); is = a.is }) (⊎_elim (λ p. record { at = n; inside = omega arith; is = p }) (λ b. absurd b)),
          λ a. ⊎_elim (λ (e : a.at ≡ n). inr (inl (subst (λ (i : ℕ). P i L) e a.is)))
              (λ l. inl (record { at = a.at; inside = l; is = a.is })) (eq-or-lt_of_le {n = a.at} {m = n} (omega (arith, a.inside))),
        )
