-- A deadline run by instants and by ticks (01, Firing).
--   onward_clean, _none, -then what follows a clean state, nothing that follows, and one thing after the other
--   unclean_overflow, _undated, overflow_undated
--                              no outcome that ends a run is clean, and an overflow is not 13
--   clean_or, onward_goes, onward_stops, onward_cases
--                              an outcome is clean or not; what follows one that is, nothing follows one that is not, and what goes on was clean
use Rattle.std.specs.Prelude.{◌≡◌, ◌⊎◌, ℕ}
use Rattle.std.proofs.Math.Path.{refl}
use Rattle.std.proofs.Common.{ap, ◌∙◌, inl, inr, arith}
use Rattle.state.specs.declared.Run.{Run}
use Rattle.instants.specs.Steps.{kind_of, clean, goes, onward}
use Rattle.instants.specs.Follows.{Follows}
use Rattle.instants.specs.declared.Outcome.{Outcome}
use Rattle.instants.specs.declared.Outcome.TheVariants.{Clean, Overflowed, NoDeadline}
use Rattle.instants.specs.declared.Ticked.{Ticked}

-- a clean state goes on
pub onward_clean : (s : Run) (f : Run → Ticked) → onward (clean s) f ≡ f s
unfolding onward
onward_clean s f = refl

-- one thing after the other
pub onward_then : (r : Ticked) (f g : Run → Ticked) → onward (onward r f) g ≡ onward r (λ s. onward (f s) g)
unfolding onward
onward_then r f g = by r.outcome r.run
  where
    by : (o : Outcome) (s : Run) → goes (goes o s f).outcome (goes o s f).run g ≡ goes o s (λ u. goes (f u).outcome (f u).run g)
    by Clean s = refl
    by (Overflowed t q) s = refl
    by (NoDeadline t i) s = refl

-- nothing follows
pub onward_none : (r : Ticked) → onward r clean ≡ r
unfolding onward
onward_none r = by r.outcome r.run
  where
    by : (o : Outcome) (s : Run) → goes o s clean ≡ record { outcome = o; run = s }
    by Clean s = refl
    by (Overflowed t q) s = refl
    by (NoDeadline t i) s = refl

-- no outcome that ends a run is clean
pub unclean_overflow : {t q : ℕ} → Overflowed t q ≡ Clean → ⊥
unclean_overflow e = let z : ◌≡◌ {A = ℕ} 1 0 = ap kind_of e in absurd (omega arith)

pub unclean_undated : {t i : ℕ} → NoDeadline t i ≡ Clean → ⊥
unclean_undated e = let z : ◌≡◌ {A = ℕ} 2 0 = ap kind_of e in absurd (omega arith)

-- and outcomes of two kinds differ
pub overflow_undated : {t q a i : ℕ} → Overflowed t q ≡ NoDeadline a i → ⊥
overflow_undated e = let z : ◌≡◌ {A = ℕ} 1 2 = ap kind_of e in absurd (omega arith)

-- an outcome is clean, or it is not
pub clean_or : (o : Outcome) → (o ≡ Clean) ⊎ (o ≡ Clean → ⊥)
clean_or Clean = inl refl
clean_or (Overflowed t q) = inr unclean_overflow
clean_or (NoDeadline t i) = inr unclean_undated

-- what was left clean goes on
pub onward_goes : (r : Ticked) (f : Run → Ticked) → r.outcome ≡ Clean → onward r f ≡ f r.run
onward_goes r f h = ap (λ (o : Outcome). onward (record { outcome = o; run = r.run }) f) h ∙ onward_clean r.run f

-- and nothing follows what was not
pub onward_stops : (r : Ticked) (f : Run → Ticked) → (r.outcome ≡ Clean → ⊥) → onward r f ≡ r
unfolding onward
onward_stops r f = by r.outcome r.run
  where
    by : (o : Outcome) (s : Run) → (o ≡ Clean → ⊥) → goes o s f ≡ record { outcome = o; run = s }
    by Clean s n = absurd (n refl)
    by (Overflowed t q) s n = refl
    by (NoDeadline t i) s n = refl

-- what goes on was clean
pub onward_cases : (r : Ticked) (f : Run → Ticked) → (onward r f).outcome ≡ Clean → (r.outcome ≡ Clean) × (((f r.run).outcome ≡ Clean) × (onward r f ≡ f r.run))
unfolding onward
onward_cases r f = by r.outcome
  where
    by : (o : Outcome) → (goes o r.run f).outcome ≡ Clean → (o ≡ Clean) × (((f r.run).outcome ≡ Clean) × (goes o r.run f ≡ f r.run))
    by Clean h = (refl, (h, refl))
    by (Overflowed t q) h = absurd (unclean_overflow h)
    by (NoDeadline t i) h = absurd (unclean_undated h)

-- what follows one thing after the other
pub follows : Follows clean onward
follows = record { goes = onward_clean; none = onward_none; then = onward_then }
