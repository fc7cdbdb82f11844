-- Laws of specs/Source.antt that rest on a definition which an edit of must-fail/ changes.
-- When the source fires, and what its step leaves (01, Firing), beside the definition of the step.
--   divides_is                 the step's test holds exactly where y divides t
--   source_three               what holds of the three ways in which the source's step ends holds of it
--   source_spills, _fires, _rests
--                              it overflows exactly when it is due and does not fit, fires exactly when it is due and fits, and else rests
--   once_fires, once_rests     a firing of the source that is due is that, and no change where it is not due
--   source_only                and nothing else is
use Rattle.std.proofs.Math.Logic.Iff
use Rattle.std.specs.Prelude.{◌≡◌, Bool, cond, ◌↔◌, ℕ, zero, suc, ◌%◌, ◌<◌}
use Rattle.std.proofs.Math.Path.{refl}
use Rattle.std.proofs.Common.{sym, ap, ◌∙◌, arith, ext_get_or}
use Rattle.std.proofs.Math.Bool.{true, false, true≢false}
use Rattle.std.specs.Int.{◌∣◌}
use Rattle.std.proofs.Math.Nat.{dvd_iff_mod-eq-zero}
use Rattle.chain.specs.Tests.{equal_true}
use Rattle.chain.specs.declared.Chain.{Chain}
use Rattle.state.specs.State.{count_at, held_at, same_run}
use Rattle.state.specs.Fired.{fired}
use Rattle.state.proofs.FiredLaws.{count_fired, count_other, held_output, held_other}
use Rattle.state.specs.Checks.{cramped}
use Rattle.state.proofs.ChecksLaws.{cramped_is, cramped_room}
use Rattle.state.specs.declared.Run.{Run}
use Rattle.slots.specs.Runs.{fired_whole}
use Rattle.instants.specs.Steps.{clean, overflowed, divides, sourced}
use Rattle.instants.specs.Filled.{Filled}
use Rattle.instants.specs.Runs.{unclean_overflow}
use Rattle.instants.specs.declared.Ticked.{Ticked}
use Rattle.instants.specs.Source.{Due, Full, Fits, SourceOnce}

-- "if y divides t"
pub divides_is : (y t : ℕ) → (divides y t ≡ true) ↔ (y ∣ t)
divides_is y t = Iff.trans (equal_true (t % y) 0) ((dvd_iff_mod-eq-zero y).1, (dvd_iff_mod-eq-zero y).0)

module _ {c : Chain} {s : Run} (f : Filled c s) where
  -- a chain has a queue
  some_queue : 0 < c.n
  some_queue = f.chain.chain.count.0

  full_is : (cramped c s 0 ≡ true) ↔ Full c s
  full_is = Iff.trans (cramped_is c s 0) (λ h. h.1, λ h. (some_queue, h))

  -- the three ways in which the source's step ends
  pub source_three : (P : Ticked → Type 0) → (Due c s → Full c s → P (overflowed s s.clock 0)) → (Due c s → Fits c s → P (clean (fired c s 0))) → ((Due c s → ⊥) → P (clean s)) → P (sourced c s)
  unfolding sourced
  source_three P spills fires rests = by (divides c.period s.clock) (cramped c s 0) refl refl
    where
      by : (d x : Bool) → divides c.period s.clock ≡ d → cramped c s 0 ≡ x → P (cond d (cond x (overflowed s s.clock 0) (clean (fired c s 0))) (clean s))
      by true true e f = spills ((divides_is c.period s.clock).0 e) (full_is.0 f)
      by true false e f = fires ((divides_is c.period s.clock).0 e) ((cramped_room c s 0).0 f some_queue)
      by false x e f = rests (λ d. true≢false (sym ((divides_is c.period s.clock).1 d) ∙ e))

  -- a firing of the source is not nothing
  fires_something : clean (fired c s 0) ≡ clean s → ⊥
  fires_something e = omega (arith, count_fired c s 0 (omega (arith, f.whole.counts)), ap (λ (x : Ticked). count_at x.run 0) e)

  -- "overflowed at (tick, queue)", of the source: exactly where it is due and does not fit
  pub source_spills : (sourced c s ≡ overflowed s s.clock 0) ↔ (Due c s × Full c s)
  source_spills = source_three (λ x. (x ≡ overflowed s s.clock 0) ↔ (Due c s × Full c s))
      (λ d f. (λ e. (d, f), λ h. refl))
      (λ d f. (λ e. absurd (unclean_overflow (ap (λ (x : Ticked). x.outcome) (sym e))), λ h. absurd (omega (arith, f, h.1))))
      (λ n. (λ e. absurd (unclean_overflow (ap (λ (x : Ticked). x.outcome) (sym e))), λ h. absurd (n h.0)))

  -- "then the source fires if y divides t": exactly where it is due and fits
  pub source_fires : (sourced c s ≡ clean (fired c s 0)) ↔ (Due c s × Fits c s)
  source_fires = source_three (λ x. (x ≡ clean (fired c s 0)) ↔ (Due c s × Fits c s))
      (λ d f. (λ e. absurd (unclean_overflow (ap (λ (x : Ticked). x.outcome) e)), λ h. absurd (omega (arith, f, h.1))))
      (λ d f. (λ e. (d, f), λ h. refl))
      (λ n. (λ e. absurd (fires_something (sym e)), λ h. absurd (n h.0)))

  -- and it does nothing exactly where it is not due
  pub source_rests : (sourced c s ≡ clean s) ↔ (Due c s → ⊥)
  source_rests = source_three (λ x. (x ≡ clean s) ↔ (Due c s → ⊥))
      (λ d f. (λ e. absurd (unclean_overflow (ap (λ (x : Ticked). x.outcome) e)), λ n. absurd (n d)))
      (λ d f. (λ e. absurd (fires_something e), λ n. absurd (n d)))
      (λ n. (λ e. n, λ h. refl))

module _ {c : Chain} {s : Run} (f : Filled c s) where
  pub once_fires : Due c s → SourceOnce c s (fired c s 0)
  unfolding fired
  once_fires d = record {
    whole = fired_whole c s 0 f.whole;
    clock = refl;
    done = refl;
    fires = λ z. (count_fired c s 0 (omega (arith, f.whole.counts)), held_output c s 0 f.chain.chain.count.0 (omega (arith, f.whole.held)));
    rests = λ n. absurd (n d);
    counts = λ m ne. count_other c s 0 m ne;
    held = λ j ne. held_other c s 0 j ne (λ e. omega arith);
  }

  pub once_rests : (Due c s → ⊥) → SourceOnce c s s
  once_rests n = record { whole = f.whole; clock = refl; done = refl; fires = λ d. absurd (n d); rests = λ z. (refl, refl); counts = λ m ne. refl; held = λ j ne. refl }

-- and no other state is that
pub source_only : {c : Chain} {s : Run} (u v : Run) → SourceOnce c s u → SourceOnce c s v → u ≡ v
source_only {c} {s} u v a b = same_run (a.clock ∙ sym b.clock)
    (ext_get_or 0 u.counts v.counts (a.whole.counts ∙ sym b.whole.counts) (λ m l. count m))
    (ext_get_or 0 u.held v.held (a.whole.held ∙ sym b.whole.held) (λ j l. hold j))
    (a.done ∙ sym b.done)
  where
    zero_same : (count_at u 0 ≡ count_at v 0) × (held_at u 0 ≡ held_at v 0)
    zero_same = by (divides c.period s.clock) refl
      where
        by : (d : Bool) → divides c.period s.clock ≡ d → (count_at u 0 ≡ count_at v 0) × (held_at u 0 ≡ held_at v 0)
        by true e = let d = (divides_is c.period s.clock).0 e in ((a.fires d).0 ∙ sym (b.fires d).0, (a.fires d).1 ∙ sym (b.fires d).1)
        by false e = let n : Due c s → ⊥ = λ d. true≢false (sym ((divides_is c.period s.clock).1 d) ∙ e) in ((a.rests n).0 ∙ sym (b.rests n).0, (a.rests n).1 ∙ sym (b.rests n).1)

    count : (m : ℕ) → count_at u m ≡ count_at v m
    count zero = zero_same.0
    count (suc m) = a.counts (suc m) (λ e. omega arith) ∙ sym (b.counts (suc m) (λ e. omega arith))

    hold : (j : ℕ) → held_at u j ≡ held_at v j
    hold zero = zero_same.1
    hold (suc j) = a.held (suc j) (λ e. omega arith) ∙ sym (b.held (suc j) (λ e. omega arith))
