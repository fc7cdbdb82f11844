-- Laws of specs/Runs.antt that rest on a definition which an edit of must-fail/ changes.
-- A recording run by instants and by ticks (02, Item 2).
--   rec_unclean_undated, _full, rec_full_undated
--                              no outcome that ends a recording run is clean, and a full list is not 13
--   rec_clean_or               an outcome is clean or not
--   rec_onward_elim            what holds of an outcome that ends a run, and of what follows a clean one, holds of one thing after the other
--   rec_onward_goes, _stops, _cases, _then
--                              what follows a clean state, that nothing follows any other outcome, that what goes on was clean, and three in a row
--   rec_ticks_none, _suc, _more, _last
--                              no tick, one more before the others, a+b of them, and one more after them
--   rec_instants_ticks         instants are the effect of a firing that is finished, and then ticks
--   rec_fresh_rests            at a fresh start none is
--   rec_run_is_ticks           so a run from a fresh start is so many ticks
use Rattle.std.specs.Prelude.{◌≡◌, ◌⊎◌, ℕ, suc, ◌+◌}
use Rattle.std.proofs.Math.Path.{refl, ap}
use Rattle.std.proofs.Common.{sym, ◌∙◌, inl, inr, arith}
use Rattle.chain.specs.declared.Chain.{Chain}
use Rattle.sizing.specs.Accepted.{Accepted}
use Rattle.state.specs.State.{fresh_run}
use Rattle.state.specs.declared.Run.{Run}
use Rattle.instants.specs.Follows.{Follows, Many, many_more, many_last, instants_many}
use Rattle.instants.proofs.FreshLaws.{fresh_rests}
use Rattle.instants.specs.declared.Ticked.{Ticked}
use Rattle.losses.specs.declared.Losses.{Losses}
use Rattle.recordings.specs.Steps.{rec_number_of, rec_clean, rec_goes, rec_onward, recorded, rec_advanced, rec_finished, rec_tick, rec_ticks, rec_instants}
use Rattle.recordings.specs.declared.RecordOutcome.{RecordOutcome}
use Rattle.recordings.specs.declared.RecordOutcome.TheVariants.{Clean, NoDeadline, ListFull}
use Rattle.recordings.specs.declared.Recorded.{Recorded}
use Rattle.recordings.specs.Runs.{rec_onward_then}

-- no outcome that ends a recording run is clean
pub rec_unclean_undated : {t i : ℕ} → NoDeadline t i ≡ Clean → ⊥
rec_unclean_undated e = let z : ◌≡◌ {A = ℕ} 13 0 = ap rec_number_of e in absurd (omega arith)

pub rec_unclean_full : {t q : ℕ} → ListFull t q ≡ Clean → ⊥
rec_unclean_full e = let z : ◌≡◌ {A = ℕ} 15 0 = ap rec_number_of e in absurd (omega arith)

-- and outcomes of two kinds differ
pub rec_full_undated : {t q a i : ℕ} → ListFull t q ≡ NoDeadline a i → ⊥
rec_full_undated e = let z : ◌≡◌ {A = ℕ} 15 13 = ap rec_number_of e in absurd (omega arith)

-- an outcome is clean, or it is not
pub rec_clean_or : (o : RecordOutcome) → (o ≡ Clean) ⊎ (o ≡ Clean → ⊥)
rec_clean_or Clean = inl refl
rec_clean_or (NoDeadline t i) = inr rec_unclean_undated
rec_clean_or (ListFull t q) = inr rec_unclean_full

-- one thing after the other: the first has ended the run, or the second follows
module _ (x : Recorded) (f : Run → Losses → Recorded) where
  pub rec_onward_elim : (P : Recorded → Type 0) → ((x.outcome ≡ Clean → ⊥) → P x) → (x.outcome ≡ Clean → P (f x.run x.losses)) → P (rec_onward x f)
  unfolding rec_onward rec_goes
  rec_onward_elim P ends goes = by x.outcome (λ n. ends n) goes
    where
      by : (o : RecordOutcome) → ((o ≡ Clean → ⊥) → P (record { outcome = o; run = x.run; losses = x.losses })) → (o ≡ Clean → P (f x.run x.losses)) → P (rec_goes o x.run x.losses f)
      by Clean a b = b refl
      by (NoDeadline t i) a b = a rec_unclean_undated
      by (ListFull t q) a b = a rec_unclean_full

  pub rec_onward_goes : x.outcome ≡ Clean → rec_onward x f ≡ f x.run x.losses
  rec_onward_goes h = rec_onward_elim (λ y. y ≡ f x.run x.losses) (λ n. absurd (n h)) (λ z. refl)

  pub rec_onward_stops : (x.outcome ≡ Clean → ⊥) → rec_onward x f ≡ x
  rec_onward_stops n = rec_onward_elim (λ y. y ≡ x) (λ m. refl) (λ z. absurd (n z))

  pub rec_onward_cases : (rec_onward x f).outcome ≡ Clean → (x.outcome ≡ Clean) × (((f x.run x.losses).outcome ≡ Clean) × (rec_onward x f ≡ f x.run x.losses))
  rec_onward_cases = rec_onward_elim (λ y. y.outcome ≡ Clean → (x.outcome ≡ Clean) × (((f x.run x.losses).outcome ≡ Clean) × (y ≡ f x.run x.losses)))
      (λ n e. absurd (n e))
      (λ z e. (z, (e, refl)))

-- of a state with its list
follows : Follows (λ (p : Run × Losses). rec_clean p.0 p.1) (λ r f. rec_onward r (λ s l. f (s, l)))
unfolding rec_onward rec_goes
follows = record { goes = λ p f. refl; none = none; then = λ r f g. rec_onward_then r (λ s l. f (s, l)) (λ s l. g (s, l)) }
  where
    none : (r : Recorded) → rec_onward r (λ s l. rec_clean s l) ≡ r
    none r = rec_onward_elim r (λ s l. rec_clean s l) (λ y. y ≡ r) (λ n. refl) (λ z i. record { outcome = sym z i; run = r.run; losses = r.losses })

module _ (c : Chain) where
  pub rec_ticks_none : (s : Run) (l : Losses) → rec_ticks c 0 s l ≡ rec_clean s l
  unfolding rec_ticks
  rec_ticks_none s l = refl

  pub rec_ticks_suc : (T : ℕ) (s : Run) (l : Losses) → rec_ticks c (suc T) s l ≡ rec_onward (rec_tick c s l) (rec_ticks c T)
  unfolding rec_ticks
  rec_ticks_suc T s l = refl

  many : Many (λ (p : Run × Losses). rec_clean p.0 p.1) (λ r f. rec_onward r (λ s l. f (s, l))) (λ p. rec_tick c p.0 p.1) (λ T p. rec_ticks c T p.0 p.1)
  many = record { none = λ p. rec_ticks_none p.0 p.1; more = λ T p. rec_ticks_suc T p.0 p.1 }

  -- a+b ticks are a ticks, carried on for b
  pub rec_ticks_more : (a b : ℕ) (s : Run) (l : Losses) → rec_ticks c (a + b) s l ≡ rec_onward (rec_ticks c a s l) (rec_ticks c b)
  rec_ticks_more a b s l = many_more follows many a b (s, l)

  -- so T+1 ticks are T ticks, carried on for one
  pub rec_ticks_last : (T : ℕ) (s : Run) (l : Losses) → rec_ticks c (suc T) s l ≡ rec_onward (rec_ticks c T s l) (rec_tick c)
  rec_ticks_last T s l = many_last follows many T (s, l)

  -- 01's instants are the effect of what is finished, and then tick after tick
  pub rec_instants_ticks : (T : ℕ) (s : Run) (l : Losses) → rec_instants c T s l ≡ rec_onward (rec_finished c s l) (rec_ticks c T)
  unfolding rec_instants rec_tick
  rec_instants_ticks T s l =
      instants_many follows many {work = λ p. rec_advanced c p.0 p.1} {effect = λ p. rec_finished c p.0 p.1} {at = λ T p. rec_instants c T p.0 p.1}
      (record { last = λ p. refl; more = λ T p. refl }) (λ p. refl) T (s, l)

module _ {c : Chain} (a : Accepted c) where
  -- no firing is finished at a fresh start
  pub rec_fresh_rests : (l : Losses) → rec_finished c (fresh_run c) l ≡ rec_clean (fresh_run c) l
  unfolding rec_finished recorded
  rec_fresh_rests l = ap (λ (x : Ticked). recorded c l x) (fresh_rests a)

  -- "a run of T ticks from a fresh start", by instants and by ticks
  pub rec_run_is_ticks : (T : ℕ) (l : Losses) → rec_instants c T (fresh_run c) l ≡ rec_ticks c T (fresh_run c) l
  unfolding rec_onward
  rec_run_is_ticks T l = rec_instants_ticks c T (fresh_run c) l ∙ ap (λ (r : Recorded). rec_onward r (rec_ticks c T)) (rec_fresh_rests l)
