-- Laws of specs/Resumed.antt that rest on a definition which an edit of must-fail/ changes.
-- A recording run as deadline runs that are joined by losses (02, Item 2): how it goes on from each outcome of the deadline run.
--   ticks_left, ticks_reach    ticks up to clock U leave such a y, and where they are clean clock U is reached
--   ticks_from_law             so a recording run is that which goes on from those ticks
--   from_more, from_clean      it goes on with the ticks that are left, and ends where none is
--   from_undated               it ends with 13
--   from_full                  it ends where the list is full
--   from_finish                it goes on from a finished firing that is lost
--   from_lacks, from_source    with the source's production lost, 13 takes it back; or the tick of work follows
use Rattle.std.specs.Prelude.{◌≡◌, Bool, eqb}
use Rattle.std.proofs.Math.Path.{refl, ap}
use Rattle.std.proofs.Common.{sym, subst, ◌∙◌, inl, inr, eq-eqb}
use Rattle.std.proofs.Math.Bool.{cond}
use Rattle.std.proofs.Math.Logic.{⊎_elim}
use Prim.Native.Nat.{ℕ, zero, suc, ◌+◌, ◌-◌, ◌≤◌, ◌<◌}
use native.Mathlib.Omega.{arith}
use Rattle.chain.specs.Refusals.{refused, Silent}
use Rattle.chain.specs.Record.{row_of}
use Rattle.chain.specs.Refusal.{Refusal}
use Rattle.chain.specs.declared.Chain.{Chain}
use Rattle.state.specs.declared.Run.{Run}
use Rattle.instants.specs.Steps.{clean, overflowed, sourced, lacking, chosen, worked, finished, begun, tick, ticks}
use Rattle.instants.specs.Filled.{Filled}
use Rattle.instants.specs.Runs.{unclean_overflow, unclean_undated, clean_or, onward_goes, onward_stops}
use Rattle.instants.proofs.RunsLaws.{ticks_none, ticks_suc}
use Rattle.instants.proofs.KeptLaws.{sourced_clean, begun_clean, tick_ends, tick_works, tick_step, chosen_low, chosen_over, finished_clock, worked_clock}
use Rattle.instants.specs.declared.Outcome.{Outcome}
use Rattle.instants.specs.declared.Outcome.TheVariants.{Clean, Overflowed, NoDeadline}
use Rattle.instants.specs.declared.Ticked.{Ticked}
use Rattle.losses.specs.Losses.{noted}
use Rattle.losses.specs.declared.Losses.{Losses}
use Rattle.recordings.specs.Steps.{rec_clean, rec_undated, rec_full, rec_onward, lost_firing, recorded, rec_sourced, rec_begun, rec_finished, rec_tick, rec_ticks}
use Rattle.recordings.proofs.RunsLaws.{rec_unclean_undated, rec_unclean_full, rec_onward_goes, rec_onward_stops, rec_ticks_none, rec_ticks_suc}
use Rattle.recordings.proofs.CasesLaws.{rec_tick_begun}
use Rattle.recordings.specs.Beside.{begun_spills, spilled, tick_spilled}
use Rattle.recordings.proofs.BesideLaws.{recorded_undated, recorded_lost, recorded_full, tick_beside, ticks_goes}
use Rattle.recordings.specs.Left.{Able, SourceLost, Left, left_with, finished_at, Midway}
use Rattle.recordings.proofs.LeftLaws.{left_clean, left_undated, left_source, step_midway, drop_lacking, drop_chosen, finish_left}
use Rattle.recordings.specs.declared.Recorded.{Recorded}
use Rattle.recordings.specs.Resumed.{rec_from_by, rec_from, u, m, follows}

-- a recording run goes on from what is left by a tick of work as that is recorded
from_recorded : (c : Chain) (U : ℕ) (l : Losses) (y : Ticked) (r : ℕ) → ((t : ℕ) → y.outcome ≡ Overflowed t 0 → ⊥) → r ≡ U - y.run.clock
    → rec_onward (recorded c l y) (rec_ticks c r) ≡ rec_from c U l y
unfolding rec_from rec_onward recorded
from_recorded c U l y r none e = by y.outcome none
  where
    by : (o : Outcome) → ((t : ℕ) → o ≡ Overflowed t 0 → ⊥) → rec_onward (recorded c l (record { outcome = o; run = y.run })) (rec_ticks c r) ≡ rec_from_by c U l y.run o
    by Clean h = ap (λ (n : ℕ). rec_ticks c n y.run l) e
    by (Overflowed t zero) h = absurd (h t refl)
    by (Overflowed t (suc j)) h = ap (λ (n : ℕ). rec_onward (recorded c l (overflowed y.run t (suc j))) (rec_ticks c n)) e
    by (NoDeadline t i) h = refl

-- a tick of the deadline run, and how a recording run goes on from it
module _ {c : Chain} {U : ℕ} {s : Run} (a : Able c U s) (early : s.clock < U) where
  -- where the source's production does not fit
  module _ (n : (sourced c s).outcome ≡ Clean → ⊥) where
    source_left : Left c U (tick c s)
    source_left = subst (Left c U) (sym (tick_spilled c s n)) (left_source (record { able = a; clock = refl; early = early; spills = spilled c s n }))

    source_from : (l : Losses) → rec_from c U l (tick c s) ≡ rec_onward (rec_tick c s l) (rec_ticks c (U - suc s.clock))
    unfolding rec_from
    source_from l = ap (λ (y : Ticked). rec_from c U l y) (tick_spilled c s n)

  -- where it does, or the source does not fire
  module _ (z : (sourced c s).outcome ≡ Clean) where
    midway : Midway c U (sourced c s).run
    midway = step_midway a early (sourced_clean a.filled z)

    -- the tick of work follows
    module _ (b : (begun c s).outcome ≡ Clean) where
      works : tick c s ≡ finished c (worked (sourced c s).run (chosen c (sourced c s).run))
      works = tick_works c s b ∙ ap (λ (x : Ticked). finished c (worked x.run (chosen c x.run))) (begun_clean c s b).1.1

      goes_left : Left c U (tick c s)
      goes_left = let u : Run = (sourced c s).run in subst (Left c U) (sym works) (finish_left midway (chosen c u) (chosen_low c u) (chosen_over c u))

      goes_from : (l : Losses) → rec_onward (rec_tick c s l) (rec_ticks c (U - suc s.clock)) ≡ rec_from c U l (tick c s)
      goes_from l =
          let u : Run = (sourced c s).run in
          ap (λ (x : Recorded). rec_onward x (rec_ticks c (U - suc s.clock))) (tick_beside c s l (inl z))
          ∙ from_recorded c U l (tick c s) (U - suc s.clock) (λ t e. finished_at c _ t (ap (λ (x : Ticked). x.outcome) (sym works) ∙ e))
          (omega (arith, ap (λ (x : Ticked). x.run.clock) works, finished_clock c (worked u (chosen c u)), worked_clock u (chosen c u), (sourced_clean a.filled z).clock))

    -- or 13 ends it
    module _ (t i : ℕ) (e : (tick c s).outcome ≡ NoDeadline t i) where
      lacks_left : Left c U (tick c s)
      lacks_left = subst (Left c U) (sym (left_with (tick c s) e)) left_undated

      lacks_from : (l : Losses) → rec_onward (rec_tick c s l) (rec_ticks c (U - suc s.clock)) ≡ rec_from c U l (tick c s)
      unfolding rec_from
      lacks_from l =
          ap (λ (x : Recorded). rec_onward x (rec_ticks c (U - suc s.clock))) (tick_beside c s l (inl z) ∙ recorded_undated c l (tick c s) t i e)
          ∙ rec_onward_stops (rec_undated (tick c s).run l t i) (rec_ticks c (U - suc s.clock)) rec_unclean_undated
          ∙ ap (λ (y : Ticked). rec_from c U l y) (sym (left_with (tick c s) e))

    -- which is all that can be
    begun_or : (P : Type 0) → ((begun c s).outcome ≡ Clean → P) → ((t i : ℕ) → (tick c s).outcome ≡ NoDeadline t i → P) → P
    begun_or P goes lacks = by (begun c s).outcome refl
      where
        by : (o : Outcome) → (begun c s).outcome ≡ o → P
        by Clean e = goes e
        by (NoDeadline t i) e = lacks t i (ap (λ (x : Ticked). x.outcome) (tick_ends c s (λ h. unclean_undated (sym e ∙ h))) ∙ e)
        by (Overflowed t q) e = absurd (begun_spills c s e z)

  tick_left : Left c U (tick c s)
  tick_left = ⊎_elim (λ z. begun_or z (Left c U (tick c s)) (goes_left z) (lacks_left z)) source_left (clean_or (sourced c s).outcome)

  tick_from : (l : Losses) → rec_onward (rec_tick c s l) (rec_ticks c (U - suc s.clock)) ≡ rec_from c U l (tick c s)
  tick_from l = ⊎_elim
      (λ z. begun_or z (rec_onward (rec_tick c s l) (rec_ticks c (U - suc s.clock)) ≡ rec_from c U l (tick c s)) (λ b. goes_from z b l) (λ t i e. lacks_from z t i e l))
      (λ n. sym (source_from n l))
      (clean_or (sourced c s).outcome)

  -- a clean one leaves a state of which ticks can be made
  able_next : (tick c s).outcome ≡ Clean → Able c U (tick c s).run
  able_next z = let k = tick_step a.filled z in record {
    filled = k.filled;
    clock = omega (arith, k.clock);
    counts = λ i l. omega (arith, k.clock, k.counts i l, a.counts i l);
  }

-- so many ticks, up to clock U
module _ {c : Chain} {U : ℕ} where
  pub ticks_left : (T : ℕ) {s : Run} → Able c U s → s.clock + T ≡ U → Left c U (ticks c T s)
  ticks_left zero {s} a e = subst (Left c U) (sym (ticks_none c s)) (left_clean a)
  ticks_left (suc T) {s} a e = ⊎_elim
      (λ z. subst (Left c U) (sym (ticks_suc c T s ∙ onward_goes (tick c s) (ticks c T) z)) (ticks_left T (able_next a (omega arith) z) (omega (arith, (tick_step a.filled z).clock))))
      (λ n. subst (Left c U) (sym (ticks_suc c T s ∙ onward_stops (tick c s) (ticks c T) n)) (tick_left a (omega arith)))
      (clean_or (tick c s).outcome)

  -- and where they are clean, clock U is reached
  pub ticks_reach : (T : ℕ) {s : Run} → Filled c s → s.clock + T ≡ U → (ticks c T s).outcome ≡ Clean → (ticks c T s).run.clock ≡ U
  ticks_reach zero {s} f e z = ap (λ (x : Ticked). x.run.clock) (ticks_none c s) ∙ omega (arith, e)
  ticks_reach (suc T) {s} f e z = ⊎_elim
      (λ y.
      let on : ticks c (suc T) s ≡ ticks c T (tick c s).run = ticks_suc c T s ∙ onward_goes (tick c s) (ticks c T) y in
      let k = tick_step f y in
      ap (λ (x : Ticked). x.run.clock) on ∙ ticks_reach T k.filled (omega (arith, k.clock)) (ap (λ (x : Ticked). x.outcome) (sym on) ∙ z))
      (λ n. absurd (n (ap (λ (x : Ticked). x.outcome) (sym (ticks_suc c T s ∙ onward_stops (tick c s) (ticks c T) n)) ∙ z)))
      (clean_or (tick c s).outcome)

  pub ticks_from_law : (T : ℕ) {s : Run} → Able c U s → s.clock + T ≡ U → (l : Losses) → rec_ticks c T s l ≡ rec_from c U l (ticks c T s)
  unfolding rec_from
  ticks_from_law zero {s} a e l = (let none : 0 ≡ U - s.clock = omega arith in ap (λ (n : ℕ). rec_ticks c n s l) none) ∙ ap (λ (y : Ticked). rec_from c U l y) (sym (ticks_none c s))
  ticks_from_law (suc T) {s} a e l = ⊎_elim
      (λ z.
      ticks_goes c T s l z
      ∙ ticks_from_law T (able_next a (omega arith) z) (omega (arith, (tick_step a.filled z).clock)) l
      ∙ ap (λ (y : Ticked). rec_from c U l y) (sym (ticks_suc c T s ∙ onward_goes (tick c s) (ticks c T) z)))
      (λ n.
      rec_ticks_suc c T s l
      ∙ (let rest : T ≡ U - suc s.clock = omega arith in ap (λ (r : ℕ). rec_onward (rec_tick c s l) (rec_ticks c r)) rest)
      ∙ tick_from a (omega arith) l
      ∙ ap (λ (y : Ticked). rec_from c U l y) (sym (ticks_suc c T s ∙ onward_stops (tick c s) (ticks c T) n)))
      (clean_or (tick c s).outcome)

-- where ticks are left
pub from_more : (c : Chain) (U : ℕ) (l : Losses) (y : Ticked) → y.outcome ≡ Clean → rec_from c U l y ≡ rec_ticks c (U - y.run.clock) y.run l
unfolding rec_from
from_more c U l y e = ap (λ (x : Ticked). rec_from c U l x) (left_with y e)

-- where it ends
module _ (c : Chain) (U : ℕ) (l : Losses) where
  pub from_clean : (y : Ticked) → y.outcome ≡ Clean → U ≤ y.run.clock → rec_from c U l y ≡ rec_clean y.run l
  from_clean y e late =
      let none : U - y.run.clock ≡ 0 = omega arith in
      from_more c U l y e ∙ ap (λ (n : ℕ). rec_ticks c n y.run l) none ∙ rec_ticks_none c y.run l

  pub from_undated : (y : Ticked) (t i : ℕ) → y.outcome ≡ NoDeadline t i → rec_from c U l y ≡ rec_undated y.run l t i
  unfolding rec_from
  from_undated y t i e = ap (λ (x : Ticked). rec_from c U l x) (left_with y e)

  -- at the source the whole tick ends so, and at a finish the loss
  full_source : {s : Run} {t : ℕ} → SourceLost c U t s → 256 ≤ l.count → rec_from c U l (overflowed s t 0) ≡ rec_full s l t 0
  unfolding rec_from
  full_source {s} {t} k full =
      let spills : (sourced c s).outcome ≡ Clean → ⊥ = λ z. unclean_overflow (ap (λ (x : Ticked). x.outcome) (sym k.spills) ∙ z) in
      let at : tick c s ≡ overflowed s t 0 = tick_spilled c s spills ∙ ap (λ (a : ℕ). overflowed s a 0) k.clock in
      ap (λ (x : Recorded). rec_onward x (rec_ticks c (U - suc s.clock))) (tick_beside c s l (inr full) ∙ ap (λ (x : Ticked). recorded c l x) at ∙ recorded_full c l (overflowed s t 0) full t 0 refl)
      ∙ rec_onward_stops (rec_full s l t 0) (rec_ticks c (U - suc s.clock)) rec_unclean_full

  full_finish : (s : Run) (t j : ℕ) → 256 ≤ l.count → rec_from c U l (overflowed s t (suc j)) ≡ rec_full s l t (suc j)
  unfolding rec_from
  full_finish s t j full =
      ap (λ (x : Recorded). rec_onward x (rec_ticks c (U - s.clock))) (recorded_full c l (overflowed s t (suc j)) full t (suc j) refl)
      ∙ rec_onward_stops (rec_full s l t (suc j)) (rec_ticks c (U - s.clock)) rec_unclean_full

  pub from_full : {y : Ticked} → Left c U y → 256 ≤ l.count → (t q : ℕ) → y.outcome ≡ Overflowed t q → rec_from c U l y ≡ rec_full y.run l t q
  from_full {y} k full t zero e = ap (λ (x : Ticked). rec_from c U l x) (left_with y e) ∙ full_source (k.source t e) full
  from_full {y} k full t (suc j) e = ap (λ (x : Ticked). rec_from c U l x) (left_with y e) ∙ full_finish y.run t j full

-- where it goes on with an entry more
module _ (c : Chain) (U : ℕ) (l : Losses) (room : l.count < 256) where
  pub from_finish : (y : Ticked) (t j : ℕ) → y.outcome ≡ Overflowed t (suc j)
      → rec_from c U l y ≡ rec_from c U (noted l t (suc j) (row_of c (suc j)).produce) (clean (lost_firing c y.run (suc j)))
  unfolding rec_from lost_firing
  from_finish y t j e =
      ap (λ (x : Ticked). rec_from c U l x) (left_with y e)
      ∙ ap (λ (x : Recorded). rec_onward x (rec_ticks c (U - y.run.clock))) (recorded_lost c l (overflowed y.run t (suc j)) room t (suc j) refl)
      ∙ rec_onward_goes (rec_clean (lost_firing c y.run (suc j)) (noted l t (suc j) (row_of c (suc j)).produce)) (rec_ticks c (U - y.run.clock)) refl

  module _ {s : Run} {t : ℕ} (k : SourceLost c U t s) where
    -- the source's step, and then 13, which does not look at the source
    begins : rec_begun c s l ≡ cond (eqb (lacking c s).number 0) (rec_clean (u c U l room k) (m c U l room k)) (rec_undated s l t (lacking c s).place)
    unfolding rec_begun rec_sourced lost_firing
    begins =
        ap (λ (x : Recorded). rec_onward x after) (ap (λ (x : Ticked). recorded c l x) k.spills ∙ recorded_lost c l (overflowed s t 0) room t 0 refl)
        ∙ rec_onward_goes (rec_clean (u c U l room k) (m c U l room k)) after refl
        ∙ (λ i. cond (eqb (drop_lacking c s i).number 0) (rec_clean (u c U l room k) (m c U l room k)) (rec_undated s l (k.clock i) (drop_lacking c s i).place))
      where
        after : Run → Losses → Recorded
        after v o = cond (eqb (lacking c v).number 0) (rec_clean v o) (rec_undated s l s.clock (lacking c v).place)

    ticked : rec_tick c s l ≡ rec_onward (cond (eqb (lacking c s).number 0) (rec_clean (u c U l room k) (m c U l room k)) (rec_undated s l t (lacking c s).place)) (follows c U l room k)
    ticked = rec_tick_begun c s l ∙ ap (λ (x : Recorded). rec_onward x (follows c U l room k)) begins

    pub from_lacks : (i : ℕ) → lacking c s ≡ refused 13 i → rec_from c U l (overflowed s t 0) ≡ rec_undated s l t i
    unfolding rec_from
    from_lacks i e =
        ap (λ (x : Recorded). rec_onward x (rec_ticks c (U - suc s.clock)))
        (ticked ∙ ap (λ (x : Refusal). rec_onward (cond (eqb x.number 0) (rec_clean (u c U l room k) (m c U l room k)) (rec_undated s l t x.place)) (follows c U l room k)) e
        ∙ rec_onward_stops (rec_undated s l t i) (follows c U l room k) rec_unclean_undated)
        ∙ rec_onward_stops (rec_undated s l t i) (rec_ticks c (U - suc s.clock)) rec_unclean_undated

    pub from_source : Silent (lacking c s) → rec_from c U l (overflowed s t 0) ≡ rec_from c U (m c U l room k) (finished c (worked (u c U l room k) (chosen c s)))
    unfolding rec_from rec_finished
    from_source z =
        ap (λ (x : Recorded). rec_onward x (rec_ticks c (U - suc s.clock))) (ticked ∙ goes)
        ∙ from_recorded c U (m c U l room k) (finished c (worked (u c U l room k) (chosen c s))) (U - suc s.clock) (finished_at c (worked (u c U l room k) (chosen c s)))
        (omega (arith, finished_clock c (worked (u c U l room k) (chosen c s)), worked_clock (u c U l room k) (chosen c s)))
      where
        goes : rec_onward (cond (eqb (lacking c s).number 0) (rec_clean (u c U l room k) (m c U l room k)) (rec_undated s l t (lacking c s).place)) (follows c U l room k)
            ≡ recorded c (m c U l room k) (finished c (worked (u c U l room k) (chosen c s)))
        goes =
            ap (λ (b : Bool). rec_onward (cond b (rec_clean (u c U l room k) (m c U l room k)) (rec_undated s l t (lacking c s).place)) (follows c U l room k)) (eq-eqb _ _ z)
            ∙ rec_onward_goes (rec_clean (u c U l room k) (m c U l room k)) (follows c U l room k) refl ∙ ap (λ (i : ℕ). recorded c (m c U l room k) (finished c (worked (u c U l room k) i))) (drop_chosen c s)
