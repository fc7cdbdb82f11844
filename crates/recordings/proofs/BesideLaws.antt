-- Laws of specs/Beside.antt that rest on a definition which an edit of must-fail/ changes.
-- A recording run beside the deadline run (02, Item 2), of any accepted chain, its capacities at or above the minimum or below.
--   recorded_clean, _undated, _lost, _full
--                              what a step of the deadline run is in a recording run: the same where it is clean or 13, a loss or 15 where it overflows
--   tick_beside                where the source's production is not dropped, a recording tick is the deadline tick with its effect recorded
--   ticks_beside, ticks_goes   so many ticks, up to an overflow for which the list has room; past a clean one
--   beside_clean, _undated     so as long as nothing overflows a recording run is the deadline run
--   beside_full                and with a full list it ends where that would overflow, with the state that the overflow leaves
--   instants_clean, _undated, _full
--                              the same of a run by instants
--   finish_lost                a firing that was finished before and does not fit is dropped and noted
--   first_loss                 where the deadline run would overflow at t and queue q, and the list has room, it is one of these
--   nothing_lost, nothing_lost_clean
--                              a recording run that has lost nothing is the deadline run, or it is so; one that is clean is it
use Rattle.std.specs.Prelude.{◌≡◌, ◌⊎◌, Bool, eqb}
use Rattle.std.proofs.Math.Path.{refl, ap}
use Rattle.std.proofs.Common.{sym, subst, ◌∙◌, arith, le-ltb}
use Rattle.std.proofs.Math.Logic.{inl, inr, ⊎_elim, by_cases}
use Rattle.std.proofs.Math.Bool.{true, false, cond}
use Prim.Native.Nat.{ℕ, zero, suc, ◌≤◌, ◌<◌}
use Rattle.std.proofs.Math.Decide.{dec_lt}
use Rattle.chain.specs.Record.{row_of}
use Rattle.chain.specs.declared.Chain.{Chain}
use Rattle.state.specs.declared.Run.{Run}
use Rattle.instants.specs.Steps.{clean, overflowed, with_done, undated, onward, sourced, lacking, begun, chosen, worked, finished, tick, ticks, instants}
use Rattle.instants.specs.Steps.{tick_of, at_of}
use Rattle.instants.specs.Runs.{unclean_overflow, overflow_undated, clean_or, onward_goes, onward_stops}
use Rattle.instants.proofs.RunsLaws.{ticks_none, ticks_suc, instants_ticks}
use Rattle.instants.proofs.KeptLaws.{chosen_low, chosen_over, tick_begun, tick_step}
use Rattle.instants.specs.Filled.{Filled}
use Rattle.instants.specs.declared.Outcome.{Outcome}
use Rattle.instants.specs.declared.Outcome.TheVariants as plain
use Rattle.instants.specs.declared.Ticked.{Ticked}
use Rattle.traces.specs.Trace.{source_entry}
use Rattle.losses.specs.Losses.{noted, Listed}
use Rattle.losses.specs.declared.Losses.{Losses}
use Rattle.recordings.specs.Steps.{rec_clean, rec_undated, rec_full, rec_onward, dropped, lost_firing, recorded, rec_sourced, rec_begun, rec_finished, rec_tick, rec_ticks, rec_instants}
use Rattle.recordings.proofs.RunsLaws.{rec_instants_ticks, rec_clean_or, rec_unclean_undated, rec_unclean_full, rec_onward_elim, rec_onward_goes, rec_onward_stops, rec_ticks_none, rec_ticks_suc}
use Rattle.recordings.proofs.CasesLaws.{loss_cases, rec_begun_cases, rec_tick_begun, rec_tick_ends, rec_tick_works}
use Rattle.recordings.specs.Kept.{Led}
use Rattle.recordings.proofs.KeptLaws.{clean_room, begun_leads, work_leads, tick_leads, ticks_lead}
use Rattle.recordings.specs.Trace.{marked, rec_tracing}
use Rattle.recordings.specs.declared.RecordOutcome.TheVariants.{Clean}
use Rattle.recordings.specs.declared.Recorded.{Recorded}
use Rattle.recordings.specs.Beside.{begun_spills, spilled, tick_spilled, TakenBack, NextLoss, next_goes, next_noted, TakenBackThen}

-- a step of the deadline run in a recording run
module _ (c : Chain) (l : Losses) (x : Ticked) where
  pub recorded_clean : x.outcome ≡ plain.Clean → recorded c l x ≡ rec_clean x.run l
  unfolding recorded
  recorded_clean e = ap (λ (o : Outcome). recorded c l (record { outcome = o; run = x.run })) e

  pub recorded_undated : (t i : ℕ) → x.outcome ≡ plain.NoDeadline t i → recorded c l x ≡ rec_undated x.run l t i
  unfolding recorded
  recorded_undated t i e = ap (λ (o : Outcome). recorded c l (record { outcome = o; run = x.run })) e

  pub recorded_lost : l.count < 256 → (t q : ℕ) → x.outcome ≡ plain.Overflowed t q → recorded c l x ≡ rec_clean (lost_firing c x.run q) (noted l t q (row_of c q).produce)
  unfolding recorded
  recorded_lost room t q e =
      ap (λ (o : Outcome). recorded c l (record { outcome = o; run = x.run })) e
      ∙ loss_cases c l x.run t q (λ y. y ≡ rec_clean (lost_firing c x.run q) (noted l t q (row_of c q).produce)) (λ h. refl) (λ full. absurd (omega arith))

  pub recorded_full : 256 ≤ l.count → (t q : ℕ) → x.outcome ≡ plain.Overflowed t q → recorded c l x ≡ rec_full x.run l t q
  unfolding recorded
  recorded_full full t q e =
      ap (λ (o : Outcome). recorded c l (record { outcome = o; run = x.run })) e
      ∙ loss_cases c l x.run t q (λ y. y ≡ rec_full x.run l t q) (λ room. absurd (omega arith)) (λ h. refl)

-- one thing after the other: what follows in a recording run is what follows in the deadline run, unless a production is dropped before
recorded_onward : (c : Chain) (l : Losses) (x : Ticked) (f : Run → Ticked) (g : Run → Losses → Recorded) → ((t q : ℕ) → x.outcome ≡ plain.Overflowed t q → 256 ≤ l.count)
    → (x.outcome ≡ plain.Clean → g x.run l ≡ recorded c l (f x.run)) → rec_onward (recorded c l x) g ≡ recorded c l (onward x f)
unfolding rec_onward recorded onward
recorded_onward c l x f g full same = by x.outcome full same
  where
    by : (o : Outcome) → ((t q : ℕ) → o ≡ plain.Overflowed t q → 256 ≤ l.count) → (o ≡ plain.Clean → g x.run l ≡ recorded c l (f x.run))
        → rec_onward (recorded c l (record { outcome = o; run = x.run })) g ≡ recorded c l (onward (record { outcome = o; run = x.run }) f)
    by plain.Clean h next = next refl
    by (plain.NoDeadline t i) h next = refl
    by (plain.Overflowed t q) h next = simp (le-ltb l.count 256 (h t q refl))

module _ (c : Chain) (s : Run) (l : Losses) where
  -- the source's step and 13
  begun_beside : ((sourced c s).outcome ≡ plain.Clean) ⊎ (256 ≤ l.count) → rec_begun c s l ≡ recorded c l (begun c s)
  unfolding rec_begun begun rec_sourced recorded
  begun_beside h = recorded_onward c l (sourced c s) _ _
      (λ t q e. ⊎_elim (λ z. absurd (unclean_overflow (sym e ∙ z))) (λ m. m) h)
      (λ z. by (sourced c s).run (eqb (lacking c (sourced c s).run).number 0))
    where
      by : (u : Run) (b : Bool)
          → cond b (rec_clean u l) (rec_undated s l s.clock (lacking c u).place) ≡ recorded c l (cond b (clean u) (undated s s.clock (lacking c u).place))
      by u true = refl
      by u false = refl

  -- where the source's production is not dropped, a recording tick is the deadline tick with its effect recorded
  pub tick_beside : ((sourced c s).outcome ≡ plain.Clean) ⊎ (256 ≤ l.count) → rec_tick c s l ≡ recorded c l (tick c s)
  unfolding rec_finished recorded
  tick_beside h =
      rec_tick_begun c s l
      ∙ ap (λ (x : Recorded). rec_onward x (λ u m. rec_finished c (worked u (chosen c u)) m)) (begun_beside h)
      ∙ recorded_onward c l (begun c s) (λ u. finished c (worked u (chosen c u))) _ (λ t q e. ⊎_elim (λ z. absurd (begun_spills c s e z)) (λ m. m) h) (λ z. refl)
      ∙ ap (λ (x : Ticked). recorded c l x) (sym (tick_begun c s))

-- as long as nothing overflows, a recording run is the deadline run, tick for tick; and with a full list it ends where that would overflow
module _ (c : Chain) where
  -- a tick that does not end with the source's overflow
  sourced_fine : (s : Run) (l : Losses) → ((t q : ℕ) → (tick c s).outcome ≡ plain.Overflowed t q → 256 ≤ l.count) → ((sourced c s).outcome ≡ plain.Clean) ⊎ (256 ≤ l.count)
  sourced_fine s l full = ⊎_elim inl (λ n. inr (full s.clock 0 (ap (λ (x : Ticked). x.outcome) (tick_spilled c s n)))) (clean_or (sourced c s).outcome)

  -- so many ticks, up to an overflow for which the list has room
  pub ticks_beside : (T : ℕ) (s : Run) (l : Losses) → ((t q : ℕ) → (ticks c T s).outcome ≡ plain.Overflowed t q → 256 ≤ l.count) → rec_ticks c T s l ≡ recorded c l (ticks c T s)
  unfolding recorded
  ticks_beside zero s l full = rec_ticks_none c s l ∙ ap (λ (x : Ticked). recorded c l x) (sym (ticks_none c s))
  ticks_beside (suc T) s l full =
      rec_ticks_suc c T s l
      ∙ ap (λ (x : Recorded). rec_onward x (rec_ticks c T)) (tick_beside c s l (sourced_fine s l ends))
      ∙ recorded_onward c l (tick c s) (ticks c T) (rec_ticks c T) ends (λ z. ticks_beside T (tick c s).run l (λ t q e. full t q (goes z ∙ e)))
      ∙ ap (λ (x : Ticked). recorded c l x) (sym (ticks_suc c T s))
    where
      goes : (tick c s).outcome ≡ plain.Clean → (ticks c (suc T) s).outcome ≡ (ticks c T (tick c s).run).outcome
      goes z = ap (λ (x : Ticked). x.outcome) (ticks_suc c T s ∙ onward_goes (tick c s) (ticks c T) z)

      ends : (t q : ℕ) → (tick c s).outcome ≡ plain.Overflowed t q → 256 ≤ l.count
      ends t q e = full t q (ap (λ (x : Ticked). x.outcome) (ticks_suc c T s ∙ onward_stops (tick c s) (ticks c T) (λ z. unclean_overflow (sym e ∙ z))) ∙ e)

  -- a clean tick of the deadline run is one of the recording run, too
  pub ticks_goes : (T : ℕ) (s : Run) (l : Losses) → (tick c s).outcome ≡ plain.Clean → rec_ticks c (suc T) s l ≡ rec_ticks c T (tick c s).run l
  ticks_goes T s l z =
      let is : rec_tick c s l ≡ rec_clean (tick c s).run l = tick_beside c s l (sourced_fine s l (λ a p h. absurd (unclean_overflow (sym h ∙ z)))) ∙ recorded_clean c l (tick c s) z in
      rec_ticks_suc c T s l ∙ ap (λ (x : Recorded). rec_onward x (rec_ticks c T)) is ∙ rec_onward_goes (rec_clean (tick c s).run l) (rec_ticks c T) refl

  -- so where they are clean, end with 13, or overflow and the list is full
  pub beside_clean : (T : ℕ) (s : Run) (l : Losses) → (ticks c T s).outcome ≡ plain.Clean → rec_ticks c T s l ≡ rec_clean (ticks c T s).run l
  beside_clean T s l z = ticks_beside T s l (λ t q e. absurd (unclean_overflow (sym e ∙ z))) ∙ recorded_clean c l (ticks c T s) z

  pub beside_undated : (T : ℕ) (s : Run) (l : Losses) (t i : ℕ) → (ticks c T s).outcome ≡ plain.NoDeadline t i → rec_ticks c T s l ≡ rec_undated (ticks c T s).run l t i
  beside_undated T s l t i z = ticks_beside T s l (λ a q e. absurd (overflow_undated (sym e ∙ z))) ∙ recorded_undated c l (ticks c T s) t i z

  pub beside_full : (T : ℕ) (s : Run) (l : Losses) → 256 ≤ l.count → (t q : ℕ) → (ticks c T s).outcome ≡ plain.Overflowed t q → rec_ticks c T s l ≡ rec_full (ticks c T s).run l t q
  beside_full T s l full t q e = ticks_beside T s l (λ a b f. full) ∙ recorded_full c l (ticks c T s) full t q e

-- a run by instants, from any state: also where a firing is finished at its start
module _ (c : Chain) (T : ℕ) (s : Run) (l : Losses) where
  instants_beside : ((t q : ℕ) → (instants c T s).outcome ≡ plain.Overflowed t q → 256 ≤ l.count) → rec_instants c T s l ≡ recorded c l (instants c T s)
  unfolding rec_finished
  instants_beside full =
      rec_instants_ticks c T s l
      ∙ recorded_onward c l (finished c s) (ticks c T) (rec_ticks c T) ends (λ z. ticks_beside c T (finished c s).run l (λ t q e. full t q (goes z ∙ e)))
      ∙ ap (λ (x : Ticked). recorded c l x) (sym (instants_ticks c T s))
    where
      goes : (finished c s).outcome ≡ plain.Clean → (instants c T s).outcome ≡ (ticks c T (finished c s).run).outcome
      goes z = ap (λ (x : Ticked). x.outcome) (instants_ticks c T s ∙ onward_goes (finished c s) (ticks c T) z)

      ends : (t q : ℕ) → (finished c s).outcome ≡ plain.Overflowed t q → 256 ≤ l.count
      ends t q e = full t q (ap (λ (x : Ticked). x.outcome) (instants_ticks c T s ∙ onward_stops (finished c s) (ticks c T) (λ z. unclean_overflow (sym e ∙ z))) ∙ e)

  pub instants_clean : (instants c T s).outcome ≡ plain.Clean → rec_instants c T s l ≡ rec_clean (instants c T s).run l
  instants_clean z = instants_beside (λ t q e. absurd (unclean_overflow (sym e ∙ z))) ∙ recorded_clean c l (instants c T s) z

  pub instants_undated : (t i : ℕ) → (instants c T s).outcome ≡ plain.NoDeadline t i → rec_instants c T s l ≡ rec_undated (instants c T s).run l t i
  instants_undated t i z = instants_beside (λ a q e. absurd (overflow_undated (sym e ∙ z))) ∙ recorded_undated c l (instants c T s) t i z

  pub instants_full : 256 ≤ l.count → (t q : ℕ) → (instants c T s).outcome ≡ plain.Overflowed t q → rec_instants c T s l ≡ rec_full (instants c T s).run l t q
  instants_full full t q e = instants_beside (λ a b f. full) ∙ recorded_full c l (instants c T s) full t q e

-- a firing that was finished before and does not fit is dropped and noted, too, its work cleared
pub finish_lost : (c : Chain) (s : Run) (l : Losses) → l.count < 256 → (t j : ℕ) → (finished c s).outcome ≡ plain.Overflowed t (suc j)
    → rec_finished c s l ≡ rec_clean (dropped c (with_done (finished c s).run j 0) (suc j)) (noted l t (suc j) (row_of c (suc j)).produce)
unfolding rec_finished lost_firing
finish_lost c s l room t j e = recorded_lost c l (finished c s) room t (suc j) e

module _ {c : Chain} {s : Run} (f : Filled c s) {l : Losses} (k : Listed l) (room : l.count < 256) where
  -- the source's production is dropped: 13 takes it back, or it is the next entry
  source_drops : ((sourced c s).outcome ≡ plain.Clean → ⊥) → TakenBack l s.clock 0 s (rec_tick c s l) ⊎ NextLoss c l s.clock 0 (rec_tick c s l)
  unfolding rec_sourced
  source_drops n = ⊎_elim
      (λ z.
      let on = work_leads (b.filled (clean_room z)) b.leads.listed (chosen c u) (chosen_low c u) (chosen_over c u) in
      inr (subst (NextLoss c l s.clock 0) (sym (rec_tick_works c s l z)) (next_goes (noted_after z) on.leads.extends)))
      (λ m. inl (subst (TakenBack l s.clock 0 s) (sym (rec_tick_ends c s l m)) (taken m)))
      (rec_clean_or (rec_begun c s l).outcome)
    where
      u : Run
      u = (rec_begun c s l).run

      b : Led c s l (rec_tracing (rec_begun c s l).outcome (marked c s (source_entry c s))) (rec_begun c s l)
      b = begun_leads f k

      drops : rec_sourced c s l ≡ rec_clean (lost_firing c s 0) (noted l s.clock 0 (row_of c 0).produce)
      drops = ap (λ (x : Ticked). recorded c l x) (spilled c s n) ∙ recorded_lost c l (overflowed s s.clock 0) room s.clock 0 refl

      noted_after : (rec_begun c s l).outcome ≡ Clean → NextLoss c l s.clock 0 (rec_begun c s l)
      noted_after = rec_begun_cases c s l (λ x. x.outcome ≡ Clean → NextLoss c l s.clock 0 x)
          (λ m z. absurd (m z))
          (λ z m y. absurd (rec_unclean_undated y))
          (λ z m y. subst (λ (x : Recorded). NextLoss c l s.clock 0 (rec_clean x.run x.losses)) (sym drops) (next_noted k room s.clock 0 (lost_firing c s 0)))

      taken : ((rec_begun c s l).outcome ≡ Clean → ⊥) → TakenBack l s.clock 0 s (rec_begun c s l)
      taken = rec_begun_cases c s l (λ x. (x.outcome ≡ Clean → ⊥) → TakenBack l s.clock 0 s x)
          (λ m y. absurd (m (ap (λ (x : Recorded). x.outcome) drops)))
          (λ z m y. record { node = _; source = refl; is = refl })
          (λ z m y. absurd (y refl))

  -- one tick that overflows as a deadline tick
  tick_loses : (t q : ℕ) → (tick c s).outcome ≡ plain.Overflowed t q → TakenBack l t q (tick c s).run (rec_tick c s l) ⊎ NextLoss c l t q (rec_tick c s l)
  tick_loses t q e = ⊎_elim
      (λ z. inr (subst (NextLoss c l t q) (sym (tick_beside c s l (inl z) ∙ recorded_lost c l (tick c s) room t q e)) (next_noted k room t q (lost_firing c (tick c s).run q))))
      (λ n.
      let is = tick_spilled c s n in
      let at : (s.clock ≡ t) × (0 ≡ q) = let o = ap (λ (x : Ticked). x.outcome) (sym is) ∙ e in (ap tick_of o, ap at_of o) in
      subst (λ (a : ℕ). TakenBack l a q (tick c s).run (rec_tick c s l) ⊎ NextLoss c l a q (rec_tick c s l)) at.0
      (subst (λ (a : ℕ). TakenBack l s.clock a (tick c s).run (rec_tick c s l) ⊎ NextLoss c l s.clock a (rec_tick c s l)) at.1
      (subst (λ (x : Ticked). TakenBack l s.clock 0 x.run (rec_tick c s l) ⊎ NextLoss c l s.clock 0 (rec_tick c s l)) (sym is) (source_drops n))))
      (clean_or (sourced c s).outcome)

  -- what is noted in a tick is there after any more
  next_stays : (T t q : ℕ) → NextLoss c l t q (rec_tick c s l) → NextLoss c l t q (rec_ticks c (suc T) s l)
  next_stays T t q a = subst (NextLoss c l t q) (sym (rec_ticks_suc c T s l)) (rec_onward_elim (rec_tick c s l) (rec_ticks c T) (NextLoss c l t q)
      (λ n. a)
      (λ z. let d = tick_leads f k in next_goes a (ticks_lead T (d.filled (clean_room z)) d.leads.listed).leads.extends))

-- "where that would overflow at (t, q) and the list has room, the next entry is (t, q, p of q), unless 13 comes at t and takes a source's loss back"
pub first_loss : {c : Chain} (T : ℕ) {s : Run} → Filled c s → {l : Losses} → Listed l → l.count < 256 → (t q : ℕ) → (ticks c T s).outcome ≡ plain.Overflowed t q
    → TakenBack l t q (ticks c T s).run (rec_ticks c T s l) ⊎ NextLoss c l t q (rec_ticks c T s l)
first_loss {c} zero {s} f k room t q e = absurd (unclean_overflow (sym e ∙ ap (λ (x : Ticked). x.outcome) (ticks_none c s)))
first_loss {c} (suc T) {s} f {l} k room t q e = ⊎_elim
    (λ z. rw (goes z, ticks_goes c T s l z) (first_loss T (tick_step f z).filled k room t q (ap (λ (x : Ticked). x.outcome) (sym (goes z)) ∙ e)))
    (λ n. rw (stops n) (⊎_elim
    (λ a.
    let ends = ap (λ (x : Recorded). rec_onward x (rec_ticks c T)) a.is ∙ rec_onward_stops _ (rec_ticks c T) rec_unclean_undated in
    inl (record { node = a.node; source = a.source; is = rec_ticks_suc c T s l ∙ ends }))
    (λ a. inr (next_stays f k room T t q a))
    (tick_loses f k room t q (ap (λ (x : Ticked). x.outcome) (sym (stops n)) ∙ e))))
    (clean_or (tick c s).outcome)
  where
    goes : (tick c s).outcome ≡ plain.Clean → ticks c (suc T) s ≡ ticks c T (tick c s).run
    goes z = ticks_suc c T s ∙ onward_goes (tick c s) (ticks c T) z

    stops : ((tick c s).outcome ≡ plain.Clean → ⊥) → ticks c (suc T) s ≡ tick c s
    stops n = ticks_suc c T s ∙ onward_stops (tick c s) (ticks c T) n

-- "as long as nothing is lost it is the deadline run's definition", whatever the outcome, but for a loss that 13 has taken back
module _ {c : Chain} (T : ℕ) {s : Run} (f : Filled c s) {l : Losses} (k : Listed l) where
  pub nothing_lost : (rec_ticks c T s l).losses.count ≡ l.count → (rec_ticks c T s l ≡ recorded c l (ticks c T s)) ⊎ TakenBackThen c T s l
  nothing_lost same = by (ticks c T s).outcome refl
    where
      by : (o : Outcome) → (ticks c T s).outcome ≡ o → (rec_ticks c T s l ≡ recorded c l (ticks c T s)) ⊎ TakenBackThen c T s l
      by plain.Clean e = inl (ticks_beside c T s l (λ t q z. absurd (unclean_overflow (sym z ∙ e))))
      by (plain.NoDeadline t i) e = inl (ticks_beside c T s l (λ a q z. absurd (overflow_undated (sym z ∙ e))))
      by (plain.Overflowed t q) e = by_cases (dec_lt l.count 256)
          (λ room. ⊎_elim (λ a. inr (record { tick = t; queue = q; overflows = e; taken = a })) (λ a. absurd (omega (arith, a.more, same))) (first_loss T f k room t q e))
          (λ full. inl (ticks_beside c T s l (λ a b z. omega arith)))

  -- so where it is clean the deadline run is, too, and leaves the same state
  pub nothing_lost_clean : (rec_ticks c T s l).outcome ≡ Clean → (rec_ticks c T s l).losses.count ≡ l.count → ticks c T s ≡ clean (rec_ticks c T s l).run
  nothing_lost_clean z same = ⊎_elim (λ e. by (ticks c T s).outcome refl e) (λ a. absurd (rec_unclean_undated (ap (λ (x : Recorded). x.outcome) (sym a.taken.is) ∙ z))) (nothing_lost same)
    where
      by : (o : Outcome) → (ticks c T s).outcome ≡ o → rec_ticks c T s l ≡ recorded c l (ticks c T s) → ticks c T s ≡ clean (rec_ticks c T s l).run
      by plain.Clean e is = (λ i. record { outcome = e i; run = (ticks c T s).run }) ∙ ap (λ (x : Recorded). clean x.run) (sym (is ∙ recorded_clean c l (ticks c T s) e))
      by (plain.NoDeadline t i) e is = absurd (rec_unclean_undated (ap (λ (x : Recorded). x.outcome) (sym (is ∙ recorded_undated c l (ticks c T s) t i e)) ∙ z))
      by (plain.Overflowed t q) e is = absurd (by_cases (dec_lt l.count 256)
          (λ room. let n = ap (λ (x : Recorded). x.losses.count) (is ∙ recorded_lost c l (ticks c T s) room t q e) in omega (arith, n, same))
          (λ full. rec_unclean_full (ap (λ (x : Recorded). x.outcome) (sym (is ∙ recorded_full c l (ticks c T s) (omega arith) t q e)) ∙ z)))
