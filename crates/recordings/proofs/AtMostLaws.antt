-- Laws of specs/AtMost.antt that rest on a definition which an edit of must-fail/ changes.
-- How many losses one recording tick can note (02, Item 2): the source's, and that of a firing then finished.
--   tick_notes                 a tick notes two at most
--   tick_room                  so a list with two slots left is not found full
--   tick_alike                 and with two such lists, whatever their entries, a tick ends alike and leaves the same state
use Rattle.std.specs.Prelude.{◌≡◌, refl, Bool, true, false, ℕ, ◌+◌, ◌≤◌, ◌<◌, eqb}
use Rattle.std.proofs.Common.{sym, ◌∙◌, ⊎_elim, arith}
use Rattle.std.proofs.Math.Path.{subst}
use Rattle.std.proofs.Math.Bool.{cond}
use Rattle.chain.specs.declared.Chain.{Chain}
use Rattle.state.specs.declared.Run.{Run}
use Rattle.instants.specs.Steps.{sourced, lacking, chosen, worked, finished}
use Rattle.instants.specs.Filled.{Filled}
use Rattle.instants.proofs.KeptLaws.{chosen_low}
use Rattle.instants.specs.declared.Outcome.{Outcome}
use Rattle.instants.specs.declared.Outcome.TheVariants as plain
use Rattle.instants.specs.declared.Ticked.{Ticked}
use Rattle.losses.specs.Losses.{Listed}
use Rattle.losses.specs.declared.Losses.{Losses}
use Rattle.recordings.specs.Steps.{rec_clean, rec_undated, rec_onward, recorded, rec_sourced, rec_begun, rec_finished, rec_tick}
use Rattle.recordings.proofs.RunsLaws.{rec_clean_or, rec_unclean_full, rec_full_undated, rec_onward_goes, rec_onward_stops}
use Rattle.recordings.proofs.CasesLaws.{source_four, work_four, rec_begun_cases, rec_tick_begun, rec_tick_ends, rec_tick_works}
use Rattle.recordings.proofs.KeptLaws.{clean_room, begun_leads}
use Rattle.recordings.proofs.BesideLaws.{recorded_clean, recorded_undated, recorded_lost}
use Rattle.recordings.specs.declared.RecordOutcome.TheVariants.{Clean, ListFull}
use Rattle.recordings.specs.declared.Recorded.{Recorded}
use Rattle.recordings.specs.AtMost.{Within, Same}

module _ {c : Chain} {s : Run} (f : Filled c s) (l : Losses) where
  source_notes : Within l.count 1 (rec_sourced c s l)
  source_notes = source_four f l (Within l.count 1)
      (λ d spills room. record { few = omega arith; room = λ h t q e. rec_unclean_full (sym e) })
      (λ d spills full. record { few = omega arith; room = λ h t q e. absurd (omega arith) })
      (λ d room. record { few = omega arith; room = λ h t q e. rec_unclean_full (sym e) })
      (λ rests. record { few = omega arith; room = λ h t q e. rec_unclean_full (sym e) })

  begun_notes : Within l.count 1 (rec_begun c s l)
  begun_notes = rec_begun_cases c s l (Within l.count 1)
      (λ n. source_notes)
      (λ z lacks. record { few = omega arith; room = λ h t q e. rec_full_undated (sym e) })
      (λ z silent. record { few = source_notes.few; room = λ h t q e. rec_unclean_full (sym e) })

-- one tick of work, and the effect of the firing then finished
work_notes : {c : Chain} {u : Run} → Filled c u → (m : Losses) (i : ℕ) → i ≤ c.n → Within m.count 1 (rec_finished c (worked u i) m)
work_notes f m i low = work_four f m (Within m.count 1) i low
    (λ unfinished. record { few = omega arith; room = λ h t q e. rec_unclean_full (sym e) })
    (λ j is all room. record { few = omega arith; room = λ h t q e. rec_unclean_full (sym e) })
    (λ j is all spills room. record { few = omega arith; room = λ h t q e. rec_unclean_full (sym e) })
    (λ j is all spills full. record { few = omega arith; room = λ h t q e. absurd (omega arith) })

module _ {c : Chain} {s : Run} (f : Filled c s) {l : Losses} (k : Listed l) where
  both : Within l.count 2 (rec_tick c s l)
  both = ⊎_elim
      (λ z.
      let u = (rec_begun c s l).run in
      let first = begun_notes f l in
      let then = work_notes ((begun_leads f k).filled (clean_room z)) (rec_begun c s l).losses (chosen c u) (chosen_low c u) in
      subst (Within l.count 2) (sym (rec_tick_works c s l z))
      (record { few = omega (arith, first.few, then.few); room = λ h. then.room (omega (arith, first.few)) }))
      (λ n. subst (Within l.count 2) (sym (rec_tick_ends c s l n))
      (record { few = omega (arith, (begun_notes f l).few); room = λ h. (begun_notes f l).room (omega arith) }))
      (rec_clean_or (rec_begun c s l).outcome)

  -- the source's loss, and that of the firing which the tick finishes
  pub tick_notes : (rec_tick c s l).losses.count ≤ l.count + 2
  tick_notes = both.few

  -- so where two slots are left, no loss finds the list full
  pub tick_room : l.count ≤ 254 → (t q : ℕ) → (rec_tick c s l).outcome ≡ ListFull t q → ⊥
  tick_room few = both.room (omega arith)

module _ (c : Chain) where
  recorded_same : (l m : Losses) → l.count < 256 → m.count < 256 → (x : Ticked) → Same (recorded c l x) (recorded c m x)
  recorded_same l m a b x = by x.outcome refl
    where
      by : (o : Outcome) → x.outcome ≡ o → Same (recorded c l x) (recorded c m x)
      by plain.Clean e = rw (recorded_clean c l x e, recorded_clean c m x e) (record { outcome = refl; run = refl })
      by (plain.NoDeadline t i) e = rw (recorded_undated c l x t i e, recorded_undated c m x t i e) (record { outcome = refl; run = refl })
      by (plain.Overflowed t q) e = rw (recorded_lost c l x a t q e, recorded_lost c m x b t q e) (record { outcome = refl; run = refl })

-- and so do two things, one after the other
onward_same : {x y : Recorded} → Same x y → (f g : Run → Losses → Recorded) → (x.outcome ≡ Clean → Same (f x.run x.losses) (g y.run y.losses)) → Same (rec_onward x f) (rec_onward y g)
onward_same {x} {y} e f g then = ⊎_elim
    (λ z. rw (rec_onward_goes x f z, rec_onward_goes y g (sym e.outcome ∙ z)) (then z))
    (λ n. rw (rec_onward_stops x f n, rec_onward_stops y g (λ z. n (e.outcome ∙ z))) e)
    (rec_clean_or x.outcome)

module _ {c : Chain} {s : Run} (f : Filled c s) (l m : Losses) (a : l.count ≤ 254) (b : m.count ≤ 254) where
  begun_same : Same (rec_begun c s l) (rec_begun c s m)
  unfolding rec_begun rec_sourced
  begun_same =
      let first : Same (rec_sourced c s l) (rec_sourced c s m) = recorded_same c l m (omega arith) (omega arith) (sourced c s) in
      onward_same first _ _ (λ z. subst (λ (u : Run). Same (after l (rec_sourced c s l).run (rec_sourced c s l).losses) (after m u (rec_sourced c s m).losses)) first.run
      (by (rec_sourced c s l).run (rec_sourced c s l).losses (rec_sourced c s m).losses (eqb (lacking c (rec_sourced c s l).run).number 0)))
    where
      after : Losses → Run → Losses → Recorded
      after k u n = cond (eqb (lacking c u).number 0) (rec_clean u n) (rec_undated s k s.clock (lacking c u).place)

      by : (u : Run) (n o : Losses) (d : Bool) → Same (cond d (rec_clean u n) (rec_undated s l s.clock (lacking c u).place)) (cond d (rec_clean u o) (rec_undated s m s.clock (lacking c u).place))
      by u n o true = record { outcome = refl; run = refl }
      by u n o false = record { outcome = refl; run = refl }

  same : Same (rec_tick c s l) (rec_tick c s m)
  unfolding rec_finished
  same = rw (rec_tick_begun c s l, rec_tick_begun c s m) (onward_same begun_same _ _ (λ z.
      let w : Run = worked (rec_begun c s l).run (chosen c (rec_begun c s l).run) in
      let few : (rec_begun c s l).losses.count < 256 = omega (arith, (begun_notes f l).few) in
      let fits : (rec_begun c s m).losses.count < 256 = omega (arith, (begun_notes f m).few) in
      subst (λ (u : Run). Same (rec_finished c w (rec_begun c s l).losses) (rec_finished c (worked u (chosen c u)) (rec_begun c s m).losses))
      begun_same.run
      (recorded_same c (rec_begun c s l).losses (rec_begun c s m).losses few fits (finished c w))))

  -- what a tick does to the state does not rest on the entries, where the list has room for two more
  pub tick_alike : ((rec_tick c s l).outcome ≡ (rec_tick c s m).outcome) × ((rec_tick c s l).run ≡ (rec_tick c s m).run)
  tick_alike = (same.outcome, same.run)
