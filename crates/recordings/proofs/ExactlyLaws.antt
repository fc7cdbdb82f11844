-- Laws of specs/Exactly.antt that rest on a definition which an edit of must-fail/ changes.
-- One recording tick as a relation (02, Item 2): what it ends with and what it leaves, and that it is the only one that fits.
--   HasBegun c s l, has_begun  some u and m are, where it is not so
--   rec_is_one, rec_tick_exactly
--                              of a state that a step may be made in, and a list of 256 slots, the tick is that one
--   rec_one_full, rec_one_lacks, rec_one_lacks_stays
--                              when such a tick says 15 and 13, and that 13 leaves the state and the list as they were
--   RecTickOnce c s l x, rec_one_leaves
--                              the source's step, and then a clean tick of work, leave x; which is what a clean tick does
--   rec_one_full_stays, rec_one_full_leaves
--                              what 15 leaves, and that its list is full and the production does not fit still
--   rec_full_exactly, rec_lacks_exactly, rec_clean_exactly
--                              15 is said exactly where the list is full and a production does not fit, 13 exactly where a node lacks its deadline after a source's step
--                              that does not find the list full, and a tick is clean exactly elsewhere
--   rec_ticks_to_only, rec_ticks_exactly
--                              there is at most one such x, and so many ticks end with it
--   rec_ticks_full             15 of so many ticks leaves a full list, and a state in which the production does not fit
use Rattle.std.specs.Prelude.{◌≡◌, ◌↔◌, ◌⊎◌, List, get_or}
use Rattle.std.proofs.Math.Path.{refl, subst}
use Rattle.std.proofs.Common.{sym, ap, ◌∙◌, ⊎_elim, arith}
use Rattle.std.proofs.Math.Logic.{inl, inr}
use Prim.Native.Nat.{ℕ, zero, suc, ◌+◌, ◌≤◌, ◌<◌}
use Rattle.chain.specs.Record.{work_of}
use Rattle.chain.specs.declared.Chain.{Chain}
use Rattle.state.specs.State.{held_at, done_at}
use Rattle.state.specs.Fired.{Over, Room}
use Rattle.state.specs.Checks.{Cramped}
use Rattle.state.specs.declared.Run.{Run}
use Rattle.instants.specs.Steps.{lacking, chosen, worked}
use Rattle.instants.specs.Filled.{Filled}
use Rattle.instants.specs.Source.{Due}
use Rattle.instants.specs.Lacking.{FirstLacking}
use Rattle.instants.specs.Outcomes.{Dated}
use Rattle.instants.proofs.OutcomesLaws.{lacking_dated, lacking_found, dated_of_law}
use Rattle.instants.specs.Once.{Works}
use Rattle.instants.proofs.OnceLaws.{works_is}
use Rattle.instants.proofs.KeptLaws.{worked_clock}
use Rattle.losses.specs.Losses.{Listed}
use Rattle.losses.specs.declared.Losses.{Losses}
use Rattle.recordings.specs.Steps.{rec_tick_of, rec_at_of, rec_undated, rec_full, rec_onward, rec_sourced, rec_finished, rec_tick, rec_ticks}
use Rattle.recordings.proofs.RunsLaws.{rec_unclean_undated, rec_unclean_full, rec_full_undated, rec_clean_or, rec_onward_elim, rec_ticks_none, rec_ticks_suc}
use Rattle.recordings.proofs.CasesLaws.{source_four, work_four, rec_begun_cases, rec_tick_begun}
use Rattle.recordings.proofs.KeptLaws.{clean_room, source_leads, tick_leads}
use Rattle.recordings.specs.Once.{source_noted_only, WorkFull}
use Rattle.recordings.proofs.OnceLaws.{source_noted, work_noted, work_full}
use Rattle.recordings.specs.declared.RecordOutcome.{RecordOutcome}
use Rattle.recordings.specs.declared.RecordOutcome.TheVariants.{Clean, NoDeadline, ListFull}
use Rattle.recordings.specs.declared.Recorded.{Recorded}
use Rattle.recordings.specs.Exactly.{SourceFull, Begun, HasBegun, FinishFull, StoppedAtFinish, RecCleaned, StoppedAtSource, RecOneTick, worker_only, finish_clean, source_after, rec_one_only, FullTick, LacksTick, RecTickOnce, FinishLeaves, RecThen, RecStopped, RecTicksTo, rec_ticks_to_only}

-- the tick of work from u and m, where each node over threshold has its deadline
module _ {c : Chain} {u : Run} (f : Filled c u) {m : Losses} (k : Listed m) (dated : Dated c u) where
  works_on_list : StoppedAtFinish c u m (rec_finished c (worked u (chosen c u)) m) ⊎ RecCleaned c u m (rec_finished c (worked u (chosen c u)) m)
  works_on_list = ⊎_elim
      (λ z. inr (record { dated = dated; worker = chosen c u; works = w; room = room z; work = work_noted f k (chosen c u) w.node w.over z; is = z }))
      (λ n. inl (full n))
      (rec_clean_or (rec_finished c (worked u (chosen c u)) m).outcome)
    where
      w : Works c u (chosen c u)
      w = (works_is c u (chosen c u)).0 refl

      room : (rec_finished c (worked u (chosen c u)) m).outcome ≡ Clean → (j : ℕ) → chosen c u ≡ suc j → done_at u j + 1 ≡ work_of c j → Cramped c u (suc j) → m.count < 256
      room = work_four f m (λ x. x.outcome ≡ Clean → (j : ℕ) → chosen c u ≡ suc j → done_at u j + 1 ≡ work_of c j → Cramped c u (suc j) → m.count < 256) (chosen c u) w.node
          (λ less z j e all. absurd (less j e all))
          (λ j e all fits z i q also full. absurd (omega (arith, full.1, subst (Room c u) (sym e ∙ q) fits full.0)))
          (λ j e all full holds z i q also more. holds)
          (λ j e all full holds z. absurd (rec_unclean_full z))

      full : ((rec_finished c (worked u (chosen c u)) m).outcome ≡ Clean → ⊥) → StoppedAtFinish c u m (rec_finished c (worked u (chosen c u)) m)
      full = work_four f m (λ x. (x.outcome ≡ Clean → ⊥) → StoppedAtFinish c u m x) (chosen c u) w.node
          (λ less n. absurd (n refl))
          (λ j e all fits n. absurd (n refl))
          (λ j e all spills holds n. absurd (n refl))
          (λ j e all spills holds n. record {
            before = j;
            full = record { dated = dated; works = subst (Works c u) e w; all = all; spills = spills; holds = holds };
            left = worked u (suc j);
            work = work_full f j (omega (arith, w.node)) (subst (Over c u) e (w.over (omega arith))) all;
            is = ap (λ (t : ℕ). rec_full (worked u (suc j)) m t (suc j)) (worked_clock u (suc j));
          })

module _ {c : Chain} {s : Run} (f : Filled c s) {l : Losses} (k : Listed l) where
  -- the source's step that is clean
  begun_of : (rec_sourced c s l).outcome ≡ Clean → Begun c s l (rec_sourced c s l).run (rec_sourced c s l).losses
  begun_of z = record {
    room = source_four f l (λ x. x.outcome ≡ Clean → Due c s → Cramped c s 0 → l.count < 256)
        (λ d spills holds y h g. holds)
        (λ d spills holds y. absurd (rec_unclean_full y))
        (λ d fits y h spills. absurd (omega (arith, spills.1, fits spills.0)))
        (λ rests y d. absurd (rests d)) z;
    source = source_noted f k z;
  }

  -- the source's step is made where it does not find the list full
  pub has_begun : (Due c s → Cramped c s 0 → l.count < 256) → HasBegun c s l
  has_begun room = record { after = (rec_sourced c s l).run; listed = (rec_sourced c s l).losses; begun = begun_of clean }
    where
      clean : (rec_sourced c s l).outcome ≡ Clean
      clean = source_four f l (λ x. x.outcome ≡ Clean) (λ d spills holds. refl) (λ d spills holds. absurd (omega (arith, holds, room d spills))) (λ d fits. refl) (λ rests. refl)

  pub rec_is_one : RecOneTick c s l (rec_tick c s l)
  unfolding rec_onward
  rec_is_one = subst (RecOneTick c s l) (sym (rec_tick_begun c s l)) (rec_begun_cases c s l (λ y. RecOneTick c s l (rec_onward y (λ u m. rec_finished c (worked u (chosen c u)) m)))
      (λ n. inl (stops n))
      (λ z lacks. inr (record {
        after = u;
        listed = (rec_sourced c s l).losses;
        begun = begun_of z;
        rest = inl (record { node = (lacking c u).place; first = lacking_found c u lacks; is = refl });
      }))
      (λ z silent. inr (record {
        after = u;
        listed = (rec_sourced c s l).losses;
        begun = begun_of z;
        rest = inr (works_on_list ((source_leads f k).filled (clean_room z)) (source_leads f k).leads.listed (dated_of_law c u silent));
      })))
    where
      u : Run
      u = (rec_sourced c s l).run

      stops : ((rec_sourced c s l).outcome ≡ Clean → ⊥) → StoppedAtSource c s l (rec_onward (rec_sourced c s l) (λ u m. rec_finished c (worked u (chosen c u)) m))
      stops = source_four f l (λ y. (y.outcome ≡ Clean → ⊥) → StoppedAtSource c s l (rec_onward y (λ u m. rec_finished c (worked u (chosen c u)) m)))
          (λ d full holds n. absurd (n refl))
          (λ d full holds n. record { full = record { due = d; spills = full; holds = holds }; is = refl })
          (λ d fits n. absurd (n refl))
          (λ rests n. absurd (n refl))

  -- "a recording tick": what holds of one, and of nothing else
  pub rec_tick_exactly : (x : Recorded) → (rec_tick c s l ≡ x) ↔ RecOneTick c s l x
  rec_tick_exactly x = (λ e. subst (RecOneTick c s l) e rec_is_one, λ h. rec_one_only (rec_tick c s l) x rec_is_one h)

module _ {c : Chain} {s : Run} {l : Losses} {x : Recorded} (h : RecOneTick c s l x) where
  -- what holds of the four ways in which x is left holds of it
  four : (P : Recorded → Type 0) → (SourceFull c s l → P (rec_full s l s.clock 0)) → ((i : ℕ) → LacksTick c s l i → P (rec_undated s l s.clock i))
      → ((u v : Run) (m : Losses) (j : ℕ) → Begun c s l u m → FinishFull c u m j → WorkFull c u j v → P (rec_full v m (s.clock + 1) (suc j)))
      → ((u : Run) (m : Losses) → Begun c s l u m → RecCleaned c u m x → P x) → P x
  four P source lacks finish cleans = ⊎_elim
      (λ a. subst P (sym a.is) (source a.full))
      (λ a. ⊎_elim
      (λ b. subst P (sym b.is) (lacks b.node (record { after = a.after; listed = a.listed; begun = a.begun; first = b.first })))
      (⊎_elim
      (λ b. subst P (sym (b.is ∙ ap (λ (t : ℕ). rec_full b.left a.listed (t + 1) (suc b.before)) a.begun.source.clock))
      (finish a.after b.left a.listed b.before a.begun b.full b.work))
      (λ b. cleans a.after a.listed a.begun b))
      a.rest)
      h

  -- "the stopped list is outcome 15, place the queue"
  pub rec_one_full : (t q : ℕ) → x.outcome ≡ ListFull t q → (((t ≡ s.clock) × (q ≡ 0)) × SourceFull c s l) ⊎ FullTick c s l t q
  rec_one_full t q = four (λ y. y.outcome ≡ ListFull t q → (((t ≡ s.clock) × (q ≡ 0)) × SourceFull c s l) ⊎ FullTick c s l t q)
      (λ a e. inl ((sym (ap rec_tick_of e), sym (ap rec_at_of e)), a))
      (λ i a e. absurd (rec_full_undated (sym e)))
      (λ u v m j b f w e. inr (record { after = u; listed = m; before = j; begun = b; full = f; tick = sym (ap rec_tick_of e); queue = sym (ap rec_at_of e) }))
      (λ u m b z e. absurd (rec_unclean_full (sym e ∙ z.is)))

  -- "with 13 at the first instant when .., place the lowest such over-threshold node"
  pub rec_one_lacks : (t i : ℕ) → x.outcome ≡ NoDeadline t i → (t ≡ s.clock) × LacksTick c s l i
  rec_one_lacks t i = four (λ y. y.outcome ≡ NoDeadline t i → (t ≡ s.clock) × LacksTick c s l i)
      (λ a e. absurd (rec_full_undated e))
      (λ j a e. (sym (ap rec_tick_of e), subst (LacksTick c s l) (ap rec_at_of e) a))
      (λ u v m j b f w e. absurd (rec_full_undated e))
      (λ u m b z e. absurd (rec_unclean_undated (sym e ∙ z.is)))

  -- 13 leaves the state and the list as they were
  pub rec_one_lacks_stays : (t i : ℕ) → x.outcome ≡ NoDeadline t i → (x.run ≡ s) × (x.losses ≡ l)
  rec_one_lacks_stays t i = four (λ y. y.outcome ≡ NoDeadline t i → (y.run ≡ s) × (y.losses ≡ l))
      (λ a e. absurd (rec_full_undated e)) (λ j a e. (refl, refl)) (λ u v m j b f w e. absurd (rec_full_undated e)) (λ u m b z e. absurd (rec_unclean_undated (sym e ∙ z.is)))

pub rec_one_leaves : {c : Chain} {s : Run} {l : Losses} {x : Recorded} → RecOneTick c s l x → x.outcome ≡ Clean → RecTickOnce c s l x
rec_one_leaves {c} {s} {l} {x} h = four h (λ y. y.outcome ≡ Clean → RecTickOnce c s l x)
    (λ a e. absurd (rec_unclean_full e))
    (λ i a e. absurd (rec_unclean_undated e))
    (λ u v m j b f w e. absurd (rec_unclean_full e))
    (λ u m b z e. record { after = u; listed = m; begun = b; cleaned = z })

module _ {c : Chain} {s : Run} {l : Losses} {x : Recorded} (h : RecOneTick c s l x) where
  -- "state and list as they were before that production": as before the tick at the source, and else what a finish leaves
  pub rec_one_full_stays : (t q : ℕ) → x.outcome ≡ ListFull t q → ((q ≡ 0) × ((x.run ≡ s) × (x.losses ≡ l))) ⊎ FinishLeaves c s l q x.run x.losses
  rec_one_full_stays t q = four h (λ y. y.outcome ≡ ListFull t q → ((q ≡ 0) × ((y.run ≡ s) × (y.losses ≡ l))) ⊎ FinishLeaves c s l q y.run y.losses)
      (λ a e. inl (sym (ap rec_at_of e), (refl, refl)))
      (λ i a e. absurd (rec_full_undated (sym e)))
      (λ u v m j b f w e. inr (record { after = u; before = j; begun = b; work = w; queue = sym (ap rec_at_of e) }))
      (λ u m b z e. absurd (rec_unclean_full (sym e ∙ z.is)))

  -- the list is full, and the production does not fit still
  pub rec_one_full_leaves : (t q : ℕ) → x.outcome ≡ ListFull t q → (256 ≤ x.losses.count) × Cramped c x.run q
  rec_one_full_leaves t q = four h (λ y. y.outcome ≡ ListFull t q → (256 ≤ y.losses.count) × Cramped c y.run q)
      (λ a e. (a.holds, subst (Cramped c s) (ap rec_at_of e) a.spills))
      (λ i a e. absurd (rec_full_undated (sym e)))
      (λ u v m j b f w e.
      let same : held_at v (suc j) ≡ held_at u (suc j) = ap (λ (x : List ℕ). get_or x (suc j) 0) w.held in
      (f.holds, subst (Cramped c v) (ap rec_at_of e) (f.spills.0, omega (arith, f.spills.1, same))))
      (λ u m b z e. absurd (rec_unclean_full (sym e ∙ z.is)))

-- "where the list holds 256, a production that doesn't fit gives 15, and 15 comes only so"; and 13
module _ {c : Chain} {s : Run} (f : Filled c s) {l : Losses} (k : Listed l) where
  pub rec_full_exactly : (t q : ℕ) → ((rec_tick c s l).outcome ≡ ListFull t q) ↔ ((((t ≡ s.clock) × (q ≡ 0)) × SourceFull c s l) ⊎ FullTick c s l t q)
  rec_full_exactly t q = (rec_one_full (rec_is_one f k) t q, ⊎_elim source finish)
    where
      source : ((t ≡ s.clock) × (q ≡ 0)) × SourceFull c s l → (rec_tick c s l).outcome ≡ ListFull t q
      source a =
          ap (λ (x : Recorded). x.outcome) ((rec_tick_exactly f k (rec_full s l s.clock 0)).1 (inl (record { full = a.1; is = refl })))
          ∙ (λ i. ListFull (sym a.0.0 i) (sym a.0.1 i))

      finish : FullTick c s l t q → (rec_tick c s l).outcome ≡ ListFull t q
      finish a = four (rec_is_one f k) (λ y. y.outcome ≡ ListFull t q)
          (λ b. absurd (source_after b a.begun))
          (λ i b.
          let e = source_noted_only b.begun.source a.begun.source in
          absurd (lacking_dated c a.after i (subst (λ (u : Run). FirstLacking c u i) e.0 b.first) a.full.dated))
          (λ u v m j b g w.
          let e = source_noted_only b.source a.begun.source in
          let same : j ≡ a.before = let z = worker_only (subst (λ (x : Run). Works c x (suc j)) e.0 g.works) a.full.works in omega arith in
          λ i. ListFull (sym a.tick i) ((ap suc same ∙ sym a.queue) i))
          (λ u m b z.
          let e = source_noted_only b.source a.begun.source in
          let d = subst (λ (n : Losses). RecCleaned c a.after n (rec_tick c s l)) e.1 (subst (λ (x : Run). RecCleaned c x m (rec_tick c s l)) e.0 z) in
          absurd (finish_clean a.full d))

  pub rec_lacks_exactly : (t i : ℕ) → ((rec_tick c s l).outcome ≡ NoDeadline t i) ↔ ((t ≡ s.clock) × LacksTick c s l i)
  rec_lacks_exactly t i = (
    rec_one_lacks (rec_is_one f k) t i,
    λ a.
        ap (λ (x : Recorded). x.outcome)
        ((rec_tick_exactly f k (rec_undated s l s.clock i)).1
        (inr (record { after = a.1.after; listed = a.1.listed; begun = a.1.begun; rest = inl (record { node = i; first = a.1.first; is = refl }) })))
        ∙ (λ j. NoDeadline (sym a.0 j) i),
  )

  -- "it ends clean": exactly otherwise
  pub rec_clean_exactly : ((rec_tick c s l).outcome ≡ Clean) ↔ ((SourceFull c s l → ⊥) × (((t q : ℕ) → FullTick c s l t q → ⊥) × ((i : ℕ) → LacksTick c s l i → ⊥)))
  rec_clean_exactly = (
    λ z. (
      λ a. rec_unclean_full (sym ((rec_full_exactly s.clock 0).1 (inl ((refl, refl), a))) ∙ z),
      (λ t q a. rec_unclean_full (sym ((rec_full_exactly t q).1 (inr a)) ∙ z), λ i a. rec_unclean_undated (sym ((rec_lacks_exactly s.clock i).1 (refl, a)) ∙ z)),
    ),
    λ n. by n (rec_tick c s l).outcome refl,
  )
    where
      by : (SourceFull c s l → ⊥) × (((t q : ℕ) → FullTick c s l t q → ⊥) × ((i : ℕ) → LacksTick c s l i → ⊥)) → (o : RecordOutcome) → (rec_tick c s l).outcome ≡ o → (rec_tick c s l).outcome ≡ Clean
      by n Clean e = e
      by n (NoDeadline t i) e = absurd (n.1.1 i ((rec_lacks_exactly t i).0 e).1)
      by n (ListFull t q) e = absurd (⊎_elim (λ a. n.0 a.1) (λ a. n.1.0 t q a) ((rec_full_exactly t q).0 e))

-- so many ticks end with that, and with nothing else
module _ {c : Chain} where
  are_many : (T : ℕ) {s : Run} → Filled c s → {l : Losses} → Listed l → RecTicksTo c T s l (rec_ticks c T s l)
  unfolding RecTicksTo
  are_many zero {s} f {l} k = rec_ticks_none c s l
  are_many (suc T) {s} f {l} k = subst (λ (x : Recorded). RecStopped c s l x ⊎ RecThen c s l (λ t m. RecTicksTo c T t m x)) (sym (rec_ticks_suc c T s l))
      (rec_onward_elim (rec_tick c s l) (rec_ticks c T) (λ x. RecStopped c s l x ⊎ RecThen c s l (λ t m. RecTicksTo c T t m x))
      (λ n. inl (record { tick = rec_is_one f k; ends = n }))
      (λ z.
      let d = tick_leads f k in
      inr (record {
        next = (rec_tick c s l).run;
        list = (rec_tick c s l).losses;
        tick = subst (RecOneTick c s l) (λ i. record { outcome = z i; run = (rec_tick c s l).run; losses = (rec_tick c s l).losses }) (rec_is_one f k);
        holds = are_many T (d.filled (clean_room z)) d.leads.listed;
      })))

  pub rec_ticks_exactly : (T : ℕ) {s : Run} → Filled c s → {l : Losses} → Listed l → (x : Recorded) → (rec_ticks c T s l ≡ x) ↔ RecTicksTo c T s l x
  rec_ticks_exactly T {s} f {l} k x = (λ e. subst (RecTicksTo c T s l) e (are_many T f k), λ h. rec_ticks_to_only c T s l (rec_ticks c T s l) x (are_many T f k) h)

-- 15 of so many ticks leaves that, too
to_full : (c : Chain) (T : ℕ) (s : Run) (l : Losses) (x : Recorded) (t q : ℕ) → x.outcome ≡ ListFull t q → RecTicksTo c T s l x → (256 ≤ x.losses.count) × Cramped c x.run q
unfolding RecTicksTo
to_full c zero s l x t q e = λ h. absurd (rec_unclean_full (sym e ∙ ap (λ (y : Recorded). y.outcome) h))
to_full c (suc T) s l x t q e = ⊎_elim (λ a. rec_one_full_leaves a.tick t q e) (λ a. to_full c T a.next a.list x t q e a.holds)

pub rec_ticks_full : {c : Chain} (T : ℕ) {s : Run} → Filled c s → {l : Losses} → Listed l → (t q : ℕ) → (rec_ticks c T s l).outcome ≡ ListFull t q
    → (256 ≤ (rec_ticks c T s l).losses.count) × Cramped c (rec_ticks c T s l).run q
rec_ticks_full {c} T {s} f {l} k t q e = to_full c T s l (rec_ticks c T s l) t q e ((rec_ticks_exactly T f k (rec_ticks c T s l)).0 refl)
