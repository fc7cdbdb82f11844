-- Laws of specs/Outcomes.antt that rest on a definition which an edit of must-fail/ changes.
-- What a recording tick says and leaves, by its conditions (02, Item 2).
--   says_0, says_13, says_15_source, says_15_finish
--                              clean, 13 and 15 are said with these, each under its condition
--   values_none                number 0 is the clean outcome, and has neither tick nor place
--   none_leaves, lacks_leaves, full_source_leaves, full_finish_leaves
--                              no tick, 13 and 15 at the source leave the state and the list as they were; 15 at a finish leaves the source's step and the work of the tick
--   full_refused               and 17 refuses that next, at the queue that feeds the node
use Rattle.std.specs.Prelude.{◌≡◌, refl, [], ◌∷◌, ℕ, ◌<◌}
use Rattle.std.proofs.Common.{ap, subst, inl, inr, ⊎_elim, arith}
use Rattle.chain.specs.Refusals.{refused}
use Rattle.chain.specs.Record.{work_of}
use Rattle.chain.specs.declared.Chain.{Chain}
use Rattle.state.specs.State.{done_at}
use Rattle.state.specs.declared.Run.{Run}
use Rattle.instants.specs.Filled.{Filled}
use Rattle.losses.specs.Losses.{Listed}
use Rattle.losses.specs.declared.Losses.{Losses}
use Rattle.recordings.specs.Steps.{rec_number_of, rec_values_of, rec_tick_of, rec_at_of, rec_full, rec_tick, rec_ticks}
use Rattle.recordings.proofs.RunsLaws.{rec_ticks_none}
use Rattle.recordings.specs.Trace.{rec_tick_trace}
use Rattle.recordings.proofs.LeadsLaws.{leads_within}
use Rattle.recordings.specs.Kept.{Led}
use Rattle.recordings.proofs.KeptLaws.{tick_leads}
use Rattle.recordings.specs.Checks.{Recording, rec_state_check, recording_filled}
use Rattle.recordings.proofs.ChecksLaws.{rec_state_exact, rec_tick_balance}
use Rattle.recordings.specs.Once.{source_noted_only, WorkFull}
use Rattle.recordings.specs.Exactly.{SourceFull, FullTick, LacksTick}
use Rattle.recordings.proofs.ExactlyLaws.{rec_is_one, rec_tick_exactly, rec_full_exactly, rec_lacks_exactly, rec_clean_exactly}
use Rattle.recordings.specs.Exactly.{FinishLeaves}
use Rattle.recordings.proofs.ExactlyLaws.{rec_one_lacks_stays, rec_one_full_stays}
use Rattle.recordings.specs.declared.RecordOutcome.{RecordOutcome}
use Rattle.recordings.specs.declared.RecordOutcome.TheVariants.{Clean, NoDeadline, ListFull}
use Rattle.recordings.specs.declared.Recorded.{Recorded}
use Rattle.recordings.specs.Outcomes.{Says, source_done}

says_as : {a b : RecordOutcome} → a ≡ b → Says a (rec_number_of b) (rec_values_of b)
says_as e = (ap rec_number_of e, ap rec_values_of e)

-- number 0 is the clean outcome
pub values_none : (o : RecordOutcome) → rec_number_of o ≡ 0 → (o ≡ Clean) × ((rec_tick_of o ≡ 0) × (rec_at_of o ≡ 0))
values_none Clean z = (refl, (refl, refl))
values_none (NoDeadline t i) z = absurd (omega arith)
values_none (ListFull t q) z = absurd (omega arith)

-- no tick leaves everything as it was
pub none_leaves : (c : Chain) (s : Run) (l : Losses) → ((rec_ticks c 0 s l).outcome ≡ Clean) × (((rec_ticks c 0 s l).run ≡ s) × ((rec_ticks c 0 s l).losses ≡ l))
none_leaves c s l = let e = rec_ticks_none c s l in (ap (λ (x : Recorded). x.outcome) e, (ap (λ (x : Recorded). x.run) e, ap (λ (x : Recorded). x.losses) e))

module _ {c : Chain} {s : Run} (f : Filled c s) {l : Losses} (k : Listed l) where
  -- "it ends clean"
  pub says_0 : (SourceFull c s l → ⊥) → ((t q : ℕ) → FullTick c s l t q → ⊥) → ((i : ℕ) → LacksTick c s l i → ⊥) → Says (rec_tick c s l).outcome 0 []
  says_0 a b d = says_as ((rec_clean_exactly f k).1 (a, (b, d)))

  -- 13, at the clock, "place the lowest such over-threshold node"
  pub says_13 : (i : ℕ) → LacksTick c s l i → Says (rec_tick c s l).outcome 13 (s.clock ∷ i ∷ [])
  says_13 i a = says_as ((rec_lacks_exactly f k s.clock i).1 (refl, a))

  -- "the stopped list is outcome 15, place the queue", at the source and at a finish
  pub says_15_source : SourceFull c s l → Says (rec_tick c s l).outcome 15 (s.clock ∷ 0 ∷ [])
  says_15_source a = says_as ((rec_full_exactly f k s.clock 0).1 (inl ((refl, refl), a)))

  pub says_15_finish : (t q : ℕ) → FullTick c s l t q → Says (rec_tick c s l).outcome 15 (t ∷ q ∷ [])
  says_15_finish t q a = says_as ((rec_full_exactly f k t q).1 (inr a))

  -- "13 takes back the source's step of that instant and its entry"
  pub lacks_leaves : (i : ℕ) → LacksTick c s l i → ((rec_tick c s l).run ≡ s) × ((rec_tick c s l).losses ≡ l)
  lacks_leaves i a = rec_one_lacks_stays (rec_is_one f k) s.clock i ((rec_lacks_exactly f k s.clock i).1 (refl, a))

  -- "at the source the state as before the tick"
  pub full_source_leaves : SourceFull c s l → ((rec_tick c s l).run ≡ s) × ((rec_tick c s l).losses ≡ l)
  full_source_leaves a =
      let e = (rec_tick_exactly f k (rec_full s l s.clock 0)).1 (inl (record { full = a; is = refl })) in
      (ap (λ (x : Recorded). x.run) e, ap (λ (x : Recorded). x.losses) e)

  -- "at a finish the source's step stands, the clock is t+1, work done e, count not raised, input not taken"
  pub full_finish_leaves : (t q : ℕ) (a : FullTick c s l t q) → WorkFull c a.after a.before (rec_tick c s l).run × ((rec_tick c s l).losses ≡ a.listed)
  full_finish_leaves t q a = ⊎_elim (λ b. absurd (omega (arith, a.queue, b.0))) left (rec_one_full_stays (rec_is_one f k) t q ((rec_full_exactly f k t q).1 (inr a)))
    where
      left : FinishLeaves c s l q (rec_tick c s l).run (rec_tick c s l).losses → WorkFull c a.after a.before (rec_tick c s l).run × ((rec_tick c s l).losses ≡ a.listed)
      left b =
          let e = source_noted_only b.begun.source a.begun.source in
          let same : b.before ≡ a.before = omega (arith, a.queue, b.queue) in
          (subst (λ (j : ℕ). WorkFull c a.after j (rec_tick c s l).run) same (subst (λ (x : Run). WorkFull c x b.before (rec_tick c s l).run) e.0 b.work), e.1)

-- what 15 at a finish of N_(j+1) leaves is refused 17 at queue j: its work done is e, and nothing else of it is broken
module _ {c : Chain} {s : Run} {l : Losses} (r : Recording c s l) (t q : ℕ) (a : FullTick c s l t q) where
  d : Led c s l (rec_tick_trace c s l) (rec_tick c s l)
  d = tick_leads (recording_filled r) r.listed

  w : WorkFull c a.after a.before (rec_tick c s l).run
  w = (full_finish_leaves (recording_filled r) r.listed t q a).0

  low : a.before < c.n
  low = a.full.works.node

  pub full_refused : rec_state_check c (rec_tick c s l).run (rec_tick c s l).losses ≡ refused 17 a.before
  full_refused = (rec_state_exact c (rec_tick c s l).run (rec_tick c s l).losses a.before).1 (inr (
    (d.leads.listed.short, d.leads.named r.sound.named),
    record {
      queue = low;
      broken = inr (omega (arith, w.done));
      before = λ j h. ((rec_tick_balance r j (omega (arith, low)), leads_within (recording_filled r) d.leads j (omega (arith, low))), below j h);
    },
  ))
    where
      below : (j : ℕ) → j < a.before → done_at (rec_tick c s l).run j < work_of c j
      below j h = omega (arith, w.others j (λ e. omega arith), source_done a.begun.source j, (r.sound.queues j (omega (arith, low))).1)
