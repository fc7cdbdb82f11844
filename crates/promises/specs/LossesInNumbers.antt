-- One recording tick by the numbers of its chain, its state and its list (02, Item 2): when it ends with 15, with 13 and clean. Of the words by which a recording
-- tick is defined none stands in these laws: SourceLoses, Took, FullNow and LacksNow are in LossWords, by numbers. What it leaves is in LossesLeft.
--   c, s, l, i, t, q         a chain, a run state, a list of losses, a node, an instant, a queue
--   rec_tick_is              it answers one recording tick, and nothing else
--   rec_tick_balances        the balance with the entries holds after it, on every outcome
--   rec_tick_fifteen, _thirteen, _cleans
--                            it ends with 15, with 13 and clean exactly so
--   rec_tick_two, rec_tick_spare
--                            it notes two losses at most, so a list with two slots left is not found full
--   rec_tick_folded          and then it does not rest on the entries what it makes of the state: another list that is accepted with it, its entries folded into fewer say, would do
--   rec_tick_refused_next    what 15 at a finish leaves is refused 17 next, at the queue that feeds the node
use Rattle.std.proofs.Math.Logic.Iff
use Rattle.std.specs.Prelude.{◌≡◌, refl, ◌↔◌, ◌⊎◌, ℕ, suc, ◌+◌, ◌*◌, ◌≤◌, ◌<◌}
use Rattle.std.proofs.Common.{sym, ap, ◌∙◌, inl, inr, arith}
use Rattle.std.proofs.Math.Path.{subst}
use Rattle.std.proofs.Math.Logic.{⊎_elim, by_cases}
use Rattle.std.proofs.Math.Decide.{dec_lt}
use Rattle.ardenquill.specs.Chains.{refused, row_of}
use Rattle.ardenquill.specs.Analyses.{start}
use Rattle.ardenquill.specs.Runs.{count_at, held_at}
use Rattle.ardenquill.specs.Ticks.{Filled}
use Rattle.ardenquill.specs.Losses.{SourceFull, Begun, HasBegun, has_begun, FullTick, LacksTick, rec_full_exactly, rec_lacks_exactly, rec_clean_exactly}
use Rattle.ardenquill.specs.Losses.{rec_source_done, rec_source_held, Recording, recording_filled, rec_tick, rec_tick_answer, rec_answer_of_law, rec_answer_ran}
use Rattle.ardenquill.specs.Losses.{tick_notes, tick_room, tick_alike}
use Rattle.ardenquill.specs.Losses.{lost, RecOneTick, rec_ran_as, rec_answer_exactly, rec_tick_balance, full_refused, rec_state_check, rec_state_exact, rec_tick_refusal, rec_answer_of, rec_tick_17}
use Rattle.ardenquill.specs.Records.{Chain, Run, Losses, RecordOutcome, Recorded, RecordAnswer}
use Rattle.promises.specs.Order.{said}
use Rattle.promises.specs.Replay.{p_of, c_of, line, accepts_is}
use Rattle.promises.specs.Laws.{capacity_is, whole}
use Rattle.promises.specs.PlacesInNumbers.{analyse_silent}
use Rattle.promises.specs.LossOutcomes.{RecCleanly, RecUndatedAt, FullAt, rec_cleanly_is, rec_undated_is, full_is}
use Rattle.promises.specs.LossWords.{Takes, SourceLoses, Took, LacksNow, FullNow, spills_first, first_spills, dated_out, dated_in, lacks_out, lacks_in, works_out, works_in, full_out, full_in_law}

-- a recording tick that is not refused
module _ (c : Chain) (s : Run) (l : Losses) (takes : Takes s l) (ok : (rec_tick_answer c s l).number ≡ 0) where
  r : Recording c s l
  r = rec_answer_of_law c s l (whole takes.0) takes.1 ok

  f : Filled c s
  f = recording_filled r

  ends : {o : RecordOutcome} → ((rec_tick_answer c s l).outcome ≡ o) ↔ ((rec_tick c s l).outcome ≡ o)
  ends = let e = ap (λ (x : RecordAnswer). x.outcome) (rec_answer_ran c s l (whole takes.0) takes.1 ok) in (λ z. sym e ∙ z, λ z. e ∙ z)

  -- "a recording tick": it answers one, and nothing else
  pub rec_tick_is : (x : Recorded) → (rec_tick_answer c s l ≡ rec_ran_as x) ↔ RecOneTick c s l x
  rec_tick_is = rec_answer_exactly c s l (whole takes.0) takes.1 ok

  -- "tokens produced equal tokens consumed, held, and the sum of that queue's entries", on every outcome
  pub rec_tick_balances : (j : ℕ) → j < c.n → start (row_of c j) + p_of c j * count_at (rec_tick_answer c s l).run j
      ≡ held_at (rec_tick_answer c s l).run j + c_of c j * count_at (rec_tick_answer c s l).run (suc j) + lost (rec_tick_answer c s l).losses j
  rec_tick_balances j h = rw (rec_answer_ran c s l (whole takes.0) takes.1 ok) (rec_tick_balance r j h)

  -- 15 at the source, at a finish, and 13
  source_full : SourceFull c s l ↔ (SourceLoses c s × (256 ≤ l.count))
  source_full = (λ h. (first_spills r.chain s h.due h.spills, h.holds), λ h. record { due = h.0.0; spills = spills_first r.chain s h.0; holds = h.1 })

  begins : Took c s l → HasBegun c s l
  begins took = has_begun f r.listed (λ d h. took (first_spills r.chain s d h))

  took_of : {u : Run} {m : Losses} → Begun c s l u m → Took c s l
  took_of b h = b.room h.0 (spills_first r.chain s h)

  finish_out : (t q : ℕ) → FullTick c s l t q → (t ≡ s.clock + 1) × FullNow c s l q
  finish_out t q h =
      let o = h.begun.source in
      let e = rec_source_held o (suc h.before) (λ z. omega arith) in
      let n : suc h.before < c.n = h.full.spills.0 in (
        h.tick,
        subst (FullNow c s l) (sym h.queue) (record {
          queue = h.before;
          is = refl;
          took = took_of h.begun;
          dated = dated_out r.chain o h.full.dated;
          works = works_out r.chain o h.before h.full.works;
          all = omega (arith, h.full.all, rec_source_done o h.before);
          spills = (n, omega (arith, h.full.spills.1, e, capacity_is c r.chain (suc h.before) n));
          full = full_out r.chain o (took_of h.begun) h.full.holds;
        }),
      )

  finish_in : (t q : ℕ) → (t ≡ s.clock + 1) × FullNow c s l q → FullTick c s l t q
  finish_in t q h =
      let k = h.1 in
      let b = begins k.took in
      let o = b.begun.source in
      let spills : (suc k.queue < c.n) × ((line c (suc k.queue)).capacity < held_at s (suc k.queue) + p_of c (suc k.queue)) =
      subst (λ (i : ℕ). (i < c.n) × ((line c i).capacity < held_at s i + p_of c i)) k.is k.spills in
      record {
        after = b.after;
        listed = b.listed;
        before = k.queue;
        begun = b.begun;
        full = record {
          dated = dated_in r.chain o k.dated;
          works = works_in r.chain o k.queue k.works;
          all = omega (arith, k.all, rec_source_done o k.queue);
          spills = (spills.0, omega (arith, spills.1, rec_source_held o (suc k.queue) (λ z. omega arith), capacity_is c r.chain (suc k.queue) spills.0));
          holds = full_in_law r.chain o k.full;
        };
        tick = h.0;
        queue = k.is;
      }

  lacks_tick : (i : ℕ) → LacksTick c s l i ↔ (Took c s l × LacksNow c s i)
  lacks_tick i = (
    λ h. (took_of h.begun, lacks_out r.chain h.begun.source i h.first),
    λ h. let b = begins h.0 in record { after = b.after; listed = b.listed; begun = b.begun; first = lacks_in r.chain b.begun.source i h.1 },
  )

  -- "the stopped list is outcome 15, place the queue": exactly where the list is full and a production does not fit, at the source's step or, a tick later, at a finish
  pub rec_tick_fifteen : (t q : ℕ) → FullAt (rec_tick_answer c s l).outcome t q
      ↔ ((((t ≡ s.clock) × (q ≡ 0)) × (SourceLoses c s × (256 ≤ l.count))) ⊎ ((t ≡ s.clock + 1) × FullNow c s l q))
  rec_tick_fifteen t q = Iff.trans (full_is _ t q) (Iff.trans ends (Iff.trans (rec_full_exactly f r.listed t q) (
    ⊎_elim (λ h. inl (h.0, source_full.0 h.1)) (λ h. inr (finish_out t q h)),
    ⊎_elim (λ h. inl (h.0, source_full.1 h.1)) (λ h. inr (finish_in t q h)),
  )))

  -- what 15 at a finish of N_(j+1) leaves has work done of e, and so is refused 17 next, at queue j
  pub rec_tick_refused_next : (t j : ℕ) → FullAt (rec_tick_answer c s l).outcome t (suc j)
      → let x = rec_tick_answer c (rec_tick_answer c s l).run (rec_tick_answer c s l).losses in (x.number ≡ 17) × (x.place ≡ j)
  unfolding rec_tick_answer rec_answer_of
  rec_tick_refused_next t j z = ⊎_elim (λ h. absurd (omega (arith, h.0.1))) (λ h. (said _ 17 j).1 (again h)) ((rec_full_exactly f r.listed t (suc j)).0 (ends.0 ((full_is _ t (suc j)).0 z)))
    where
      again : FullTick c s l t (suc j) → rec_tick_refusal c (rec_tick_answer c s l).run (rec_tick_answer c s l).losses ≡ refused 17 j
      again h =
          let x = rec_tick c s l in
          let is : h.before ≡ j = omega (arith, h.queue) in
          let broken : rec_state_check c x.run x.losses ≡ refused 17 j = subst (λ (q : ℕ). rec_state_check c x.run x.losses ≡ refused 17 q) is (full_refused r t (suc j) h) in
          subst (λ (y : RecordAnswer). rec_tick_refusal c y.run y.losses ≡ refused 17 j) (sym (rec_answer_ran c s l (whole takes.0) takes.1 ok))
          ((rec_tick_17 c x.run x.losses j).1 ((analyse_silent c).1 ((accepts_is c).1 r.chain), (rec_state_exact c x.run x.losses j).0 broken))

  -- "13 .. when, after the source's step, an over-threshold node's deadline can't be had, place the lowest such over-threshold node"; "a 257th loss at the source comes
  -- before 13"
  pub rec_tick_thirteen : (t i : ℕ) → RecUndatedAt (rec_tick_answer c s l).outcome t i ↔ ((t ≡ s.clock) × (Took c s l × LacksNow c s i))
  rec_tick_thirteen t i = Iff.trans (rec_undated_is _ t i) (Iff.trans ends (Iff.trans (rec_lacks_exactly f r.listed t i) (Iff.and Iff.rfl (lacks_tick i))))

  -- "it ends clean": exactly otherwise
  pub rec_tick_cleans : RecCleanly (rec_tick_answer c s l).outcome ↔ (Took c s l × (((q : ℕ) → FullNow c s l q → ⊥) × ((i : ℕ) → LacksNow c s i → ⊥)))
  rec_tick_cleans = Iff.trans (rec_cleanly_is _) (Iff.trans ends (Iff.trans (rec_clean_exactly f r.listed) (out, back)))
    where
      took : (SourceFull c s l → ⊥) → Took c s l
      took n h = by_cases (dec_lt l.count 256) (λ k. k) (λ k. absurd (n (source_full.1 (h, omega arith))))

      out : (SourceFull c s l → ⊥) × (((t q : ℕ) → FullTick c s l t q → ⊥) × ((i : ℕ) → LacksTick c s l i → ⊥)) → Took c s l × (((q : ℕ) → FullNow c s l q → ⊥) × ((i : ℕ) → LacksNow c s i → ⊥))
      out h = (took h.0, (λ q k. h.1.0 (s.clock + 1) q (finish_in (s.clock + 1) q (refl, k)), λ i k. h.1.1 i ((lacks_tick i).1 (took h.0, k))))

      back : Took c s l × (((q : ℕ) → FullNow c s l q → ⊥) × ((i : ℕ) → LacksNow c s i → ⊥)) → (SourceFull c s l → ⊥) × (((t q : ℕ) → FullTick c s l t q → ⊥) × ((i : ℕ) → LacksTick c s l i → ⊥))
      back h = (λ k. let b = source_full.0 k in omega (arith, b.1, h.0 b.0), (λ t q k. h.1.0 q (finish_out t q k).1, λ i k. h.1.1 i ((lacks_tick i).0 k).1))

  -- a tick has one firing of the source and one of the node that works
  pub rec_tick_two : (rec_tick_answer c s l).losses.count ≤ l.count + 2
  rec_tick_two = rw (rec_answer_ran c s l (whole takes.0) takes.1 ok) (tick_notes f r.listed)

  -- so a controller that hands its list over while two slots are left is never stopped by 15
  pub rec_tick_spare : l.count ≤ 254 → (t q : ℕ) → FullAt (rec_tick_answer c s l).outcome t q → ⊥
  rec_tick_spare few t q h = tick_room f r.listed few t q (ends.0 ((full_is _ t q).0 h))

-- "ticks and tokens of entries are tested only through the sum": with another list that is accepted for the same state a tick ends alike and leaves the same state
pub rec_tick_folded : (c : Chain) (s : Run) (l m : Losses) → Takes s l → Takes s m → (rec_tick_answer c s l).number ≡ 0 → (rec_tick_answer c s m).number ≡ 0 → l.count ≤ 254 → m.count ≤ 254
    → ((rec_tick_answer c s l).outcome ≡ (rec_tick_answer c s m).outcome) × ((rec_tick_answer c s l).run ≡ (rec_tick_answer c s m).run)
rec_tick_folded c s l m a b ok fine few less =
    rw (rec_answer_ran c s l (whole a.0) a.1 ok, rec_answer_ran c s m (whole b.0) b.1 fine)
    (tick_alike (recording_filled (rec_answer_of_law c s l (whole a.0) a.1 ok)) l m few less)
