-- Demand 1 of the two recording calls, of what they answer (02, Item 2): rec_tick_answer c s l of a recording tick, rec_run_answer c T of a recording run.
--   c, s, l, T, L, j         a chain, a run state, a list of losses, ticks, a place, a queue
--   rec_tick_numbers_law, rec_run_numbers_law
--                            the listed numbers of each call, in the order in which it tests them
--   rec_tick_never_eight, rec_run_never_eight
--                            "8 isn't given by this run"
--   rec_tick_begins, rec_run_begins, rec_tick_record, rec_run_record
--                            2, 4, 5, 6 and 7 are given exactly where the analysis gives them, with its place
--   ListPasses c l, RecPasses c s l j, RecFails c s l j
--                            the list is no longer than 256 and each entry names a queue of the chain; queue j has none of 17's reasons, its entries counted; it has one
--   rec_passes_at            that it has none, in the words of 17
--   rec_tick_when, _seventeen, _nine
--                            when a recording tick is not refused, refused 17, and refused 9
--   RecRuns c T, rec_run_when, rec_run_nine
--                            when a recording run is not refused, and when it is refused 9
--   rec_tick_stays, rec_run_empty
--                            a refused tick gives state and list back as they were, a refused run zeros
--   rec_tick_slots, rec_tick_longs, rec_tick_entries, rec_run_slots, rec_run_entries
--                            slots past n and entries from the new count on stay as they were, or are zero in a run
--   losses_alike, rec_tick_past, rec_run_past
--                            and none of them is read
use Rattle.std.proofs.Math.Logic.Iff
use Rattle.std.specs.Prelude.{◌≡◌, refl, ◌↔◌, ◌≢◌, ◌⊎◌, [], ◌∷◌, ◌++◌, ℕ, suc, ◌+◌, ◌*◌, ◌≤◌, ◌<◌, length, get_or}
use Rattle.std.proofs.Math.Logic.{inl, inr, ⊎_elim}
use Rattle.std.proofs.Math.Decide.{ℕ_discrete, dec_le, dec_lt}
use Rattle.std.proofs.Common.{arith, ne_eqb}
use Rattle.ardenquill.specs.Chains.{row_of, work_of, Silents}
use Rattle.ardenquill.specs.Analyses.{start, sized, analyse_checks, analyse_refusal, analyse_answer}
use Rattle.ardenquill.specs.Runs.{count_at, held_at, done_at, AlikeChains, AlikeRuns}
use Rattle.ardenquill.specs.Losses.{lost, Stray, RecSteady, FirstRecBroken, rec_state_check, rec_state_silent, rec_tick_checks, rec_run_checks, rec_tick_refusal}
use Rattle.ardenquill.specs.Losses.{rec_run_refusal, rec_answer_of, rec_tick_answer, rec_run_answer, rec_tick_numbered, rec_tick_17, rec_tick_9, rec_tick_earlier, rec_tick_accepts}
use Rattle.ardenquill.specs.Losses.{rec_run_numbered, rec_run_9, rec_run_earlier, rec_run_accepts, AlikeLosses, AlikeRecordAnswers, rec_past_n, rec_past_kept}
use Rattle.ardenquill.specs.Losses.{rec_entries_kept, rec_long_kept, rec_run_answer_alike, rec_run_kept, rec_run_zero_entries, rec_run_long}
use Rattle.ardenquill.specs.Records.{Chain, Run, Losses}
use Rattle.promises.specs.Order.{InOrder, in_order, not_listed, LowestOf, lowest_failing, judge_three, said}
use Rattle.promises.specs.Zeros.{zero_run, RunSlots}
use Rattle.promises.specs.InSlots.{SlotsKept}
use Rattle.promises.specs.Replay.{p_of, c_of, Accepts, line, AllSlots, Spent, accepts_is}
use Rattle.promises.specs.Laws.{capacity_is, silents_last, whole}
use Rattle.promises.specs.Demand1.{past_zero}
use Rattle.promises.specs.RecordInNumbers.{RecordChecked, checked_as, analyse_record}
use Rattle.promises.specs.PlacesInNumbers.{analyse_silent}
use Rattle.promises.specs.LossOutcomes.{RecCleanly, rec_cleanly_is, zero_loss, zero_losses}

-- "one of the listed refusal numbers with its place, in the listed order": a recording tick, 17 with the list before 9 of the clock and then 9 of a count
pub rec_tick_numbers_law : (c : Chain) (s : Run) (l : Losses)
    → InOrder (2 ∷ 4 ∷ 5 ∷ 6 ∷ 7 ∷ 17 ∷ 9 ∷ 9 ∷ []) (rec_tick_checks c s l) (rec_tick_answer c s l).number (rec_tick_answer c s l).place
unfolding rec_tick_answer rec_answer_of rec_tick_refusal
rec_tick_numbers_law c s l = in_order _ _ (rec_tick_numbered c s l) _ _ refl

-- and a recording run
pub rec_run_numbers_law : (c : Chain) (T : ℕ) → InOrder (2 ∷ 4 ∷ 5 ∷ 6 ∷ 7 ∷ 9 ∷ []) (rec_run_checks c T) (rec_run_answer c T).number (rec_run_answer c T).place
unfolding rec_run_answer rec_answer_of rec_run_refusal
rec_run_numbers_law c T = in_order _ _ (rec_run_numbered c T) _ _ refl

-- "8 isn't given by this run": "old skids' capacities below the minimum are allowed"
pub rec_tick_never_eight : (c : Chain) (s : Run) (l : Losses) → (rec_tick_answer c s l).number ≢ 8
rec_tick_never_eight c s l = not_listed 8 _ tt (rec_tick_numbers_law c s l)

pub rec_run_never_eight : (c : Chain) (T : ℕ) → (rec_run_answer c T).number ≢ 8
rec_run_never_eight c T = not_listed 8 _ tt (rec_run_numbers_law c T)

-- each number below 9, so 2, 4, 5, 6 and 7, they answer exactly where the analysis is answered it, with its place
module _ (c : Chain) (N L : ℕ) (some : N ≢ 0) (early : N < 9) where
  pub rec_tick_begins : (s : Run) (l : Losses) → (((rec_tick_answer c s l).number ≡ N) × ((rec_tick_answer c s l).place ≡ L)) ↔ (((analyse_answer c).number ≡ N) × ((analyse_answer c).place ≡ L))
  unfolding rec_tick_answer rec_answer_of analyse_answer sized
  rec_tick_begins s l =
      Iff.trans (said (rec_tick_refusal c s l) N L) (Iff.trans (rec_tick_earlier c s l N L some (λ e. omega arith) (λ e. omega arith)) (Iff.symm (said (analyse_refusal c) N L)))

  pub rec_run_begins : (T : ℕ) → (((rec_run_answer c T).number ≡ N) × ((rec_run_answer c T).place ≡ L)) ↔ (((analyse_answer c).number ≡ N) × ((analyse_answer c).place ≡ L))
  unfolding rec_run_answer rec_answer_of analyse_answer sized
  rec_run_begins T = Iff.trans (said (rec_run_refusal c T) N L) (Iff.trans (rec_run_earlier c T N L some (λ e. omega arith)) (Iff.symm (said (analyse_refusal c) N L)))

-- so 2, 4 and 5 of them are those of the analysis
pub rec_tick_record : (c : Chain) (s : Run) (l : Losses) → RecordChecked c (rec_tick_answer c s l).number (rec_tick_answer c s l).place
rec_tick_record c s l = checked_as c (λ K L some low. rec_tick_begins c K L some (omega arith) s l) (analyse_record c)

pub rec_run_record : (c : Chain) (T : ℕ) → RecordChecked c (rec_run_answer c T).number (rec_run_answer c T).place
rec_run_record c T = checked_as c (λ K L some low. rec_run_begins c K L some (omega arith) T) (analyse_record c)

-- the list is no longer than 256, and none of its entries "names no queue of the chain"
abbrev pub ListPasses : Chain → Losses → Type 0
ListPasses c l = (l.count ≤ 256) × ((k : ℕ) → k < l.count → (get_or l.entries k zero_loss).queue < c.n)

-- 17 has no reason at queue j: "17's balance counts the entries", and capacity and work done are as ever
pub record RecPasses (c : Chain) (s : Run) (l : Losses) (j : ℕ) : Type 0 where
  pub balance : start (row_of c j) + p_of c j * count_at s j ≡ held_at s j + c_of c j * count_at s (suc j) + lost l j
  pub capacity : held_at s j ≤ (line c j).capacity
  pub work : done_at s j < work_of c j

-- it has one
abbrev pub RecFails : Chain → Run → Losses → ℕ → Type 0
RecFails c s l j = (j < c.n) × (RecPasses c s l j → ⊥)

-- in 01's order
abbrev Reasons : Chain → Run → Losses → ℕ → Type 0
Reasons c s l j =
    ((start (row_of c j) + p_of c j * count_at s j ≢ held_at s j + c_of c j * count_at s (suc j) + lost l j) ⊎ ((line c j).capacity < held_at s j)) ⊎ (work_of c j ≤ done_at s j)

module _ (c : Chain) (s : Run) (l : Losses) where
  -- a queue passes or has a reason
  judged : (j : ℕ) → RecPasses c s l j ⊎ Reasons c s l j
  judged j = ⊎_elim inl
      (⊎_elim (⊎_elim (λ n. inr (inl (inl n))) (λ n. inr (inl (inr (omega arith))))) (λ n. inr (inr (omega arith))))
      (judge_three (ℕ_discrete (start (row_of c j) + p_of c j * count_at s j) (held_at s j + c_of c j * count_at s (suc j) + lost l j))
      (dec_le (held_at s j) (line c j).capacity) (dec_lt (done_at s j) (work_of c j)) (λ b k w. record { balance = b; capacity = k; work = w }))

  -- and never both
  not_both : (j : ℕ) → Reasons c s l j → RecPasses c s l j → ⊥
  not_both j r p = ⊎_elim (⊎_elim (λ n. n p.balance) (λ m. omega (arith, m, p.capacity))) (λ m. omega (arith, m, p.work)) r

  -- two ways to say that it passes
  pub rec_passes_at : Accepts c → (j : ℕ) → j < c.n → RecSteady c s l j ↔ RecPasses c s l j
  rec_passes_at ok j h = (
    λ k. record { balance = k.0.0; capacity = rw (capacity_is c ((accepts_is c).0 ok) j h) k.0.1; work = k.1 },
    λ k. ((k.balance, rw (capacity_is c ((accepts_is c).0 ok) j h) at k.capacity), k.work),
  )

  -- and that it is the lowest that does not
  broken_first : Accepts c → (L : ℕ) → FirstRecBroken c s l L ↔ LowestOf (RecFails c s l) L
  broken_first ok L = Iff.trans (
    λ f. ((f.queue, rw (capacity_is c ((accepts_is c).0 ok) L f.queue) f.broken), λ j h. (rec_passes_at ok j (omega (arith, f.queue))).0 (f.before j h)),
    λ f. record {
      queue = f.0.0;
      broken = rw (capacity_is c ((accepts_is c).0 ok) L f.0.0) at f.0.1;
      before = λ j h. (rec_passes_at ok j (omega (arith, f.0.0))).1 (f.1 j h);
    },
  ) (lowest_failing c.n (Reasons c s l) (RecPasses c s l) judged not_both L)

  -- a recording tick is not refused exactly when the chain is accepted, whatever its capacities, the list and each queue pass 17, and neither a "clock of 1,000,000 or
  -- more" nor "a count at 4,294,967,295" is 9
  pub rec_tick_when : ((rec_tick_answer c s l).number ≡ 0)
      ↔ (Accepts c × ((ListPasses c l × ((j : ℕ) → j < c.n → RecPasses c s l j)) × ((s.clock < 1000000) × ((i : ℕ) → i ≤ c.n → count_at s i ≢ 4294967295))))
  unfolding rec_tick_answer rec_answer_of
  rec_tick_when = Iff.trans (rec_tick_accepts c s l) (
    λ k. let ok : Accepts c = (accepts_is c).1 k.0 in
        (ok, (((k.1.0.short, k.1.0.named), λ j h. (rec_passes_at ok j h).0 (k.1.0.queues j h)), k.1.1)),
    λ k. ((accepts_is c).0 k.0, (record { short = k.1.0.0.0; named = k.1.0.0.1; queues = λ j h. (rec_passes_at k.0 j h).1 (k.1.0.1 j h) }, k.1.1)),
  )

  -- "17's balance counts the entries, and a list longer than 256 or an entry that names no queue of the chain is 17 before the balance, place 0"; the balance's place is
  -- the "lowest queue"
  pub rec_tick_seventeen : (L : ℕ) → (((rec_tick_answer c s l).number ≡ 17) × ((rec_tick_answer c s l).place ≡ L))
      ↔ (Accepts c × ((((256 < l.count) ⊎ ((l.count ≤ 256) × Stray c.n l)) × (L ≡ 0)) ⊎ (ListPasses c l × LowestOf (RecFails c s l) L)))
  unfolding rec_tick_answer rec_answer_of
  rec_tick_seventeen L = Iff.trans (said (rec_tick_refusal c s l) 17 L) (Iff.trans (rec_tick_17 c s l L) (
    λ h. let ok = (analyse_silent c).0 h.0 in (ok, ⊎_elim inl (λ a. inr (a.0, (broken_first ok L).0 a.1)) h.1),
    λ h. ((analyse_silent c).1 h.0, ⊎_elim inl (λ a. inr (a.0, (broken_first h.0 L).1 a.1)) h.1),
  ))

  -- the checks before 9
  before_nine : Silents (analyse_checks c ++ (rec_state_check c s l ∷ [])) ↔ (Accepts c × (ListPasses c l × ((j : ℕ) → j < c.n → RecPasses c s l j)))
  before_nine = Iff.trans (silents_last (analyse_checks c) (rec_state_check c s l)) (
    λ h. let ok = (analyse_silent c).0 h.0 in let r = (rec_state_silent c s l).0 h.1 in (ok, ((r.short, r.named), λ j m. (rec_passes_at ok j m).0 (r.queues j m))),
    λ h. (
      (analyse_silent c).1 h.0,
      (rec_state_silent c s l).1 (record { short = h.1.0.0; named = h.1.0.1; queues = λ j m. (rec_passes_at h.0 j m).1 (h.1.1 j m) }),
    ),
  )

  -- "A tick handed a clock of 1,000,000 or more is 9, place 0; then a count at 4,294,967,295 is 9, place the lowest such node"
  pub rec_tick_nine : (L : ℕ) → (((rec_tick_answer c s l).number ≡ 9) × ((rec_tick_answer c s l).place ≡ L))
      ↔ ((Accepts c × (ListPasses c l × ((j : ℕ) → j < c.n → RecPasses c s l j))) × (((1000000 ≤ s.clock) × (L ≡ 0)) ⊎ ((s.clock < 1000000) × LowestOf (Spent c s) L)))
  unfolding rec_tick_answer rec_answer_of
  rec_tick_nine L = Iff.trans (said (rec_tick_refusal c s l) 9 L) (Iff.trans (rec_tick_9 c s l L) (Iff.and before_nine (
    ⊎_elim inl (λ a. inr (a.0, record { has = (a.1.node, a.1.spent); before = λ j m t. a.1.before j m t.1 })),
    ⊎_elim inl (λ a. inr (a.0, record { node = a.1.has.0; spent = a.1.has.1; before = λ j m e. a.1.before j m (omega (arith, a.1.has.0), e) })),
  )))

  -- "a refusal gives number and place", "and a run state stays as it was", and the list
  pub rec_tick_stays : (rec_tick_answer c s l).number ≢ 0 → RecCleanly (rec_tick_answer c s l).outcome × (((rec_tick_answer c s l).run ≡ s) × ((rec_tick_answer c s l).losses ≡ l))
  unfolding rec_tick_answer rec_answer_of
  rec_tick_stays n = ((rec_cleanly_is (rec_tick_answer c s l).outcome).1 (simp (ne_eqb _ _ n)), (simp (ne_eqb _ _ n), simp (ne_eqb _ _ n)))

  -- "In every run state the slots past n are neither read nor changed", not changed
  pub rec_tick_slots : SlotsKept c.n s (rec_tick_answer c s l).run
  rec_tick_slots = let k = (rec_past_kept c s l).0 in record { counts = k.counts.slots; held = k.held.slots; done = k.done.slots }

  -- nor are the slots of the list from the new count on
  pub rec_tick_entries : (k : ℕ) → (rec_tick_answer c s l).losses.count ≤ k → get_or (rec_tick_answer c s l).losses.entries k zero_loss ≡ get_or l.entries k zero_loss
  rec_tick_entries = rec_entries_kept c s l

  -- of all of which there are as many as were handed in
  pub rec_tick_longs : let x = rec_tick_answer c s l in ((length x.run.counts ≡ length s.counts) × ((length x.run.held ≡ length s.held) × (length x.run.done ≡ length s.done)))
      × (length x.losses.entries ≡ length l.entries)
  rec_tick_longs = let k = (rec_past_kept c s l).0 in ((k.counts.long, (k.held.long, k.done.long)), rec_long_kept c s l)

-- a recording run is not refused
abbrev pub RecRuns : Chain → ℕ → Type 0
RecRuns c T = (rec_run_answer c T).number ≡ 0

module _ (c : Chain) (T : ℕ) where
  -- exactly when the chain is accepted, whatever its capacities, and "T at most 1,000,000"
  pub rec_run_when : RecRuns c T ↔ (Accepts c × (T ≤ 1000000))
  unfolding rec_run_answer rec_answer_of
  rec_run_when = Iff.trans (rec_run_accepts c T) (Iff.and (Iff.symm (accepts_is c)) Iff.rfl)

  -- "(else 9, place 0)"
  pub rec_run_nine : (L : ℕ) → (((rec_run_answer c T).number ≡ 9) × ((rec_run_answer c T).place ≡ L)) ↔ (Accepts c × ((1000000 < T) × (L ≡ 0)))
  unfolding rec_run_answer rec_answer_of
  rec_run_nine L = Iff.trans (said (rec_run_refusal c T) 9 L) (Iff.trans (rec_run_9 c T L) (Iff.and (analyse_silent c) Iff.rfl))

  -- "A refusal gives number and place, all other results zero"
  pub rec_run_empty : (rec_run_answer c T).number ≢ 0 → RecCleanly (rec_run_answer c T).outcome × (((rec_run_answer c T).run ≡ zero_run) × ((rec_run_answer c T).losses ≡ zero_losses))
  unfolding rec_run_answer rec_answer_of
  rec_run_empty n = ((rec_cleanly_is (rec_run_answer c T).outcome).1 (simp (ne_eqb _ _ n)), (simp (ne_eqb _ _ n), simp (ne_eqb _ _ n)))

  -- and so are the slots past n of what it leaves, and those of the list past its entries
  pub rec_run_slots : RunSlots c.n (rec_run_answer c T).run
  rec_run_slots = past_zero (rec_run_kept c T).0

  pub rec_run_entries : (length (rec_run_answer c T).losses.entries ≡ 256) × ((k : ℕ) → (rec_run_answer c T).losses.count ≤ k → get_or (rec_run_answer c T).losses.entries k zero_loss ≡ zero_loss)
  rec_run_entries = (rec_run_long c T, rec_run_zero_entries c T)

-- lists that differ past their entries only: as many entries, each the same, in as many slots
pub losses_alike : (l m : Losses) → AlikeLosses l m
    ↔ ((l.count ≡ m.count) × ((length l.entries ≡ length m.entries) × ((k : ℕ) → k < l.count → get_or l.entries k zero_loss ≡ get_or m.entries k zero_loss)))
losses_alike l m = (λ a. (a.count, (a.long, a.entries)), λ h. record { count = h.0; long = h.1.0; entries = h.1.1 })

-- and not read: chains, states and lists that differ in such slots only are answered alike
pub rec_tick_past : {c d : Chain} → AlikeChains c d → {s t : Run} → AlikeRuns c.n s t → AllSlots s → AllSlots t → {l m : Losses} → AlikeLosses l m
    → AlikeRecordAnswers c.n (rec_tick_answer c s l) (rec_tick_answer d t m)
rec_tick_past a r w v k = rec_past_n a r (whole w) (whole v) k

pub rec_run_past : {c d : Chain} → AlikeChains c d → (T : ℕ) → rec_run_answer c T ≡ rec_run_answer d T
rec_run_past a T = rec_run_answer_alike a T
