-- Demand 1, of what the public calls answer.
--   "Every call takes any file, chain, run state or number and comes back."
--                            this is part of every proof: no public call has a `requires`, a function that is proved ends, and its answer is a
--                            definition that has a value for every file, chain, run state and number
--   f, o, p                  the bytes of a file; lent bytes before and after a call, whose answer is a: Output says what a call that writes does (Files)
--   c, s, i, k, T            a chain, a run state, a node, a number or an index, and ticks
--   InOrder numbers checks N L
--                            0 at place 0 where no check of the list speaks; else N at L is what the first that speaks says, with its number (Order)
--   read-, write-, report-, line-, factory-, analyse-, checked-, fresh-, fire-, immediate-, deadline-, tick-, deadline_run_numbers_law
--                            the listed numbers of each call, in the order in which it tests them. When each is given exactly: read_1 to read_5, write_2 to
--                            write_10, report_1 to report_10, factory_exact, analyse_2 to analyse_7, run_8, fire_17, fire_9, fire_11, fire_12,
--                            immediate_9, deadline_11, deadline_13, tick_17, tick_9, deadline_run_9, and _earlier for what a call shares with the analysis
--   zero_chain, zero_analysis, zero_run, ZeroPast, ChainSlots, RunSlots
--                            every result zero, written out; the slots past n zero (Zeros)
--   read-, factory-, analyse-, checked-, fresh-, immediate-, deadline-, deadline_run_empty
--                            what a refused call makes itself is zero
--   read-, factory-, analysis-, fresh-, immediate-, deadline_run_slots
--                            and so are the slots past n of what a call makes that is not refused
--   past_zero                so are those of a state that has the slots past n of one of zeros
--   writes_nothing           a refused call leaves every lent byte
--   fire_stays, tick_stays, lent_stays
--                            and gives back the run state that it was handed, or leaves it where it was lent
--   AlikeChains c d, AlikeRuns n s t, SlotsKept n s t
--                            chains, and states, that differ in slots past n only (Runs; chains_alike and runs_alike, InSlots); t has the slots past n of s (InSlots)
--   chain_past, write_past, fire_past, tick_past, fire_kept, tick_kept, tick_long
--                            slots past n are neither read nor changed
use Rattle.std.specs.Prelude.{◌≡◌, ◌≢◌, List, [], ◌∷◌, ℕ, suc, ltb, leb, length, get_or, replicate}
use Rattle.std.proofs.Math.Path.{refl}
use Rattle.std.proofs.Common.{sym, ap, subst, ◌∙◌, arith, eq-eqb, ne_eqb}
use Rattle.std.proofs.lemmas.List.{length-replicate}
use Rattle.ardenquill.specs.Records.{Refusal, Chain, LengthAnswer, Run}
use Rattle.ardenquill.specs.Chains as chains
use Rattle.ardenquill.specs.Chains.{refused, Numbered, only_test, test_alone, trimmed, row_of, work_of, factory_chains, trimmed_factory, factory_check, factory_refusal, factory_answer}
use Rattle.ardenquill.specs.Files.{read_checks, read_numbered, read_refusal, read_answer, trimmed_read, packed, room_check, room_only, write_checks, write_numbered, write_refusal, Output}
use Rattle.ardenquill.specs.Analyses.{start, sized, size_of, analysis_of, analyse_checks, analyse_numbered, analyse_refusal, analyse_answer, run_checks, run_numbered, run_refusal, run_answer}
use Rattle.ardenquill.specs.Reports.{refusal_text, report_text, report_checks, report_numbered, report_refusal}
use Rattle.ardenquill.specs.Runs as runs
use Rattle.ardenquill.specs.Runs.{zeros, fresh_run, fresh_answer, fresh_state, fire_checks, fire_numbered, fire_refusal, fire_answer, fresh_refused}
use Rattle.ardenquill.specs.Runs.{fire_refused, AlikeChains, AlikeRuns, analysis_alike, run_analysis_alike, fresh_alike, fire_alike}
use Rattle.ardenquill.specs.Immediate.{immediate_checks, immediate_numbered, immediate_refusal, immediate_answer, immediate_refused, immediate_alike}
use Rattle.ardenquill.specs.Deadlines.{answered_due, deadline_checks, deadline_numbered, deadline_refusal, deadline_answer, deadline_refused}
use Rattle.ardenquill.specs.Flat.{coded}
use Rattle.ardenquill.specs.declared.OutcomeAnswer.{OutcomeAnswer}
use Rattle.ardenquill.specs.Ticks as ticks
use Rattle.ardenquill.specs.Ticks.{outcome_of, tick_checks, tick_numbered, tick_refusal, tick_answer, deadline_run_checks}
use Rattle.ardenquill.specs.Ticks.{deadline_run_numbered, deadline_run_refusal, deadline_run_answer}
use Rattle.ardenquill.specs.Ticks.{KeptSlots, AlikeAnswers, question_alike, deadline_run_alike, deadline_run_kept}
use Rattle.promises.specs.Order.{InOrder, in_order}
use Rattle.promises.specs.Outcomes.{Cleanly, cleanly_is}
use Rattle.promises.specs.Zeros.{zero_row, zero_line, zero_chain, zero_analysis, zero_run, ZeroPast, slots_zero, ChainSlots, RunSlots}
use Rattle.promises.specs.Replay.{AllSlots}
use Rattle.promises.specs.InSlots.{SlotsKept}
use Rattle.promises.specs.Laws.{whole, keeps, write_alike}

-- "Bad input gets one of the listed refusal numbers with its place, in the listed order": a file that is read
pub read_numbers_law : (f : List ℕ) → InOrder (1 ∷ 2 ∷ 3 ∷ 4 ∷ 5 ∷ []) (read_checks f) (read_answer f).number (read_answer f).place
unfolding read_answer chains.answered read_refusal
read_numbers_law f = in_order _ _ (read_numbered f) _ _ refl

-- "one of the listed refusal numbers with its place, in the listed order": a chain that is written
pub write_numbers_law : (c : Chain) (o p : List ℕ) (a : LengthAnswer) → Output (write_refusal c (length o)) (packed c) o p a
    → InOrder (2 ∷ 4 ∷ 5 ∷ 10 ∷ []) (write_checks c (length o)) a.number a.place
unfolding write_refusal
write_numbers_law c o p a w = in_order _ _ (write_numbered c (length o)) _ _ (ap (λ (x : LengthAnswer). refused x.number x.place) w.answer)

-- "one of the listed refusal numbers with its place, in the listed order": a file that is reported on
pub report_numbers_law : (f o p : List ℕ) (a : LengthAnswer) → Output (report_refusal f (length o)) (report_text f) o p a
    → InOrder (1 ∷ 2 ∷ 3 ∷ 4 ∷ 5 ∷ 6 ∷ 7 ∷ 10 ∷ []) (report_checks f (length o)) a.number a.place
unfolding report_refusal
report_numbers_law f o p a w = in_order _ _ (report_numbered f (length o)) _ _ (ap (λ (x : LengthAnswer). refused x.number x.place) w.answer)

-- "one of the listed refusal numbers with its place, in the listed order": the line of a refusal k at L, which 10 alone refuses
pub line_numbers : (k L : ℕ) (o p : List ℕ) (a : LengthAnswer) → Output (room_check (length (refusal_text k L)) (length o)) (refusal_text k L) o p a
    → InOrder (10 ∷ []) (room_check (length (refusal_text k L)) (length o) ∷ []) a.number a.place
unfolding Numbered
line_numbers k L o p a w = in_order _ _ (room_only _ (length o), tt) _ _ (ap (λ (x : LengthAnswer). refused x.number x.place) w.answer
    ∙ test_alone 10 (length (refusal_text k L)) (λ e. omega arith) (ltb (length o) (length (refusal_text k L))))

-- "one of the listed refusal numbers with its place, in the listed order": a number that the factory is asked
pub factory_numbers : (k : ℕ) → InOrder (14 ∷ []) (factory_check k ∷ []) (factory_answer k).number (factory_answer k).place
unfolding factory_answer chains.answered factory_refusal Numbered
factory_numbers k = in_order _ _ (only_test 14 k (leb (length factory_chains) k), tt) _ _ refl

module _ (c : Chain) where
  -- "one of the listed refusal numbers with its place, in the listed order": a chain that is analysed
  pub analyse_numbers_law : InOrder (2 ∷ 4 ∷ 5 ∷ 6 ∷ 7 ∷ []) (analyse_checks c) (analyse_answer c).number (analyse_answer c).place
  unfolding analyse_answer sized analyse_refusal
  analyse_numbers_law = in_order _ _ (analyse_numbered c) _ _ refl

  -- the same, where it is checked for a run
  pub checked_numbers : InOrder (2 ∷ 4 ∷ 5 ∷ 6 ∷ 7 ∷ 8 ∷ []) (run_checks c) (run_answer c).number (run_answer c).place
  unfolding run_answer sized run_refusal
  checked_numbers = in_order _ _ (run_numbered c) _ _ refl

  -- and where it is started
  pub fresh_numbers : InOrder (2 ∷ 4 ∷ 5 ∷ 6 ∷ 7 ∷ []) (analyse_checks c) (fresh_answer c).number (fresh_answer c).place
  unfolding fresh_answer runs.answered analyse_refusal
  fresh_numbers = in_order _ _ (analyse_numbered c) _ _ refl

  -- "one of the listed refusal numbers with its place, in the listed order": a manual firing, 17 being "tested after 8 and before 9"
  pub fire_numbers_law : (s : Run) (i : ℕ) → InOrder (2 ∷ 4 ∷ 5 ∷ 6 ∷ 7 ∷ 17 ∷ 9 ∷ 11 ∷ 12 ∷ []) (fire_checks c s i) (fire_answer c s i).number (fire_answer c s i).place
  unfolding fire_answer runs.answered fire_refusal
  fire_numbers_law s i = in_order _ _ (fire_numbered c s i) _ _ refl

  -- "one of the listed refusal numbers with its place, in the listed order": an immediate run
  pub immediate_numbers_law : (k : ℕ) → InOrder (2 ∷ 4 ∷ 5 ∷ 6 ∷ 7 ∷ 8 ∷ 9 ∷ []) (immediate_checks c k) (immediate_answer c k).number (immediate_answer c k).place
  unfolding immediate_answer runs.answered immediate_refusal
  immediate_numbers_law k = in_order _ _ (immediate_numbered c k) _ _ refl

  -- "one of the listed refusal numbers with its place, in the listed order": a deadline question
  pub deadline_numbers_law : (i k : ℕ) → InOrder (2 ∷ 4 ∷ 5 ∷ 6 ∷ 7 ∷ 8 ∷ 11 ∷ 13 ∷ []) (deadline_checks c i k) (deadline_answer c i k).number (deadline_answer c i k).place
  unfolding deadline_answer answered_due deadline_refusal
  deadline_numbers_law i k = in_order _ _ (deadline_numbered c i k) _ _ refl

  -- "one of the listed refusal numbers with its place, in the listed order": a tick, 9 of the clock and then 9 of a count
  pub tick_numbers_law : (s : Run) → InOrder (2 ∷ 4 ∷ 5 ∷ 6 ∷ 7 ∷ 8 ∷ 17 ∷ 9 ∷ 9 ∷ []) (tick_checks c s) (tick_answer c s).number (tick_answer c s).place
  unfolding tick_answer outcome_of tick_refusal
  tick_numbers_law s = in_order _ _ (tick_numbered c s) _ _ refl

  -- "one of the listed refusal numbers with its place, in the listed order": a deadline run
  pub deadline_run_numbers_law : (T : ℕ) → InOrder (2 ∷ 4 ∷ 5 ∷ 6 ∷ 7 ∷ 8 ∷ 9 ∷ []) (deadline_run_checks c T) (deadline_run_answer c T).number (deadline_run_answer c T).place
  unfolding deadline_run_answer outcome_of deadline_run_refusal
  deadline_run_numbers_law T = in_order _ _ (deadline_run_numbered c T) _ _ refl

-- "Bad input gets one of the listed refusal numbers with its place", and nothing else: "A refusal gives number and place, all other results zero" (01)
pub read_empty : (f : List ℕ) → (read_answer f).number ≢ 0 → (read_answer f).chain ≡ zero_chain
unfolding read_answer chains.answered
read_empty f n = simp (ne_eqb _ _ n)

pub factory_empty : (k : ℕ) → (factory_answer k).number ≢ 0 → (factory_answer k).chain ≡ zero_chain
unfolding factory_answer chains.answered
factory_empty k n = simp (ne_eqb _ _ n)

module _ (c : Chain) where
  pub analyse_empty : (analyse_answer c).number ≢ 0 → (analyse_answer c).analysis ≡ zero_analysis
  unfolding analyse_answer sized
  analyse_empty n = simp (ne_eqb _ _ n)

  pub checked_empty : (run_answer c).number ≢ 0 → (run_answer c).analysis ≡ zero_analysis
  unfolding run_answer sized
  checked_empty n = simp (ne_eqb _ _ n)

  pub fresh_empty : (fresh_answer c).number ≢ 0 → (fresh_answer c).run ≡ zero_run
  unfolding fresh_answer runs.answered
  fresh_empty = fresh_refused c

  pub immediate_empty : (k : ℕ) → (immediate_answer c k).number ≢ 0 → (immediate_answer c k).run ≡ zero_run
  unfolding immediate_answer runs.answered
  immediate_empty k = immediate_refused c k

  pub deadline_empty : (i k : ℕ) → (deadline_answer c i k).number ≢ 0 → (deadline_answer c i k).due ≡ 0
  unfolding deadline_answer answered_due
  deadline_empty i k = deadline_refused c i k

  pub deadline_run_empty : (T : ℕ) → (deadline_run_answer c T).number ≢ 0 → Cleanly (deadline_run_answer c T).outcome × ((deadline_run_answer c T).run ≡ zero_run)
  unfolding deadline_run_answer outcome_of
  deadline_run_empty T n = ((cleanly_is (deadline_run_answer c T).outcome).1 (simp (ne_eqb _ _ n)), simp (ne_eqb _ _ n))

-- every slot of a list of zeros is zero
zero_slots : (N n : ℕ) → ZeroPast {A = ℕ} N n 0 (replicate N 0)
zero_slots N n = record { long = length-replicate {A = ℕ} N 0; past = λ i l m. zeros N i }

-- a chain that is its own first n slots has nothing in the others
past_chain : (c : Chain) → trimmed c ≡ c → ChainSlots c
unfolding trimmed
past_chain c e = subst ChainSlots e (record { rows = slots_zero (row_of c) zero_row c.n; work = slots_zero (work_of c) 0 c.n })

-- the slots past n are zero of what a call makes itself, too: of a chain that is read, refused or not
pub read_slots : (f : List ℕ) → ChainSlots (read_answer f).chain
read_slots f = past_chain (read_answer f).chain (trimmed_read f)

-- of a factory chain
pub factory_slots : (k : ℕ) → ChainSlots (factory_answer k).chain
factory_slots k = past_chain (factory_answer k).chain (trimmed_factory k)

-- of an analysis, which has the chain's n
pub analysis_slots : (c : Chain) → (analyse_answer c).number ≡ 0 → ((analyse_answer c).analysis.n ≡ c.n) × ZeroPast 16 c.n zero_line (analyse_answer c).analysis.queues
unfolding analyse_answer sized analysis_of
analysis_slots c z = simp (eq-eqb _ _ z) (refl, slots_zero (size_of c) zero_line c.n)

-- of a fresh start (and what else that is, Demand2: fresh_is)
pub fresh_slots : (c : Chain) → (fresh_answer c).number ≡ 0 → RunSlots c.n (fresh_answer c).run
unfolding fresh_run fresh_answer runs.answered
fresh_slots c z = rw (fresh_state c z) (record { counts = zero_slots 17 (suc c.n); held = slots_zero (λ i. start (row_of c i)) 0 c.n; done = zero_slots 16 c.n })

-- of a state that has the slots past n of one of zeros
pub past_zero : {n : ℕ} {s : Run} → KeptSlots n zero_run s → RunSlots n s
past_zero k = record {
  counts = record { long = k.counts.long; past = λ i l m. k.counts.slots i l ∙ zeros 17 i };
  held = record { long = k.held.long; past = λ i l m. k.held.slots i l ∙ zeros 16 i };
  done = record { long = k.done.long; past = λ i l m. k.done.slots i l ∙ zeros 16 i };
}

-- and so of the state that a run leaves
pub immediate_slots : (c : Chain) (k : ℕ) → (immediate_answer c k).number ≡ 0 → RunSlots c.n (immediate_answer c k).run
immediate_slots c k ran =
    let s = keeps c k ran in
    record {
      counts = record { long = s.wide; past = λ i l m. s.counts_past i l };
      held = record { long = s.deep; past = λ i l m. s.held_past i l };
      done = subst (ZeroPast 16 c.n 0) (sym s.done) (zero_slots 16 c.n);
    }

pub deadline_run_slots : (c : Chain) (T : ℕ) → RunSlots c.n (deadline_run_answer c T).run
deadline_run_slots c T = past_zero (deadline_run_kept c T)

-- "a refused call writes nothing in lent memory": of every call that writes, whatever its checks and its text
pub writes_nothing : {r : Refusal} {t o p : List ℕ} {a : LengthAnswer} → Output r t o p a → a.number ≢ 0 → (p ≡ o) × (a.length ≡ 0)
writes_nothing {r} {t} {o} w n =
    let speaks : r.number ≢ 0 = λ z. n (ap (λ (x : LengthAnswer). x.number) w.answer ∙ z) in
    (w.bytes ∙ simp (ne_eqb _ _ speaks), ap (λ (x : LengthAnswer). x.length) w.answer ∙ simp (ne_eqb _ _ speaks))

-- "and a run state stays as it was"
module _ (c : Chain) (s : Run) where
  pub fire_stays : (i : ℕ) → (fire_answer c s i).number ≢ 0 → (fire_answer c s i).run ≡ s
  unfolding fire_answer runs.answered
  fire_stays i = fire_refused c s i

  pub tick_stays : (tick_answer c s).number ≢ 0 → Cleanly (tick_answer c s).outcome × ((tick_answer c s).run ≡ s)
  unfolding tick_answer outcome_of
  tick_stays n = ((cleanly_is (tick_answer c s).outcome).1 (simp (ne_eqb _ _ n)), simp (ne_eqb _ _ n))

  -- and so does the one that a controller lends to a tick: t is what it has become, and r the answer for C
  pub lent_stays : (t : Run) (r : OutcomeAnswer) → (t ≡ (tick_answer c s).run) × (r ≡ coded (tick_answer c s)) → r.number ≢ 0 → t ≡ s
  lent_stays t r said n = said.0 ∙ (tick_stays (λ z. n (ap (λ (x : OutcomeAnswer). x.number) said.1 ∙ z))).1

  -- 01's "In every run state the slots past n are neither read nor changed", not changed: each firing and each tick leaves its own
  pub fire_kept : (i : ℕ) → SlotsKept c.n s (fire_answer c s i).run
  fire_kept i = let k = runs.past_kept c s i in record { counts = k.counts; held = k.held; done = λ j l. ap (λ (x : List ℕ). get_or x j 0) k.done }

  pub tick_kept : SlotsKept c.n s (tick_answer c s).run
  tick_kept = let k = ticks.past_kept c s in record { counts = k.counts.slots; held = k.held.slots; done = k.done.slots }

  -- of which it has as many as it was handed
  pub tick_long : let t = (tick_answer c s).run in (length t.counts ≡ length s.counts) × ((length t.held ≡ length s.held) × (length t.done ≡ length s.done))
  tick_long = let k = ticks.past_kept c s in (k.counts.long, (k.held.long, k.done.long))

-- and not read: chains and states that differ there only are answered alike
module _ {c d : Chain} (a : AlikeChains c d) where
  -- a chain
  pub chain_past : ((analyse_answer c ≡ analyse_answer d) × ((run_answer c ≡ run_answer d) × (fresh_answer c ≡ fresh_answer d)))
      × (((k : ℕ) → immediate_answer c k ≡ immediate_answer d k) × (((i k : ℕ) → deadline_answer c i k ≡ deadline_answer d i k) × ((T : ℕ) → deadline_run_answer c T ≡ deadline_run_answer d T)))
  chain_past = ((analysis_alike a, (run_analysis_alike a, fresh_alike a)), (immediate_alike a, (question_alike a, deadline_run_alike a)))

  -- and so they are written, whatever the room
  pub write_past : (room : ℕ) → (write_refusal c room ≡ write_refusal d room) × (packed c ≡ packed d)
  write_past = write_alike a

  module _ {s t : Run} (r : AlikeRuns c.n s t) (w : AllSlots s) (v : AllSlots t) where
    -- a state that is fired in
    pub fire_past : (i : ℕ) → (refused (fire_answer c s i).number (fire_answer c s i).place ≡ refused (fire_answer d t i).number (fire_answer d t i).place)
        × AlikeRuns c.n (fire_answer c s i).run (fire_answer d t i).run
    unfolding fire_answer runs.answered
    fire_past i = (fire_alike a r i, runs.past_n a r (whole w) (whole v) i)

    -- and one that is given a tick
    pub tick_past : AlikeAnswers c.n (tick_answer c s) (tick_answer d t)
    tick_past = ticks.past_n a r (whole w) (whole v)
