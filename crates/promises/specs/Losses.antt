-- "A run that carries on and records each loss" (02, Item 2): what a recording run of T ticks from a fresh start with an empty list answers. One tick of it is in
-- LossesInNumbers, its refusals are in LossesRefused, and the deadline run beside it in LossesBeside.
--   c, T, j, i, t, q         a chain, ticks, a queue (N_j feeds it and N_(j+1) empties it), a node, an instant, a queue
--   RecRuns c T              the recording run of T ticks is not refused (LossesRefused)
--   rec_firings c T          its firings in order: each an instant, a node, and whether its production was lost
--   firings_none, _grow, _stay
--                            no tick has none; each tick of a clean run adds its own, the source's at t and a node's at t+1; and nothing is added after an outcome
--   Adds t g h, firings_add  the same of each firing by itself
--   unmarked_none, _one, entries_none, -lost, -fits
--                            a history without its marks, and what its lost firings lose: the instant, the queue and p
--   firings_rise             their instants never fall
--   recording_counted        each count is how often the node stands among them, lost or not
--   recording_balance, _balance_counts
--                            "tokens produced equal tokens consumed, held, and the sum of that queue's entries", on every outcome: from the history, and from the counts
--   losses_are, losses_count, losses_entry
--                            the entries are exactly the lost firings: each an instant, a queue and p, in order
--   held_then c g j          what queue j holds after the firings g; moment_balance: which the balance with what g has lost says
--   lost_exactly             a production is lost exactly when it does not fit; and each firing is of a node over threshold
--   moment_within            so no queue passes its capacity, at any moment
--   answered                 what it answers is what the run leaves
--   recording_is, _by_ticks  the run is T recording ticks, one after the other, as far as they are clean
--   recording_starts, _next, _stops
--                            the same by their answers alone: of no ticks a fresh start, of one more what the tick from there answers, or the same after an outcome
--   RecEndsAt c T N t at, recording_ends
--                            it ends with an outcome exactly when it is clean up to a tick that ends with it
--   full_leaves, others_pass what 15 leaves; and that any other outcome leaves a state and a list that a recording tick takes
--   recording_clock, _source, _work
--                            where it is clean: its clock, how often the source has fired, and all the work done
use Rattle.std.specs.Prelude.{◌≡◌, refl, ◌↔◌, ◌⊎◌, Bool, true, false, List, [], ◌∷◌, ◌++◌, ℕ, suc, ◌+◌, ◌-◌, ◌*◌, ◌≤◌, ◌<◌, length, get_or}
use Rattle.std.proofs.Common.{sym, ◌∙◌, zero-add, arith}
use Rattle.std.proofs.Math.Path.{ap, subst}
use Rattle.ardenquill.specs.Chains.{row_of, Silent}
use Rattle.ardenquill.specs.Analyses.{ceil, start, Accepted, analyse_accepts}
use Rattle.ardenquill.specs.Runs.{count_at, held_at, fresh_run, fresh_answer, fresh_state, Room}
use Rattle.ardenquill.specs.Histories.{nodes, times}
use Rattle.ardenquill.specs.Ticks.{Rising, total, HowMany}
use Rattle.ardenquill.specs.Losses as losses
use Rattle.ardenquill.specs.Losses.{entries_in, lost, lost_in, Marked, unmarked, rec_after, EachFair, losses_of, fair_each, Grows, rec_run, rec_firings, rec_trace_none, rec_trace_stays}
use Rattle.ardenquill.specs.Losses.{rec_trace_grows, rec_tick_answer, rec_run_answer, rec_ran_as, rec_run_ran, rec_run_accepts, rec_run_may, rec_ran_to, RecTicksTo, rec_ticks_from, RecWaits}
use Rattle.ardenquill.specs.Losses.{recording_filled, fresh_recording, EachAt}
use Rattle.ardenquill.specs.Records.{Chain, Run, RecordOutcome, RecordClean, Recorded, RecordAnswer}
use Rattle.promises.specs.Replay.{p_of, τ_of, c_of, line, accepts_is}
use Rattle.promises.specs.Laws.{capacity_is, over_is}
use Rattle.promises.specs.LossOutcomes.{RecSays, RecCleanly, FullAt, rec_cleanly_is, full_is, says_two, zero_loss, zero_losses}
use Rattle.promises.specs.LossesRefused.{RecRuns, ListPasses, RecPasses, rec_passes_at}

-- what queue j holds after the firings g of a recording run
abbrev pub held_then : Chain → List Marked → ℕ → ℕ
held_then c g j = held_at (rec_after c (fresh_run c) g) j

-- an outcome of number N at the instant t, of a queue or a node: the run is clean up to a tick, and that tick ends so
pub record RecEndsAt (c : Chain) (T N t at : ℕ) : Type 0 where
  pub clock : ℕ
  pub before : clock < T
  pub cleanly : RecCleanly (rec_run_answer c clock).outcome
  pub says : RecSays (rec_tick_answer c (rec_run_answer c clock).run (rec_run_answer c clock).losses).outcome N (t ∷ at ∷ [])

-- a history without its marks: each firing as it stands
pub unmarked_none : unmarked [] ≡ []
unmarked_none = refl

pub unmarked_one : (t i : ℕ) (b : Bool) (h : List Marked) → unmarked (((t, i), b) ∷ h) ≡ (t, i) ∷ unmarked h
unmarked_one t i b h = refl

-- "its tick, queue and tokens": what the lost firings of a history lose, in order
pub entries_none : (c : Chain) → losses_of c [] ≡ []
entries_none c = losses.losses_none c

pub entries_lost : (c : Chain) (t i : ℕ) (h : List Marked) → losses_of c (((t, i), true) ∷ h) ≡ record { tick = t; queue = i; tokens = p_of c i } ∷ losses_of c h
entries_lost c t i h = losses.losses_lost c t i h

pub entries_fits : (c : Chain) (t i : ℕ) (h : List Marked) → losses_of c (((t, i), false) ∷ h) ≡ losses_of c h
entries_fits c t i h = losses.losses_fits c t i h

-- h is g, and then firings of the tick at t, each the source's at t or a node's at t+1
pub record Adds (t : ℕ) (g h : List Marked) : Type 0 where
  pub more : List Marked
  pub is : h ≡ g ++ more
  pub at : (x y : List Marked) (u i : ℕ) (b : Bool) → more ≡ x ++ (((u, i), b) ∷ y) → ((i ≡ 0) × (u ≡ t)) ⊎ ((0 < i) × (u ≡ t + 1))

at_each : (t : ℕ) (x y : List Marked) (e : Marked) → EachAt t (x ++ (e ∷ y)) → ((e.0.1 ≡ 0) × (e.0.0 ≡ t)) ⊎ ((0 < e.0.1) × (e.0.0 ≡ t + 1))
unfolding EachAt
at_each t [] y e k = k.0
at_each t (d ∷ x) y e k = at_each t x y e k.1

module _ (c : Chain) (T : ℕ) (ran : RecRuns c T) where
  a : Accepted c
  a = (rec_run_may c T ran).0

  -- it answers what the run leaves
  pub answered : rec_run_answer c T ≡ rec_ran_as (rec_run c T)
  answered = rec_run_ran c T ((rec_run_accepts c T).1 (rec_run_may c T ran))

  -- "a recording run": it answers what T recording ticks end with, as far as they are clean, and nothing else
  pub recording_is : (x : Recorded) → (rec_run_answer c T ≡ rec_ran_as x) ↔ RecTicksTo c T (fresh_run c) zero_losses x
  recording_is = losses.rec_run_answers c T ran

  -- which is what T recording ticks, one after the other, answer, from a fresh start and with an empty list
  pub recording_by_ticks : rec_run_answer c T ≡ rec_ticks_from c T (fresh_answer c).run zero_losses
  recording_by_ticks = losses.rec_run_by_ticks c T ran ∙ ap (λ (s : Run). rec_ticks_from c T s zero_losses) (sym (fresh_state c ((analyse_accepts c).1 a)))

  -- so of no ticks it answers a fresh start and an empty list
  pub recording_starts : rec_run_answer c 0 ≡ record { number = 0; place = 0; outcome = RecordClean; run = (fresh_answer c).run; losses = zero_losses }
  recording_starts =
      losses.rec_run_start c T ran
      ∙ ap (λ (s : Run). record { number = 0; place = 0; outcome = RecordClean; run = s; losses = zero_losses }) (sym (fresh_state c ((analyse_accepts c).1 a)))

  -- of one tick more, where it is clean, what that tick answers, refused or not, handed the state and the list that it left
  pub recording_next : (t : ℕ) → t < T → RecCleanly (rec_run_answer c t).outcome → rec_run_answer c (suc t) ≡ rec_tick_answer c (rec_run_answer c t).run (rec_run_answer c t).losses
  recording_next t l z = losses.rec_run_next c T ran t l ((rec_cleanly_is _).0 z)

  -- and where it is not, the same
  pub recording_stops : (t : ℕ) → t < T → (RecCleanly (rec_run_answer c t).outcome → ⊥) → rec_run_answer c (suc t) ≡ rec_run_answer c t
  recording_stops t l n = losses.rec_run_stops c T ran t l (λ z. n ((rec_cleanly_is _).1 z))

  -- "13 at the first instant when", and "a 257th loss stops the run before it happens": it ends so exactly when it is clean up to a tick that does
  pub recording_ends : (N t at : ℕ) → RecSays (rec_run_answer c T).outcome N (t ∷ at ∷ []) ↔ RecEndsAt c T N t at
  recording_ends N t at = (out, back)
    where
      out : RecSays (rec_run_answer c T).outcome N (t ∷ at ∷ []) → RecEndsAt c T N t at
      out h =
          let k = (losses.rec_run_ends c T ran (rec_run_answer c T).outcome (says_two (rec_run_answer c T).outcome N t at h)).0 refl in
          record {
            clock = losses.rec_begins (rec_run_answer c T).outcome;
            before = k.before;
            cleanly = (rec_cleanly_is _).1 k.cleanly;
            says = subst (λ (o : RecordOutcome). RecSays o N (t ∷ at ∷ [])) (sym k.says) h;
          }

      back : RecEndsAt c T N t at → RecSays (rec_run_answer c T).outcome N (t ∷ at ∷ [])
      back k =
          let z : (rec_run_answer c k.clock).outcome ≡ RecordClean = (rec_cleanly_is _).0 k.cleanly in
          let next = losses.rec_run_next c T ran k.clock k.before z in
          let says : RecSays (rec_run_answer c (suc k.clock)).outcome N (t ∷ at ∷ []) = subst (λ (x : RecordAnswer). RecSays x.outcome N (t ∷ at ∷ [])) (sym next) k.says in
          stay (suc k.clock) k.before says
        where
          stay : (m : ℕ) → m ≤ T → RecSays (rec_run_answer c m).outcome N (t ∷ at ∷ []) → RecSays (rec_run_answer c T).outcome N (t ∷ at ∷ [])
          stay m l says =
              let rest : m + (T - m) ≡ T = omega arith in
              let same : rec_run_answer c (m + (T - m)) ≡ rec_run_answer c m = losses.rec_run_stays c T ran m (T - m) (omega arith) (says_two (rec_run_answer c m).outcome N t at says) in
              subst (λ (n : ℕ). RecSays (rec_run_answer c n).outcome N (t ∷ at ∷ [])) rest (subst (λ (x : RecordAnswer). RecSays x.outcome N (t ∷ at ∷ [])) (sym same) says)

  -- each node has fired as often as it stands among the firings, "productions as if none were dropped"
  pub recording_counted : (i : ℕ) → i ≤ c.n → count_at (rec_run_answer c T).run i ≡ times i (nodes (unmarked (rec_firings c T)))
  recording_counted i l = ap (λ (x : RecordAnswer). count_at x.run i) answered ∙ losses.rec_counted a T i l

  -- "For each queue, tokens produced equal tokens consumed, held, and the sum of that queue's entries, all from the history", whatever the outcome
  pub recording_balance : (j : ℕ) → j < c.n → start (row_of c j) + p_of c j * times j (nodes (unmarked (rec_firings c T)))
      ≡ held_at (rec_run_answer c T).run j + c_of c j * times (suc j) (nodes (unmarked (rec_firings c T))) + lost (rec_run_answer c T).losses j
  recording_balance j l = rw answered (losses.rec_balance a T j l)

  -- and so from the counts that it leaves
  pub recording_balance_counts : (j : ℕ) → j < c.n → start (row_of c j) + p_of c j * count_at (rec_run_answer c T).run j
      ≡ held_at (rec_run_answer c T).run j + c_of c j * count_at (rec_run_answer c T).run (suc j) + lost (rec_run_answer c T).losses j
  recording_balance_counts j l = rw (recording_counted j (omega arith), recording_counted (suc j) l) (recording_balance j l)

  -- "its tick, queue and tokens go into a list": the entries are those of the lost firings, in order, none invented and none missing
  pub losses_are : entries_in (rec_run_answer c T).losses ≡ losses_of c (rec_firings c T)
  losses_are = ap (λ (x : RecordAnswer). entries_in x.losses) answered ∙ losses.rec_entries a T

  pub losses_count : (rec_run_answer c T).losses.count ≡ length (losses_of c (rec_firings c T))
  losses_count = ap (λ (x : RecordAnswer). x.losses.count) answered ∙ losses.rec_count a T

  pub losses_entry : (k : ℕ) → k < (rec_run_answer c T).losses.count → get_or (rec_run_answer c T).losses.entries k zero_loss ≡ get_or (losses_of c (rec_firings c T)) k zero_loss
  losses_entry k l = rw answered (losses.rec_entry a T k (rw answered at l))

  -- at every moment of the history, what a queue holds is what was put in less what was taken and what was lost
  pub moment_balance : (g h : List Marked) → rec_firings c T ≡ g ++ h → (j : ℕ) → j < c.n
      → start (row_of c j) + p_of c j * times j (nodes (unmarked g)) ≡ held_then c g j + c_of c j * times (suc j) (nodes (unmarked g)) + lost_in j (losses_of c g)
  moment_balance = losses.rec_moment a T

  -- "a production that doesn't fit is dropped whole": a firing of N_i is of a node over threshold, and it is lost exactly when p more would pass the capacity
  pub lost_exactly : (g h : List Marked) (t i : ℕ) (b : Bool) → rec_firings c T ≡ g ++ (((t, i), b) ∷ h)
      → ((i ≤ c.n) × ((j : ℕ) → i ≡ suc j → τ_of c j ≤ held_then c g j)) × ((b ≡ true) ↔ ((i < c.n) × ((line c i).capacity < held_then c g i + p_of c i)))
  lost_exactly g h t i b e =
      let f = fair_each c (fresh_run c) g h t i b (subst (EachFair c (fresh_run c)) e (losses.rec_fair a T)) in
      ((f.0.0, (over_is c (rec_after c (fresh_run c) g) i).0 f.0.1), (λ d. let k = f.1.0 d in (k.0, rw (capacity_is c a i k.0) k.1), λ k. by b k f.1.1))
    where
      by : (d : Bool) → (i < c.n) × ((line c i).capacity < held_then c g i + p_of c i) → (d ≡ false → Room c (rec_after c (fresh_run c) g) i) → d ≡ true
      by true k fits = refl
      by false k fits = absurd (omega (arith, k.1, capacity_is c a i k.0, fits refl k.0))

  -- so "no queue passes its capacity", at any moment
  pub moment_within : (g h : List Marked) → rec_firings c T ≡ g ++ h → (j : ℕ) → j < c.n → held_then c g j ≤ (line c j).capacity
  moment_within g h e j l = rw (capacity_is c a j l) (losses.rec_within a T g h e j l)

  -- the instants of its firings never fall, from 0 to the clock at its end
  pub firings_rise : Rising 0 (unmarked (rec_firings c T)) (rec_run_answer c T).run.clock
  firings_rise = subst (λ (x : RecordAnswer). Rising 0 (unmarked (rec_firings c T)) x.run.clock) (sym answered) (losses.rec_rising a T)

  -- no tick, no firing
  pub firings_none : rec_firings c 0 ≡ []
  firings_none = rec_trace_none c (fresh_run c) zero_losses

  -- "an entry's tick is t for the source and the finish instant for a node": the tick after t clean ones adds firings of the source at t, and of a node at t+1
  pub firings_grow : (t : ℕ) → t < T → RecCleanly (rec_run_answer c t).outcome → Grows t (rec_firings c t) (rec_firings c (suc t))
  unfolding fresh_run
  firings_grow t l z =
      let fresh = fresh_recording a in
      let e = ap (λ (x : RecordAnswer). x.outcome) (sym (rec_ran_to c T ran t (omega arith))) in
      subst (λ (m : ℕ). Grows m (rec_firings c t) (rec_firings c (suc t))) (zero-add t) (rec_trace_grows t (recording_filled fresh) fresh.listed (e ∙ (rec_cleanly_is _).0 z))

  pub firings_add : (t : ℕ) → t < T → RecCleanly (rec_run_answer c t).outcome → Adds t (rec_firings c t) (rec_firings c (suc t))
  firings_add t l z =
      let k = firings_grow t l z in
      record { more = k.more; is = k.is; at = λ x y u i b e. at_each t x y ((u, i), b) (subst (EachAt t) e k.at) }

  -- and after any other outcome there are no more
  pub firings_stay : (t : ℕ) → t < T → (RecCleanly (rec_run_answer c t).outcome → ⊥) → rec_firings c (suc t) ≡ rec_firings c t
  firings_stay t l n = rec_trace_stays c t (fresh_run c) zero_losses (λ z. n ((rec_cleanly_is _).1 (ap (λ (x : RecordAnswer). x.outcome) (rec_ran_to c T ran t (omega arith)) ∙ z)))

  -- "a 257th loss stops the run before it happens": 15 leaves 256 entries, and a state in which the production does not fit
  pub full_leaves : (t q : ℕ) → FullAt (rec_run_answer c T).outcome t q
      → ((rec_run_answer c T).losses.count ≡ 256) × ((q < c.n) × ((line c q).capacity < held_at (rec_run_answer c T).run q + p_of c q))
  full_leaves t q z =
      let k = losses.rec_run_full a T t q (ap (λ (x : RecordAnswer). x.outcome) (sym answered) ∙ (full_is _ t q).0 z) in
      rw answered (k.0, (k.1.0, rw (capacity_is c a q k.1.0) k.1.1))

  -- any other outcome leaves a state and a list that pass 17
  pub others_pass : ((t q : ℕ) → FullAt (rec_run_answer c T).outcome t q → ⊥)
      → ListPasses c (rec_run_answer c T).losses × ((j : ℕ) → j < c.n → RecPasses c (rec_run_answer c T).run (rec_run_answer c T).losses j)
  others_pass room =
      let s = losses.rec_run_passes a T (λ t q e. room t q ((full_is _ t q).1 (ap (λ (x : RecordAnswer). x.outcome) answered ∙ e))) in
      let r = (losses.rec_state_silent c (rec_run_answer c T).run (rec_run_answer c T).losses).0
      (subst (λ (x : RecordAnswer). Silent (losses.rec_state_check c x.run x.losses)) (sym answered) s) in
      ((r.short, r.named), λ j l. (rec_passes_at c (rec_run_answer c T).run (rec_run_answer c T).losses ((accepts_is c).1 a) j l).0 (r.queues j l))

  -- "it ends clean"
  module _ (ends : RecCleanly (rec_run_answer c T).outcome) where
    -- "a run of T ticks"
    pub recording_clock : (rec_run_answer c T).run.clock ≡ T
    recording_clock = losses.rec_run_clock c T ran ((rec_cleanly_is _).0 ends)

    -- "the source fires if y divides t", its production lost or not: it has fired T/y times, rounded up
    pub recording_source : count_at (rec_run_answer c T).run 0 ≡ ceil T c.period
    recording_source = losses.rec_run_source c T ran ((rec_cleanly_is _).0 ends)

    -- "works one tick": what N_1 to N_n have worked, e for each firing, lost or not, and the work done of the next, is one tick for each instant below T at which one of
    -- them was over threshold after the source's step
    pub recording_work : HowMany (λ t. RecWaits c (rec_run_answer c t).run (rec_run_answer c t).losses) T (total c (rec_run_answer c T).run)
    recording_work = losses.rec_run_work c T ran ((rec_cleanly_is _).0 ends)
