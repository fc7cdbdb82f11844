-- Laws of specs/Entries.antt that rest on a definition which an edit of must-fail/ changes.
-- The instants of a trace, node by node, and what they are in a deadline run that is clean (01, Firing).
--   entries_count              N_i has as many of them as it has fired
--   source_entries             the source's are the multiples of y below T, once each
--   worked_by_law              from instant t to instant u no node works more than u - t ticks
--   entries_when               exactly that is its k-th instant, counted from 0
--   entries_first, _apart      its first is e or later, and each other one is e or more after the one before
--   entries_rise               the instants of all nodes never fall, and none is after T
use Rattle.std.specs.Prelude.{◌≡◌, ◌↔◌, Bool, true, false, cond, length, get_or}
use Rattle.std.proofs.Math.Path.{refl, sym, ap, subst}
use Rattle.std.proofs.Common.{◌∙◌, inr, le_refl, le_trans, le_antisymm, arith, length-append}
use Rattle.std.proofs.Math.Logic.{inl, ⊎_elim, by_cases}
use mathlib.Core.List.{List, [], ◌∷◌, ◌++◌, append-nil, append_assoc}
use Prim.Native.Nat.{ℕ, zero, suc, ◌+◌, ◌*◌, ◌≤◌, ◌<◌}
use Rattle.std.proofs.Math.Decide.{ℕ_discrete, dec_le, dec_lt}
use Rattle.std.proofs.Math.ListN.{get_or-append}
use Rattle.std.proofs.lemmas.List.{get_or_at}
use Rattle.arith.specs.Division.{ceil}
use Rattle.arith.proofs.DivisionLaws.{ceil_zero, ceil_rises}
use Rattle.words.specs.Table.{tab, length_tab, tab_last}
use Rattle.chain.specs.Record.{work_of}
use Rattle.chain.specs.declared.Chain.{Chain}
use Rattle.state.specs.State.{count_at, fresh_run}
use Rattle.state.specs.declared.Run.{Run}
use Rattle.history.specs.History.{Entry}
use Rattle.instants.specs.Checks.{deadline_run_answer}
use Rattle.instants.specs.Steps.{clean, goes, onward, divides, begun, chosen, worked, ended, finished, advanced, tick, ticks, instants}
use Rattle.instants.specs.Kept.{fired_clock}
use Rattle.instants.proofs.KeptLaws.{source_cases, begun_clean, worked_clock}
use Rattle.instants.specs.Runs.{onward_cases}
use Rattle.instants.proofs.FreshLaws.{run_is_ticks}
use Rattle.instants.proofs.AnswersLaws.{run_may, ran_to, run_start, along}
use Rattle.instants.specs.Totals.{worked_by, tick_work, fresh_work}
use Rattle.instants.proofs.TotalsLaws.{tick_source, run_clock}
use Rattle.instants.specs.declared.Outcome.{Outcome}
use Rattle.instants.specs.declared.Outcome.TheVariants.{Clean, Overflowed, NoDeadline}
use Rattle.instants.specs.declared.Ticked.{Ticked}
use Rattle.instants.specs.Answered.{TickAnswer}
use Rattle.traces.specs.Trace.{tracing, source_entry, finish_entry, finish_trace, tick_trace, trace}
use Rattle.traces.proofs.TracedLaws.{run_counted}
use Rattle.traces.specs.Rising.{Rising}
use Rattle.traces.proofs.RisingLaws.{run_rising}
use Rattle.traces.specs.Entries.{instants_of, instants_own, instants_other, instants_append, instants_times, tracing_cases, when, AtMost, More, at_end, entries_of, Step, Grows, FiredAt, cleared, AllFired}

module _ (c : Chain) where
  -- "the clock going to t+1"
  advanced_clock : (s : Run) → (advanced c s).outcome ≡ Clean → (advanced c s).run.clock ≡ suc s.clock
  unfolding advanced
  advanced_clock s z =
      let o = onward_cases (begun c s) (λ u. clean (worked u (chosen c u))) z in
      let source : (begun c s).run.clock ≡ s.clock = ap (λ (x : Ticked). x.run.clock) (begun_clean c s o.0).1.1
      ∙ source_cases c s (λ x. x.run.clock ≡ s.clock) (λ e. refl) (λ e. fired_clock c s 0) refl in
      ap (λ (x : Ticked). x.run.clock) o.1.1 ∙ omega (arith, worked_clock (begun c s).run (chosen c (begun c s).run), source)

  -- a tick at t has at most one firing of the source, at t, and then at most one of another node, at t+1
  tick_cases : (s : Run) (P : List Entry → Type 0) → P [] → ((m : ℕ) → P ((when m s.clock, m) ∷ [])) → ((j : ℕ) → P ((s.clock, 0) ∷ (suc s.clock, suc j) ∷ [])) → P (tick_trace c s)
  unfolding tick_trace source_entry finish_trace finish_entry
  tick_cases s P none one both = tracing_cases (begun c s).outcome s (λ u. source_entry c s) (λ h. P (h ++ later)) (rest [] none (λ j. one (suc j))) (λ z. by (divides c.period s.clock))
    where
      later : List Entry
      later = tracing (advanced c s).outcome (advanced c s).run (finish_trace c)

      ends : (g : List Entry) → P (g ++ []) → ((j : ℕ) → P (g ++ ((suc s.clock, suc j) ∷ []))) → (v : Run) → v.clock ≡ suc s.clock → (e : ℕ) → P (g ++ finish_entry v e)
      ends g a b v at zero = a
      ends g a b v at (suc j) = subst (λ (t : ℕ). P (g ++ ((t, suc j) ∷ []))) (sym at) (b j)

      rest : (g : List Entry) → P (g ++ []) → ((j : ℕ) → P (g ++ ((suc s.clock, suc j) ∷ []))) → P (g ++ later)
      rest g a b = tracing_cases (advanced c s).outcome (advanced c s).run (finish_trace c) (λ h. P (g ++ h)) a
          (λ z. tracing_cases (finished c (advanced c s).run).outcome (advanced c s).run _ (λ h. P (g ++ h)) a
          (λ y. ends g a b (advanced c s).run (advanced_clock s z) (ended c (advanced c s).run)))

      by : (b : Bool) → P (cond b ((s.clock, 0) ∷ []) [] ++ later)
      by true = rest ((s.clock, 0) ∷ []) (one 0) both
      by false = rest [] none (λ j. one (suc j))

  -- so N_i fires at most once in it
  tick_once : (s : Run) (i : ℕ) → AtMost (instants_of i (tick_trace c s)) (when i s.clock)
  unfolding instants_of
  tick_once s i = tick_cases s (λ h. AtMost (instants_of i h) (when i s.clock)) (inl refl) one both
    where
      one : (m : ℕ) → AtMost (instants_of i ((when m s.clock, m) ∷ [])) (when i s.clock)
      one m = by_cases (ℕ_discrete m i) (λ e. rw e (inr (instants_own i (when i s.clock) []))) (λ n. inl (instants_other i m (when m s.clock) [] n))

      both : (j : ℕ) → AtMost (instants_of i ((s.clock, 0) ∷ (suc s.clock, suc j) ∷ [])) (when i s.clock)
      both j = by_cases (ℕ_discrete 0 i)
          (λ e. subst (λ (m : ℕ). AtMost (instants_of m ((s.clock, 0) ∷ (suc s.clock, suc j) ∷ [])) (when m s.clock)) e
          (inr (instants_own 0 s.clock ((suc s.clock, suc j) ∷ []) ∙ ap (λ (l : List ℕ). s.clock ∷ l) (instants_other 0 (suc j) (suc s.clock) [] (λ z. omega arith)))))
          (λ n. subst (λ (l : List ℕ). AtMost l (when i s.clock)) (sym (instants_other i 0 s.clock ((suc s.clock, suc j) ∷ []) n)) (one (suc j)))

  -- T+1 ticks have the firings of T ticks, and then those of one from the state that these leave clean
  trace_last : (T : ℕ) (s : Run) → trace c (suc T) s ≡ trace c T s ++ tracing (ticks c T s).outcome (ticks c T s).run (tick_trace c)
  unfolding trace ticks tracing onward
  trace_last zero s = tracing_cases (tick c s).outcome (tick c s).run (trace c 0) (λ h. tick_trace c s ++ h ≡ tick_trace c s) (append-nil (tick_trace c s)) (λ z. append-nil (tick_trace c s))
  trace_last (suc T) s = by (tick c s).outcome (tick c s).run (trace_last T)
    where
      by : (o : Outcome) (v : Run) → ((u : Run) → trace c (suc T) u ≡ trace c T u ++ tracing (ticks c T u).outcome (ticks c T u).run (tick_trace c))
          → tick_trace c s ++ tracing o v (trace c (suc T))
          ≡ (tick_trace c s ++ tracing o v (trace c T)) ++ tracing (goes o v (ticks c T)).outcome (goes o v (ticks c T)).run (tick_trace c)
      by Clean v last = ap (λ (h : List Entry). tick_trace c s ++ h) (last v) ∙ sym (append_assoc (tick_trace c s) (trace c T v) _)
      by (Overflowed t q) v last = sym (append-nil (tick_trace c s ++ []))
      by (NoDeadline t i) v last = sym (append-nil (tick_trace c s ++ []))

  -- and N_i at most one more
  last_once : (T : ℕ) (s : Run) (i : ℕ) → More (instants_of i (trace c T s)) (instants_of i (trace c (suc T) s)) (when i (ticks c T s).run.clock)
  unfolding instants_of
  last_once T s i = subst (λ (l : List ℕ). More (instants_of i (trace c T s)) l (when i (ticks c T s).run.clock))
      (sym (ap (instants_of i) (trace_last T s) ∙ instants_append i (trace c T s) _))
      (at_end (instants_of i (trace c T s)) _ _
      (tracing_cases (ticks c T s).outcome (ticks c T s).run (tick_trace c) (λ h. AtMost (instants_of i h) (when i (ticks c T s).run.clock)) (inl refl) (λ z. tick_once (ticks c T s).run i)))

-- a deadline run that is not refused
module _ (c : Chain) (T : ℕ) (ok : (deadline_run_answer c T).number ≡ 0) where
  -- what its first t ticks leave, as ticks and as instants
  ticks_to : (t : ℕ) → t ≤ T → (ticks c t (fresh_run c)).run ≡ (deadline_run_answer c t).run
  ticks_to t l = ap (λ (a : TickAnswer). a.run) (sym (ran_to c T ok t l))

  instants_to : (t : ℕ) → t ≤ T → (instants c t (fresh_run c)).run ≡ (deadline_run_answer c t).run
  instants_to t l = ap (λ (x : Ticked). x.run) (run_is_ticks (run_may c T ok).0.0 t) ∙ ticks_to t l

  -- each node has as many instants as it has fired, by each t
  count_to : (t : ℕ) → t ≤ T → (i : ℕ) → i ≤ c.n → length (entries_of c t i) ≡ count_at (deadline_run_answer c t).run i
  count_to t l i f =
      instants_times i (trace c t (fresh_run c))
      ∙ sym (run_counted (run_may c T ok).0.0 t (le_trans l (run_may c T ok).1) i f)
      ∙ ap (λ (s : Run). count_at s i) (instants_to t l)

  -- and by T
  pub entries_count : (i : ℕ) → i ≤ c.n → length (entries_of c T i) ≡ count_at (deadline_run_answer c T).run i
  entries_count = count_to T (le_refl T)

  -- so a tick adds one to both or to neither
  grows : (i : ℕ) → i ≤ c.n → (t : ℕ) → t < T → Step c t → Grows c i t
  grows i f t l k = ⊎_elim
      (λ e. inl (e, omega (arith, now, next, ap length e)))
      (λ e. inr (e, omega (arith, now, next, ap length e, length-append (entries_of c t i) (when i t ∷ []))))
      (subst (λ (u : ℕ). More (entries_of c t i) (entries_of c (suc t) i) (when i u)) (ap (λ (s : Run). s.clock) (ticks_to t (omega arith)) ∙ k.clock) (last_once c t (fresh_run c) i))
    where
      now : length (entries_of c t i) ≡ count_at (deadline_run_answer c t).run i
      now = count_to t (omega arith) i f

      next : length (entries_of c (suc t) i) ≡ count_at (deadline_run_answer c (suc t)).run i
      next = count_to (suc t) l i f

-- a deadline run that is not refused, and is clean
module _ (c : Chain) (T : ℕ) (ok : (deadline_run_answer c T).number ≡ 0) (z : (deadline_run_answer c T).outcome ≡ Clean) where
  -- "the source fires if y divides t": at the multiples of y below T, once each
  pub source_entries : entries_of c T 0 ≡ tab (ceil T c.period) (λ k. k * c.period)
  unfolding tab trace instants_of
  source_entries = along c T ok (λ t. entries_of c t 0 ≡ multiples (ceil t c.period)) first more z
    where
      some : 0 < c.period
      some = (run_may c T ok).0.0.chain.period.0

      multiples : ℕ → List ℕ
      multiples n = tab n (λ k. k * c.period)

      first : entries_of c 0 0 ≡ multiples (ceil 0 c.period)
      first = ap multiples (sym (ceil_zero c.period some))

      more : (t : ℕ) → t < T → Step c t → entries_of c t 0 ≡ multiples (ceil t c.period) → entries_of c (suc t) 0 ≡ multiples (ceil (suc t) c.period)
      more t l k h =
          let now : count_at (deadline_run_answer c t).run 0 ≡ ceil t c.period = sym (count_to c T ok t (omega arith) 0 (omega arith))
          ∙ ap length h ∙ length_tab (ceil t c.period) (λ m. m * c.period) in
          let next : count_at (deadline_run_answer c (suc t)).run 0 ≡ ceil (suc t) c.period = tick_source k now in
          ⊎_elim
          (λ e. e.0 ∙ h ∙ ap multiples (sym now ∙ sym e.1 ∙ next))
          (λ e.
          let one : ceil (suc t) c.period ≡ suc (ceil t c.period) = sym next ∙ e.1 ∙ ap suc now in
          e.0
          ∙ ap (λ (g : List ℕ). g ++ (t ∷ [])) h
          ∙ ap (λ (m : ℕ). multiples (ceil t c.period) ++ (m ∷ [])) (sym (ceil_rises t c.period some one))
          ∙ sym (tab_last (ceil t c.period) (λ m. m * c.period))
          ∙ ap multiples (sym one))
          (grows c T ok 0 (omega arith) t l k)

  -- each tick of it is clean
  step_at : (t : ℕ) → t < T → Step c t
  step_at t l = along c T ok (λ u. (v : ℕ) → v < u → Step c v) (λ v f. absurd (omega arith)) (λ u f k before v g. by_cases (ℕ_discrete v u) (λ e. rw e k) (λ n. before v (omega arith))) z t l

  -- what each clean tick hands on from instant t holds at each later one
  onwards : (t : ℕ) (P : ℕ → Type 0) → P t → ((u : ℕ) → u < T → Step c u → P u → P (suc u)) → (u : ℕ) → t ≤ u → u ≤ T → P u
  onwards t P now more zero l m = let e : t ≡ 0 = omega arith in subst P e now
  onwards t P now more (suc u) l m = by_cases (dec_le t u)
      (λ f. more u m (step_at u m) (onwards t P now more u f (omega arith)))
      (λ n. let e : t ≡ suc u = omega arith in subst P e now)

  -- "works one tick": from instant t to instant u no node works more than u - t ticks
  pub worked_by_law : (j t u : ℕ) → t ≤ u → u ≤ T → worked_by c (deadline_run_answer c u).run j + t ≤ worked_by c (deadline_run_answer c t).run j + u
  worked_by_law j t = onwards t (λ u. worked_by c (deadline_run_answer c u).run j + t ≤ worked_by c (deadline_run_answer c t).run j + u) (le_refl _) (λ u l k h. omega (arith, h, tick_work k.tick j))

  module _ (j : ℕ) (f : j < c.n) where
    -- no count falls
    count_rises : (t u : ℕ) → t ≤ u → u ≤ T → count_at (deadline_run_answer c t).run (suc j) ≤ count_at (deadline_run_answer c u).run (suc j)
    count_rises t = onwards t (λ u. count_at (deadline_run_answer c t).run (suc j) ≤ count_at (deadline_run_answer c u).run (suc j)) (le_refl _)
        (λ u l k h. ⊎_elim (λ e. omega (arith, h, e.1)) (λ e. omega (arith, h, e.1)) (grows c T ok (suc j) f u l k))

    all_more : (l : List ℕ) (t : ℕ) → FiredAt c T j (length l) t → (AllFired c T ok z j f) l → (AllFired c T ok z j f) (l ++ (t ∷ []))
    all_more l t last before k m = by_cases (dec_lt k (length l))
        (λ g. subst (FiredAt c T j k) (sym (get_or-append l (t ∷ []) 0 k g)) (before k g))
        (λ n.
        let e : length l ≡ k = omega (arith, m, n, length-append l (t ∷ [])) in
        subst (FiredAt c T j k) (sym (get_or_at l t [] 0 k e)) (subst (λ (i : ℕ). FiredAt c T j i t) e last))

    -- a count that grows in a tick at t does so at t+1
    fired_last : (t : ℕ) → t < T → Step c t → count_at (deadline_run_answer c (suc t)).run (suc j) ≡ suc (count_at (deadline_run_answer c t).run (suc j))
        → FiredAt c T j (length (entries_of c t (suc j))) (suc t)
    fired_last t l s one =
        let was : count_at (deadline_run_answer c t).run (suc j) ≡ length (entries_of c t (suc j)) = sym (count_to c T ok t (omega arith) (suc j) f) in
        record {
          before = t;
          is = refl;
          within = l;
          was = was;
          count = one ∙ ap suc was;
          done = cleared (work_of c j) _ _ _ _ (tick_work s.tick j) (s.running.state j f).1 one;
        }

    -- so of all of N_(j+1)'s
    all_fired : (AllFired c T ok z j f) (entries_of c T (suc j))
    unfolding trace instants_of
    all_fired = along c T ok (λ t. (AllFired c T ok z j f) (entries_of c t (suc j))) (λ k l. absurd (omega arith))
        (λ t l s before. ⊎_elim
        (λ e. subst (AllFired c T ok z j f) (sym e.0) before)
        (λ e. subst (AllFired c T ok z j f) (sym e.0) (all_more (entries_of c t (suc j)) (suc t) (fired_last t l s e.1) before))
        (grows c T ok (suc j) f t l s)) z

    -- a later firing is not earlier
    fired_order : {k m t u : ℕ} → FiredAt c T j k t → FiredAt c T j m u → k ≤ m → t ≤ u
    fired_order {k} {m} {t} {u} a b l = by_cases (dec_le t u) (λ h. h)
        (λ n. absurd (omega (arith, l, a.was, b.count, count_rises u a.before (omega (arith, n, a.is)) (omega (arith, a.within)))))

    -- "the effect at t+1 of a firing then finished": the k-th instant of N_(j+1), counted from 0, is the one at which its count becomes k+1
    pub entries_when : (k t : ℕ) → ((k < length (entries_of c T (suc j))) × (get_or (entries_of c T (suc j)) k 0 ≡ t)) ↔ FiredAt c T j k t
    entries_when k t = (λ h. subst (FiredAt c T j k) h.1 (all_fired k h.0), back)
      where
        back : FiredAt c T j k t → (k < length (entries_of c T (suc j))) × (get_or (entries_of c T (suc j)) k 0 ≡ t)
        back a =
            let l : k < length (entries_of c T (suc j)) = omega (arith, a.count, count_rises t T (omega (arith, a.is, a.within)) (le_refl T), entries_count c T ok (suc j) f) in
            (l, le_antisymm (fired_order (all_fired k l) a (le_refl k)) (fired_order a (all_fired k l) (le_refl k)))

    -- e ticks for each firing, and none for the next
    fired_work : {k t : ℕ} → FiredAt c T j k t → worked_by c (deadline_run_answer c t).run j ≡ work_of c j * suc k
    fired_work a = rw (a.count, a.done) (omega arith)

    -- the first firing takes its e ticks
    pub entries_first : 0 < length (entries_of c T (suc j)) → work_of c j ≤ get_or (entries_of c T (suc j)) 0 0
    entries_first some =
        let a = all_fired 0 some in
        omega (
          arith,
          fired_work a,
          worked_by_law j 0 (get_or (entries_of c T (suc j)) 0 0) (omega arith) (omega (arith, a.is, a.within)),
          ap (λ (x : TickAnswer). worked_by c x.run j) (run_start c T ok),
          fresh_work c j,
        )

    -- and so does each after it
    pub entries_apart : (k : ℕ) → suc k < length (entries_of c T (suc j)) → get_or (entries_of c T (suc j)) k 0 + work_of c j ≤ get_or (entries_of c T (suc j)) (suc k) 0
    entries_apart k l =
        let a = all_fired k (omega arith) in
        let b = all_fired (suc k) l in
        omega (
          arith,
          fired_work a,
          fired_work b,
          worked_by_law j (get_or (entries_of c T (suc j)) k 0)
              (get_or (entries_of c T (suc j)) (suc k) 0) (fired_order a b (omega arith)) (omega (arith, b.is, b.within)),
        )

  -- "a run of T ticks from a fresh start": no instant is before the one before it, or after T
  pub entries_rise : Rising 0 (trace c T (fresh_run c)) T
  entries_rise = subst (Rising 0 (trace c T (fresh_run c))) (ap (λ (s : Run). s.clock) (instants_to c T ok T (le_refl T)) ∙ run_clock c T ok z) (run_rising c (run_may c T ok).0.0 T)
