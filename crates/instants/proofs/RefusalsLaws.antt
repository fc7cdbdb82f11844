-- Laws of specs/Refusals.antt that rest on a definition which an edit of must-fail/ changes.
-- When a tick and a deadline run are refused, and what they answer then and else (01, Firing and Numbers a call may refuse with).
--   clock_exact, _silent, _only
--                              9 of the clock speaks exactly under its condition, is silent exactly elsewhere, and has its own number
--   unspent_silent, spent_says 9 of one node: silent where its count can grow, and speaking where it cannot
--   spent_exact, _silent, _only
--                              and of the nodes 0 to n
--   nine_exact, _silent, _only its laws
--   length_exact, _silent, _only
--                              9 of a deadline run
--   tick_own_parts, _silent, _earlier, _numbered, _17, _9
--                              a tick's own checks, 17 and both of 9, behind whatever checks come before: what is said with each number
--   run_own_parts, _silent, _earlier, _numbered, _9
--                              and a run's own, 9
--   tick_parts                 the checks of a run, then 17, then both of 9
--   tick_17, _9, _earlier      when a tick is refused with each number
--   tick_accepts               it is not refused exactly when the chain is accepted, its capacities are enough, the state passes 17, the clock is below
--                              the limit, and each count can grow
--   Ticking c s, ticking_is    the same as a record, which the code of a tick asks
--   deadline_run_parts         the checks of a run, then 9
--   deadline_run_9, _earlier   when a deadline run is refused with each number
--   deadline_run_accepts       it is not refused exactly when the chain is accepted, its capacities are enough, and T is within the limit
--   tick_fine, deadline_run_fine
--                              a silent refusal is fine
--   tick_ran, _refused         what a tick answers
--   deadline_run_ran, _refused what a deadline run answers
use Rattle.std.proofs.Math.Logic.Iff
use Rattle.std.specs.Prelude.{◌≡◌, refl, ◌↔◌, ◌≢◌, List, [], ◌∷◌, ◌++◌, ℕ, suc, ◌≤◌, ◌<◌, get_or, take, ltb, leb, eqb}
use Rattle.std.proofs.Math.Path.{sym, ap}
use Rattle.std.proofs.Common.{◌∙◌, ne_eqb}
use native.Mathlib.Omega.{arith}
use Rattle.std.proofs.lemmas.Bool.{eqb-false}
use Rattle.words.specs.Table.{tab}
use Rattle.chain.specs.Tests.{below_true, below_false, upto_true, upto_false, equal_true, sum_iff}
use Rattle.chain.specs.Refusals.{refused, fine, first, or_else, first_append, first_last, first_fine, Silent, Silents, Numbered, Others}
use Rattle.chain.proofs.RefusalsLaws.{exact_at}
use Rattle.chain.specs.Refusals.{or_says, or_silents, silent_as, says_last, Lowest, lowest_is, Only, only_test, only_tab}
use Rattle.chain.specs.Refusals.{only_or, test_exact, test_silent, test_alone, all_silent, said_earlier, numbered_append}
use Rattle.chain.specs.Refusal.{Refusal}
use Rattle.chain.specs.declared.Chain.{Chain}
use Rattle.sizing.specs.Checks.{limit, Enough, run_checks, run_refusal, run_numbers}
use Rattle.sizing.proofs.ChecksLaws.{run_numbered}
use Rattle.sizing.specs.Accepted.{Accepted}
use Rattle.sizing.proofs.AcceptedLaws.{run_accepts}
use Rattle.state.specs.State.{count_at, empty_run, fresh_run}
use Rattle.state.specs.Checks.{state_check, FirstBroken, StateSound}
use Rattle.state.proofs.ChecksLaws.{state_exact, state_silent, state_only}
use Rattle.state.specs.declared.Run.{Run}
use Rattle.instants.specs.Steps.{tick, instants}
use Rattle.instants.specs.Checks.{longest, clock_check, spent_test, spent_check, tick_checks, length_check, deadline_run_checks}
use Rattle.instants.specs.Checks.{tick_refusal, deadline_run_refusal, tick_answer, deadline_run_answer}
use Rattle.instants.specs.Refusals.{FirstSpent, LateOrSpent, nine_check, said_behind, silents_row, own_numbers, tick_numbers, deadline_run_numbers, Ticking, ran_as, refused_as, outcome_refused, outcome_fine}

-- 9 of the clock is said exactly when it is 1,000,000 or more, place 0
pub clock_exact : (s : Run) (L : ℕ) → (clock_check s ≡ refused 9 L) ↔ ((1000000 ≤ s.clock) × (L ≡ 0))
clock_exact s L = Iff.trans (test_exact 9 L 0 (λ e. omega arith) _) (Iff.and (upto_true longest s.clock) Iff.rfl)

-- it is silent exactly below
pub clock_silent : (s : Run) → Silent (clock_check s) ↔ (s.clock < longest)
clock_silent s = Iff.trans (test_silent 9 0 (λ e. omega arith) _) (upto_false longest s.clock)

-- and has its own number
pub clock_only : (s : Run) → Only 9 (clock_check s)
clock_only s = only_test 9 0 (leb longest s.clock)

module _ (c : Chain) (s : Run) where
  -- 9 of one node is silent where its count can grow
  pub unspent_silent : (i : ℕ) → Silent (spent_test s i) ↔ (count_at s i ≢ limit)
  unspent_silent i = Iff.trans (test_silent 9 i (λ e. omega arith) _) (λ e. eqb-false _ _ e, λ n. ne_eqb _ _ n)

  -- and speaks where it cannot
  pub spent_says : (i L : ℕ) → (spent_test s i ≡ refused 9 L) ↔ ((count_at s i ≡ limit) × (L ≡ i))
  spent_says i L = Iff.trans (test_exact 9 L i (λ e. omega arith) _) (Iff.and (equal_true (count_at s i) limit) Iff.rfl)

  -- 9 of the counts is said exactly of the lowest such node
  pub spent_exact : (L : ℕ) → (spent_check c s ≡ refused 9 L) ↔ FirstSpent c s L
  unfolding spent_check
  spent_exact L = Iff.trans (lowest_is 9 L (λ e. omega arith) (spent_test s) (suc c.n)) (out, back)
    where
      out : Lowest (spent_test s) (suc c.n) 9 L → FirstSpent c s L
      out f =
          let e = (spent_says f.at L).0 f.says in
          rw e.1 (record { node = omega (arith, f.inside); spent = e.0; before = λ j l. (unspent_silent j).0 (f.before j l) })

      back : FirstSpent c s L → Lowest (spent_test s) (suc c.n) 9 L
      back f = record { at = L; inside = omega (arith, f.node); says = (spent_says L L).1 (f.spent, refl); before = λ j l. (unspent_silent j).1 (f.before j l) }

  -- it is silent exactly where every count can grow
  pub spent_silent : Silent (spent_check c s) ↔ ((i : ℕ) → i ≤ c.n → count_at s i ≢ limit)
  unfolding spent_check
  spent_silent = Iff.trans (all_silent (spent_test s) (suc c.n)) (λ h i l. (unspent_silent i).0 (h i (omega arith)), λ h i l. (unspent_silent i).1 (h i (omega arith)))

  -- and has its own number
  pub spent_only : Only 9 (spent_check c s)
  unfolding spent_check
  spent_only = only_tab 9 (spent_test s) (λ i. only_test 9 i (eqb (count_at s i) limit)) (suc c.n)

  -- both of 9 say it exactly when the clock is too large, or is not and a count cannot grow
  pub nine_exact : (L : ℕ) → (nine_check c s ≡ refused 9 L) ↔ LateOrSpent c s L
  nine_exact L =
      Iff.trans (or_says 9 L (λ e. omega arith) (clock_check s) (spent_check c s))
      (sum_iff (clock_exact s L) (Iff.and (clock_silent s) (spent_exact L)))

  -- they are silent exactly where neither is the case
  pub nine_silent : Silent (nine_check c s) ↔ ((s.clock < longest) × ((i : ℕ) → i ≤ c.n → count_at s i ≢ limit))
  nine_silent = Iff.trans (or_silents (clock_check s) (spent_check c s)) (Iff.and (clock_silent s) spent_silent)

  -- and have one number
  pub nine_only : Only 9 (nine_check c s)
  nine_only = only_or (clock_check s) (spent_check c s) (clock_only s) spent_only

-- 9 of a deadline run is said exactly when T passes 1,000,000, place 0
pub length_exact : (T L : ℕ) → (length_check T ≡ refused 9 L) ↔ ((1000000 < T) × (L ≡ 0))
length_exact T L = Iff.trans (test_exact 9 L 0 (λ e. omega arith) _) (Iff.and (below_true longest T) Iff.rfl)

-- it is silent exactly where T does not
pub length_silent : (T : ℕ) → Silent (length_check T) ↔ (T ≤ longest)
length_silent T = Iff.trans (test_silent 9 0 (λ e. omega arith) _) (below_false longest T)

-- and has its own number
pub length_only : (T : ℕ) → Only 9 (length_check T)
length_only T = only_test 9 0 (ltb longest T)

-- a tick's own checks: 17, as a check r says it, and both of 9, behind whatever checks come before
module _ (before : List Refusal) (r : Refusal) (c : Chain) (s : Run) where
  -- both of 9 last
  nine_last : or_else (nine_check c s) fine ≡ nine_check c s
  unfolding spent_check first
  nine_last = first_last (clock_check s ∷ tab (suc c.n) (spent_test s))

  -- with both of 9 as one
  own_joined : first (before ++ (r ∷ clock_check s ∷ spent_check c s ∷ [])) ≡ first (before ++ (r ∷ nine_check c s ∷ []))
  unfolding first spent_check
  own_joined =
      first_append before (r ∷ clock_check s ∷ spent_check c s ∷ [])
      ∙ ap (λ (x : Refusal). or_else (first before) (or_else r (or_else (clock_check s) x))) (first_last (tab (suc c.n) (spent_test s)))
      ∙ ap (λ (x : Refusal). or_else (first before) (or_else r x)) (sym nine_last)
      ∙ sym (first_append before (r ∷ nine_check c s ∷ []))

  -- one after the other
  pub tick_own_parts : first (before ++ (r ∷ clock_check s ∷ spent_check c s ∷ [])) ≡ or_else (first before) (or_else r (nine_check c s))
  unfolding first
  tick_own_parts = own_joined ∙ first_append before (r ∷ nine_check c s ∷ []) ∙ ap (λ (x : Refusal). or_else (first before) (or_else r x)) nine_last

  -- they are silent exactly where all of them are
  pub tick_own_silent : Silent (first (before ++ (r ∷ clock_check s ∷ spent_check c s ∷ [])))
      ↔ (Silent (first before) × (Silent r × ((s.clock < longest) × ((i : ℕ) → i ≤ c.n → count_at s i ≢ limit))))
  tick_own_silent =
      Iff.trans (silent_as tick_own_parts, silent_as (sym tick_own_parts))
      (Iff.trans (or_silents (first before) _) (Iff.and Iff.rfl (Iff.trans (or_silents r _) (Iff.and Iff.rfl (nine_silent c s)))))

  -- where r has its own number
  module _ (only : Only 17 r) where
    own_checks_numbered : Numbered (17 ∷ 9 ∷ []) (r ∷ nine_check c s ∷ [])
    unfolding Numbered
    own_checks_numbered = (only, (nine_only c s, tt))

    -- every other number is said exactly when the checks before say it
    pub tick_own_earlier : (N L : ℕ) → N ≢ 0 → N ≢ 17 → N ≢ 9 → (first (before ++ (r ∷ clock_check s ∷ spent_check c s ∷ [])) ≡ refused N L) ↔ (first before ≡ refused N L)
    tick_own_earlier N L some other nor =
        rw own_joined (said_earlier N L some before (17 ∷ 9 ∷ []) (r ∷ nine_check c s ∷ []) own_checks_numbered (λ e. other (sym e), (λ e. nor (sym e), tt)))

    -- and where those before have neither number
    module _ (Ns : List ℕ) (numbered : Numbered Ns before) where
      pub tick_own_numbered : Numbered (Ns ++ (17 ∷ 9 ∷ 9 ∷ [])) (before ++ (r ∷ clock_check s ∷ spent_check c s ∷ []))
      unfolding Numbered
      tick_own_numbered = numbered_append Ns (17 ∷ 9 ∷ 9 ∷ []) before (r ∷ clock_check s ∷ spent_check c s ∷ []) numbered (only, (clock_only s, (spent_only c s, tt)))

      -- 17
      pub tick_own_17 : (L : ℕ) → Others 17 Ns → (first (before ++ (r ∷ clock_check s ∷ spent_check c s ∷ [])) ≡ refused 17 L) ↔ (Silents before × (r ≡ refused 17 L))
      unfolding Numbered
      tick_own_17 L others = rw own_joined
          (Iff.trans (said_behind 17 L (λ e. omega arith) Ns before numbered others (r ∷ nine_check c s ∷ []))
          (Iff.and Iff.rfl (Iff.trans (said_earlier 17 L (λ e. omega arith) (r ∷ []) (9 ∷ []) (nine_check c s ∷ []) (nine_only c s, tt) (λ e. omega arith, tt)) (says_last 17 L (λ e. omega arith) r))))

      -- 9
      pub tick_own_9 : (L : ℕ) → Others 9 Ns → (first (before ++ (r ∷ clock_check s ∷ spent_check c s ∷ [])) ≡ refused 9 L) ↔ (Silents (before ++ (r ∷ [])) × LateOrSpent c s L)
      unfolding Numbered
      tick_own_9 L others = rw own_joined
          (Iff.trans (said_behind 9 L (λ e. omega arith) Ns before numbered others (r ∷ nine_check c s ∷ []))
          (Iff.trans
          (Iff.and Iff.rfl (Iff.trans (said_behind 9 L (λ e. omega arith) (17 ∷ []) (r ∷ []) (only, tt) (λ e. omega arith, tt) (nine_check c s ∷ []))
          (Iff.and Iff.rfl (Iff.trans (says_last 9 L (λ e. omega arith) (nine_check c s)) (nine_exact c s L)))))
          (λ h. ((silents_row before (r ∷ [])).0 (h.0, h.1.0), h.1.1), λ h. let q = (silents_row before (r ∷ [])).1 h.0 in (q.0, (q.1, h.1)))))

-- a run's own check: 9, behind whatever checks come before
module _ (before : List Refusal) (T : ℕ) where
  -- one after the other
  pub run_own_parts : first (before ++ (length_check T ∷ [])) ≡ or_else (first before) (length_check T)
  unfolding first
  run_own_parts = first_append before (length_check T ∷ []) ∙ ap (or_else (first before)) (sym (test_alone 9 0 (λ e. omega arith) (ltb longest T)))

  -- they are silent exactly where both are
  pub run_own_silent : Silent (first (before ++ (length_check T ∷ []))) ↔ (Silent (first before) × (T ≤ longest))
  run_own_silent =
      Iff.trans (silent_as run_own_parts, silent_as (sym run_own_parts)) (Iff.trans (or_silents (first before) (length_check T)) (Iff.and Iff.rfl (length_silent T)))

  -- every other number is said exactly when the checks before say it
  pub run_own_earlier : (N L : ℕ) → N ≢ 0 → N ≢ 9 → (first (before ++ (length_check T ∷ [])) ≡ refused N L) ↔ (first before ≡ refused N L)
  unfolding Numbered
  run_own_earlier N L some other = said_earlier N L some before (9 ∷ []) (length_check T ∷ []) (length_only T, tt) (λ e. other (sym e), tt)

  -- and where those before do not have 9
  module _ (Ns : List ℕ) (numbered : Numbered Ns before) where
    pub run_own_numbered : Numbered (Ns ++ (9 ∷ [])) (before ++ (length_check T ∷ []))
    unfolding Numbered
    run_own_numbered = numbered_append Ns (9 ∷ []) before (length_check T ∷ []) numbered (length_only T, tt)

    pub run_own_9 : (L : ℕ) → Others 9 Ns → (first (before ++ (length_check T ∷ [])) ≡ refused 9 L) ↔ (Silents before × ((longest < T) × (L ≡ 0)))
    run_own_9 L others =
        Iff.trans (said_behind 9 L (λ e. omega arith) Ns before numbered others (length_check T ∷ []))
        (Iff.and Iff.rfl (Iff.trans (says_last 9 L (λ e. omega arith) (length_check T)) (length_exact T L)))

-- a tick is refused with a number exactly when no earlier check speaks and the number's own condition holds
module _ (c : Chain) (s : Run) where
  -- the checks of a run, then 17, then both of 9
  pub tick_parts : tick_refusal c s ≡ or_else (run_refusal c) (or_else (state_check c s) (or_else (clock_check s) (spent_check c s)))
  unfolding tick_refusal run_refusal spent_check first
  tick_parts =
      first_append (run_checks c) (state_check c s ∷ clock_check s ∷ spent_check c s ∷ [])
      ∙ ap (λ (r : Refusal). or_else (first (run_checks c)) (or_else (state_check c s) (or_else (clock_check s) r))) (first_last (tab (suc c.n) (spent_test s)))

  -- its checks with both of 9 as one
  joined : List Refusal
  joined = run_checks c ++ (state_check c s ∷ nine_check c s ∷ [])

  tick_joined : tick_refusal c s ≡ first joined
  unfolding joined run_refusal spent_check first
  tick_joined =
      tick_parts
      ∙ ap (λ (r : Refusal). or_else (run_refusal c) (or_else (state_check c s) r)) (sym nine_last)
      ∙ sym (first_append (run_checks c) (state_check c s ∷ nine_check c s ∷ []))
    where
      nine_last : or_else (nine_check c s) fine ≡ nine_check c s
      nine_last = first_last (clock_check s ∷ tab (suc c.n) (spent_test s))

  -- the numbers of these, in order: each speaks with its own
  own_numbered : Numbered own_numbers (state_check c s ∷ nine_check c s ∷ [])
  unfolding Numbered
  own_numbered = (state_only c s, (nine_only c s, tt))

  joined_numbered : Numbered (run_numbers ++ own_numbers) joined
  unfolding joined
  joined_numbered = numbered_append run_numbers own_numbers (run_checks c) (state_check c s ∷ nine_check c s ∷ []) (run_numbered c) own_numbered

  -- and with both of 9 apart
  pub tick_numbered : Numbered tick_numbers (tick_checks c s)
  unfolding Numbered
  tick_numbered = numbered_append run_numbers (17 ∷ 9 ∷ 9 ∷ []) (run_checks c) (state_check c s ∷ clock_check s ∷ spent_check c s ∷ [])
      (run_numbered c) (state_only c s, (clock_only s, (spent_only c s, tt)))

  tick_at : (k L : ℕ) → k < 8 → (tick_refusal c s ≡ refused (get_or (run_numbers ++ own_numbers) k 0) L) ↔ (Silents (take k joined) × (get_or joined k fine ≡ refused (get_or (run_numbers ++ own_numbers) k 0) L))
  unfolding joined
  tick_at k L l = rw tick_joined (exact_at (run_numbers ++ own_numbers) joined joined_numbered tt k L l)

  -- 17
  pub tick_17 : (L : ℕ) → (tick_refusal c s ≡ refused 17 L) ↔ (Silents (run_checks c) × FirstBroken c s L)
  unfolding joined
  tick_17 L = Iff.trans (tick_at 6 L (omega arith)) (Iff.and Iff.rfl (state_exact c s L))

  -- 9
  pub tick_9 : (L : ℕ) → (tick_refusal c s ≡ refused 9 L) ↔ (Silents (run_checks c ++ (state_check c s ∷ [])) × LateOrSpent c s L)
  unfolding joined
  tick_9 L = Iff.trans (tick_at 7 L (omega arith)) (Iff.and Iff.rfl (nine_exact c s L))

  -- every other number, so each of 2 to 8, is said exactly when it is said of every run
  pub tick_earlier : (N L : ℕ) → N ≢ 0 → N ≢ 17 → N ≢ 9 → (tick_refusal c s ≡ refused N L) ↔ (run_refusal c ≡ refused N L)
  unfolding joined run_refusal
  tick_earlier N L some other nor =
      rw tick_joined (said_earlier N L some (run_checks c) own_numbers (state_check c s ∷ nine_check c s ∷ []) own_numbered (λ e. other (sym e), (λ e. nor (sym e), tt)))

  -- a tick is not refused exactly when the chain is accepted with capacities that are enough, the state passes 17, and clock and counts can grow
  pub tick_accepts : Silent (tick_refusal c s) ↔ ((Accepted c × ((i : ℕ) → i < c.n → Enough c i)) × (StateSound c s × ((s.clock < longest) × ((i : ℕ) → i ≤ c.n → count_at s i ≢ limit))))
  tick_accepts =
      Iff.trans (silent_as tick_parts, silent_as (sym tick_parts))
      (Iff.trans (or_silents (run_refusal c) _) (Iff.and (run_accepts c) (Iff.trans (or_silents (state_check c s) _) (Iff.and (state_silent c s) (nine_silent c s)))))

-- it is what tick_accepts says
pub ticking_is : (c : Chain) (s : Run) → Silent (tick_refusal c s) ↔ Ticking c s
ticking_is c s = Iff.trans (tick_accepts c s) (
  λ h. record { chain = h.0.0; enough = h.0.1; state = h.1.0; clock = h.1.1.0; countable = h.1.1.1 },
  λ k. ((k.chain, k.enough), (k.state, (k.clock, k.countable))),
)

-- and so is a deadline run
module _ (c : Chain) (T : ℕ) where
  -- the checks of a run, then 9
  pub deadline_run_parts : deadline_run_refusal c T ≡ or_else (run_refusal c) (length_check T)
  unfolding deadline_run_refusal run_refusal first
  deadline_run_parts = first_append (run_checks c) (length_check T ∷ []) ∙ ap (or_else (first (run_checks c))) (sym (test_alone 9 0 (λ e. omega arith) (ltb longest T)))

  -- each speaks with its own number
  pub deadline_run_numbered : Numbered deadline_run_numbers (deadline_run_checks c T)
  unfolding Numbered
  deadline_run_numbered = numbered_append run_numbers (9 ∷ []) (run_checks c) (length_check T ∷ []) (run_numbered c) (length_only T, tt)

  -- 9
  pub deadline_run_9 : (L : ℕ) → (deadline_run_refusal c T ≡ refused 9 L) ↔ (Silents (run_checks c) × ((longest < T) × (L ≡ 0)))
  unfolding deadline_run_refusal
  deadline_run_9 L = Iff.trans (exact_at deadline_run_numbers (deadline_run_checks c T) deadline_run_numbered tt 6 L (omega arith)) (Iff.and Iff.rfl (length_exact T L))

  -- every other number, so each of 2 to 8, is said exactly when it is said of every run
  pub deadline_run_earlier : (N L : ℕ) → N ≢ 0 → N ≢ 9 → (deadline_run_refusal c T ≡ refused N L) ↔ (run_refusal c ≡ refused N L)
  unfolding deadline_run_refusal run_refusal Numbered
  deadline_run_earlier N L some other = said_earlier N L some (run_checks c) (9 ∷ []) (length_check T ∷ []) (length_only T, tt) (λ e. other (sym e), tt)

  -- a deadline run is not refused exactly when the chain is accepted with capacities that are enough, and T is at most 1,000,000
  pub deadline_run_accepts : Silent (deadline_run_refusal c T) ↔ ((Accepted c × ((i : ℕ) → i < c.n → Enough c i)) × (T ≤ longest))
  deadline_run_accepts =
      Iff.trans (silent_as deadline_run_parts, silent_as (sym deadline_run_parts))
      (Iff.trans (or_silents (run_refusal c) (length_check T)) (Iff.and (run_accepts c) (length_silent T)))

module _ (c : Chain) (s : Run) where
  -- a refusal that is silent is fine
  pub tick_fine : Silent (tick_refusal c s) → fine ≡ tick_refusal c s
  unfolding tick_refusal
  tick_fine z = sym (first_fine (tick_checks c s) z)

  -- a tick that is not refused answers what the tick leaves
  pub tick_ran : Silent (tick_refusal c s) → tick_answer c s ≡ ran_as (tick c s)
  unfolding tick_answer
  tick_ran z = sym (outcome_fine s (tick c s) (tick_fine z))

  -- and one that is answers the refusal, and the state as it was
  pub tick_refused : (Silent (tick_refusal c s) → ⊥) → tick_answer c s ≡ refused_as (tick_refusal c s) s
  unfolding tick_answer
  tick_refused n = sym (outcome_refused (tick_refusal c s) s (tick c s) n)

module _ (c : Chain) (T : ℕ) where
  -- a refusal that is silent is fine
  pub deadline_run_fine : Silent (deadline_run_refusal c T) → fine ≡ deadline_run_refusal c T
  unfolding deadline_run_refusal
  deadline_run_fine z = sym (first_fine (deadline_run_checks c T) z)

  -- a deadline run that is not refused answers what its instants leave
  pub deadline_run_ran : Silent (deadline_run_refusal c T) → deadline_run_answer c T ≡ ran_as (instants c T (fresh_run c))
  unfolding deadline_run_answer
  deadline_run_ran z = sym (outcome_fine empty_run (instants c T (fresh_run c)) (deadline_run_fine z))

  -- and one that is answers the refusal, and an empty state
  pub deadline_run_refused : (Silent (deadline_run_refusal c T) → ⊥) → deadline_run_answer c T ≡ refused_as (deadline_run_refusal c T) empty_run
  unfolding deadline_run_answer
  deadline_run_refused n = sym (outcome_refused (deadline_run_refusal c T) empty_run (instants c T (fresh_run c)) n)
