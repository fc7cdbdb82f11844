-- Laws of specs/Runs.antt that rest on a definition which an edit of must-fail/ changes.
-- "In every run state the slots past n are neither read nor changed" (01, Firing).
--   fresh_alike              chains that differ in slots past n only have the same fresh start
--   state-, over-, cramped_alike
--                            17, whether a node may fire and whether its production does not fit are the same of such chains and states
--   fire_alike               which refuse a firing alike
--   past_n                   and give states that differ in slots past n only
--   past_kept                each of which has its own slots past n as they were
use Rattle.std.specs.Prelude.{◌≡◌, refl, not, ◌||◌, ◌&&◌, ℕ, zero, suc, ◌+◌, ◌≤◌, ◌<◌, leb, eqb}
use Rattle.std.proofs.Common.{sym, ap₂, ◌∙◌, arith}
use Rattle.std.proofs.Math.Path.{ap}
use Rattle.std.proofs.Math.Logic.{by_cases}
use mathlib.Core.List.{[], ◌∷◌, ◌++◌}
use Rattle.std.proofs.Math.Decide.{ℕ_discrete}
use Rattle.std.proofs.Math.Dec.{ltb}
use borrow.Author.Tests.{ltb-true, ltb-false, leb-true}
use Rattle.words.specs.Table.{tab, tab_alike}
use Rattle.chain.specs.Refusals.{test, first, Silent, silent_as}
use Rattle.chain.specs.Record.{row_of}
use Rattle.chain.specs.Refusal.{Refusal}
use Rattle.chain.specs.declared.Chain.{Chain}
use Rattle.sizing.specs.Sizes.{capacity_of}
use Rattle.sizing.specs.Checks.{limit}
use Rattle.state.specs.State.{count_at, held_at, empty_run, fresh_empty, answered}
use Rattle.state.specs.Fired.{fired}
use Rattle.state.proofs.FiredLaws.{count_fired, count_other, held_output, held_input, held_other, held_sink}
use Rattle.state.specs.Checks.{broken, state_test, state_check, spent, over, idle, cramped}
use Rattle.state.specs.Fire.{fresh_answer, node_checks, fire_refusal, fire_answer, Firing}
use Rattle.state.proofs.FireLaws.{firing_is, fire_accepted, fire_refused}
use Rattle.state.specs.declared.Run.{Run}
use Rattle.slots.specs.Chains.{AlikeChains}
use Rattle.slots.proofs.ChainsLaws.{checks_alike, analyse_alike}
use Rattle.slots.specs.Runs.{AlikeRuns, KeptPast, Whole, and_alike, or_alike, count_slot, held_slot, enough, less_alike, given_back}

-- a fresh start is the same
pub fresh_alike : {c d : Chain} → AlikeChains c d → fresh_answer c ≡ fresh_answer d
unfolding fresh_answer
fresh_alike {c} {d} a = ap₂ (λ (r : Refusal) (t : Run). answered r empty_run t) (analyse_alike a) (sym (fresh_empty c) ∙ fresh_empty d)

module _ {c d : Chain} (a : AlikeChains c d) {s t : Run} (r : AlikeRuns c.n s t) where
  -- 17 of every queue
  pub state_alike : state_check c s ≡ state_check d t
  unfolding state_check
  state_alike = ap first (tab_alike c.n (state_test c s) (state_test d t) each ∙ ap (λ (k : ℕ). tab k (state_test d t)) a.n)
    where
      each : (i : ℕ) → i < c.n → state_test c s i ≡ state_test d t i
      each i l = λ k. test 17 i (broken (a.rows i l k) (a.work i l k) (r.counts i (omega arith) k) (r.counts (suc i) l k) (r.held i l k) (r.done i l k))

  -- 9: a node that there is, with a count that cannot grow
  spent_alike : (i : ℕ) → spent c s i ≡ spent d t i
  spent_alike i =
      and_alike (leb i c.n) _ _ (λ e. ap (λ (k : ℕ). eqb k limit) (r.counts i (leb-true _ _ e)))
      ∙ ap (λ (n : ℕ). leb i n && eqb (count_at t i) limit) a.n

  -- whether a node that there is may fire
  pub over_alike : (i : ℕ) → i ≤ c.n → over c s i ≡ over d t i
  over_alike zero l = refl
  over_alike (suc j) l = λ k. leb (a.rows j l k).threshold (r.held j l k)

  -- 11: no such node, or one that may not fire
  idle_alike : (i : ℕ) → idle c s i ≡ idle d t i
  idle_alike i =
      or_alike (ltb c.n i) _ _ (λ e. ap not (over_alike i (ltb-false _ _ e)))
      ∙ ap (λ (n : ℕ). ltb n i || not (over d t i)) a.n

  -- 12: an output queue that there is, with no room
  pub cramped_alike : (i : ℕ) → cramped c s i ≡ cramped d t i
  unfolding cramped
  cramped_alike i =
      and_alike (ltb i c.n) _ _ (λ e. let l : i < c.n = ltb-true _ _ e in λ k. ltb (capacity_of (a.rows i l k)) (r.held i l k + (a.rows i l k).produce))
      ∙ ap (λ (n : ℕ). ltb i n && ltb (capacity_of (row_of d i)) (held_at t i + (row_of d i).produce)) a.n

  -- the three of them
  node_alike : (i : ℕ) → node_checks c s i ≡ node_checks d t i
  node_alike i = λ k. test 9 i (spent_alike i k) ∷ test 11 i (idle_alike i k) ∷ test 12 i (cramped_alike i k) ∷ []

  -- a firing is refused alike
  pub fire_alike : (i : ℕ) → fire_refusal c s i ≡ fire_refusal d t i
  unfolding fire_refusal
  fire_alike i = ap first (ap₂ ◌++◌ (checks_alike a) (λ k. state_alike k ∷ node_alike i k))

module _ {c d : Chain} (a : AlikeChains c d) {s t : Run} (r : AlikeRuns c.n s t) (w : Whole s) (v : Whole t) where
  -- the counts after an accepted firing
  counts_after : (i : ℕ) → Firing c s i → Firing d t i → (j : ℕ) → j ≤ c.n → count_at (fired c s i) j ≡ count_at (fired d t i) j
  counts_after i f g j l = by_cases (ℕ_discrete j i)
      (λ e. rw e (count_fired c s i (count_slot w f) ∙ ap (λ (k : ℕ). k + 1) (r.counts i f.may.node) ∙ sym (count_fired d t i (count_slot v g))))
      (λ ne. count_other c s i j ne ∙ r.counts j l ∙ sym (count_other d t i j ne))

  -- its input queue
  input_after : (j : ℕ) → Firing c s (suc j) → Firing d t (suc j) → held_at (fired c s (suc j)) j ≡ held_at (fired d t (suc j)) j
  input_after j f g =
      let l : j < c.n = f.may.node in
      let m : j < d.n = g.may.node in
      less_alike _ _ _ _ _ _ (held_input c s j (held_slot w f j l) (enough f)) (held_input d t j (held_slot v g j m) (enough g)) (λ k. (a.rows j l k).consume) (r.held j l)

  -- every queue
  held_after : (i : ℕ) → Firing c s i → Firing d t i → (j : ℕ) → j < c.n → held_at (fired c s i) j ≡ held_at (fired d t i) j
  held_after i f g j l = by_cases (ℕ_discrete j i)
      (λ e.
      let m : i < c.n = omega arith in
      let o : i < d.n = omega (arith, a.n) in
      rw e (held_output c s i m (held_slot w f i m) ∙ (λ k. r.held i m k + (a.rows i m k).produce) ∙ sym (held_output d t i o (held_slot v g i o))))
      (λ ne. by_cases (ℕ_discrete (suc j) i)
      (λ e. rw (← e) (input_after j (rw e f) (rw e g)))
      (λ ne'. held_other c s i j ne ne' ∙ r.held j l ∙ sym (held_other d t i j ne ne')))

  -- the state after an accepted firing
  fired_alike : (i : ℕ) → Firing c s i → Firing d t i → AlikeRuns c.n (fired c s i) (fired d t i)
  unfolding fired
  fired_alike i f g = record { clock = r.clock; counts = counts_after i f g; held = held_after i f g; done = r.done }

  -- a firing gives states that differ in slots past n only
  pub past_n : (i : ℕ) → AlikeRuns c.n (fire_answer c s i).run (fire_answer d t i).run
  past_n i = by_cases (ℕ_discrete (fire_refusal c s i).number 0)
      (λ z.
      let y : Silent (fire_refusal d t i) = silent_as (fire_alike a r i) z in
      rw (fire_accepted c s i z, fire_accepted d t i y) (fired_alike i ((firing_is _ _ _).0 z) ((firing_is _ _ _).0 y)))
      (λ n. rw (fire_refused c s i n, fire_refused d t i (λ y. n (silent_as (sym (fire_alike a r i)) y))) r)

-- a firing keeps the slots past n
pub past_kept : (c : Chain) (s : Run) (i : ℕ) → KeptPast c.n s (fire_answer c s i).run
unfolding fired
past_kept c s i = given_back (λ t. KeptPast c.n s t) c s i (record { counts = λ j m. refl; held = λ j m. refl; done = refl }) after
  where
    after : Firing c s i → KeptPast c.n s (fired c s i)
    after f = record {
      counts = λ j m. count_other c s i j (λ e. omega (arith, f.may.node));
      held = λ j m. held_sink c s i j m (λ e. omega (arith, f.may.node));
      done = refl;
    }
