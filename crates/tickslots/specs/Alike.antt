-- The slots of a chain and of a state past n are not read by a tick (01, Firing: "the slots past n are neither read nor changed"). Throughout, c and d
-- are chains, and s and t states, that differ in slots past n only.
--   ended_low                the node whose work is done is a node of the chain
--   spent- and tick_refusal_alike, deadline_run_refusal_alike
--                            they are refused alike
use Rattle.std.specs.Prelude.{◌≡◌, Bool, ◌&&◌, leb}
use Rattle.std.proofs.Math.Path.{refl, ap}
use Rattle.std.proofs.Common.{sym, ◌∙◌, le_refl, arith}
use Rattle.std.proofs.Math.Bool.{true, false, cond, not}
use Prim.Native.Nat.{ℕ, zero, suc, ◌≤◌, ◌<◌}
use Rattle.std.proofs.Math.Nat.{le_step}
use Rattle.std.proofs.Math.Dec.{eqb}
use Rattle.words.specs.Table.{tab, tab_alike}
use Rattle.chain.specs.Refusals.{test, first, or_else}
use Rattle.chain.specs.Record.{work_of}
use Rattle.chain.specs.Refusal.{Refusal}
use Rattle.chain.specs.declared.Chain.{Chain}
use Rattle.sizing.specs.Checks.{limit}
use Rattle.state.specs.State.{done_at}
use Rattle.state.specs.Checks.{over}
use Rattle.state.specs.declared.Run.{Run}
use Rattle.slots.specs.Chains.{AlikeChains}
use Rattle.slots.proofs.ChainsLaws.{run_alike}
use Rattle.slots.specs.Runs.{AlikeRuns}
use Rattle.slots.proofs.RunsLaws.{state_alike, over_alike}
use Rattle.deadline.specs.Deadline.{deadline, index_check}
use Rattle.instants.specs.Steps.{next, lacking_test, lacking, as_early}
use Rattle.instants.specs.Steps.{choose, chosen, ended_in, ended}
use Rattle.instants.specs.Checks.{longest, spent_test, spent_check, length_check, tick_refusal, deadline_run_refusal}
use Rattle.instants.proofs.BestLaws.{choose_best}
use Rattle.instants.proofs.RefusalsLaws.{tick_parts, deadline_run_parts}
use Rattle.tickslots.specs.Deadlines.{deadline_alike, index_alike}

-- what a tick reads of the states
module _ {c d : Chain} (a : AlikeChains c d) {s t : Run} (r : AlikeRuns c.n s t) where
  -- 13 of each node
  pub lacking_alike : lacking c s ≡ lacking d t
  unfolding lacking
  lacking_alike = ap first (tab_alike c.n (λ j. lacking_test c s (suc j)) (λ j. lacking_test d t (suc j)) each ∙ ap (λ (n : ℕ). tab n (λ j. lacking_test d t (suc j))) a.n)
    where
      each : (j : ℕ) → j < c.n → lacking_test c s (suc j) ≡ lacking_test d t (suc j)
      each j l =
          let e = index_alike a (suc j) (next s (suc j)) l ∙ ap (λ (m : ℕ). index_check d (suc j) (suc m)) (r.counts (suc j) l) in
          λ k. test 13 (suc j) (over_alike a r (suc j) l k && not (eqb (e k).number 0))

-- it is chosen by the deadlines and the thresholds of the nodes up to N_n
choose_alike : (f g : ℕ → ℕ) (p q : ℕ → Bool) (n : ℕ) → ((i : ℕ) → i ≤ n → f i ≡ g i) → ((i : ℕ) → i ≤ n → p i ≡ q i) → choose f p n ≡ choose g q n
unfolding choose
choose_alike f g p q zero due able = refl
choose_alike f g p q (suc n) due able =
    let e = choose_alike f g p q n (λ i l. due i (le_step l)) (λ i l. able i (le_step l)) in
    let early = as_early_law (choose f p n) (choose_best f p n).low ∙ ap (as_early g (suc n)) e in
    λ k. cond (able (suc n) (le_refl (suc n)) k && early k) (suc n) (e k)
  where
    as_early_law : (old : ℕ) → old ≤ n → as_early f (suc n) old ≡ as_early g (suc n) old
    as_early_law zero l = refl
    as_early_law (suc old) l = λ k. leb (due (suc n) (le_refl (suc n)) k) (due (suc old) (le_step l) k)

-- the node whose work is done is a node of the chain
pub ended_low : (c : Chain) (s : Run) (m : ℕ) → ended_in c s m ≤ m
unfolding ended_in
ended_low c s zero = le_refl 0
ended_low c s (suc j) = by (leb (work_of c j) (done_at s j)) (ended_low c s j)
  where
    by : (b : Bool) → ended_in c s j ≤ j → cond b (suc j) (ended_in c s j) ≤ suc j
    by true l = le_refl (suc j)
    by false l = le_step l

module _ {c d : Chain} (a : AlikeChains c d) {s t : Run} (r : AlikeRuns c.n s t) where
  -- the node that works
  pub chosen_alike : chosen c s ≡ chosen d t
  unfolding chosen
  chosen_alike =
      choose_alike (λ i. deadline c i (next s i)) (λ i. deadline d i (next t i)) (over c s) (over d t) c.n
      (λ i l. deadline_alike a i (next s i) l ∙ ap (λ (m : ℕ). deadline d i (suc m)) (r.counts i l))
      (over_alike a r)
      ∙ ap (choose (λ i. deadline d i (next t i)) (over d t)) a.n

  ended_upto : (m : ℕ) → m ≤ c.n → ended_in c s m ≡ ended_in d t m
  unfolding ended_in
  ended_upto zero l = refl
  ended_upto (suc j) l = let e = ended_upto j (omega arith) in λ k. cond (leb (a.work j l k) (r.done j l k)) (suc j) (e k)

  -- the node whose work is done
  pub ended_alike : ended c s ≡ ended d t
  ended_alike = ended_upto c.n (le_refl c.n) ∙ ap (ended_in d t) a.n

-- what a tick is refused with
module _ {c d : Chain} (a : AlikeChains c d) {s t : Run} (r : AlikeRuns c.n s t) where
  -- 9 of every node
  pub spent_alike : spent_check c s ≡ spent_check d t
  unfolding spent_check
  spent_alike = ap first (
      tab_alike (suc c.n) (spent_test s) (spent_test t) (λ i l. ap (λ (m : ℕ). test 9 i (eqb m limit)) (r.counts i (omega arith)))
      ∙ ap (λ (k : ℕ). tab (suc k) (spent_test t)) a.n
      )

  -- a tick is refused alike
  pub tick_refusal_alike : tick_refusal c s ≡ tick_refusal d t
  tick_refusal_alike =
      tick_parts c s
      ∙ (λ k. or_else (run_alike a k) (or_else (state_alike a r k) (or_else (test 9 0 (leb longest (r.clock k))) (spent_alike k))))
      ∙ sym (tick_parts d t)

-- and so is a deadline run
pub deadline_run_refusal_alike : {c d : Chain} → AlikeChains c d → (T : ℕ) → deadline_run_refusal c T ≡ deadline_run_refusal d T
deadline_run_refusal_alike {c} {d} a T = deadline_run_parts c T ∙ ap (λ (r : Refusal). or_else r (length_check T)) (run_alike a) ∙ sym (deadline_run_parts d T)
