-- Laws of specs/Marked.antt that rest on a definition which an edit of must-fail/ changes.
-- A history in which each firing is marked as lost or not (02, Item 2), with no clock, deadline or list.
--   rec_after_none, _lost, _fits, losses_none, _lost, _fits
--                              what the first firing does and loses
--   fair_each                  what a fair history says of each of its firings
--   rec_after_append, fair_append, fair_before, losses_append
--                              histories one after the other, and what one begins with
--   marked_counted             a node's count has grown by how often it fired, lost or not
--   marked_balance             what a queue started with and what was put into it is what it holds, what was taken from it, and what the lost ones of its producer lost
--   marked_within              no queue passes its capacity
use Rattle.std.specs.Prelude.{◌≡◌, Bool, cond, ℕ, suc, ◌+◌, ◌≤◌, ◌<◌, length}
use Rattle.std.proofs.Math.Path.{refl}
use Rattle.std.proofs.Common.{sym, ap, subst, ◌∙◌, add-zero, arith}
use Rattle.std.proofs.Math.Logic.{by_cases}
use Rattle.std.proofs.Math.Bool.{true, false}
use mathlib.Core.List.{List, [], ◌∷◌, ◌++◌}
use Rattle.std.proofs.Math.Decide.{ℕ_discrete}
use Rattle.chain.specs.Record.{row_of}
use Rattle.chain.specs.Sound.{Sound}
use Rattle.chain.specs.declared.Chain.{Chain}
use Rattle.sizing.specs.Sizes.{capacity_of}
use Rattle.state.specs.State.{count_at, held_at}
use Rattle.state.specs.Fired.{fired, Over, Room, Slots, BalanceWith, over_enough}
use Rattle.state.proofs.FiredLaws.{slots_kept, counts_length, count_fired, count_other, balance_with_kept}
use Rattle.state.specs.Checks.{Cramped}
use Rattle.state.specs.declared.Run.{Run}
use Rattle.history.specs.History.{nodes, times}
use Rattle.history.proofs.QueuesLaws.{times_again, times_other}
use Rattle.instants.specs.Filled.{Filled}
use Rattle.instants.proofs.FilledLaws.{fired_filled}
use Rattle.losses.specs.Losses.{loss, lost_in}
use Rattle.losses.proofs.LossesLaws.{lost_append}
use Rattle.losses.specs.declared.Loss.{Loss}
use Rattle.recordings.specs.Steps.{dropped}
use Rattle.recordings.proofs.DropsLaws.{dropped_slots, dropped_balance, dropped_filled}
use Rattle.recordings.specs.Marked.{Marked, unmarked, rec_step, rec_after, Fair, EachFair, losses_of}

-- no firing changes nothing and loses nothing; a lost one drops its production and loses p; one that fits fires as ever and loses nothing
pub rec_after_none : (c : Chain) (s : Run) → rec_after c s [] ≡ s
unfolding rec_after
rec_after_none c s = refl

pub rec_after_lost : (c : Chain) (s : Run) (t i : ℕ) (h : List Marked) → rec_after c s (((t, i), true) ∷ h) ≡ rec_after c (dropped c s i) h
unfolding rec_after
rec_after_lost c s t i h = refl

pub rec_after_fits : (c : Chain) (s : Run) (t i : ℕ) (h : List Marked) → rec_after c s (((t, i), false) ∷ h) ≡ rec_after c (fired c s i) h
unfolding rec_after
rec_after_fits c s t i h = refl

-- what a fair history says of each of its firings, in the state that it is made in
pub fair_each : (c : Chain) (s : Run) (g h : List Marked) (t i : ℕ) (b : Bool) → EachFair c s (g ++ (((t, i), b) ∷ h))
    → ((i ≤ c.n) × Over c (rec_after c s g) i) × ((b ≡ true → Cramped c (rec_after c s g) i) × (b ≡ false → Room c (rec_after c s g) i))
unfolding EachFair rec_after
fair_each c s [] h t i b a = ((a.0.node, a.0.over), (a.0.lost, a.0.fits))
fair_each c s (e ∷ g) h t i b a = fair_each c (rec_step c s e) g h t i b a.1

module _ (c : Chain) where
  pub rec_after_append : (s : Run) (g h : List Marked) → rec_after c s (g ++ h) ≡ rec_after c (rec_after c s g) h
  unfolding rec_after
  rec_after_append s [] h = refl
  rec_after_append s (e ∷ g) h = rec_after_append (rec_step c s e) g h

  pub fair_append : (s : Run) (g h : List Marked) → EachFair c s g → EachFair c (rec_after c s g) h → EachFair c s (g ++ h)
  unfolding rec_after EachFair
  fair_append s [] h a b = b
  fair_append s (e ∷ g) h a b = (a.0, fair_append (rec_step c s e) g h a.1 b)

  -- what holds of each firing of a history holds of each of what it begins with
  pub fair_before : (s : Run) (g h : List Marked) → EachFair c s (g ++ h) → EachFair c s g
  unfolding EachFair
  fair_before s [] h a = tt
  fair_before s (e ∷ g) h a = (a.0, fair_before (rec_step c s e) g h a.1)

  pub losses_append : (g h : List Marked) → losses_of c (g ++ h) ≡ losses_of c g ++ losses_of c h
  unfolding losses_of
  losses_append [] h = refl
  losses_append (e ∷ g) h = by e.1 (losses_append g h)
    where
      own : Loss
      own = loss e.0.0 e.0.1 (row_of c e.0.1).produce

      by : (b : Bool) → losses_of c (g ++ h) ≡ losses_of c g ++ losses_of c h
          → cond b (own ∷ losses_of c (g ++ h)) (losses_of c (g ++ h)) ≡ cond b (own ∷ losses_of c g) (losses_of c g) ++ losses_of c h
      by true same = ap (λ (l : List Loss). own ∷ l) same
      by false same = same

-- one firing, lost or not
module _ (c : Chain) (s : Run) (e : Marked) where
  -- what holds of a lost one and of one that fits holds of it
  step_cases : (P : Run → Type 0) → P (dropped c s e.0.1) → P (fired c s e.0.1) → P (rec_step c s e)
  step_cases P drops fires = by e.1
    where
      by : (b : Bool) → P (cond b (dropped c s e.0.1) (fired c s e.0.1))
      by true = drops
      by false = fires

  step_count : (i : ℕ) → count_at (rec_step c s e) i ≡ count_at (fired c s e.0.1) i
  step_count i = step_cases (λ t. count_at t i ≡ count_at (fired c s e.0.1) i) refl refl

  step_slots : {n : ℕ} → Slots n s → Slots n (rec_step c s e)
  step_slots {n} k = step_cases (Slots n) (dropped_slots c s e.0.1 k) (slots_kept c s e.0.1 k)

  step_length : length (rec_step c s e).counts ≡ length s.counts
  step_length = step_cases (λ t. length t.counts ≡ length s.counts) (counts_length c s e.0.1) (counts_length c s e.0.1)

-- each counts for its node
pub marked_counted : (c : Chain) (s : Run) (h : List Marked) (i : ℕ) → i < length s.counts → count_at (rec_after c s h) i ≡ count_at s i + times i (nodes (unmarked h))
unfolding rec_after times
marked_counted c s [] i l = sym (add-zero _)
marked_counted c s (e ∷ h) i l = marked_counted c (rec_step c s e) h i (omega (arith, step_length c s e)) ∙ by_cases (ℕ_discrete e.0.1 i)
    (λ q.
    let once : count_at (fired c s e.0.1) i ≡ count_at s i + 1 = subst (λ (m : ℕ). count_at (fired c s m) i ≡ count_at s i + 1) (sym q) (count_fired c s i l) in
    rw (times_again e.0.1 i (nodes (unmarked h)) q) (omega (arith, step_count c s e i, once)))
    (λ n. rw (times_other e.0.1 i (nodes (unmarked h)) n) (omega (arith, step_count c s e i, count_other c s e.0.1 i (λ q. n (sym q)))))

-- one firing of a sound chain, and a queue
module _ {c : Chain} (k : Sound c) (s : Run) (slots : Slots c.n s) (e : Marked) (f : Fair c s e) where
  enough : (j : ℕ) → j < c.n → e.0.1 ≡ suc j → (row_of c j).consume ≤ held_at s j
  enough j l q = over_enough k s j l (subst (Over c s) q f.over)

  step_balance : (j : ℕ) → j < c.n → (x : ℕ) → BalanceWith c s j x → BalanceWith c (rec_step c s e) j (x + lost_in j (losses_of c (e ∷ [])))
  unfolding losses_of lost_in
  step_balance j l x b = by e.1 f.lost
    where
      by : (m : Bool) → (m ≡ true → Cramped c s e.0.1)
          → BalanceWith c (cond m (dropped c s e.0.1) (fired c s e.0.1)) j (x + lost_in j (cond m (loss e.0.0 e.0.1 (row_of c e.0.1).produce ∷ []) []))
      by true lost = omega (arith, dropped_balance c s e.0.1 (lost refl).0 slots enough j l x b)
      by false lost = omega (arith, balance_with_kept c s e.0.1 j slots l (enough j l) x b)

-- "tokens produced equal tokens consumed, held, and the sum of that queue's entries", from x lost on
pub marked_balance : {c : Chain} → Sound c → (s : Run) → Slots c.n s → (h : List Marked) → EachFair c s h
    → (j : ℕ) → j < c.n → (x : ℕ) → BalanceWith c s j x → BalanceWith c (rec_after c s h) j (x + lost_in j (losses_of c h))
unfolding rec_after EachFair losses_of lost_in
marked_balance {c} k s slots [] fair j l x b = subst (BalanceWith c s j) (sym (add-zero x)) b
marked_balance {c} k s slots (e ∷ h) fair j l x b =
    subst (BalanceWith c (rec_after c (rec_step c s e) h) j) sum
    (marked_balance k (rec_step c s e) (step_slots c s e slots) h fair.1 j l (x + lost_in j (losses_of c (e ∷ []))) (step_balance k s slots e fair.0 j l x b))
  where
    sum : x + lost_in j (losses_of c (e ∷ [])) + lost_in j (losses_of c h) ≡ x + lost_in j (losses_of c (e ∷ h))
    sum = omega (arith, ap (lost_in j) (losses_append c (e ∷ []) h), lost_append j (losses_of c (e ∷ [])) (losses_of c h))

-- "no queue passes its capacity": whatever is put in fits
pub marked_within : {c : Chain} {s : Run} → Filled c s → (h : List Marked) → EachFair c s h → (j : ℕ) → j < c.n → held_at (rec_after c s h) j ≤ capacity_of (row_of c j)
unfolding rec_after EachFair
marked_within f [] fair j l = f.within j l
marked_within {c} {s} f (e ∷ h) fair j l = marked_within {s = rec_step c s e} (step e.1 fair.0.fits) h fair.1 j l
  where
    step : (b : Bool) → (b ≡ false → Room c s e.0.1) → Filled c (cond b (dropped c s e.0.1) (fired c s e.0.1))
    step true fits = dropped_filled f e.0.1 fair.0.over
    step false fits = fired_filled f e.0.1 fair.0.over (fits refl)
