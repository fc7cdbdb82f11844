-- The scans of the nodes, for 13 and for the choice: what holds before node j+1 is looked at.
--   Looked f d j             13 says nothing of the first j nodes
--   looked_rests, _dated, _found, _end
--                            past a node below threshold, past one whose deadline can be had, at one whose deadline cannot, and at the end
--   choice c s j, earliest_of c s i
--                            the choice among the first j nodes, and the deadline of N_i, or never for N_0
--   Chosen f d j i e         i is the choice among the first j nodes, and e its deadline, or never where there is none
--   chosen_none, -taken, -under, -later, -end
--                            at the start, with node j+1 chosen, past it where it is below threshold or later, and at the end
use Rattle.std.proofs.Math.Path.{◌≡◌, refl, ap}
use Rattle.std.proofs.Common.{Some, None, sym, subst, ◌∙◌, add-one, arith, le-leb}
use Rattle.std.specs.Prelude.{◌≢◌, Bool, ◌&&◌, List, ℕ, zero, suc, ◌+◌, ◌≤◌, ◌<◌, get_or}
use Rattle.std.proofs.Math.Logic.{by_cases}
use Rattle.std.proofs.Math.Bool.{true, false, cond}
use Rattle.std.proofs.Math.Decide.{ℕ_discrete, dec_le}
use Rattle.std.proofs.lemmas.Bool.{lt-leb}
use Rattle.words.specs.Table.{tab, below_next}
use Rattle.chain.specs.Refusals.{refused, Silent, lowest_is, all_silent, first_fine}
use Rattle.chain.specs.Record.{row_of}
use Rattle.chain.specs.Sound.{Sound}
use Rattle.chain.specs.declared.Chain.{Chain}
use Rattle.state.specs.State.{held_at}
use Rattle.state.specs.Fired.{Over}
use Rattle.state.specs.Checks.{over}
use Rattle.state.specs.declared.Run.{Run}
use Rattle.flow.specs.Flow.{threshold_in, held_in, size_in, Shows}
use Rattle.deadline.specs.Deadline.{deadline, index_check}
use Rattle.dates.specs.Question.{never, dated_had, dated_exact}
use Rattle.instants.proofs.LackingLaws.{lack_says, lack_silent, lacking_silent}
use Rattle.instants.specs.Steps.{next, lacking_test, lacking, as_early, choose, chosen}
use Rattle.steps.specs.Lent.{Keeps, lack_of, LackingGives, ChosenGives}

-- N_(j+1) is over threshold exactly when the flow has it so
module _ {f : List ℕ} {c : Chain} {s : Run} (x : Shows f c s) (j : ℕ) (l : j < c.n) where
  over_shown : threshold_in f j ≤ held_in f j → Over c s (suc j)
  over_shown h = omega (arith, x.waits j l, x.holds j (omega (arith, x.few)))

  under_shown : held_in f j < threshold_in f j → over c s (suc j) ≡ false
  under_shown h = lt-leb (row_of c j).threshold (held_at s j) (omega (arith, x.waits j l, x.holds j (omega (arith, x.few))))

  not_over : held_in f j < threshold_in f j → Over c s (suc j) → ⊥
  not_over h o = absurd (omega (arith, h, o, x.waits j l, x.holds j (omega (arith, x.few))))

-- 13 of N_(j+1), which code counts from 0
lack_at : (j : ℕ) → refused 13 (suc j) ≡ lack_of (Some (j + 1))
lack_at j = rw add-one

-- 13 says nothing of the first j nodes
pub record Looked (f d : List ℕ) (j : ℕ) : Type 0 where
  pub reach : j ≤ size_in f
  pub silent : {c : Chain} {s : Run} → Sound c → Shows f c s → Keeps d c s → (k : ℕ) → k < j → Silent (lacking_test c s (suc k))

module _ {f d : List ℕ} {j : ℕ} (a : Looked f d j) (h : j < size_in f) where
  -- one node more
  looked_more : ((c : Chain) (s : Run) → Sound c → Shows f c s → Keeps d c s → j < c.n → Silent (lacking_test c s (suc j))) → Looked f d (j + 1)
  looked_more here = record {
    reach = omega arith;
    silent = λ {c} {s} k x e. below_next j (here c s k x e (omega (arith, x.many))) (a.silent k x e);
  }

  pub looked_rests : held_in f j < threshold_in f j → Looked f d (j + 1)
  looked_rests low = looked_more (λ c s k x e l. (lack_silent c s (suc j)).1 (λ o. absurd (not_over x j l low o)))

  pub looked_dated : get_or d j 0 ≢ never → Looked f d (j + 1)
  looked_dated some = looked_more (λ c s k x e l. (lack_silent c s (suc j)).1 (λ o.
      by_cases (ℕ_discrete (index_check c (suc j) (next s (suc j))).number 0) (λ z. z) (λ n. absurd (some (e.due j l o ∙ (dated_exact k (suc j) (next s (suc j))).1 n)))))

  pub looked_found : threshold_in f j ≤ held_in f j → get_or d j 0 ≡ never → LackingGives f d (Some (j + 1))
  unfolding lacking
  looked_found o z = record {
    gives = λ {c} {s} k x e.
        let l : j < c.n = omega (arith, x.many) in
        let says : lacking_test c s (suc j) ≡ refused 13 (suc j) =
        (lack_says c s (suc j) (suc j)).1 ((over_shown x j l o, (dated_exact k (suc j) (next s (suc j))).0 (sym (e.due j l (over_shown x j l o)) ∙ z)), refl) in
        (lowest_is 13 (suc j) (λ q. omega arith) (λ m. lacking_test c s (suc m)) c.n).1 (record { at = j; inside = l; says = says; before = λ m g. a.silent k x e m g })
        ∙ lack_at j;
  }

pub looked_end : {f d : List ℕ} {j : ℕ} → Looked f d j → size_in f ≤ j → LackingGives f d None
unfolding lacking
looked_end {f} {d} {j} a h = record {
  gives = λ {c} {s} k x e. first_fine (tab c.n (λ m. lacking_test c s (suc m))) ((all_silent (λ m. lacking_test c s (suc m)) c.n).1 (λ m g. a.silent k x e m (omega (arith, x.many))));
}

pub ruleset looking = (looked_rests, looked_dated, looked_found, looked_end)

-- the deadline of the choice so far, or never
abbrev pub earliest_of : Chain → Run → ℕ → ℕ
earliest_of c s zero = never
earliest_of c s (suc i) = deadline c (suc i) (next s (suc i))

-- the choice among the first j nodes
abbrev pub choice : Chain → Run → ℕ → ℕ
choice c s j = choose (λ i. deadline c i (next s i)) (over c s) j

-- i is the choice among the first j nodes, and e its deadline
pub record Chosen (f d : List ℕ) (j i e : ℕ) : Type 0 where
  pub reach : j ≤ size_in f
  pub is : {c : Chain} {s : Run} → Sound c → Shows f c s → Keeps d c s → Silent (lacking c s) → (choice c s j ≡ i) × (e ≡ earliest_of c s i)

pub chosen_none : (f d : List ℕ) → Chosen f d 0 0 never
unfolding choose
chosen_none f d = record { reach = omega arith; is = λ k x e z. (refl, refl) }

-- what is kept of a node over threshold, where 13 is silent
kept_due : {f d : List ℕ} {c : Chain} {s : Run} → Sound c → Shows f c s → Keeps d c s → Silent (lacking c s) → (j : ℕ) → j < c.n → Over c s (suc j)
    → (get_or d j 0 ≡ deadline c (suc j) (next s (suc j))) × (get_or d j 0 < never)
kept_due {f} {d} {c} {s} k x e z j l o =
    let h = dated_had k (suc j) (next s (suc j)) ((lacking_silent c s).0 z j l o) in
    (e.due j l o ∙ h.0, omega (arith, e.due j l o, h.1))

-- the choice with one node more, as its definition has it
module _ (c : Chain) (s : Run) (j : ℕ) where
  new_taken : over c s (suc j) ≡ true → as_early (λ i. deadline c i (next s i)) (suc j) (choice c s j) ≡ true → choice c s (suc j) ≡ suc j
  unfolding choose
  new_taken o e = simp (o, e)

  new_under : over c s (suc j) ≡ false → choice c s (suc j) ≡ choice c s j
  unfolding choose
  new_under o = simp o

  new_later : as_early (λ i. deadline c i (next s i)) (suc j) (choice c s j) ≡ false → choice c s (suc j) ≡ choice c s j
  unfolding choose
  new_later e = by (over c s (suc j)) (as_early (λ i. deadline c i (next s i)) (suc j) (choice c s j)) e
    where
      by : (o b : Bool) → b ≡ false → cond (o && b) (suc j) (choice c s j) ≡ choice c s j
      by true true e = absurd (let z : ◌≡◌ {A = ℕ} 1 0 = ap (λ b. cond b 1 0) e in omega arith)
      by true false e = refl
      by false b e = refl

-- whether a node is as early as the best so far, by their deadlines
early : (c : Chain) (s : Run) (new i : ℕ) → deadline c new (next s new) ≤ earliest_of c s i → as_early (λ k. deadline c k (next s k)) new i ≡ true
early c s new zero h = refl
early c s new (suc i) h = le-leb _ _ h

late : (c : Chain) (s : Run) (new i : ℕ) → deadline c new (next s new) < never → earliest_of c s i < deadline c new (next s new) → as_early (λ k. deadline c k (next s k)) new i ≡ false
late c s new zero m h = absurd (omega arith)
late c s new (suc i) m h = lt-leb _ _ h

module _ {f d : List ℕ} {j i e : ℕ} (a : Chosen f d j i e) (h : j < size_in f) where
  pub chosen_taken : threshold_in f j ≤ held_in f j → get_or d j 0 ≤ e → Chosen f d (j + 1) (j + 1) (get_or d j 0)
  chosen_taken o u = rw add-one (record {
    reach = omega arith;
    is = λ {c} {s} k x q z.
        let l : j < c.n = omega (arith, x.many) in
        let now = kept_due k x q z j l (over_shown x j l o) in
        let was = a.is k x q z in
        (new_taken c s j (le-leb _ _ (over_shown x j l o)) (early c s (suc j) (choice c s j) (rw was.0 (omega (arith, now.0, was.1)))), now.0);
  })

  pub chosen_under : held_in f j < threshold_in f j → Chosen f d (j + 1) i e
  chosen_under o = rw add-one (record {
    reach = omega arith;
    is = λ {c} {s} k x q z.
        let l : j < c.n = omega (arith, x.many) in
        let was = a.is k x q z in
        (new_under c s j (under_shown x j l o) ∙ was.0, was.1);
  })

  pub chosen_later : e < get_or d j 0 → Chosen f d (j + 1) i e
  chosen_later u = rw add-one (record {
    reach = omega arith;
    is = λ {c} {s} k x q z.
        let l : j < c.n = omega (arith, x.many) in
        let was = a.is k x q z in (
          by_cases (dec_le (row_of c j).threshold (held_at s j))
              (λ o. let now = kept_due k x q z j l o in new_later c s j (late c s (suc j) (choice c s j) (omega (arith, now.0, now.1)) (rw was.0 (omega (arith, now.0, was.1)))))
              (λ n. new_under c s j (lt-leb (row_of c j).threshold (held_at s j) (omega arith)))
              ∙ was.0,
          was.1,
        );
  })

pub chosen_end : {f d : List ℕ} {j i e : ℕ} → Chosen f d j i e → size_in f ≤ j → ChosenGives f d i
unfolding chosen
chosen_end {f} {d} {j} {i} a h = record {
  gives = λ {c} {s} k x q z. let n : c.n ≡ j = omega (arith, x.many, a.reach) in subst (λ (m : ℕ). choice c s m ≡ i) (sym n) (a.is k x q z).0;
}
