-- Laws of specs/Best.antt that rest on a definition which an edit of must-fail/ changes.
-- The node that works is the best (01, Firing): over threshold, no deadline earlier, none equal nearer the sink.
--   tie                    of nodes with one deadline the one nearest the sink is chosen
--   choose_best            what `choose` takes is the best
--   choose_is              so `choose` takes r exactly when r is the best
--   chosen_best            the node that works is the best of those over threshold
--   chosen_only            and no other node is
--   choose_shift           a common shift of all deadlines changes nothing
--   chosen_shift           states with the same nodes over threshold, their deadlines shifted alike, have the same node work
use Rattle.std.specs.Prelude.{◌≡◌, refl, Bool, true, false, cond, ◌&&◌, ◌↔◌, ℕ, zero, suc, ◌+◌, ◌≤◌, ◌<◌}
use Rattle.std.proofs.Common.{sym, ◌∙◌, true≢false, zero-lt-suc, arith, leb-true, leb-false}
use Rattle.chain.specs.declared.Chain.{Chain}
use Rattle.state.specs.Checks.{over}
use Rattle.state.specs.declared.Run.{Run}
use Rattle.deadline.specs.Deadline.{deadline}
use Rattle.instants.specs.Steps.{next, as_early, choose, chosen}
use Rattle.instants.specs.Best.{First, Best, last, best_unique, best_moved}

-- "ties to the one nearest the sink"
pub tie : choose (λ i. 5) (λ i. true) 3 ≡ 3
unfolding choose
tie = refl

-- a node that is as early as the first so far, and nearer the sink, goes before whatever that goes before
as_first : (due : ℕ → ℕ) (n r j : ℕ) → as_early due (suc n) r ≡ true → j ≤ n → First due r j → First due (suc n) j
as_first due n zero j e m f = absurd (omega (arith, f.some))
as_first due n (suc r) j e m f =
    record { some = zero-lt-suc n; early = omega (arith, f.early, leb-true (due (suc n)) (due (suc r)) e); tie = λ h. absurd (omega arith) }

-- one node more
best_step : (due : ℕ → ℕ) (able : ℕ → Bool) (n r : ℕ) (o a : Bool) → able (suc n) ≡ o → as_early due (suc n) r ≡ a → Best due able n r → Best due able (suc n) (cond (o && a) (suc n) r)
best_step due able n r false a eo ea b = record {
  low = omega (arith, b.low);
  able_it = b.able_it;
  first = λ j some l. last (λ (i : ℕ). able i ≡ true → First due r i) j n l (λ t. absurd (true≢false (sym t ∙ eo))) (b.first j some);
}
best_step due able n zero true false eo ea b = absurd (true≢false ea)
best_step due able n (suc r) true false eo ea b =
    let late : due (suc r) < due (suc n) = leb-false (due (suc n)) (due (suc r)) ea in
    record {
      low = omega (arith, b.low);
      able_it = b.able_it;
      first = λ j some l. last (λ (i : ℕ). able i ≡ true → First due (suc r) i) j n l (λ t. record { some = zero-lt-suc r; early = omega arith; tie = λ h. late }) (b.first j some);
    }
best_step due able n r true true eo ea b = record {
  low = omega arith;
  able_it = λ h. eo;
  first = λ j some l. last (λ (i : ℕ). able i ≡ true → First due (suc n) i) j n l
      (λ t. record { some = zero-lt-suc n; early = omega arith; tie = λ h. absurd (omega arith) })
      (λ m t. as_first due n r j ea m (b.first j some m t));
}

-- what `choose` takes is the best
pub choose_best : (due : ℕ → ℕ) (able : ℕ → Bool) (n : ℕ) → Best due able n (choose due able n)
unfolding choose
choose_best due able zero = record { low = omega arith; able_it = λ h. absurd (omega arith); first = λ j some l t. absurd (omega arith) }
choose_best due able (suc n) =
    best_step due able n (choose due able n) (able (suc n)) (as_early due (suc n) (choose due able n)) refl refl (choose_best due able n)

-- so the best is what `choose` takes, and nothing else
pub choose_is : (due : ℕ → ℕ) (able : ℕ → Bool) (n r : ℕ) → (choose due able n ≡ r) ↔ Best due able n r
choose_is due able n r = (λ e. rw (← e) (choose_best due able n), λ b. best_unique (choose_best due able n) b)

module _ (c : Chain) (s : Run) where
  -- "the over-threshold node whose next firing has the earliest deadline, ties to the one nearest the sink"
  pub chosen_best : Best (λ i. deadline c i (next s i)) (over c s) c.n (chosen c s)
  unfolding chosen
  chosen_best = choose_best (λ i. deadline c i (next s i)) (over c s) c.n

  -- and no other node is that
  pub chosen_only : (r : ℕ) → Best (λ i. deadline c i (next s i)) (over c s) c.n r → chosen c s ≡ r
  chosen_only r b = best_unique chosen_best b

-- a common shift of all deadlines changes nothing
pub choose_shift : (due : ℕ → ℕ) (able : ℕ → Bool) (d n : ℕ) → choose (λ i. due i + d) able n ≡ choose due able n
choose_shift due able d n = (choose_is (λ i. due i + d) able n (choose due able n)).1
    (best_moved due (λ i. due i + d) able able d n (choose due able n) (λ j some l. refl) (λ j some l. refl) (choose_best due able n))

-- the same of two states: the same nodes are over threshold, and each is due d later
pub chosen_shift : (c : Chain) (s t : Run) (d : ℕ) → ((i : ℕ) → 0 < i → i ≤ c.n → deadline c i (next t i) ≡ deadline c i (next s i) + d)
    → ((i : ℕ) → 0 < i → i ≤ c.n → over c t i ≡ over c s i) → chosen c t ≡ chosen c s
chosen_shift c s t d later alike = chosen_only c t (chosen c s)
    (best_moved (λ i. deadline c i (next s i)) (λ i. deadline c i (next t i)) (over c s) (over c t) d c.n (chosen c s) later alike (chosen_best c s))
