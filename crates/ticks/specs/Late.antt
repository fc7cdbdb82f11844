-- 9 of a tick, as its code finds it.
--   late_clock               the clock is at the end of the longest run
--   Unspent n s i            of the nodes 0 to n, no count before N_i's is at the limit
--   unspent_none, _more      at the start, and one node further
--   unspent_found, _end      at the first count that is, and at the end
use Rattle.std.specs.Prelude.{◌≡◌, refl, ◌≢◌, ℕ, suc, ◌+◌, ◌≤◌, ◌<◌}
use Rattle.std.proofs.Common.{sym, arith}
use Rattle.words.specs.Table.{tab, below_next}
use Rattle.chain.specs.Refusals.{refused, fine, or_else, first_fine, or_left, or_right, Silent}
use Rattle.chain.specs.declared.Chain.{Chain}
use Rattle.sizing.specs.Checks.{limit}
use Rattle.state.specs.State.{count_at}
use Rattle.state.specs.declared.Run.{Run}
use Rattle.instants.specs.Checks.{longest, clock_check, spent_check, spent_test}
use Rattle.instants.proofs.RefusalsLaws.{clock_exact, clock_silent, spent_exact, spent_silent}

pub late_clock : (c : Chain) (s : Run) → longest ≤ s.clock → refused 9 0 ≡ or_else (clock_check s) (spent_check c s)
late_clock c s h = or_left (spent_check c s) (sym ((clock_exact s 0).1 (h, refl))) (λ z. absurd (omega arith))

-- no count before N_i's is at the limit
pub record Unspent (n : ℕ) (s : Run) (i : ℕ) : Type 0 where
  pub reach : i ≤ n + 1
  pub before : (j : ℕ) → j < i → count_at s j ≢ limit

pub unspent_none : (n : ℕ) (s : Run) → Unspent n s 0
unspent_none n s = record { reach = omega arith; before = λ j h. absurd (omega arith) }

-- where no count is, 9 says nothing
unspent_fine : (c : Chain) (s : Run) → Silent (spent_check c s) → spent_check c s ≡ fine
unfolding spent_check
unspent_fine c s z = first_fine (tab (suc c.n) (spent_test s)) z

module _ {n : ℕ} {s : Run} {i : ℕ} (u : Unspent n s i) where
  pub unspent_more : i ≤ n → count_at s i ≢ limit → Unspent n s (i + 1)
  unspent_more h some = record {
    reach = omega arith;
    before = below_next i some u.before;
  }

module _ (c : Chain) {s : Run} {i : ℕ} (u : Unspent c.n s i) (early : s.clock < longest) where
  clock_fine : Silent (clock_check s)
  clock_fine = (clock_silent s).1 early

  pub unspent_found : i ≤ c.n → count_at s i ≡ limit → refused 9 i ≡ or_else (clock_check s) (spent_check c s)
  unspent_found h e = or_right refl clock_fine (sym ((spent_exact c s i).1 (record { node = h; spent = e; before = u.before })))

  pub unspent_end : c.n < i → fine ≡ or_else (clock_check s) (spent_check c s)
  unspent_end h = or_right {a = clock_check s} {b = spent_check c s} refl clock_fine (sym (unspent_fine c s ((spent_silent c s).1 (λ j l. u.before j (omega arith)))))
