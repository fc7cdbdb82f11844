-- The plan that a walk draws, with what 8 says so far.
--   Drawing c i w s l        the walk has come to N_i, s says the lowest queue before i that is short, and the plan has the queues before i
use Rattle.std.specs.Prelude.{◌≡◌, List, Result, ℕ, ◌+◌, ltb}
use Rattle.std.proofs.Common.{Ok, Err, sym, ap, ◌∙◌, arith}
use Rattle.std.specs.Result.{result_and}
use Rattle.words.specs.Table.{tab, tab_more}
use Rattle.chain.specs.Refusals.{test, first, or_else, first_append, test_alone}
use Rattle.chain.specs.Record.{row_of}
use Rattle.chain.specs.Said.{said}
use Rattle.chain.proofs.Passing.{or_fine, or_refusal}
use Rattle.chain.specs.declared.Chain.{Chain}
use Rattle.chain.specs.declared.reasons.Refused.{Refused}
use Rattle.sizing.specs.Sizes.{minimum_of, size_by, size_of}
use Rattle.sizing.specs.Checks.{capacity_test, short_alike}
use Rattle.sizing.specs.Walk.{Walked}
use Rattle.sizing.specs.Plan.{Drawn}
use Rattle.sizing.specs.declared.QueueSize.{QueueSize}
use Rattle.sizing.specs.declared.Walk.{Walk}

pub record Drawing (c : Chain) (i : ℕ) (w : Walk) (s : Result Unit Refused) (l : List ℕ) : Type 0 where
  pub walked : Walked c i w
  pub short : said s ≡ first (tab i (capacity_test c))
  pub drawn : Drawn c i l

-- a queue more, which 8 says u of
pub short_next : (c : Chain) (i : ℕ) {q : QueueSize} (s u : Result Unit Refused) → said s ≡ first (tab i (capacity_test c)) → q ≡ size_of c i → said u ≡ test 8 i (ltb q.capacity q.minimum)
    → said (result_and s u) ≡ first (tab (i + 1) (capacity_test c))
unfolding size_by
short_next c i s u f e g =
    rw (tab_more i (capacity_test c), first_append, ← f, ← test_alone 8 i (λ e. omega arith) _, ← short_alike (row_of c i).capacity (minimum_of (row_of c i)))
    (said_and s u ∙ ap (or_else (said s)) (rw e at g))
  where
    said_and : (s u : Result Unit Refused) → said (result_and s u) ≡ or_else (said s) (said u)
    said_and (Ok _) u = sym (or_fine (said u))
    said_and (Err x) u = sym (or_refusal x (said u))
