-- `flow::consume` meets its contract: a node that has an input queue takes from it, and the source from none.
use Rattle.std.proofs.Common.{◌≡◌, refl, List, ℕ, zero, suc, ◌+◌, ◌-◌, ◌≤◌, ◌<◌, arith, set}
use Rattle.flow.specs.Flow.{consume_in, held_in, taken_out}
use Rattle.flow.proofs.consume.Goals as goal

taken : (l : List ℕ) (i : ℕ) → 0 < i → set l (65 + (i - 1)) (held_in l (i - 1) - consume_in l (i - 1)) ≡ taken_out l i
unfolding taken_out
taken l zero h = absurd (omega arith)
taken l (suc j) h = let e : suc j - 1 ≡ j = omega arith in rw e

none-taken : (l : List ℕ) (i : ℕ) → i ≤ 0 → l ≡ taken_out l i
unfolding taken_out
none-taken l zero h = refl
none-taken l (suc j) h = absurd (omega arith)

pub returns-then-i-gt0 : goal.returns-then-i-gt0
returns-then-i-gt0 c = taken _ _ c.if-i-gt0.true

pub returns-else-i-gt0 : goal.returns-else-i-gt0
returns-else-i-gt0 c = none-taken _ _ c.if-i-gt0.false
