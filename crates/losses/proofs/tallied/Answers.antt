-- `losses::tallied`: the goals that the check leaves, with the invariant of `Invariants.antt`.
use Rattle.std.proofs.Common.{refl, inl, inr, arith}
use Rattle.losses.proofs.Pass.{passed_none, passed_more, refuses, passed_all}
use Rattle.losses.proofs.tallied.Goals as goal

pub returns-then-losses-gt-LONGEST : goal.returns-then-losses-gt-LONGEST
returns-then-losses-gt-LONGEST c = refuses _ _ (inl c.if-losses-gt-LONGEST.true)

pub loop-k-init : goal.loop-k-init
loop-k-init c = passed_none _ _

pub returns-then-n-loss : goal.returns-then-n-loss
returns-then-n-loss c =
    refuses _ _ (inr (c.if-losses-gt-LONGEST.false, record { entry = c.loop-k.k; listed = c.loop-k-test.true; names = c.if-n-loss.true }))

pub loop-k-preserved : goal.loop-k-preserved
loop-k-preserved c = rw c.from.ensures (passed_more _ _ c.loop-k.invariant c.loop-k-test.true refl c.if-n-loss.false c.requires.few (omega arith))

pub returns : goal.returns
returns c = passed_all _ _ c.if-losses-gt-LONGEST.false (omega (arith, c.loop-k-test.false)) c.loop-k.invariant
