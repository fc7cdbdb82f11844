-- `sizing::sized` meets its contract: the walk refuses 6, or 7 is said of it, or it has filled the analysis.
use Rattle.std.proofs.Common.{arith}
use Rattle.words.specs.Table.{slots_none, slots_more}
use Rattle.sizing.specs.Sizes.{size_of, no_size}
use Rattle.sizing.proofs.Filling.{filled}
use Rattle.sizing.proofs.sized.Goals as goal

pub loop-i-init : goal.loop-i-init
loop-i-init c = record { walked = c.start-walk.ensures; lines = slots_none (size_of c.args.chain.now) no_size 16 }

pub loop-i-preserved : goal.loop-i-preserved
loop-i-preserved c = record {
  walked = c.in_ok-queues.ensures.walked;
  lines = slots_more (size_of c.args.chain.now) no_size 16 _ _ _ (omega arith) c.loop-i.invariant.lines c.in_ok-queues.ensures.line;
}

pub returns : goal.returns
returns c = filled c.loop-i.invariant (omega arith) c.in_ok-busy.ensures.says c.in_ok-busy.ensures.busy
