-- Firing what is left from the index on gives the whole answer.
use Rattle.std.proofs.Common.{◌≡◌, drop}
use Rattle.promises.specs.Replay.{replay_from, replay_answer}
use Rattle.callers.proofs.replay.Given as goal

abbrev pub invariant-loop-node : goal.invariant-loop-node
invariant-loop-node l = replay_from l.chain l.answer (drop l.node-index l.nodes) ≡ replay_answer l.chain l.nodes
