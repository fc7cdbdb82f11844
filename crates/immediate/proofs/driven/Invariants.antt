-- `immediate::driven` meets its contract: before the source fires again, the flow shows its firings so far, all settled.
use Rattle.immediate.specs.Lent.{Driving}
use Rattle.immediate.proofs.driven.Given as goal

abbrev pub invariant-loop : goal.invariant-loop
invariant-loop l = Driving l.k l.initial.flow l.counter l.flow
