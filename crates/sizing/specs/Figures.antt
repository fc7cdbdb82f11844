-- Analyses of the factory chains, each computed.
use Rattle.std.specs.Prelude.{[], ◌∷◌}
use Rattle.chain.specs.Factory.{queue, made, factory_answer}
use Rattle.chain.specs.declared.Chain.{Chain}

abbrev pub feed : Chain
feed = (factory_answer 0).chain

abbrev pub permeate : Chain
permeate = (factory_answer 1).chain

abbrev pub flush : Chain
flush = (factory_answer 2).chain

abbrev pub written : Chain
written = made 5 (queue 4 7 3 12 ∷ queue 3 4 2 5 ∷ []) (1 ∷ 1 ∷ [])
