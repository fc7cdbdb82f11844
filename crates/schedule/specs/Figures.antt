-- Immediate runs of the factory chains, each computed.
use Rattle.chain.specs.Factory.{factory_answer}
use Rattle.chain.specs.declared.Chain.{Chain}

-- the factory chain 1
abbrev pub permeate : Chain
permeate = (factory_answer 1).chain

-- the factory chain 2
abbrev pub flush : Chain
flush = (factory_answer 2).chain
