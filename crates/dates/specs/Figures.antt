-- Deadlines of Feed, each computed: p = 4, c = 3, y = 10, and B in force is b = 10.
use Rattle.chain.specs.Factory.{factory_answer}
use Rattle.chain.specs.declared.Chain.{Chain}

abbrev pub feed : Chain
feed = (factory_answer 0).chain
