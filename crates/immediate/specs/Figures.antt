-- The limit of an immediate run, computed.
--   relay                    one queue that hands on each token at once, (1,1,1)
use Rattle.std.specs.Prelude.{[], ◌∷◌}
use Rattle.chain.specs.Factory.{queue, made}
use Rattle.chain.specs.declared.Chain.{Chain}

abbrev pub relay : Chain
relay = made 1 (queue 1 1 1 0 ∷ []) (1 ∷ [])
