-- Deadlines of 000's example (01, Figures), each computed.
--   example                  queues (118,118,118), three of (256,256,256), (256,32768,16384), (32768,128,128), B all 0, y=1000, e all 1
use Rattle.std.specs.Prelude.{[], ◌∷◌}
use Rattle.chain.specs.Factory.{queue, made}
use Rattle.chain.specs.declared.Chain.{Chain}

abbrev pub example : Chain
example =
    made 1000
    (queue 118 118 118 0 ∷ queue 256 256 256 0 ∷ queue 256 256 256 0 ∷ queue 256 256 256 0 ∷ queue 256 32768 16384 0 ∷ queue 32768 128 128 0 ∷ [])
    (1 ∷ 1 ∷ 1 ∷ 1 ∷ 1 ∷ 1 ∷ [])
