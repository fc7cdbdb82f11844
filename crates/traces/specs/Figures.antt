-- Figures of traces, each computed (01, P7 and P8, and Firing).
--   short, short_12          Permeate with B 12 and 5 (P4), whose second queue overflows at a finish
--   far, far_state, far_tick  a chain and a state in which 13 takes back the source's step
-- What is named here and not declared stands in proofs/FiguresLaws.antt.
use Rattle.std.specs.Prelude.{[], ◌∷◌}
use Rattle.chain.specs.Factory.{queue, made}
use Rattle.chain.specs.declared.Chain.{Chain}
use Rattle.state.specs.declared.Run.{Run}

-- P4's chain, which a run refuses with 8: its second queue has room for one firing of N_1 and not for the next
abbrev pub short : Chain
short = made 5 (queue 4 7 3 12 ∷ queue 3 4 2 5 ∷ []) (1 ∷ 1 ∷ [])

-- N_2's first firing asks for N_1's 1,000,001st, and that for a firing of the source that has no index
abbrev pub far : Chain
far = made 1 (queue 1 65535 65535 1000000 ∷ queue 1 1 1 1000000 ∷ []) (1 ∷ 1 ∷ [])

-- N_1 has just fired, for the first time: the source has put 65,535 tokens in as many ticks
abbrev pub far_state : Run
far_state = record { clock = 65535; counts = 65535 ∷ 1 ∷ 0 ∷ []; held = 0 ∷ 1 ∷ []; done = 0 ∷ 0 ∷ [] }
