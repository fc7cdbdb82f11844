-- Laws of specs/Figures.antt that rest on a definition which an edit of must-fail/ changes.
-- Immediate runs of the factory chains, each computed.
--   permeate_schedule        the order of Permeate's run of 3: the second firing of N_1 sets off two of the sink
--   flush_counts             the counts of Flush's nodes after 32 firings of the source
use Rattle.std.specs.Prelude.{◌≡◌, refl, [], ◌∷◌, map}
use Rattle.chain.specs.Factory.{factory_answer}
use Rattle.schedule.specs.Counts.{F}
use Rattle.schedule.specs.Schedule.{schedule}
use Rattle.schedule.specs.Figures.{permeate, flush}

-- Permeate's run of 3
pub permeate_schedule : schedule permeate 3 ≡ 0 ∷ 0 ∷ 1 ∷ 0 ∷ 1 ∷ 2 ∷ 2 ∷ []
unfolding schedule factory_answer
permeate_schedule = refl

-- Flush's counts after 32 firings of the source
pub flush_counts : map (F flush 32) (0 ∷ 1 ∷ 2 ∷ []) ≡ 32 ∷ 29 ∷ 3 ∷ []
unfolding F factory_answer
flush_counts = refl
