-- Whole reports, each computed.
--   feed_figure, permeate_figure, flush_figure
--                     the factory chains'
--   margins_figure    Permeate's with capacities 12 and 5 (P4), margins 2 and -1
--   refusal_figure    "refused,8,1"
use Rattle.std.specs.Prelude.{◌≡◌, refl, [], ◌∷◌, ◌++◌}
use Rattle.words.specs.Literal.{text}
use Rattle.chain.specs.Factory.{queue, made}
use Rattle.sizing.specs.Sizes.{analysis_of}
use Rattle.reporttext.specs.Text.{heading, text_of}
use Rattle.reporttext.specs.Refused.{refusal_text}

-- "for the Feed chain, whole", with "a column `by` after `minimum`" (02, Item 1)
pub feed_figure : text_of (analysis_of (made 10 (queue 4 7 3 0 ∷ []) (2 ∷ [])))
    ≡ text "queue,x,y,minimum,by,capacity,margin\n0,4,30,10,4,10,0\nbusy,8,30\n"
unfolding text_of analysis_of
feed_figure = refl

-- the other factory chains
pub permeate_figure : text_of (analysis_of (made 5 (queue 4 7 3 0 ∷ queue 3 4 2 0 ∷ []) (1 ∷ 1 ∷ [])))
    ≡ heading ++ text "0,4,15,10,4,10,0\n1,6,15,6,3,6,0\nbusy,10,15\n"
unfolding text_of analysis_of
permeate_figure = refl

pub flush_figure : text_of (analysis_of (made 100 (queue 16 64 16 0 ∷ queue 1 8 8 0 ∷ []) (5 ∷ 3 ∷ [])))
    ≡ heading ++ text "0,1,100,64,4,64,0\n1,1,800,8,8,8,0\nbusy,43,800\n"
unfolding text_of analysis_of
flush_figure = refl

-- P4
pub margins_figure : text_of (analysis_of (made 5 (queue 4 7 3 12 ∷ queue 3 4 2 5 ∷ []) (1 ∷ 1 ∷ [])))
    ≡ heading ++ text "0,4,15,10,4,12,2\n1,6,15,6,3,5,-1\nbusy,10,15\n"
unfolding text_of analysis_of
margins_figure = refl

-- "the line `refused,number,place`"
pub refusal_figure : refusal_text 8 1 ≡ text "refused,8,1\n"
unfolding refusal_text
refusal_figure = refl
