-- Laws of specs/Figures.antt that rest on a definition which an edit of must-fail/ changes.
-- Deadlines of 000's example (01, Figures), each computed.
--   first_figure, fifth_figure, sixth_figure
--                            the first two deadlines of N_1, of N_5 and of N_6
use Rattle.std.specs.Prelude.{◌≡◌, refl}
use Rattle.words.specs.Table.{tab}
use Rattle.deadline.specs.Deadline.{deadline}
use Rattle.deadline.specs.Figures.{example}

pub first_figure : (deadline example 1 1 ≡ 1000) × (deadline example 1 2 ≡ 2000)
unfolding deadline tab
first_figure = (refl, refl)

pub fifth_figure : (deadline example 5 1 ≡ 132000) × (deadline example 5 2 ≡ 196000)
unfolding deadline tab
fifth_figure = (refl, refl)

pub sixth_figure : (deadline example 6 1 ≡ 196000) × (deadline example 6 2 ≡ 196000)
unfolding deadline tab
sixth_figure = (refl, refl)
