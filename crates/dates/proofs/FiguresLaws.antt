-- Laws of specs/Figures.antt that rest on a definition which an edit of must-fail/ changes.
-- Deadlines of Feed, each computed: p = 4, c = 3, y = 10, and B in force is b = 10.
--   first_figure             N_1's first firing: index (0×3+10)/4 + 1 = 3 at the source, due at 2×10
--   second_figure            its second: index (1×3+10)/4 + 1 = 4, due at 3×10
use Rattle.std.specs.Prelude.{◌≡◌, refl}
use Rattle.chain.specs.Factory.{factory_answer}
use Rattle.dates.specs.Question.{deadline_answer}
use Rattle.dates.specs.Figures.{feed}

pub first_figure : deadline_answer feed 1 1 ≡ record { number = 0; place = 0; due = 20 }
unfolding factory_answer deadline_answer
first_figure = refl

pub second_figure : deadline_answer feed 1 2 ≡ record { number = 0; place = 0; due = 30 }
unfolding factory_answer deadline_answer
second_figure = refl
