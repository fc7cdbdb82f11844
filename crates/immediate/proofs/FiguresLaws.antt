-- Laws of specs/Figures.antt that rest on a definition which an edit of must-fail/ changes.
-- The limit of an immediate run, computed.
--   limit_figure             a million firings of each node are not refused
--   past_figure              one more is refused 9, at the source
use Rattle.std.specs.Prelude.{◌≡◌, refl}
use Rattle.words.specs.Table.{tab}
use Rattle.chain.specs.Refusals.{refused, fine}
use Rattle.immediate.specs.Checks.{length_check}
use Rattle.immediate.specs.Figures.{relay}

pub limit_figure : length_check relay 1000000 ≡ fine
unfolding length_check tab
limit_figure = refl

pub past_figure : length_check relay 1000001 ≡ refused 9 0
unfolding length_check tab
past_figure = refl
