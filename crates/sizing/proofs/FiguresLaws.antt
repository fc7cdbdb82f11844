-- Laws of specs/Figures.antt that rest on a definition which an edit of must-fail/ changes.
-- Analyses of the factory chains, each computed.
--   feed-, permeate-, flush_figure   P1, P2 and P3, with P6's naming counts
--   written_figure                   P4: Permeate with capacities 12 and 5
use Rattle.std.specs.Prelude.{◌≡◌, refl, pos, negsuc}
use Rattle.words.specs.Table.{tab}
use Rattle.chain.specs.Factory.{factory_answer}
use Rattle.sizing.specs.Load.{busy_in, busy_of, cycle_of}
use Rattle.sizing.specs.Sizes.{size_by, size_of}
use Rattle.sizing.specs.Figures.{feed, permeate, flush, written}

pub feed_figure : (size_of feed 0 ≡ record { x = 4; y = 30; minimum = 10; by = 4; capacity = 10; margin = pos 0 }) × ((busy_of feed ≡ 8) × (cycle_of feed ≡ 30))
unfolding factory_answer size_by busy_in
feed_figure = (refl, (refl, refl))

pub permeate_figure : (size_of permeate 1 ≡ record { x = 6; y = 15; minimum = 6; by = 3; capacity = 6; margin = pos 0 }) × ((busy_of permeate ≡ 10) × (cycle_of permeate ≡ 15))
unfolding factory_answer size_by busy_in
permeate_figure = (refl, (refl, refl))

pub flush_figure : (size_of flush 1 ≡ record { x = 1; y = 800; minimum = 8; by = 8; capacity = 8; margin = pos 0 }) × ((busy_of flush ≡ 43) × (cycle_of flush ≡ 800))
unfolding factory_answer size_by busy_in
flush_figure = (refl, (refl, refl))

pub written_figure : (size_of written 0 ≡ record { x = 4; y = 15; minimum = 10; by = 4; capacity = 12; margin = pos 2 })
    × (size_of written 1 ≡ record { x = 6; y = 15; minimum = 6; by = 3; capacity = 5; margin = negsuc 0 })
unfolding tab size_by busy_in
written_figure = (refl, refl)
