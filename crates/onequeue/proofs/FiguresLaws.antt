-- Laws of specs/Figures.antt that rest on a definition which an edit of must-fail/ changes.
-- Figures of 01 and 000, computed.
--   least_figures                         the minimum and the naming count of queues (p,τ,c) that start empty
--   started_figure                        a queue that starts with 1 token, (4,4,2): it holds 3 before the last production, and b is 7
--   margin_figures                        Permeate with B 12 and 5: margins 2 and -1
use Rattle.std.specs.Prelude.{◌≡◌, refl, List, [], ◌∷◌, ℤ, pos, negsuc}
use Rattle.onequeue.specs.Least.{least}
use Rattle.onequeue.specs.Capacity.{capacity, margin}
use Rattle.onequeue.specs.declared.Shown.{Shown}
use Rattle.onequeue.specs.Figures.{shown}

-- Feed's queue, which is Permeate's first, too; Permeate's second; Flush's two; Corner Turn and Azimuth FFT of 000's Example 1, whose minimum is 128 · 256
-- both times; and the largest that the ranges allow
pub least_figures :
    ◌≡◌ {A = List Shown}
    (least 0 4 7 3 ∷ least 0 3 4 2 ∷ least 0 16 64 16 ∷ least 0 1 8 8 ∷ least 0 256 32768 16384 ∷ least 0 32768 128 128 ∷ least 0 65535 65535 65534 ∷ [])
    (shown 10 4 ∷ shown 6 3 ∷ shown 64 4 ∷ shown 8 8 ∷ shown 32768 128 ∷ shown 32768 1 ∷ shown 131069 65535 ∷ [])
unfolding least
least_figures = refl

pub started_figure : (least 1 4 4 2).minimum ≡ 7
unfolding least
started_figure = refl

pub margin_figures : ◌≡◌ {A = List ℤ} (margin (capacity 12 10) 10 ∷ margin (capacity 5 6) 6 ∷ []) (pos 2 ∷ negsuc 0 ∷ [])
unfolding margin capacity
margin_figures = refl
