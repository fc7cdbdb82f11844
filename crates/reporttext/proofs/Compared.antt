-- The library's comparison of a text with a beginning is that of specs/Heading.antt.
use Rattle.std.specs.Prelude.{◌≡◌, Bool, ◌&&◌, List, [], ◌∷◌, ℕ, eqb}
use Rattle.std.specs.List.{starts_with}
use Rattle.std.proofs.Common.{refl, ap}
use Rattle.reporttext.specs.Heading.{begins}

pub starts_with_is : (s t : List ℕ) → starts_with eqb t s ≡ begins s t
unfolding begins
starts_with_is [] t = refl
starts_with_is (a ∷ s) [] = refl
starts_with_is (a ∷ s) (b ∷ t) = ap (λ (x : Bool). eqb a b && x) (starts_with_is s t)
