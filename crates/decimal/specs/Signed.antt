-- Signed numbers as decimal text (01, Report program: "a minus sign before a negative margin").
--   integer z              a minus sign before a negative number; then the text of its size
use Rattle.std.specs.Prelude.{List, ◌∷◌, ℕ, suc, ℤ, pos, negsuc}
use Rattle.decimal.specs.Digits.{decimal}

-- '-' is 45
unfoldable pub integer : ℤ → List ℕ
integer (pos n) = decimal n
integer (negsuc n) = 45 ∷ decimal (suc n)
