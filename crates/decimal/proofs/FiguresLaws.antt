-- Texts of numbers, each computed.
--   zero_figure, one_digit_figure, two_digits_figure   "0", "7", "10"
--   largest_minimum_figure                             "131069", the largest minimum that a queue can have
--   largest_word_figure                                "4294967295", the largest number of 32 bits
--   plain_figure, no_sign_figure                       "2", and "0" without a sign
--   minus_one_figure, least_margin_figure              "-1", and "-131068"
use Rattle.std.specs.Prelude.{◌≡◌, refl, [], ◌∷◌, pos, negsuc}
use Rattle.decimal.specs.Digits.{decimal}
use Rattle.decimal.specs.Signed.{integer}

pub zero_figure : decimal 0 ≡ 48 ∷ []
unfolding decimal
zero_figure = refl

pub one_digit_figure : decimal 7 ≡ 55 ∷ []
unfolding decimal
one_digit_figure = refl

pub two_digits_figure : decimal 10 ≡ 49 ∷ 48 ∷ []
unfolding decimal
two_digits_figure = refl

pub largest_minimum_figure : decimal 131069 ≡ 49 ∷ 51 ∷ 49 ∷ 48 ∷ 54 ∷ 57 ∷ []
unfolding decimal
largest_minimum_figure = refl

pub largest_word_figure : decimal 4294967295 ≡ 52 ∷ 50 ∷ 57 ∷ 52 ∷ 57 ∷ 54 ∷ 55 ∷ 50 ∷ 57 ∷ 53 ∷ []
unfolding decimal
largest_word_figure = refl

pub plain_figure : integer (pos 2) ≡ 50 ∷ []
unfolding integer decimal
plain_figure = refl

pub no_sign_figure : integer (pos 0) ≡ 48 ∷ []
unfolding integer decimal
no_sign_figure = refl

pub minus_one_figure : integer (negsuc 0) ≡ 45 ∷ 49 ∷ []
unfolding integer decimal
minus_one_figure = refl

pub least_margin_figure : integer (negsuc 131067) ≡ 45 ∷ 49 ∷ 51 ∷ 49 ∷ 48 ∷ 54 ∷ 56 ∷ []
unfolding integer decimal
least_margin_figure = refl
