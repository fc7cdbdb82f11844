-- Figures of gcd, each computed.
--   prime_figure            the largest prime of 16 bits and a million
--   wide_by_narrow_figure   a number of 48 bits and one of 16
--   slowest_figure          Fibonacci's numbers 92 and 93, which take Euclid's rule many turns
--   right_zero_figure       b is 0
--   left_zero_figure        a is 0
use Rattle.std.specs.Prelude.{◌≡◌, refl}
use Rattle.arith.specs.Gcd.{gcd}

pub prime_figure : gcd 65521 1000000 ≡ 1
unfolding gcd
prime_figure = refl

pub wide_by_narrow_figure : gcd 281474976710655 65520 ≡ 4095
unfolding gcd
wide_by_narrow_figure = refl

pub slowest_figure : gcd 7540113804746346429 12200160415121876738 ≡ 1
unfolding gcd
slowest_figure = refl

pub right_zero_figure : gcd 65521 0 ≡ 65521
unfolding gcd
right_zero_figure = refl

pub left_zero_figure : gcd 0 65521 ≡ 65521
unfolding gcd
left_zero_figure = refl
