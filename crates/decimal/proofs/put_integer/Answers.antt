-- `decimal::put_integer` meets its contract: by the sign, a minus sign and the text of the number's size, or that text alone.
use Rattle.std.proofs.Common.{◌≡◌, ◌∷◌, arith}
use Rattle.std.proofs.lemmas.Int.{to_z-of_z}
use Rattle.words.specs.Writer.{next}
use Rattle.decimal.specs.Digits.{decimal}
use Rattle.decimal.specs.Signed.{integer}
use Rattle.decimal.proofs.SignedLaws.{integer_minus, integer_plain}
use Rattle.decimal.proofs.put_integer.Goals as goal

pub returns-then-z-lt0 : goal.returns-then-z-lt0
returns-then-z-lt0 c =
    let back = to_z-of_z _ _ c.ranges.z in
    let size = rw back at c.unsigned_abs-n.ensures.value in
    let text : integer c.args.z ≡ 45 ∷ decimal c.unsigned_abs-n.result = rw size (integer_minus c.args.z (rw back at c.if-z-lt0.true)) in
    (rw text (next c.byte.ensures c.put_decimal.ensures.0), omega (arith, c.byte.ensures.puts.next))

pub returns-else-z-lt0 : goal.returns-else-z-lt0
returns-else-z-lt0 c =
    let back = to_z-of_z _ _ c.ranges.z in
    let size = rw back at c.unsigned_abs-n.ensures.value in
    let text : integer c.args.z ≡ decimal c.unsigned_abs-n.result = rw size (integer_plain c.args.z (rw back at c.if-z-lt0.false)) in
    (rw text c.put_decimal-else-z-lt0.ensures.0, omega arith)
