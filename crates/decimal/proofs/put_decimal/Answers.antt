-- `decimal::put_decimal` meets its contract: the digit that is stored is the last one of those that are left.
use Rattle.std.proofs.Common.{◌≡◌, suc, ◌+◌, ◌-◌, ◌/◌, ℕ, length, set, ap, ◌∙◌, arith}
use Rattle.std.proofs.lemmas.List.Edits.{sets}
use Rattle.decimal.specs.Digits.{decimal}
use Rattle.decimal.proofs.Digits.{left, one_less, put_digit}
use Rattle.decimal.proofs.put_decimal.Goals as goal

pub loop-i-preserved : goal.loop-i-preserved
loop-i-preserved c =
    let l = c.loop-i in
    let w = l.out in
    let k = l.i - 1 - w.at in
    let step : l.i - w.at ≡ suc k = omega arith in
    let many : suc k ≡ length (decimal l.rest) = rw step at l.invariant.as_many in
    let place : l.i - 1 ≡ w.at + k = omega arith in
    record {
      same = l.invariant.same;
      place = l.invariant.place;
      as_many = one_less k l.rest many;
      stored = ap (λ (j : ℕ). sets (set w.out.now j c.digit.result) w.at (left k (l.rest / 10))) place
          ∙ put_digit w.out.now w.at k l.rest c.digit.result many c.digit.ensures ∙ (rw step at l.invariant.stored);
    }
