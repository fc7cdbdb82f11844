-- Storing the digits that are left now gives what storing all of them gave at first.
use Rattle.std.proofs.Common.{◌≡◌, ◌-◌, length}
use Rattle.std.proofs.lemmas.List.Edits.{sets}
use Rattle.decimal.specs.Digits.{decimal}
use Rattle.decimal.proofs.Digits.{left}
use Rattle.decimal.proofs.put_decimal.Given as goal

abbrev pub invariant-loop-i : goal.invariant-loop-i
invariant-loop-i l =
    let v = l.fn.out in
    let w = l.out in
    record {
      same : w.out.ghost_name ≡ v.out.ghost_name;
      place : w.at ≡ v.at;
      as_many : l.i - w.at ≡ length (left (l.i - w.at) l.rest);
      stored : sets w.out.now w.at (left (l.i - w.at) l.rest) ≡ sets v.out.now w.at (decimal l.n);
    }
