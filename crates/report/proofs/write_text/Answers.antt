-- `report::write_text` meets its contract: the text goes straight into the lent bytes, or by its own buffer.
use Rattle.std.proofs.Common.{◌≤◌, length, sym, arith}
use Rattle.words.specs.Put.{taken}
use Rattle.chainfile.specs.Packed.{room_enough}
use Rattle.chainfile.proofs.Writing.{output_done}
use Rattle.reporttext.specs.Text.{text_of}
use Rattle.report.proofs.write_text.Goals as goal

pub returns-then-out-ge-LONGEST_REPORT : goal.returns-then-out-ge-LONGEST_REPORT
returns-then-out-ge-LONGEST_REPORT c =
    let p = c.put_text.ensures in
    let fits : length (text_of c.args.analysis.now) ≤ length c.args.out.now = omega (arith, p.0.next) in
    output_done (sym (room_enough _ _ fits)) fits p.0

pub returns : goal.returns
returns c =
    let p = c.put_text-end.ensures in
    rw (taken p.0 p.1) at c.copy_text.ensures
