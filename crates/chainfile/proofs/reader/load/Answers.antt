-- `chainfile::reader::load` meets its contract: each turn moves both readers on and fills one slot, and behind the last row the record is what the file says.
use Rattle.std.proofs.Common.{◌<◌, ap, arith}
use Rattle.chainfile.specs.declared.reader.Header.{Header}
use Rattle.chainfile.specs.File.{count_of}
use Rattle.chainfile.proofs.Reading.{answers, load_none, load_more, loaded, rows_all, rows_sound}
use Rattle.chainfile.proofs.reader.load.Goals as goal

pub loop-i-init : goal.loop-i-init
loop-i-init c = load_none c.args.file c.requires.1 c.blank-chain.ensures c.new-rows.ensures c.new-times.ensures

pub loop-i-preserved : goal.loop-i-preserved
loop-i-preserved c =
    let inside : c.loop-i.i < count_of c.args.file.now = omega (arith, ap (λ (k : Header). k.n) c.requires.1) in
    rw (c.take_row-row.ensures.1, c.take-e.ensures.1, c.is_fine-fine.ensures)
    (load_more _ c.requires.0 c.loop-i.invariant inside c.take_row-row.ensures.0 c.take-e.ensures.0)

pub returns-in_err-check_period : goal.returns-in_err-check_period
returns-in_err-check_period c = grind (arith, answers, rows_sound _ c.requires.0 c.loop-i.invariant c.requires.1 c.loop-i.auto.i-end c.loop-i-test.false c.if-fine.true)

pub returns-in_err-check_rows : goal.returns-in_err-check_rows
returns-in_err-check_rows c = grind (arith, answers, rows_all _ c.requires.0 c.loop-i.invariant c.requires.1 c.loop-i.auto.i-end c.loop-i-test.false)

pub returns-in_ok-check_period : goal.returns-in_ok-check_period
returns-in_ok-check_period c =
    let chain = loaded _ c.requires.0 c.loop-i.invariant c.requires.1 c.loop-i.auto.i-end c.loop-i-test.false in
    grind (arith, answers, chain, rows_sound _ c.requires.0 c.loop-i.invariant c.requires.1 c.loop-i.auto.i-end c.loop-i-test.false c.if-fine.true)

pub returns-in_ok-check_rows : goal.returns-in_ok-check_rows
returns-in_ok-check_rows c =
    let chain = loaded _ c.requires.0 c.loop-i.invariant c.requires.1 c.loop-i.auto.i-end c.loop-i-test.false in
    grind (arith, answers, chain, rows_all _ c.requires.0 c.loop-i.invariant c.requires.1 c.loop-i.auto.i-end c.loop-i-test.false)
