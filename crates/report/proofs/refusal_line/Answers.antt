-- `report::refusal_line` meets its contract: the front of its buffer is the line, which is then copied.
use Rattle.words.specs.Put.{taken}
use Rattle.report.proofs.refusal_line.Goals as goal

pub returns : goal.returns
returns c =
    let p = c.put_refusal-end.ensures in
    rw (taken p.0 p.1) at c.copy_text.ensures
