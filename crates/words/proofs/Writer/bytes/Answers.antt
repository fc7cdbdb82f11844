-- `Writer::bytes` meets its contract: the text is copied into as many bytes from the writer's place on.
use Rattle.std.proofs.Common.{refl}
use Rattle.words.specs.Put.{puts_part, puts_length}
use Rattle.words.proofs.Writer.bytes.Goals as goal

pub returns : goal.returns
returns c = let p = puts_part c.requires.fits refl c.copy_from_slice.ensures.after in record { same = refl; as_long = puts_length p; puts = p }
