-- `reporttext::headed` meets its contract: the library's comparison is that of specs/Heading.antt.
use Rattle.std.proofs.Common.{◌∙◌}
use Rattle.reporttext.specs.Text.{heading}
use Rattle.reporttext.specs.Heading.{headed}
use Rattle.reporttext.proofs.Compared.{starts_with_is}
use Rattle.reporttext.proofs.headed.Goals as goal

pub returns : goal.returns
unfolding headed
returns c = c.starts_with.ensures.value ∙ starts_with_is heading c.args.text.now
