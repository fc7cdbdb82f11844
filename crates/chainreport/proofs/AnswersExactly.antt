-- What is printed of the bytes held is what is to be printed of the input, however much of it was left unread. It stands alone, since an edit of `Holds` changes its
-- proof, too.
use Rattle.std.specs.Prelude.{◌≡◌, ◌↔◌, List, ℕ, ◌≤◌, ◌<◌, length, take}
use Rattle.std.proofs.Common.{sym, ap, ◌∙◌, arith, length-take-le, take_all}
use Rattle.chainreport.specs.Printed.{printed}
use Rattle.chainreport.specs.Input.{longest_file, Answers}
use Rattle.chainreport.proofs.InputLaws.{front_enough}

pub answers_exactly : (b t : List ℕ) (n : ℕ) → longest_file < length b → n ≤ length b → Answers b n t ↔ (t ≡ printed (take n b))
answers_exactly b t n long l = (
  λ a. a (take n b) (sym (take_all (length b) (take n b) (omega (arith, length-take-le n b l)))),
  λ e i h. e ∙ ap printed h ∙ front_enough i (length b) long,
)
