-- What is printed is what is to be printed of the bytes held, and so of the input, where that is known.
use Rattle.std.proofs.Common.{rules, ◌<◌, length, List, ℕ, Result, Ok, Err, Option, Some, None, OnOk, IfSome, subst}
use Rattle.std.specs.Io.KnownBytes.{Appends}
use Rattle.chainreport.specs.Input.{longest_file, Holds, Answers}
use Rattle.chainreport.specs.Printed.{printed}
use Rattle.chainreport.proofs.AnswersExactly.{answers_exactly}
use Rattle.chainreport.proofs.respond.Goals as goal

on : {E : Type 0} (r : Result (Unit {0}) E) {P Q : Type 0} → (P → Q) → OnOk r P → OnOk r Q
on (Ok u) f p = f p
on (Err e) f p = tt

known : (o : Option (List ℕ)) (Q : List ℕ → Type 0) (t b : List ℕ) (n : ℕ) → Answers b n t → IfSome o (λ i. Holds i b n) → Q t → IfSome o (λ i. Q (printed i))
known None Q t b n a h q = tt
known (Some i) Q t b n a h q = subst Q (a i h) q

pub returns : goal.returns
returns g c =
    let room : longest_file < length c.read.new.file = search rules in
    let held = (answers_exactly _ _ _ room c.in_ok-n.ensures.prefix_len.0).1 c.answer-end.ensures.answers in
    let Prints : List ℕ → Type 0 = Appends (g.W.Write.contents c.args.output.now) (g.W.Write.contents c.print.new.output) in
    on c.print.result (known _ Prints _ _ _ held c.in_ok-n.ensures.holds) c.print.ensures
