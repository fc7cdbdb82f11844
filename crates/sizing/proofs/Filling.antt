-- The lines that a walk makes, one at each turn, and the analysis at its end.
--   Filling c i w l          the walk has come to N_i, and the list has the lines of the queues before it
use Rattle.std.specs.Prelude.{◌≡◌, List, ℕ, ltb}
use Rattle.std.proofs.Common.{sym, ap, ◌∙◌}
use Rattle.words.specs.Table.{slots}
use Rattle.chain.specs.Refusals.{fine, test, first}
use Rattle.chain.specs.declared.Chain.{Chain}
use Rattle.sizing.specs.Sizes.{size_of, no_size, analysis_of, sized}
use Rattle.sizing.specs.Walk.{Walked}
use Rattle.sizing.specs.Checks.{size_checks}
use Rattle.sizing.proofs.SizesLaws.{analysis_given}
use Rattle.sizing.proofs.Walking.{walk_says, walk_busy, walk_cycle}
use Rattle.sizing.specs.declared.QueueSize.{QueueSize}
use Rattle.sizing.specs.declared.Walk.{Walk}

pub record Filling (c : Chain) (i : ℕ) (w : Walk) (l : List QueueSize) : Type 0 where
  pub walked : Walked c i w
  pub lines : l ≡ slots (size_of c) no_size 16 i

-- behind the last queue, where 7 is not said
pub filled : {c : Chain} {i : ℕ} {w : Walk} {l : List QueueSize} {b : ℕ} → Filling c i w l → i ≡ c.n → fine ≡ test 7 0 (ltb w.y w.busy) → b ≡ w.busy
    → record { number = 0; place = 0; analysis = record { n = c.n; queues = l; busy = b; cycle = w.y } } ≡ sized (first (size_checks c)) c
unfolding analysis_of
filled {c} f e z g =
    analysis_given c (z ∙ sym (walk_says f.walked e))
    (λ j. record { n = c.n; queues = (f.lines ∙ ap (slots (size_of c) no_size 16) e) j; busy = (g ∙ walk_busy f.walked e z) j; cycle = walk_cycle f.walked e j })
