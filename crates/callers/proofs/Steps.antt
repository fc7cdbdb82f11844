-- What is left to fire from place i of a list on, as `replay` goes through it.
use mathlib.Core.Path.{◌≡◌, sym, ap, ◌∙◌}
use mathlib.Core.List.{List}
use Prim.Native.Nat.{ℕ, suc, ◌+◌, ◌≤◌, ◌<◌}
use native.Mathlib.Numerals.{add-one}
use lib.ListN.{length, get_or, drop, drop_of_length-le}
use lib.Seq.{drop-cons}
use Rattle.ardenquill.specs.Runs.{fresh_answer, fire_answer}
use Rattle.ardenquill.specs.Records.{Chain, RunAnswer}
use Rattle.promises.specs.Replay.{replay_from, replay_answer, goes_on}

module _ (c : Chain) where
  pub replay_start : {r : RunAnswer} (l : List ℕ) → r ≡ fresh_answer c → replay_from c r (drop 0 l) ≡ replay_answer c l
  unfolding replay_answer
  replay_start l e = ap (λ (r : RunAnswer). replay_from c r l) e

  pub replay_next : (r : RunAnswer) {t : RunAnswer} (l : List ℕ) (i : ℕ) → i < length l → r.number ≡ 0 → t ≡ fire_answer c r.run (get_or l i 0)
      → replay_from c t (drop (i + 1) l) ≡ replay_from c r (drop i l)
  replay_next r l i h z e =
      ap (λ (t : RunAnswer). replay_from c t (drop (i + 1) l)) e
      ∙ sym (rw (drop-cons l i 0 h, add-one) (goes_on c r (get_or l i 0) (drop (suc i) l) z))

  pub replay_end : (r : RunAnswer) (l : List ℕ) (i : ℕ) → length l ≤ i → replay_from c r (drop i l) ≡ r
  unfolding replay_from
  replay_end r l i h = ap (replay_from c r) (drop_of_length-le l h)
