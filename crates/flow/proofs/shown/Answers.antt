-- `flow::shown` meets its contract: counts and contents are two parts of the flow.
use Rattle.std.proofs.Common.{◌≡◌, refl, List, ℕ, ◌+◌, ◌≤◌, ◌∙◌, arith, length, get_or, slice_range}
use Rattle.std.proofs.lemmas.List.Edits.{length-between, get_or-between}
use Rattle.words.specs.Table.{tab, is_tab}
use Rattle.state.specs.State.{same_run}
use Rattle.flow.specs.Shown.{shown}
use Rattle.flow.proofs.shown.Goals as goal

-- k words of a list, from place a on, are a table of them
part : (l : List ℕ) (a k : ℕ) → a + k ≤ length l → slice_range l a (a + k) ≡ tab k (λ j. get_or l (a + j) 0)
part l a k h = is_tab k _ 0 _ (omega (arith, length-between l a (a + k) h)) (λ j m. get_or-between l a (a + k) j 0 (omega arith))

pub returns : goal.returns
unfolding shown
returns c =
    let l = c.args.flow.now in
    same_run refl (c.copy_from_slice.ensures.after ∙ part l 48 17 (omega (arith, c.told-flow))) (c.copy_from_slice-2.ensures.after ∙ part l 65 16 (omega (arith, c.told-flow))) refl
