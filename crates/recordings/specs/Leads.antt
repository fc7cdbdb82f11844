-- What firings make of a state and a list, lost or not (02, Item 2).
--   Leads c s l h u m          the firings h, each of them fair, lead from the counts and contents of s to those of u, and note in m what they lose
use Rattle.std.specs.Prelude.{◌≡◌, List, ◌++◌, ℕ, zero, suc}
use Rattle.chain.specs.declared.Chain.{Chain}
use Rattle.state.specs.Fired.{Over}
use Rattle.state.specs.declared.Run.{Run}
use Rattle.traces.specs.Trace.{resting}
use Rattle.traces.specs.Rising.{Rising}
use Rattle.losses.specs.Losses.{entries_in, Listed, Extends}
use Rattle.losses.specs.Checks.{Named}
use Rattle.losses.specs.declared.Losses.{Losses}
use Rattle.recordings.specs.Marked.{Marked, unmarked, rec_after, EachFair, losses_of}

-- the firings h lead from s and l to u and m: each is fair where it is made, the counts and contents after them are u's, and m has l's entries and then what the
-- lost ones lost, its other slots as they were; the instants never fall, from the clock of s to that of u
pub record Leads (c : Chain) (s : Run) (l : Losses) (h : List Marked) (u : Run) (m : Losses) : Type 0 where
  pub fair : EachFair c (resting s) h
  pub after : rec_after c (resting s) h ≡ resting u
  pub entries : entries_in m ≡ entries_in l ++ losses_of c h
  pub extends : Extends l m
  pub listed : Listed m
  pub named : Named c.n l → Named c.n m
  pub rising : Rising s.clock (unmarked h) u.clock

-- a node that is over threshold is so at rest
pub resting_over : (c : Chain) (s : Run) (i : ℕ) → Over c s i → Over c (resting s) i
resting_over c s zero o = tt
resting_over c s (suc j) o = o
