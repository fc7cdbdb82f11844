-- Laws of specs/Slots.antt that rest on a definition which an edit of must-fail/ changes.
-- Lists, states and outcomes of which only the first slots are compared, and such of which only the others are (01, Firing: "the slots past n are
-- neither read nor changed").
--   alike_set, kept_set      one slot written in both, and one of the first n written
--   kept_list, kept_lists    a list keeps its own slots, and keeping goes from list to list
--   same_list                lists that agree on the first n slots and kept the others of one list are equal
--   states_of, runs_of       AlikeStates is AlikeRuns of whole states
--   states_refl              a state and itself
--   kept_refl, -trans, -whole
--                            the laws of KeptSlots
--   same_state               states that differ in slots past n only and kept those of one state are equal
--   alike_clean              such states, left clean
--   alike_cond, kept_cond    of two of them one is taken
--   alike_onward, kept_onward
--                            one thing after the other
use Rattle.std.specs.Prelude.{◌≡◌, refl, Bool, true, false, cond, List, ℕ, ◌≤◌, ◌<◌, set}
use Rattle.std.proofs.Common.{sym, ◌∙◌, arith, length-set, get_or-set_other, ext_get_or}
use Rattle.std.proofs.Math.Logic.{by_cases}
use Rattle.std.proofs.Math.Decide.{dec_lt}
use Rattle.state.specs.State.{same_run}
use Rattle.state.specs.declared.Run.{Run}
use Rattle.slots.specs.Runs.{AlikeRuns, Whole}
use Rattle.instants.specs.Steps.{clean, goes, onward}
use Rattle.instants.specs.declared.Outcome.{Outcome}
use Rattle.instants.specs.declared.Outcome.TheVariants.{Clean, Overflowed, NoDeadline}
use Rattle.instants.specs.declared.Ticked.{Ticked}
use Rattle.tickslots.specs.Slots.{AlikeLists, KeptList, AlikeStates, KeptSlots, AlikeTicked}

-- one of the first n slots is written
pub kept_set : {n : ℕ} (x : List ℕ) (i v : ℕ) → i < n → KeptList n x (set x i v)
kept_set x i v l = record { long = length-set x i v; slots = λ j m. get_or-set_other x i j v 0 (λ e. omega arith) }

-- a list keeps its own slots
pub kept_list : {n : ℕ} (x : List ℕ) → KeptList n x x
kept_list x = record { long = refl; slots = λ i l. refl }

-- and what keeps them from list to list keeps them
pub kept_lists : {n : ℕ} {x y z : List ℕ} → KeptList n x y → KeptList n y z → KeptList n x z
kept_lists h k = record { long = k.long ∙ h.long; slots = λ i l. k.slots i l ∙ h.slots i l }

-- lists that agree on the first n slots and have the others of one list
pub same_list : {n : ℕ} {z x y : List ℕ} → KeptList n z x → KeptList n z y → AlikeLists n x y → x ≡ y
same_list {n} {x = x} {y} h k a = ext_get_or 0 x y a.long (λ i l. by_cases (dec_lt i n) (λ m. a.slots i m) (λ no. let f : n ≤ i = omega arith in h.slots i f ∙ sym (k.slots i f)))

-- whole states that differ in slots past n only have as many slots
pub states_of : {n : ℕ} {s t : Run} → Whole s → Whole t → AlikeRuns n s t → AlikeStates n s t
states_of w v r = record {
  clock = r.clock;
  counts = record { long = w.counts ∙ sym v.counts; slots = λ i l. r.counts i (omega arith) };
  held = record { long = w.held ∙ sym v.held; slots = r.held };
  done = record { long = w.done ∙ sym v.done; slots = r.done };
}

-- and the other way, of any states
pub runs_of : {n : ℕ} {s t : Run} → AlikeStates n s t → AlikeRuns n s t
runs_of a = record { clock = a.clock; counts = λ i l. a.counts.slots i (omega arith); held = a.held.slots; done = a.done.slots }

-- a state and itself
pub states_refl : {n : ℕ} (s : Run) → AlikeStates n s s
states_refl s = record {
  clock = refl;
  counts = record { long = refl; slots = λ i l. refl };
  held = record { long = refl; slots = λ i l. refl };
  done = record { long = refl; slots = λ i l. refl };
}

-- a state has its own slots
pub kept_refl : {n : ℕ} (s : Run) → KeptSlots n s s
kept_refl s = record { counts = kept_list s.counts; held = kept_list s.held; done = kept_list s.done }

-- a state that is reached over another
pub kept_trans : {n : ℕ} {s t u : Run} → KeptSlots n s t → KeptSlots n t u → KeptSlots n s u
kept_trans h k = record { counts = kept_lists h.counts k.counts; held = kept_lists h.held k.held; done = kept_lists h.done k.done }

-- a state with as many slots as a whole one is whole
pub kept_whole : {n : ℕ} {s t : Run} → KeptSlots n s t → Whole s → Whole t
kept_whole k w = record { counts = k.counts.long ∙ w.counts; held = k.held.long ∙ w.held; done = k.done.long ∙ w.done }

-- states that differ in slots past n only, and have one state's there
pub same_state : {n : ℕ} {u s t : Run} → KeptSlots n u s → KeptSlots n u t → AlikeStates n s t → s ≡ t
same_state h k a = same_run a.clock (same_list h.counts k.counts a.counts) (same_list h.held k.held a.held) (same_list h.done k.done a.done)

-- what is left clean
pub alike_clean : {n : ℕ} {s t : Run} → AlikeStates n s t → AlikeTicked n (clean s) (clean t)
alike_clean a = record { outcome = refl; state = a }

-- one of two is taken
pub alike_cond : {n : ℕ} {x y u v : Ticked} {b d : Bool} → b ≡ d → AlikeTicked n x u → AlikeTicked n y v → AlikeTicked n (cond b x y) (cond d u v)
alike_cond {n} {x} {y} {u} {v} {b} e h k = rw (← e) (by b)
  where
    by : (b : Bool) → AlikeTicked n (cond b x y) (cond b u v)
    by true = h
    by false = k

-- each of the two keeps the slots of a state
pub kept_cond : {n : ℕ} {s : Run} (x y : Ticked) (b : Bool) → KeptSlots n s x.run → KeptSlots n s y.run → KeptSlots n s (cond b x y).run
kept_cond x y true h k = h
kept_cond x y false h k = k

-- one thing after the other
pub alike_onward : {n : ℕ} {x y : Ticked} (f g : Run → Ticked) → AlikeTicked n x y → ((u v : Run) → AlikeStates n u v → AlikeTicked n (f u) (g v)) → AlikeTicked n (onward x f) (onward y g)
unfolding onward goes
alike_onward {n} {x} {y} f g a h = rw (← a.outcome) (by x.outcome)
  where
    by : (o : Outcome) → AlikeTicked n (goes o x.run f) (goes o y.run g)
    by Clean = h x.run y.run a.state
    by (Overflowed t q) = record { outcome = refl; state = a.state }
    by (NoDeadline t i) = record { outcome = refl; state = a.state }

-- both of which keep the slots of a state
pub kept_onward : {n : ℕ} {s : Run} (x : Ticked) (f : Run → Ticked) → KeptSlots n s x.run → ((u : Run) → KeptSlots n s u → KeptSlots n s (f u).run) → KeptSlots n s (onward x f).run
unfolding onward goes
kept_onward {n} {s} x f k h = by x.outcome
  where
    by : (o : Outcome) → KeptSlots n s (goes o x.run f).run
    by Clean = h x.run k
    by (Overflowed t q) = k
    by (NoDeadline t i) = k
