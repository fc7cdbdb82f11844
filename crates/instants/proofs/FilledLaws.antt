-- Laws of specs/Filled.antt that rest on a definition which an edit of must-fail/ changes.
-- What a step of a tick needs of a state, and what 17 asks of it (01, Firing and Numbers a call may refuse with).
--   running_filled, _balanced, filled_running
--                              which says both
--   filled_slots               a filled state has a slot for each node and queue
--   fired_filled, _balanced, _running
--                              a firing of a node that is over threshold keeps each of them, of Filled and Running with room
--   filled_as                  what a step needs says nothing of the clock or the counts
--   balanced_as, lacking_as, chosen_as
--                              a state with the same counts and contents has the same balance, 13 and choice
use Rattle.std.specs.Prelude.{◌≡◌, refl, List, ℕ, zero, suc, ◌+◌, ◌≤◌, ◌<◌, leb, length, get_or}
use Rattle.std.proofs.Common.{sym, ap, subst, ◌∙◌, arith}
use Rattle.std.proofs.Math.Logic.{by_cases}
use Rattle.std.proofs.Math.Decide.{ℕ_discrete}
use Rattle.chain.specs.Record.{row_of, work_of}
use Rattle.chain.specs.Sound.{Sound}
use Rattle.chain.specs.declared.Chain.{Chain}
use Rattle.sizing.specs.Sizes.{capacity_of}
use Rattle.state.specs.State.{held_at, done_at}
use Rattle.state.specs.Fired.{fired, Over, Room, Slots, over_enough}
use Rattle.state.proofs.FiredLaws.{held_output, held_input, held_other, balance_kept}
use Rattle.state.specs.Checks.{over}
use Rattle.state.specs.declared.Run.{Run}
use Rattle.slots.specs.Runs.{fired_whole}
use Rattle.deadline.specs.Deadline.{deadline}
use Rattle.instants.specs.Steps.{lacking, choose, chosen}
use Rattle.instants.specs.Filled.{Filled, Balanced, Running, at}

-- which is both
module _ {c : Chain} {s : Run} where
  pub running_filled : Running c s → Filled c s
  running_filled r = record { chain = r.chain; whole = r.whole; within = λ j l. (r.state j l).0.1; below = λ j l. (r.state j l).1 }

  pub running_balanced : Running c s → Balanced c s
  running_balanced r j l = (r.state j l).0.0

  pub filled_running : Filled c s → Balanced c s → Running c s
  filled_running f b = record { chain = f.chain; whole = f.whole; state = λ j l. ((b j l, f.within j l), f.below j l) }

-- a filled state has a slot for each node and queue
pub filled_slots : {c : Chain} {s : Run} → Filled c s → Slots c.n s
filled_slots f = record { counts = omega (arith, f.whole.counts, f.chain.chain.count.1); held = omega (arith, f.whole.held, f.chain.chain.count.1) }

-- a firing of a node
module _ {c : Chain} {s : Run} (f : Filled c s) (i : ℕ) (o : Over c s i) where
  sound : Sound c
  sound = f.chain.chain

  -- it finds what it takes
  enough : (j : ℕ) → j < c.n → i ≡ suc j → (row_of c j).consume ≤ held_at s j
  enough j l e = over_enough sound s j l (subst (Over c s) e o)

  pub fired_balanced : Balanced c s → Balanced c (fired c s i)
  fired_balanced b j l = balance_kept c s i j (filled_slots f) l (enough j l) (b j l)

  -- with room, it leaves no queue above its capacity
  module _ (m : Room c s i) where
    within : (j : ℕ) → j < c.n → held_at (fired c s i) j ≤ capacity_of (row_of c j)
    within j l = by_cases (ℕ_discrete j i)
        (λ e. rw (e, held_output c s i (omega arith) (omega (arith, f.whole.held, sound.count.1))) (m (omega arith)))
        (λ ne. by_cases (ℕ_discrete (suc j) i)
        (λ e. omega (
          arith,
          subst (λ (k : ℕ). held_at (fired c s k) j + (row_of c j).consume ≡ held_at s j) e
              (held_input c s j (omega (arith, f.whole.held, sound.count.1)) (enough j l (sym e))),
          f.within j l,
        ))
        (λ ne'. rw (held_other c s i j ne ne') (f.within j l)))

    pub fired_filled : Filled c (fired c s i)
    unfolding fired
    fired_filled = record {
      chain = f.chain;
      whole = fired_whole c s i f.whole;
      within = within;
      below = f.below;
    }

-- so a state that passes 17 passes it after the firing
pub fired_running : {c : Chain} {s : Run} → Running c s → (i : ℕ) → Over c s i → Room c s i → Running c (fired c s i)
fired_running r i o m = filled_running (fired_filled (running_filled r) i o m) (fired_balanced (running_filled r) i o (running_balanced r))

-- what a step needs says nothing of the clock or the counts: of a state with any others it holds
module _ (c : Chain) (u w : Run) where
  pub filled_as : Filled c u → length w.counts ≡ 17 → w.held ≡ u.held → length w.done ≡ 16 → ((j : ℕ) → j < c.n → done_at w j < work_of c j) → Filled c w
  filled_as f wide held deep below = record {
    chain = f.chain;
    whole = record { counts = wide; held = ap length held ∙ f.whole.held; done = deep };
    within = λ j l. rw (at held j) (f.within j l);
    below = below;
  }

-- a state with the counts and contents of another has its balance, 13 and choice
module _ (c : Chain) (u w : Run) (counts : w.counts ≡ u.counts) (held : w.held ≡ u.held) where
  pub balanced_as : Balanced c u → Balanced c w
  balanced_as b j l = rw (at counts j, at counts (suc j), at held j) (b j l)

  pub lacking_as : lacking c w ≡ lacking c u
  unfolding lacking
  lacking_as = λ i. lacking c (record { clock = u.clock; counts = counts i; held = held i; done = u.done })

  over_as : (i : ℕ) → over c w i ≡ over c u i
  over_as zero = refl
  over_as (suc j) = ap (λ (y : List ℕ). leb (row_of c j).threshold (get_or y j 0)) held

  pub chosen_as : chosen c w ≡ chosen c u
  unfolding chosen
  chosen_as = λ z. choose (λ i. deadline c i (suc (get_or (counts z) i 0))) (λ i. over_as i z) c.n
