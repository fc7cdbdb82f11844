-- Histories in which manual firings and ticks are mixed, of what their calls answer (01, Firing, and demand 3).
--   c, s, i, j               a chain, a run state, a node, a queue (N_j feeds it and N_(j+1) empties it)
--   Step                     firing i: a manual firing of N_i; ticking: one tick
--   step_number, step_run c s x
--                            what the call of the step x answers for the state s: its number, and the state that it hands back
--   Taken c s xs             each step of the list xs, from s on, is not refused; a tick may have any outcome
--   run_after c s xs         the state after them
--   Mixes c xs, mixed_run c xs
--                            the same from a fresh start
--   step_firings c s x, mixed_firings c xs
--                            the firings of one step, with their instants, and the nodes that fired in all steps from a fresh start, in order
--   step_counted, tick_source_first
--                            the firings of a step are what the counts grow by; of those of a tick the source's comes first
--   mixed_passes             the state after such a history passes 17
--   mixed_fires, mixed_state manual firing accepts its firings in turn, and after them counts and contents are its own
--   mixed_counted, mixed_balance, mixed_naming
--                            so demand 3 holds of it, as of every permitted order (and never_over and held_up, Demand3)
--   feed_mixed               such a history of Feed
use Rattle.std.specs.Prelude.{◌≡◌, refl, Bool, true, false, cond, List, [], ◌∷◌, ◌++◌, ℕ, zero, suc, ◌+◌, ◌*◌, ◌≤◌, ◌<◌, length, drop}
use Rattle.std.proofs.Common.{sym, ◌∙◌, arith}
use Rattle.std.proofs.Math.Path.{ap, subst}
use Rattle.std.proofs.Math.Logic.{by_cases}
use Rattle.std.proofs.lemmas.List.{map-append}
use Rattle.std.proofs.Math.Decide.{ℕ_discrete}
use Rattle.ardenquill.specs.Chains.{row_of, factory_answer}
use Rattle.ardenquill.specs.Analyses.{start}
use Rattle.ardenquill.specs.Runs.{count_at, held_at, fresh_run, answered, fresh_answer, fresh_state, fire_answer, fire_accepted, Firing, firing_is}
use Rattle.ardenquill.specs.Histories.{Entry, nodes, times, times_again, times_other, counted_from}
use Rattle.ardenquill.specs.Ticks.{divides, begun, advanced, finished, ended, outcome_of, tick_answer, Ticking, ticking_is}
use Rattle.ardenquill.specs.Ticks.{tick_ran, Running, tracing, source_entry, finish_entry, finish_trace}
use Rattle.ardenquill.specs.Ticks.{tick_trace, resting, Replays, replays_none, replays_one, replays_then, tick_traced}
use Rattle.ardenquill.specs.Records.{Chain, Run, Outcome, Clean, Overflowed, NoDeadline, TickAnswer}
use Rattle.promises.specs.Replay.{p_of, c_of, line, AllSlots, Passes, replay_answer, Fires, Sometime, fires_is, fires_state, accepts_is}
use Rattle.promises.specs.Laws.{whole, all_slots, passes_is}
use Rattle.promises.specs.HandedOut.{HandedOut, by_fresh, by_fire, by_tick, handed_out_running}
use Rattle.promises.specs.Demand3 as demand
use Rattle.promises.specs.Beyond.{feed}

-- one call that takes a run state and hands it back
pub data Step : Type 0 where
  firing : ℕ → Step
  ticking : Step

-- the number that it answers
abbrev pub step_number : Chain → Run → Step → ℕ
step_number c s (firing i) = (fire_answer c s i).number
step_number c s ticking = (tick_answer c s).number

-- and the state: "Each step hands the whole run state back; the old one isn't used again"
abbrev pub step_run : Chain → Run → Step → Run
step_run c s (firing i) = (fire_answer c s i).run
step_run c s ticking = (tick_answer c s).run

-- no step is refused; overflow and 13 "are outcomes of the run, not refusals", and the next step takes the state that they leave
unfoldable pub Taken : Chain → Run → List Step → Type 0
Taken c s [] = Unit
Taken c s (x ∷ xs) = (step_number c s x ≡ 0) × Taken c (step_run c s x) xs

-- the state after them
unfoldable pub run_after : Chain → Run → List Step → Run
run_after c s [] = s
run_after c s (x ∷ xs) = run_after c (step_run c s x) xs

-- "A fresh start begins a new history"
abbrev pub Mixes : Chain → List Step → Type 0
Mixes c xs = ((fresh_answer c).number ≡ 0) × Taken c (fresh_answer c).run xs

-- and the state that it leads to
abbrev pub mixed_run : Chain → List Step → Run
mixed_run c xs = run_after c (fresh_answer c).run xs

-- the firings of one step: of a manual firing its node, at the clock, which it does not move; of a tick what its trace says
abbrev pub step_firings : Chain → Run → Step → List Entry
step_firings c s (firing i) = (s.clock, i) ∷ []
step_firings c s ticking = tick_trace c s

-- of one step after the other
unfoldable pub firings_from : Chain → Run → List Step → List Entry
firings_from c s [] = []
firings_from c s (x ∷ xs) = step_firings c s x ++ firings_from c (step_run c s x) xs

-- the nodes that fired, from a fresh start, in order
abbrev pub mixed_firings : Chain → List Step → List ℕ
mixed_firings c xs = nodes (firings_from c (fresh_answer c).run xs)

-- one step of a state that has all its slots, which is not refused
module _ (c : Chain) (s : Run) (slots : AllSlots s) where
  -- hands out a state
  step_out : (x : Step) → step_number c s x ≡ 0 → HandedOut c (step_run c s x)
  step_out (firing i) ok = by_fire s i slots ok
  step_out ticking ok = by_tick s slots ok

  -- to which its firings lead
  step_replays : (x : Step) → step_number c s x ≡ 0 → Replays c s (step_firings c s x) (step_run c s x)
  unfolding fire_answer answered tick_answer outcome_of
  step_replays (firing i) ok =
      let f : Firing c s i = (firing_is c s i).0 ok in
      rw (fire_accepted c s i ok) (replays_one c s (record { chain = f.chain; whole = whole slots; state = f.state }) s.clock i f.may)
  step_replays ticking ok =
      let k : Ticking c s = (ticking_is c s).0 ok in
      subst (λ (a : TickAnswer). Replays c s (tick_trace c s) a.run) (sym (tick_ran c s ok)) (tick_traced (record { chain = k.chain; whole = whole slots; state = k.state }) k.countable)

  -- each node stands among them as often as its count grows: of a tick at most once (source_fires, Demand2, and node_fires, TickInNumbers)
  pub step_counted : (x : Step) → step_number c s x ≡ 0 → (i : ℕ) → i ≤ c.n → count_at (step_run c s x) i ≡ count_at s i + times i (nodes (step_firings c s x))
  step_counted x ok i l =
      ap (λ (t : Run). count_at t i) (sym (step_replays x ok).1)
      ∙ counted_from c (resting s) (nodes (step_firings c s x)) i (omega (arith, slots.counts, (handed_out_running (step_out x ok)).chain.chain.count.1))

-- a list in which the source stands
source_in : (before later : List ℕ) → 0 < times 0 (before ++ (0 ∷ later))
source_in [] later = omega (arith, times_again 0 0 later refl)
source_in (i ∷ before) later = by_cases (ℕ_discrete i 0)
    (λ z. omega (arith, times_again i 0 (before ++ (0 ∷ later)) z))
    (λ n. omega (arith, times_other i 0 (before ++ (0 ∷ later)) n, source_in before later))

-- the source stands first where one node at most comes before a list in which it does not stand
source_first : (a b before later : List ℕ) → length a ≤ 1 → times 0 b ≡ 0 → a ++ b ≡ before ++ (0 ∷ later) → before ≡ []
source_first a b [] later l z e = refl
source_first [] b (i ∷ before) later l z e = absurd (omega (arith, source_in (i ∷ before) later, ap (times 0) e))
source_first (j ∷ []) b (i ∷ before) later l z e = absurd (omega (arith, source_in before later, ap (λ (h : List ℕ). times 0 (drop 1 h)) e))
source_first (j ∷ k ∷ a) b (i ∷ before) later l z e = absurd (omega (arith, l))

-- "One tick at clock t is the source's step, .. and the effect at t+1 of a firing then finished": of the firings of a tick the source's comes first
pub tick_source_first : (c : Chain) (s : Run) (before later : List ℕ) → nodes (step_firings c s ticking) ≡ before ++ (0 ∷ later) → before ≡ []
unfolding tick_trace tracing source_entry finish_trace finish_entry times
tick_source_first c s before later e =
    let first : List Entry = tracing (begun c s).outcome s (λ u. source_entry c s) in
    let last : List Entry = tracing (advanced c s).outcome (advanced c s).run (finish_trace c) in
    source_first (nodes first) (nodes last) before later (once (begun c s).outcome) (others (advanced c s).outcome (advanced c s).run) (sym (map-append (λ (x : Entry). x.1) first last) ∙ e)
  where
    once : (o : Outcome) → length (nodes (tracing o s (λ u. source_entry c s))) ≤ 1
    once Clean = by (divides c.period s.clock)
      where
        by : (b : Bool) → length (nodes (cond b ((s.clock, 0) ∷ []) [])) ≤ 1
        by true = omega arith
        by false = omega arith
    once (Overflowed t q) = omega arith
    once (NoDeadline t i) = omega arith

    effect : (v : Run) (i : ℕ) → times 0 (nodes (finish_entry v i)) ≡ 0
    effect v zero = refl
    effect v (suc j) = times_other (suc j) 0 [] (λ z. omega arith)

    finish : (o : Outcome) (v : Run) → times 0 (nodes (tracing o v (λ u. finish_entry v (ended c v)))) ≡ 0
    finish Clean v = effect v (ended c v)
    finish (Overflowed t q) v = refl
    finish (NoDeadline t i) v = refl

    others : (o : Outcome) (v : Run) → times 0 (nodes (tracing o v (finish_trace c))) ≡ 0
    others Clean v = finish (finished c v).outcome v
    others (Overflowed t q) v = refl
    others (NoDeadline t i) v = refl

-- so many steps
steps_replay : {c : Chain} {s : Run} → Running c s → (xs : List Step) → Taken c s xs → Running c (run_after c s xs) × Replays c s (firings_from c s xs) (run_after c s xs)
unfolding Taken run_after firings_from
steps_replay {c} {s} r [] ok = (r, replays_none c s s refl refl)
steps_replay {c} {s} r (x ∷ xs) ok =
    let slots : AllSlots s = all_slots r.whole in
    let more = steps_replay {s = step_run c s x} (handed_out_running (step_out c s slots x ok.0)) xs ok.1 in
    (more.0, replays_then c s (step_run c s x) (run_after c (step_run c s x) xs) (step_firings c s x) (firings_from c (step_run c s x) xs) (step_replays c s slots x ok.0) more.1)

module _ (c : Chain) (xs : List Step) (ok : Mixes c xs) where
  -- a fresh start, and then the steps
  from_fresh : Running c (fresh_answer c).run
  from_fresh = handed_out_running (by_fresh ok.0)

  all : Running c (mixed_run c xs) × Replays c (fresh_answer c).run (firings_from c (fresh_answer c).run xs) (mixed_run c xs)
  all = steps_replay from_fresh xs ok.1

  -- the state after them passes 17
  pub mixed_passes : (j : ℕ) → j < c.n → Passes c (mixed_run c xs) j
  mixed_passes = (passes_is c (mixed_run c xs) ((accepts_is c).1 from_fresh.chain)).0 all.0.state

  -- a fresh start is at rest
  rests : resting (fresh_answer c).run ≡ fresh_run c
  unfolding fresh_answer answered fresh_run
  rests = ap resting (fresh_state c ok.0)

  -- manual firing alone accepts the firings in turn
  pub mixed_fires : Fires c (mixed_firings c xs)
  mixed_fires = (fires_is c (mixed_firings c xs)).1 (from_fresh.chain, rw rests at all.1.0)

  -- and after them counts and contents are those of the mixed history
  pub mixed_state : (replay_answer c (mixed_firings c xs)).run ≡ resting (mixed_run c xs)
  mixed_state = fires_state c (mixed_firings c xs) mixed_fires ∙ rw rests at all.1.1

  -- a count is how often the node fired
  pub mixed_counted : (i : ℕ) → i ≤ c.n → count_at (mixed_run c xs) i ≡ times i (mixed_firings c xs)
  mixed_counted i l = ap (λ (s : Run). count_at s i) (sym mixed_state) ∙ demand.counted c (mixed_firings c xs) mixed_fires i l

  -- "each queue holds what its producer's firings put in less what its consumer's took out", as a sum
  pub mixed_balance : (j : ℕ) → j < c.n → start (row_of c j) + p_of c j * times j (mixed_firings c xs) ≡ held_at (mixed_run c xs) j + c_of c j * times (suc j) (mixed_firings c xs)
  mixed_balance j l = rw mixed_state at (demand.balance c (mixed_firings c xs) mixed_fires j l)

  -- "in no permitted order can a producer fire as often as 01 names for its queue unless that queue has held at least the minimum"
  pub mixed_naming : (j : ℕ) → j < c.n → (line c j).by ≤ count_at (mixed_run c xs) j → Sometime c (mixed_firings c xs) (λ s. (line c j).minimum ≤ held_at s j)
  mixed_naming j l often = demand.naming c (mixed_firings c xs) mixed_fires j l (omega (arith, mixed_counted j (omega arith)))

-- Feed, whose source is fired by hand before the first tick fires it again: its sink is over threshold at once, and fires after 2 ticks of work
pub feed_mixed : let xs = firing 0 ∷ ticking ∷ ticking ∷ [] in
    (Mixes feed xs × (mixed_firings feed xs ≡ 0 ∷ 0 ∷ 1 ∷ [])) × (((mixed_run feed xs).clock ≡ 2) × (held_at (mixed_run feed xs) 0 ≡ 5))
unfolding factory_answer fresh_answer fire_answer tick_answer Taken run_after firings_from tick_trace
feed_mixed = (((refl, (refl, (refl, (refl, tt)))), refl), (refl, refl))
