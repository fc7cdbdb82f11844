-- One recording tick and a recording run (02, Item 2); "rec" before a name says: the same of a recording run.
--   rec_number_of o, rec_values_of o
--                              the number and the values that 01's way gives an outcome; rec_tick_of, rec_at_of o, rec_values: the values one by one; rec_numbers, rec_all_values: which they are
--   rec_clean s l, rec_undated s l t i, rec_full s l t q
--                              a state and a list that are left clean, by 13 at t of node i, or by the full list at t and queue q
--   rec-clean-, rec-undated-, rec_full_left
--                              which are what they say
--   rec_goes, rec_onward r f   what f makes of a state and a list that were left clean; any other outcome stands
--   dropped c s i              the state s after a finished firing of N_i whose production is dropped whole
--   lost_firing c s i          the same of the firing that s has finished, its work cleared; of the source's, which has none
--   recorded_by, recorded c l x a step of the deadline run in a recording run: where its production does not fit it is dropped and noted, if the list has room
--   rec_sourced c s l          the source's step
--   rec_begun c s l            the source's step, then 13
--   rec_advanced c s l         the source's step, 13, and one tick of work
--   rec_finished c s l         the effect of a firing that is finished
--   rec_tick c s l             one tick
--   rec_ticks c T s l          so many of them, as far as they are clean
--   rec_instants c T s l       01's instants, T of them before the last
-- What is named here and not declared stands in proofs/StepsLaws.antt.
use Rattle.std.specs.Prelude.{◌≡◌, refl, cond, List, [], ◌∷◌, ℕ, zero, suc, eqb, ltb}
use Rattle.chain.specs.Record.{row_of}
use Rattle.chain.specs.declared.Chain.{Chain}
use Rattle.state.specs.Fired.{consumed, fired}
use Rattle.state.specs.declared.Run.{Run}
use Rattle.instants.specs.Steps.{with_done, sourced, lacking, chosen, worked, finished}
use Rattle.instants.specs.declared.Outcome.{Outcome}
use Rattle.instants.specs.declared.Outcome.TheVariants as plain
use Rattle.instants.specs.declared.Ticked.{Ticked}
use Rattle.losses.specs.Losses.{longest_list, noted}
use Rattle.losses.specs.declared.Losses.{Losses}
use Rattle.recordings.specs.declared.RecordOutcome.{RecordOutcome}
use Rattle.recordings.specs.declared.RecordOutcome.TheVariants.{Clean, NoDeadline, ListFull}
use Rattle.recordings.specs.declared.Recorded.{Recorded}

-- the number of an outcome: 13, and "the stopped list is outcome 15"; "it ends clean" has none
abbrev pub rec_number_of : RecordOutcome → ℕ
rec_number_of Clean = 0
rec_number_of (NoDeadline t i) = 13
rec_number_of (ListFull t q) = 15

-- and its values: the tick and the node of 13, the tick and "place the queue" of 15
abbrev pub rec_values_of : RecordOutcome → List ℕ
rec_values_of Clean = []
rec_values_of (NoDeadline t i) = t ∷ i ∷ []
rec_values_of (ListFull t q) = t ∷ q ∷ []

-- the two one by one; 0 where there is none
abbrev pub rec_tick_of : RecordOutcome → ℕ
rec_tick_of Clean = 0
rec_tick_of (NoDeadline t i) = t
rec_tick_of (ListFull t q) = t

abbrev pub rec_at_of : RecordOutcome → ℕ
rec_at_of Clean = 0
rec_at_of (NoDeadline t i) = i
rec_at_of (ListFull t q) = q

pub rec_all_values : (t p : ℕ) → (rec_values_of Clean ≡ []) × ((rec_values_of (NoDeadline t p) ≡ t ∷ p ∷ []) × (rec_values_of (ListFull t p) ≡ t ∷ p ∷ []))
rec_all_values t p = (refl, (refl, refl))

-- the three ways in which a state and a list are left
abbrev pub rec_clean : Run → Losses → Recorded
rec_clean s l = record { outcome = Clean; run = s; losses = l }

abbrev pub rec_undated : Run → Losses → ℕ → ℕ → Recorded
rec_undated s l t i = record { outcome = NoDeadline t i; run = s; losses = l }

abbrev pub rec_full : Run → Losses → ℕ → ℕ → Recorded
rec_full s l t q = record { outcome = ListFull t q; run = s; losses = l }

-- which are what they say: the outcome, and the state and the list that are named
pub rec_clean_left : (s : Run) (l : Losses) → ((rec_clean s l).outcome ≡ Clean) × (((rec_clean s l).run ≡ s) × ((rec_clean s l).losses ≡ l))
rec_clean_left s l = (refl, (refl, refl))

pub rec_undated_left : (s : Run) (l : Losses) (t i : ℕ) → ((rec_undated s l t i).outcome ≡ NoDeadline t i) × (((rec_undated s l t i).run ≡ s) × ((rec_undated s l t i).losses ≡ l))
rec_undated_left s l t i = (refl, (refl, refl))

pub rec_full_left : (s : Run) (l : Losses) (t q : ℕ) → ((rec_full s l t q).outcome ≡ ListFull t q) × (((rec_full s l t q).run ≡ s) × ((rec_full s l t q).losses ≡ l))
rec_full_left s l t q = (refl, (refl, refl))

-- a run goes on where nothing has ended it
unfoldable pub rec_goes : RecordOutcome → Run → Losses → (Run → Losses → Recorded) → Recorded
rec_goes Clean s l f = f s l
rec_goes (NoDeadline t i) s l f = rec_undated s l t i
rec_goes (ListFull t q) s l f = rec_full s l t q

unfoldable pub rec_onward : Recorded → (Run → Losses → Recorded) → Recorded
unfolding rec_goes
rec_onward r f = rec_goes r.outcome r.run r.losses f

-- "a production that doesn't fit is dropped whole .., and the node still takes its input": it is counted as every firing is
abbrev pub dropped : Chain → Run → ℕ → Run
dropped c s i = record { clock = s.clock; counts = (fired c s i).counts; held = consumed c i s.held; done = s.done }

-- N_i's firing that s has finished, with its production dropped: its work is cleared; the source has none
unfoldable pub lost_firing : Chain → Run → ℕ → Run
unfolding fired consumed
lost_firing c s zero = dropped c s 0
lost_firing c s (suc j) = dropped c (with_done s j 0) (suc j)

-- "its tick, queue and tokens go into a list of at most 256 entries"; "a 257th loss stops the run before it happens"
unfoldable pub recorded_by : Chain → Losses → Outcome → Run → Recorded
unfolding lost_firing
recorded_by c l plain.Clean s = rec_clean s l
recorded_by c l (plain.Overflowed t q) s = cond (ltb l.count longest_list) (rec_clean (lost_firing c s q) (noted l t q (row_of c q).produce)) (rec_full s l t q)
recorded_by c l (plain.NoDeadline t i) s = rec_undated s l t i

-- a step of the deadline run that left x, in a recording run
unfoldable pub recorded : Chain → Losses → Ticked → Recorded
unfolding recorded_by
recorded c l x = recorded_by c l x.outcome x.run

-- "then the source fires if y divides t"
unfoldable pub rec_sourced : Chain → Run → Losses → Recorded
unfolding recorded sourced
rec_sourced c s l = recorded c l (sourced c s)

-- 13, "the state being that before the source's step", and the list, too
unfoldable pub rec_begun : Chain → Run → Losses → Recorded
unfolding rec_onward rec_sourced lacking
rec_begun c s l = rec_onward (rec_sourced c s l) (λ u m. cond (eqb (lacking c u).number 0) (rec_clean u m) (rec_undated s l s.clock (lacking c u).place))

-- one tick of work of the node that every deadline run chooses: "deadlines count productions as if none were dropped", since a drop is counted
unfoldable pub rec_advanced : Chain → Run → Losses → Recorded
unfolding rec_begun rec_onward chosen worked
rec_advanced c s l = rec_onward (rec_begun c s l) (λ u m. rec_clean (worked u (chosen c u)) m)

-- "the firing finished by then takes effect"
unfoldable pub rec_finished : Chain → Run → Losses → Recorded
unfolding recorded finished
rec_finished c s l = recorded c l (finished c s)

-- "the source's step, one tick of work, the clock going to t+1, and the effect at t+1 of a firing then finished"
unfoldable pub rec_tick : Chain → Run → Losses → Recorded
unfolding rec_advanced rec_onward rec_finished
rec_tick c s l = rec_onward (rec_advanced c s l) (rec_finished c)

-- tick after tick, up to the first outcome
unfoldable pub rec_ticks : Chain → ℕ → Run → Losses → Recorded
unfolding rec_tick rec_onward
rec_ticks c zero s l = rec_clean s l
rec_ticks c (suc T) s l = rec_onward (rec_tick c s l) (rec_ticks c T)

-- "at each instant t below T: the firing finished by then takes effect; then the source ..; then .. works one tick. At instant T only a finished
-- firing takes effect"
unfoldable pub rec_instants : Chain → ℕ → Run → Losses → Recorded
unfolding rec_advanced rec_onward rec_finished
rec_instants c zero s l = rec_finished c s l
rec_instants c (suc T) s l = rec_onward (rec_onward (rec_finished c s l) (rec_advanced c)) (rec_instants c T)
