-- One tick and a deadline run (01, Firing).
--   number_of o, values_of o     the number and the values that 01 gives an outcome
--   kind_of, tick_of, at_of o    the same for C; kind_number, kind_values: which says the same
--   clean s, overflowed s t q, undated s t i
--                              a state that is left clean, by a production at t that does not fit queue q, or by 13 at t of node i
--   goes, onward r f           what f makes of a state that was left clean; any other outcome stands
--   with_clock s t, with_done s j d
--                              the state s with another clock, or other work done of N_(j+1)
--   divides y t                whether y divides t
--   sourced c s                the source's step
--   next s i                   the index of N_i's next firing
--   lacking_test c s i, lacking c s
--                              13 of N_i, and of the state: the lowest node over threshold whose deadline cannot be had
--   as_early, choose due able n
--                              of the nodes 1 to n the one with the earliest deadline, ties to the one nearest the sink; 0 for none
--   chosen c s                 the node that works
--   worked s i                 one tick of work of N_i, and the clock going on
--   ended_in c s n, ended c s
--                              the node whose work is done; 0 for none
--   finish c s i, finished c s the effect of a firing that is finished
--   begun c s                  the source's step, then 13
--   advanced c s               the source's step, 13, and one tick of work
--   tick c s                   one tick
--   ticks c T s                so many of them, as far as they are clean
--   instants c T s             01's instants, T of them before the last
-- What is named here and not declared stands in proofs/StepsLaws.antt.
use Rattle.std.specs.Prelude.{◌≡◌, refl, Bool, true, cond, ◌&&◌, not, List, [], ◌∷◌, ℕ, zero, suc, ◌+◌, ◌%◌, eqb, leb, set}
use Rattle.words.specs.Table.{tab}
use Rattle.chain.specs.Refusals.{test, first}
use Rattle.chain.specs.Record.{work_of}
use Rattle.chain.specs.Refusal.{Refusal}
use Rattle.chain.specs.declared.Chain.{Chain}
use Rattle.state.specs.State.{count_at, done_at}
use Rattle.state.specs.Fired.{fired}
use Rattle.state.specs.Checks.{over, cramped}
use Rattle.state.specs.declared.Run.{Run}
use Rattle.deadline.specs.Deadline.{deadline, index_check}
use Rattle.instants.specs.declared.Outcome.{Outcome}
use Rattle.instants.specs.declared.Outcome.TheVariants.{Clean, Overflowed, NoDeadline}
use Rattle.instants.specs.declared.Ticked.{Ticked}

-- the number that 01 gives an outcome: 13 has one, "it ends clean" and "overflowed" have none
abbrev pub number_of : Outcome → ℕ
number_of Clean = 0
number_of (Overflowed t q) = 0
number_of (NoDeadline t i) = 13

-- and its values: "overflowed at (tick, queue)", and the tick and the node of 13
abbrev pub values_of : Outcome → List ℕ
values_of Clean = []
values_of (Overflowed t q) = t ∷ q ∷ []
values_of (NoDeadline t i) = t ∷ i ∷ []

-- the same for C, which has no outcomes of several kinds: a code, the tick, and the queue or the node; 0 where there is none
abbrev pub kind_of : Outcome → ℕ
kind_of Clean = 0
kind_of (Overflowed t q) = 1
kind_of (NoDeadline t i) = 2

abbrev pub tick_of : Outcome → ℕ
tick_of Clean = 0
tick_of (Overflowed t q) = t
tick_of (NoDeadline t i) = t

abbrev pub at_of : Outcome → ℕ
at_of Clean = 0
at_of (Overflowed t q) = q
at_of (NoDeadline t i) = i

pub kind_values : (o : Outcome) → values_of o ≡ cond (eqb (kind_of o) 0) [] (tick_of o ∷ at_of o ∷ [])
kind_values Clean = refl
kind_values (Overflowed t q) = refl
kind_values (NoDeadline t i) = refl

-- the three ways in which a state is left
abbrev pub clean : Run → Ticked
clean s = record { outcome = Clean; run = s }

abbrev pub overflowed : Run → ℕ → ℕ → Ticked
overflowed s t q = record { outcome = Overflowed t q; run = s }

abbrev pub undated : Run → ℕ → ℕ → Ticked
undated s t i = record { outcome = NoDeadline t i; run = s }

-- a run goes on where nothing has ended it
unfoldable pub goes : Outcome → Run → (Run → Ticked) → Ticked
goes Clean s f = f s
goes (Overflowed t q) s f = overflowed s t q
goes (NoDeadline t i) s f = undated s t i

unfoldable pub onward : Ticked → (Run → Ticked) → Ticked
unfolding goes
onward r f = goes r.outcome r.run f

-- the state with another clock, and with other work done of N_(j+1)
abbrev pub with_clock : Run → ℕ → Run
with_clock s t = record { clock = t; counts = s.counts; held = s.held; done = s.done }

abbrev pub with_done : Run → ℕ → ℕ → Run
with_done s j d = record { clock = s.clock; counts = s.counts; held = s.held; done = set s.done j d }

-- "if y divides t"
abbrev pub divides : ℕ → ℕ → Bool
divides y t = eqb (t % y) 0

-- "then the source fires if y divides t"; overflowed, "the state being that before the production"
unfoldable pub sourced : Chain → Run → Ticked
unfolding cramped fired
sourced c s = cond (divides c.period s.clock) (cond (cramped c s 0) (overflowed s s.clock 0) (clean (fired c s 0))) (clean s)

-- the index of N_i's next firing
abbrev pub next : Run → ℕ → ℕ
next s i = suc (count_at s i)

-- 13 of N_i in a run: "an over-threshold node's deadline can't be had", place that node
abbrev pub lacking_test : Chain → Run → ℕ → Refusal
lacking_test c s i = test 13 i (over c s i && not (eqb (index_check c i (next s i)).number 0))

-- "the lowest such over-threshold node"; the nodes other than the source are N_1 to N_n
unfoldable pub lacking : Chain → Run → Refusal
unfolding first tab index_check
lacking c s = first (tab c.n (λ j. lacking_test c s (suc j)))

-- whether a node is as early as the best so far
abbrev pub as_early : (ℕ → ℕ) → ℕ → ℕ → Bool
as_early due new zero = true
as_early due new (suc old) = leb (due new) (due (suc old))

-- "the earliest deadline, ties to the one nearest the sink"
unfoldable pub choose : (ℕ → ℕ) → (ℕ → Bool) → ℕ → ℕ
choose due able zero = 0
choose due able (suc n) = cond (able (suc n) && as_early due (suc n) (choose due able n)) (suc n) (choose due able n)

-- "the over-threshold node whose next firing has the earliest deadline", 0 where no node but the source is over threshold
unfoldable pub chosen : Chain → Run → ℕ
unfolding choose deadline
chosen c s = choose (λ i. deadline c i (next s i)) (over c s) c.n

-- "works one tick, keeping work already done", and "the clock going to t+1"
unfoldable pub worked : Run → ℕ → Run
worked s zero = with_clock s (s.clock + 1)
worked s (suc j) = with_done (with_clock s (s.clock + 1)) j (done_at s j + 1)

-- of N_1 to N_n, the node nearest the sink whose work is done
unfoldable pub ended_in : Chain → Run → ℕ → ℕ
ended_in c s zero = 0
ended_in c s (suc j) = cond (leb (work_of c j) (done_at s j)) (suc j) (ended_in c s j)

abbrev pub ended : Chain → Run → ℕ
ended c s = ended_in c s c.n

-- "a finished firing adds p to the output queue, if any, then removes c from the input queue"; overflowed, "the state being that before the
-- production", so that "work done of e is left only by an overflow at a finish"; with 8 passed there is none (finish_never_spills)
unfoldable pub finish : Chain → Run → ℕ → Ticked
unfolding cramped fired
finish c s zero = clean s
finish c s (suc j) = cond (cramped c s (suc j)) (overflowed s s.clock (suc j)) (clean (fired c (with_done s j 0) (suc j)))

-- "the firing finished by then takes effect"
unfoldable pub finished : Chain → Run → Ticked
unfolding finish ended_in
finished c s = finish c s (ended c s)

-- the source's step; "13 at the first instant when, after the source's step, an over-threshold node's deadline can't be had, .. the state being
-- that before the source's step"
unfoldable pub begun : Chain → Run → Ticked
unfolding onward sourced lacking
begun c s = onward (sourced c s) (λ u. cond (eqb (lacking c u).number 0) (clean u) (undated s s.clock (lacking c u).place))

-- "the source's step, one tick of work, the clock going to t+1"
unfoldable pub advanced : Chain → Run → Ticked
unfolding begun onward chosen worked
advanced c s = onward (begun c s) (λ u. clean (worked u (chosen c u)))

-- "and the effect at t+1 of a firing then finished"
unfoldable pub tick : Chain → Run → Ticked
unfolding advanced onward finished
tick c s = onward (advanced c s) (finished c)

-- tick after tick, up to the first outcome
unfoldable pub ticks : Chain → ℕ → Run → Ticked
unfolding tick onward
ticks c zero s = clean s
ticks c (suc T) s = onward (tick c s) (ticks c T)

-- "at each instant t below T: the firing finished by then takes effect; then the source ..; then .. works one tick. At instant T only a finished
-- firing takes effect"
unfoldable pub instants : Chain → ℕ → Run → Ticked
unfolding advanced onward finished
instants c zero s = finished c s
instants c (suc T) s = onward (onward (finished c s) (advanced c)) (instants c T)
