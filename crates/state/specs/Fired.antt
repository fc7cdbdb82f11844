-- What one firing does (01, Firing; 004, definition 5.2).
--   produced c i h           the contents h after N_i has put p into its output queue
--   consumed c i h           the contents h after N_i has taken c from its input queue
--   fired c s i              the state s after a finished firing of N_i
--   Over c s i               N_i may fire: it is the source, or its input queue holds at least τ
--   Room c s i               its output queue, if any, has room for p
--   over_enough              a node that may fire finds what it takes
--   May c s i                9, 11 and 12 let the firing pass: there is such a node, its count can grow, it may fire and there is room
--   supplied, accounted c s j
--                            what queue j started with and was given, and what it holds and what was taken out
--   Balance c s j            which are the same
--   BalanceWith c s j x      or x tokens more were lost
--   Slots n s, slots_kept    the state has a slot for each node and queue, and a firing keeps them
-- What is named here and not declared stands in proofs/FiredLaws.antt.
use Rattle.std.specs.Prelude.{◌≡◌, Bool, cond, ◌≢◌, List, ℕ, zero, suc, ◌+◌, ◌-◌, ◌*◌, ◌≤◌, ◌<◌, ltb, set}
use Rattle.std.proofs.Math.Path.{refl}
use Rattle.std.proofs.Common.{ap, arith}
use Rattle.std.proofs.Math.Bool.{true, false}
use Rattle.std.proofs.Math.ListN.{length, get_or, length-set}
use Rattle.std.proofs.Math.Seq.{get_or-set_other}
use Rattle.chain.specs.Record.{row_of}
use Rattle.chain.specs.Sound.{Sound}
use Rattle.chain.specs.declared.Chain.{Chain}
use Rattle.sizing.specs.Sizes.{start, capacity_of}
use Rattle.sizing.specs.Checks.{limit}
use Rattle.state.specs.State.{count_at, held_at}
use Rattle.state.specs.declared.Run.{Run}

-- "a finished firing adds p to the output queue, if any"
unfoldable pub produced : Chain → ℕ → List ℕ → List ℕ
produced c i h = cond (ltb i c.n) (set h i (get_or h i 0 + (row_of c i).produce)) h

-- "then removes c from the input queue, if any"; a node that may fire finds τ there and c is at most τ, so the minus is exact (held_input)
unfoldable pub consumed : Chain → ℕ → List ℕ → List ℕ
consumed c zero h = h
consumed c (suc j) h = set h j (get_or h j 0 - (row_of c j).consume)

-- a finished firing of N_i: first what it produces, "then" what it removes, and one more in its count
unfoldable pub fired : Chain → Run → ℕ → Run
unfolding produced consumed
fired c s i = record { clock = s.clock; counts = set s.counts i (count_at s i + 1); held = consumed c i (produced c i s.held); done = s.done }

-- "a node other than N_0 may fire when its input queue holds at least τ; N_0 always"
abbrev pub Over : Chain → Run → ℕ → Type 0
Over c s zero = Unit
Over c s (suc j) = (row_of c j).threshold ≤ held_at s j

-- c is at most τ, so a node that may fire finds what it takes
pub over_enough : {c : Chain} → Sound c → (s : Run) (j : ℕ) → j < c.n → Over c s (suc j) → (row_of c j).consume ≤ held_at s j
over_enough k s j l o = omega (arith, o, (k.rows j l).order)

-- "filling to exactly the capacity is allowed"
abbrev pub Room : Chain → Run → ℕ → Type 0
Room c s i = i < c.n → held_at s i + (row_of c i).produce ≤ capacity_of (row_of c i)

-- 9, 11 and 12 of manual firing let a firing of N_i pass
pub record May (c : Chain) (s : Run) (i : ℕ) : Type 0 where
  pub node : i ≤ c.n
  pub countable : count_at s i ≢ limit
  pub over : Over c s i
  pub room : Room c s i

module _ (c : Chain) (i : ℕ) (h : List ℕ) where
  pub length_produced : length (produced c i h) ≡ length h
  unfolding produced
  length_produced = by (ltb i c.n)
    where
      by : (b : Bool) → length (cond b (set h i (get_or h i 0 + (row_of c i).produce)) h) ≡ length h
      by true = length-set h i _
      by false = refl

  pub produced_other : (j : ℕ) → j ≢ i → get_or (produced c i h) j 0 ≡ get_or h j 0
  unfolding produced
  produced_other j ne = by (ltb i c.n)
    where
      by : (b : Bool) → get_or (cond b (set h i (get_or h i 0 + (row_of c i).produce)) h) j 0 ≡ get_or h j 0
      by true = get_or-set_other h i j _ 0 ne
      by false = refl

pub length_consumed : (c : Chain) (i : ℕ) (h : List ℕ) → length (consumed c i h) ≡ length h
unfolding consumed
length_consumed c zero h = refl
length_consumed c (suc j) h = length-set h j _

pub consumed_other : (c : Chain) (i : ℕ) (h : List ℕ) (k : ℕ) → suc k ≢ i → get_or (consumed c i h) k 0 ≡ get_or h k 0
unfolding consumed
consumed_other c zero h k ne = refl
consumed_other c (suc j) h k ne = get_or-set_other h j k _ 0 (λ e. ne (ap suc e))

-- the two sides of queue j's balance: what it started with and "p × producer's count", what is held and "c × consumer's count"
abbrev pub supplied : Chain → Run → ℕ → ℕ
supplied c s j = start (row_of c j) + (row_of c j).produce * count_at s j

abbrev pub accounted : Chain → Run → ℕ → ℕ
accounted c s j = held_at s j + (row_of c j).consume * count_at s (suc j)

-- the balance of queue j, as a sum
abbrev pub Balance : Chain → Run → ℕ → Type 0
Balance c s j = supplied c s j ≡ accounted c s j

-- and with x tokens that were produced and lost
abbrev pub BalanceWith : Chain → Run → ℕ → ℕ → Type 0
BalanceWith c s j x = supplied c s j ≡ accounted c s j + x

-- the arithmetic of one queue, of which l tokens are lost: its producer fires, its consumer fires, neither does
pub put_balance : (s p c N M x l N' M' x' : ℕ) → N' ≡ N + 1 → M' ≡ M → x' ≡ x + p → s + p * N ≡ x + c * M + l → s + p * N' ≡ x' + c * M' + l
put_balance s p c N M x l N' M' x' e f g b = rw (e, f, g) (omega (arith, b))

pub take_balance : (s p c N M x l N' M' x' : ℕ) → N' ≡ N → M' ≡ M + 1 → x' + c ≡ x → s + p * N ≡ x + c * M + l → s + p * N' ≡ x' + c * M' + l
take_balance s p c N M x l N' M' x' e f g b = rw (e, f) (omega (arith, b, g))

pub keep_balance : (s p c N M x l N' M' x' : ℕ) → N' ≡ N → M' ≡ M → x' ≡ x → s + p * N ≡ x + c * M + l → s + p * N' ≡ x' + c * M' + l
keep_balance s p c N M x l N' M' x' e f g b = rw (e, f, g) b

-- what a state has room for: a count for each node and a slot for each queue
pub record Slots (n : ℕ) (s : Run) : Type 0 where
  pub counts : n < length s.counts
  pub held : n ≤ length s.held
