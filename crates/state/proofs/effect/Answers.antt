-- `state::effect` meets its contract: p goes into the output queue, then c leaves the input queue, and the count has grown.
use Rattle.std.proofs.Common.{◌≡◌, refl, ◌∙◌, ◌≢◌, ℕ, zero, suc, ◌+◌, ◌-◌, ◌≤◌, ◌<◌, arith, get_or, set, List, Fits, w32, lt-ltb, le-ltb}
use Rattle.chain.specs.Record.{row_of}
use Rattle.chain.specs.declared.Chain.{Chain}
use Rattle.sizing.specs.Sizes.{capacity_most}
use Rattle.state.specs.State.{held_at}
use Rattle.state.specs.Fired.{produced, consumed, fired, produced_other, over_enough}
use Rattle.state.specs.Fire.{Firing}
use Rattle.state.specs.declared.Run.{Run}
use Rattle.state.proofs.effect.Goals as goal
use Rattle.state.proofs.effect.Goals.{Joined-i-chain, then-i-chain, else-i-chain}

-- the state where the two ways of the production meet
abbrev half : Chain → Run → ℕ → Run
half k r i = record { clock = r.clock; counts = set r.counts i (get_or r.counts i 0 + 1); held = produced k i r.held; done = r.done }

abbrev withHeld : Run → List ℕ → Run
withHeld r h = record { clock = r.clock; counts = r.counts; held = h; done = r.done }

mid : (c : Joined-i-chain) → c.if-i-chain.s ≡ half c.args.chain.now c.args.run c.args.i
unfolding produced
mid c = elim c.if-i-chain.branch [ then-i-chain w ↦ w.s-is ∙ simp (lt-ltb _ _ w.if-i-chain.true) | else-i-chain w ↦ w.s-is ∙ simp (le-ltb _ _ w.if-i-chain.false) ]

-- the input queue, which the production leaves alone, holds what is taken
takes : {c : Chain} {s : Run} (i : ℕ) → Firing c s i → 0 < i → (row_of c (i - 1)).consume ≤ held_at s (i - 1)
takes {s = s} zero k l = absurd (omega arith)
takes {s = s} (suc j) k l = let e : suc j - 1 ≡ j = omega arith in rw e (over_enough k.chain.chain s j k.may.node k.may.over)

-- the state after the removal, where the node has an input queue and where it has none
module _ (c : Chain) (s : Run) where
  taken : (i : ℕ) → 0 < i → withHeld (half c s i) (set (produced c i s.held) (i - 1) (get_or (produced c i s.held) (i - 1) 0 - (row_of c (i - 1)).consume)) ≡ fired c s i
  unfolding fired consumed
  taken zero l = absurd (omega arith)
  taken (suc j) l = let e : suc j - 1 ≡ j = omega arith in rw e

  none-taken : (i : ℕ) → i ≤ 0 → half c s i ≡ fired c s i
  unfolding fired consumed
  none-taken zero l = refl
  none-taken (suc j) l = absurd (omega arith)

module _ {c : Chain} {s : Run} {i : ℕ} (k : Firing c s i) where
  -- the production fits
  puts : i < c.n → Fits w32 (held_at s i + (row_of c i).produce)
  puts l = record { fits = omega (arith, k.may.room l, capacity_most (k.chain.chain.rows i l)) }

  -- what the removal finds, after the production
  found : 0 < i → (row_of c (i - 1)).consume ≤ get_or (produced c i s.held) (i - 1) 0
  found l = let ne : i - 1 ≢ i = λ e. omega arith in rw (produced_other c i s.held (i - 1) ne) (takes i k l)

pub overflow_add-s-then-i-chain : goal.overflow_add-s-then-i-chain
overflow_add-s-then-i-chain c = puts c.requires c.if-i-chain.true

pub overflow_sub-s : goal.overflow_sub-s
overflow_sub-s c = rw (mid (goal.at.overflow_sub-s c).Joined-i-chain) (found c.requires c.if-i-gt0.true)

pub returns-then-i-gt0 : goal.returns-then-i-gt0
returns-then-i-gt0 c = rw (mid (goal.at.returns-then-i-gt0 c).Joined-i-chain) (taken _ _ _ c.if-i-gt0.true)

pub returns-else-i-gt0 : goal.returns-else-i-gt0
returns-else-i-gt0 c = mid (goal.at.returns-else-i-gt0 c).Joined-i-chain ∙ none-taken _ _ _ c.if-i-gt0.false
