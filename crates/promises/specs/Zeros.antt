-- "A refusal gives number and place, all other results zero" (01), with every zero written out; and the slots that no queue has.
--   zero_row, zero_chain     a queue's row, and a chain, of zeros
--   zero_line, zero_analysis  a queue's line, and an analysis
--   zero_run                 a run state
--   ZeroPast N n z l         l has N slots, of which each from n on is z
--   slots_zero               slots of which the first n are filled are such a list
--   ChainSlots c, RunSlots n s
--                            of a chain: no row and no execution time past n; of a state: no count, contents or work past n
use Rattle.std.specs.Prelude.{◌≡◌, cond, List, ℕ, suc, ◌≤◌, ◌<◌, ltb, pos, length, get_or, replicate}
use Rattle.ardenquill.specs.Chains.{slots, length_tab, slot_free}
use Rattle.ardenquill.specs.Records.{Queue, Chain, QueueSize, Analysis, Run}

-- a row of no queue
abbrev pub zero_row : Queue
zero_row = record { produce = 0; threshold = 0; consume = 0; capacity = 0; reserved = 0 }

-- the chain of a refused call
abbrev pub zero_chain : Chain
zero_chain = record { n = 0; period = 0; queues = replicate 16 zero_row; work = replicate 16 0 }

-- the line of no queue
abbrev pub zero_line : QueueSize
zero_line = record { x = 0; y = 0; minimum = 0; by = 0; capacity = 0; margin = pos 0 }

-- the analysis of a refused call
abbrev pub zero_analysis : Analysis
zero_analysis = record { n = 0; queues = replicate 16 zero_line; busy = 0; cycle = 0 }

-- the run state of a refused call that makes one
abbrev pub zero_run : Run
zero_run = record { clock = 0; counts = replicate 17 0; held = replicate 16 0; done = replicate 16 0 }

-- N slots, of which each from n on holds z
pub record ZeroPast {A : Type 0} (N n : ℕ) (z : A) (l : List A) : Type 0 where
  pub long : length l ≡ N
  pub past : (i : ℕ) → n ≤ i → i < N → get_or l i z ≡ z

-- slots of which the first n are filled
pub slots_zero : {A : Type 0} (f : ℕ → A) (z : A) (n : ℕ) → ZeroPast 16 n z (slots f z 16 n)
slots_zero f z n = record { long = length_tab 16 (λ j. cond (ltb j n) (f j) z); past = λ i l m. slot_free f z 16 n i z m l }

-- a chain whose slots past n are zero
pub record ChainSlots (c : Chain) : Type 0 where
  pub rows : ZeroPast 16 c.n zero_row c.queues
  pub work : ZeroPast 16 c.n 0 c.work

-- a state of a chain of n queues whose slots past n are zero: 17 counts, of which the chain has one more than queues
pub record RunSlots (n : ℕ) (s : Run) : Type 0 where
  pub counts : ZeroPast 17 (suc n) 0 s.counts
  pub held : ZeroPast 16 n 0 s.held
  pub done : ZeroPast 16 n 0 s.done
