-- 17 of a state with its list of losses (02, Item 2).
--   rec_accounted c s l i      what queue i holds, what was taken from it, and the sum of its entries
--   RecBalance c s l i         the balance with them
--   rec_queues_check c s l     17 of the queues, and rec_state_check c s l after 17 of the list
--   RecBroken, RecSteady, FirstRecBroken
--                              its reasons in words: a queue has one, or none, and the lowest that has one
--   RecSound c s l             a state and a list that pass it
--   Recording c s l            an accepted chain, and a whole state and a list that pass it
--   recording_filled, filled_recording
--                              what the steps need of them, and what 17 asks besides
--   fresh_recording            a fresh start with an empty list is one
use Rattle.std.specs.Prelude.{◌⊎◌, ℕ, ◌+◌, ◌≤◌, ◌<◌}
use Rattle.std.proofs.Common.{sym, ◌∙◌, add-zero, arith}
use Rattle.words.specs.Table.{tab}
use Rattle.chain.specs.Refusals.{first, or_else}
use Rattle.chain.specs.Record.{row_of, work_of}
use Rattle.chain.specs.Refusal.{Refusal}
use Rattle.chain.specs.declared.Chain.{Chain}
use Rattle.onequeue.specs.Capacity.{capacity}
use Rattle.onequeue.specs.Least.{least}
use Rattle.sizing.specs.Sizes.{capacity_of}
use Rattle.sizing.specs.Accepted.{Accepted}
use Rattle.state.specs.State.{fresh_run, held_at, done_at}
use Rattle.state.specs.Fired.{supplied, accounted, BalanceWith}
use Rattle.state.specs.Checks.{queue_test}
use Rattle.state.specs.declared.Run.{Run}
use Rattle.slots.specs.Runs.{Whole}
use Rattle.instants.specs.Filled.{Filled}
use Rattle.instants.proofs.FilledLaws.{running_filled}
use Rattle.instants.proofs.FreshLaws.{fresh_running}
use Rattle.losses.specs.Losses.{empty_losses, lost_in, lost, Listed, listed_empty}
use Rattle.losses.specs.Checks.{list_check, Named}
use Rattle.losses.specs.declared.Losses.{Losses}

-- what queue i holds, "c × consumer's count", and the sum of its entries
abbrev pub rec_accounted : Chain → Run → Losses → ℕ → ℕ
rec_accounted c s l i = accounted c s i + lost l i

-- "tokens produced equal tokens consumed, held, and the sum of that queue's entries"
abbrev pub RecBalance : Chain → Run → Losses → ℕ → Type 0
RecBalance c s l i = BalanceWith c s i (lost l i)

-- "17's balance counts the entries": "lowest queue"
unfoldable pub rec_queues_check : Chain → Run → Losses → Refusal
unfolding first tab lost_in capacity least
rec_queues_check c s l = first (tab c.n (queue_test c s (supplied c s) (rec_accounted c s l)))

-- "a list longer than 256 or an entry that names no queue of the chain is 17 before the balance"
unfoldable pub rec_state_check : Chain → Run → Losses → Refusal
unfolding or_else list_check rec_queues_check
rec_state_check c s l = or_else (list_check c.n l) (rec_queues_check c s l)

-- 17's reasons at queue i, one of which is enough
abbrev pub RecBroken : Chain → Run → Losses → ℕ → Type 0
RecBroken c s l i = ((RecBalance c s l i → ⊥) ⊎ (capacity_of (row_of c i) < held_at s i)) ⊎ (work_of c i ≤ done_at s i)

-- and none of them
abbrev pub RecSteady : Chain → Run → Losses → ℕ → Type 0
RecSteady c s l i = (RecBalance c s l i × (held_at s i ≤ capacity_of (row_of c i))) × (done_at s i < work_of c i)

-- 17 of the queues in words: L is the lowest that has one
pub record FirstRecBroken (c : Chain) (s : Run) (l : Losses) (L : ℕ) : Type 0 where
  pub queue : L < c.n
  pub broken : RecBroken c s l L
  pub before : (j : ℕ) → j < L → RecSteady c s l j

-- a state and a list that pass 17
pub record RecSound (c : Chain) (s : Run) (l : Losses) : Type 0 where
  pub short : l.count ≤ 256
  pub named : Named c.n l
  pub queues : (i : ℕ) → i < c.n → RecSteady c s l i

-- an accepted chain, and a state and a list, of all their slots, that pass 17
pub record Recording (c : Chain) (s : Run) (l : Losses) : Type 0 where
  pub chain : Accepted c
  pub whole : Whole s
  pub listed : Listed l
  pub sound : RecSound c s l

module _ {c : Chain} {s : Run} {l : Losses} where
  -- what a step needs of the state
  pub recording_filled : Recording c s l → Filled c s
  recording_filled r = record { chain = r.chain; whole = r.whole; within = λ j f. (r.sound.queues j f).0.1; below = λ j f. (r.sound.queues j f).1 }

  pub filled_recording : Filled c s → Listed l → Named c.n l → ((j : ℕ) → j < c.n → RecBalance c s l j) → Recording c s l
  filled_recording f k n b = record {
    chain = f.chain;
    whole = f.whole;
    listed = k;
    sound = record { short = k.short; named = n; queues = λ j h. ((b j h, f.within j h), f.below j h) };
  }

-- a fresh start with an empty list
pub fresh_recording : {c : Chain} → Accepted c → Recording c (fresh_run c) empty_losses
unfolding tab lost_in
fresh_recording {c} a =
    filled_recording (running_filled (fresh_running a)) listed_empty (λ k h. absurd (omega arith)) (λ j h. ((fresh_running a).state j h).0.0 ∙ sym (add-zero _))
