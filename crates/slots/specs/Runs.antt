-- "In every run state the slots past n are neither read nor changed" (01, Firing).
--   AlikeRuns n s t          two states that differ in slots past n only
--   KeptPast n s t           t has s's slots past n
--   Whole s                  a state of 17 counts and 16 queues, as every state of the product is
--   fired_whole, whole_kept, fresh_whole
--                            a firing keeps the number of slots, and so does its answer; a fresh start has it
use Rattle.std.specs.Prelude.{◌≡◌, refl, Bool, true, false, cond, ◌||◌, ◌&&◌, ℕ, suc, ◌+◌, ◌≤◌, ◌<◌, eqb, length}
use Rattle.std.proofs.Common.{◌∙◌, arith}
use Rattle.std.proofs.Math.Logic.{by_cases}
use Rattle.std.proofs.Math.Decide.{ℕ_discrete}
use Rattle.chain.specs.Record.{row_of}
use Rattle.chain.specs.declared.Chain.{Chain}
use Rattle.sizing.specs.Checks.{analyse_refusal}
use Rattle.state.specs.State.{count_at, held_at, done_at, empty_run, fresh_run, fresh_empty, answered}
use Rattle.state.specs.Fired.{fired, over_enough}
use Rattle.state.proofs.FiredLaws.{counts_length, holds_length}
use Rattle.state.specs.Fire.{fresh_answer, fire_refusal, fire_answer, Firing}
use Rattle.state.proofs.FireLaws.{firing_is, fire_accepted, fire_refused}
use Rattle.state.specs.declared.Run.{Run}

-- two states that agree on all but the slots past n
pub record AlikeRuns (n : ℕ) (s t : Run) : Type 0 where
  pub clock : s.clock ≡ t.clock
  pub counts : (i : ℕ) → i ≤ n → count_at s i ≡ count_at t i
  pub held : (i : ℕ) → i < n → held_at s i ≡ held_at t i
  pub done : (i : ℕ) → i < n → done_at s i ≡ done_at t i

-- a state that has another's slots past n
pub record KeptPast (n : ℕ) (s t : Run) : Type 0 where
  pub counts : (i : ℕ) → n < i → count_at t i ≡ count_at s i
  pub held : (i : ℕ) → n ≤ i → held_at t i ≡ held_at s i
  pub done : t.done ≡ s.done

-- a state with all its slots
pub record Whole (s : Run) : Type 0 where
  pub counts : length s.counts ≡ 17
  pub held : length s.held ≡ 16
  pub done : length s.done ≡ 16

-- the second of two tests counts only where the first holds
pub and_alike : (b : Bool) (x y : Bool) → (b ≡ true → x ≡ y) → (b && x) ≡ (b && y)
and_alike true x y h = h refl
and_alike false x y h = refl

-- and of two tests of which one is enough, only where the first fails
pub or_alike : (b : Bool) (x y : Bool) → (b ≡ false → x ≡ y) → (b || x) ≡ (b || y)
or_alike true x y h = refl
or_alike false x y h = h refl

-- its node has a count
pub count_slot : {c : Chain} {s : Run} {i : ℕ} → Whole s → Firing c s i → i < length s.counts
count_slot w f = omega (arith, w.counts, f.chain.chain.count.1, f.may.node)

-- each queue of its chain has a slot
pub held_slot : {c : Chain} {s : Run} {i : ℕ} → Whole s → Firing c s i → (j : ℕ) → j < c.n → j < length s.held
held_slot w f j l = omega (arith, w.held, f.chain.chain.count.1)

-- and its input queue holds what it takes
pub enough : {c : Chain} {s : Run} {j : ℕ} → Firing c s (suc j) → (row_of c j).consume ≤ held_at s j
enough {s = s} {j} f = over_enough f.chain.chain s j f.may.node f.may.over

-- contents that lack the same of the same are the same
pub less_alike : (x y k m a b : ℕ) → x + k ≡ a → y + m ≡ b → k ≡ m → a ≡ b → x ≡ y
less_alike x y k m a b e f g h = omega arith

-- what holds of the state as it was, and of the state after a firing that is not refused, holds of the state given back
pub given_back : (P : Run → Type 0) (c : Chain) (s : Run) (i : ℕ) → P s → (Firing c s i → P (fired c s i)) → P (fire_answer c s i).run
given_back P c s i before after = by_cases (ℕ_discrete (fire_refusal c s i).number 0)
    (λ z. rw (fire_accepted c s i z) (after ((firing_is _ _ _).0 z)))
    (λ n. rw (fire_refused c s i n) before)

-- a firing keeps the number of slots
pub fired_whole : (c : Chain) (s : Run) (i : ℕ) → Whole s → Whole (fired c s i)
unfolding fired
fired_whole c s i w = record { counts = counts_length c s i ∙ w.counts; held = holds_length c s i ∙ w.held; done = w.done }

pub whole_kept : (c : Chain) (s : Run) (i : ℕ) → Whole s → Whole (fire_answer c s i).run
whole_kept c s i w = given_back Whole c s i w (λ f. fired_whole c s i w)

-- and a fresh start has it
pub fresh_whole : (c : Chain) → Whole (fresh_answer c).run
unfolding fresh_answer answered
fresh_whole c = by (eqb (analyse_refusal c).number 0)
  where
    empty : Whole empty_run
    empty = record { counts = refl; held = refl; done = refl }

    by : (b : Bool) → Whole (cond b (fresh_run c) empty_run)
    by true = rw (← fresh_empty c) empty
    by false = empty
