-- What the code of the recording ticks asks and gives, from one outcome of the deadline run to the next.
--   l, f, e, r               a plan, a flow, the work done, and how ticks ended; g, h and a the last three afterwards
--   Halted l f e U r c y     they show y, what steps of the deadline run of the chain c have left before clock U
--   overflow_in r, undated_in r
--                            the tick and the queue of an overflow that ticks ended with, and whether they ended with 13
--   overflow_is, overflow_not, undated_at, undated_not
--                            the same of r itself
--   Halts, Overflows         there is such a y; and it overflows
--   LostTo l g h U r a c y   g, h and a show what is left of y once its loss is taken: 13 has taken it back, or it is noted
--   LostGives                so of every such y
--   OnwardTo, OnwardGives    they show what ticks up to clock U leave after a clean y, and any other y as it was; and so of every y
use Rattle.std.specs.Prelude.{◌≡◌, Bool, true, false, List, ℕ, ◌≤◌, ◌<◌, Option, is_some, Result, IfOk, IfErr}
use Rattle.std.proofs.Common.{Some, None, Ok, Err, refl, sym, ap, ◌∙◌, true≢false}
use Rattle.chain.specs.Record.{row_of}
use Rattle.chain.specs.declared.Chain.{Chain}
use Rattle.sizing.specs.Plan.{Plans}
use Rattle.sizing.specs.Accepted.{Accepted}
use Rattle.instants.specs.Checks.{longest}
use Rattle.instants.specs.declared.Ticked.{Ticked}
use Rattle.losses.specs.Losses.{noted}
use Rattle.losses.specs.declared.Losses.{Losses}
use Rattle.recordings.specs.Left.{Left}
use Rattle.recordings.specs.Resumed.{rec_from}
use Rattle.steps.specs.Lent.{place_of}
use Rattle.steps.specs.declared.Halt.{Halt}
use Rattle.steps.specs.declared.Halt.TheVariants as halt
use Rattle.ticks.specs.Runs.{RanTo}

-- the tick and the queue of the production that does not fit, where ticks ended with one
abbrev pub overflow_in : Result ℕ Halt → Option (ℕ × ℕ)
overflow_in (Ok t) = None
overflow_in (Err (halt.Overflowed t q)) = Some (t, q)
overflow_in (Err (halt.NoDeadline t i)) = None

-- the overflow at a tick and queue that there may be
abbrev overflows : ℕ × ℕ → Option (ℕ × ℕ) → Result ℕ Halt
overflows d None = Err (halt.Overflowed d.0 d.1)
overflows d (Some p) = Err (halt.Overflowed p.0 p.1)

pub overflow_is : (r : Result ℕ Halt) {t q : ℕ} → overflow_in r ≡ Some (t, q) → r ≡ Err (halt.Overflowed t q)
overflow_is (Ok k) e = absurd (true≢false (sym (ap is_some e)))
overflow_is (Err (halt.Overflowed u p)) {t} {q} e = ap (overflows (t, q)) e
overflow_is (Err (halt.NoDeadline u i)) e = absurd (true≢false (sym (ap is_some e)))

pub overflow_not : (r : Result ℕ Halt) → is_some (overflow_in r) ≡ false → (t q : ℕ) → r ≡ Err (halt.Overflowed t q) → ⊥
overflow_not r n t q e = true≢false (sym (ap (λ (x : Result ℕ Halt). is_some (overflow_in x)) e) ∙ n)

-- whether ticks ended with 13
abbrev pub undated_in : Result ℕ Halt → Bool
undated_in (Ok t) = false
undated_in (Err (halt.Overflowed t q)) = false
undated_in (Err (halt.NoDeadline t i)) = true

pub undated_at : (r : Result ℕ Halt) → undated_in r ≡ true → (t : ℕ) × ((i : ℕ) × (r ≡ Err (halt.NoDeadline t i)))
undated_at (Ok t) e = absurd (true≢false (sym e))
undated_at (Err (halt.Overflowed t q)) e = absurd (true≢false (sym e))
undated_at (Err (halt.NoDeadline t i)) e = (t, (i, refl))

pub undated_not : (r : Result ℕ Halt) → undated_in r ≡ false → (t i : ℕ) → r ≡ Err (halt.NoDeadline t i) → ⊥
undated_not r n t i e = true≢false (sym (ap undated_in e) ∙ n)

-- the plan, the flow, the work done and r show what steps of the deadline run have left before clock U
pub record Halted (l f e : List ℕ) (U : ℕ) (r : Result ℕ Halt) (c : Chain) (y : Ticked) : Type 0 where
  pub chain : Accepted c
  pub plans : Plans l c
  pub ran : RanTo c y f e r
  pub left : Left c U y
  pub end : U ≤ longest
  pub low : IfErr r (λ x. place_of x ≤ 16)

-- there is such a y
pub record Halts (l f e : List ℕ) (U : ℕ) (r : Result ℕ Halt) : Type 0 where
  pub chain : Chain
  pub what : Ticked
  pub halted : Halted l f e U r chain what

-- and it overflows at tick t and queue q
pub record Overflows (l f e : List ℕ) (t q : ℕ) : Type 0 where
  pub until : ℕ
  pub halts : Halts l f e until (Err (halt.Overflowed t q))

-- what is left of y once its loss at t and queue q is taken: where 13 has taken it back, a recording run goes on from there with the list as it was; else with its
-- entry
pub record LostTo (l g h : List ℕ) (U t q : ℕ) (a : Result ℕ Halt) (c : Chain) (y : Ticked) : Type 0 where
  pub next : Ticked
  pub halted : Halted l g h U a c next
  pub queue : q < c.n
  pub back : (u i : ℕ) → a ≡ Err (halt.NoDeadline u i) → (m : Losses) → m.count < 256 → rec_from c U m y ≡ rec_from c U m next
  pub goes : ((u i : ℕ) → a ≡ Err (halt.NoDeadline u i) → ⊥) → (m : Losses) → m.count < 256 → rec_from c U m y ≡ rec_from c U (noted m t q (row_of c q).produce) next

-- so of every such y
pub record LostGives (l f e : List ℕ) (t q : ℕ) (g h : List ℕ) (a : Result ℕ Halt) : Type 0 where
  pub gives : {U : ℕ} {c : Chain} {y : Ticked} → Halted l f e U (Err (halt.Overflowed t q)) c y → LostTo l g h U t q a c y

-- the ticks up to clock U that follow y
pub record OnwardTo (l g h : List ℕ) (U : ℕ) (a : Result ℕ Halt) (c : Chain) (y : Ticked) : Type 0 where
  pub next : Ticked
  pub halted : Halted l g h U a c next
  pub goes : (m : Losses) → rec_from c U m y ≡ rec_from c U m next

-- so of every y, and where that is clean clock U is reached
pub record OnwardGives (l f e : List ℕ) (U : ℕ) (r : Result ℕ Halt) (g h : List ℕ) (a : Result ℕ Halt) : Type 0 where
  pub ends : IfOk a (λ t. U ≤ t)
  pub gives : {c : Chain} {y : Ticked} → Halted l f e U r c y → OnwardTo l g h U a c y
