-- One recording tick as a relation (02, Item 2): what it ends with and what it leaves, and that it is the only one that fits.
--   SourceFull c s l           the source's production does not fit, and the list is full
--   Begun c s l u m            it is not so, and u and m are s and l after the source's step
--   HasBegun c s l, has_begun  some u and m are, where it is not so
--   RecLacked c s l u x        13 of u ends the tick with x
--   FinishFull c u m j         N_(j+1)'s firing is finished in the tick from u and m, its production does not fit, and the list is full
--   StoppedAtFinish c u m x, RecCleaned c u m x
--                              that ends the tick with x; or x is clean
--   GoesOn c s l u m x         the three ways in which a tick goes on from u and m
--   AfterSource, StoppedAtSource c s l x
--                              it goes on so after the source's step; or the full list ends it there
--   RecOneTick c s l x         one of the ways in which a tick of s and l ends with x
--   rec_one_only               there is at most one such x
--   FullTick c s l t q, LacksTick c s l i
--                              the conditions of 15 at a finish, and of 13
--   RecTickOnce c s l x, rec_one_leaves
--                              the source's step, and then a clean tick of work, leave x; which is what a clean tick does
--   FinishLeaves c s l q v m   what 15 at a finish leaves
--   RecThen c s l R            R holds of the state and the list that a clean tick of s and l leaves
--   RecStopped c s l x         a tick of s and l ends with x, which is not clean
--   RecTicksTo c T s l x       T ticks of s and l, as far as they are clean, end with x
--   rec_ticks_to_only, rec_ticks_exactly
--                              there is at most one such x, and so many ticks end with it
-- What is named here and not declared stands in proofs/ExactlyLaws.antt.
use Rattle.std.specs.Prelude.{◌≡◌, ◌⊎◌}
use Rattle.std.proofs.Math.Path.{subst}
use Rattle.std.proofs.Common.{sym, ap, ◌∙◌, ⊎_elim, arith}
use Prim.Native.Nat.{ℕ, zero, suc, ◌+◌, ◌≤◌, ◌<◌}
use Rattle.chain.specs.Record.{work_of}
use Rattle.chain.specs.declared.Chain.{Chain}
use Rattle.state.specs.State.{done_at}
use Rattle.state.specs.Checks.{Cramped}
use Rattle.state.specs.declared.Run.{Run}
use Rattle.instants.specs.Source.{Due}
use Rattle.instants.specs.Lacking.{FirstLacking}
use Rattle.instants.specs.Outcomes.{Dated}
use Rattle.instants.proofs.OutcomesLaws.{lacking_once, lacking_dated}
use Rattle.instants.specs.Once.{Works}
use Rattle.instants.proofs.OnceLaws.{works_is}
use Rattle.losses.specs.declared.Losses.{Losses}
use Rattle.recordings.specs.Steps.{rec_clean, rec_undated, rec_full}
use Rattle.recordings.specs.Once.{SourceNoted, source_noted_only, WorkNoted, work_noted_only, WorkFull, work_full_only}
use Rattle.recordings.specs.declared.RecordOutcome.TheVariants.{Clean}
use Rattle.recordings.specs.declared.Recorded.{Recorded}

-- "a 257th loss stops the run before it happens", at the source's step
pub record SourceFull (c : Chain) (s : Run) (l : Losses) : Type 0 where
  pub due : Due c s
  pub spills : Cramped c s 0
  pub holds : 256 ≤ l.count

-- the source's step does not find the list full, and leaves u and m
pub record Begun (c : Chain) (s : Run) (l : Losses) (u : Run) (m : Losses) : Type 0 where
  pub room : Due c s → Cramped c s 0 → l.count < 256
  pub source : SourceNoted c s l u m

-- some state and some list are that
pub record HasBegun (c : Chain) (s : Run) (l : Losses) : Type 0 where
  pub after : Run
  pub listed : Losses
  pub begun : Begun c s l after listed

-- "13 at an instant takes back the entry of that instant's source step", and that step: s and l are what was before it
pub record RecLacked (c : Chain) (s : Run) (l : Losses) (u : Run) (x : Recorded) : Type 0 where
  pub node : ℕ
  pub first : FirstLacking c u node
  pub is : x ≡ rec_undated s l s.clock node

-- the firing of N_(j+1) is finished in the tick from u and m, does not fit, and the list is full
pub record FinishFull (c : Chain) (u : Run) (m : Losses) (j : ℕ) : Type 0 where
  pub dated : Dated c u
  pub works : Works c u (suc j)
  pub all : done_at u j + 1 ≡ work_of c j
  pub spills : Cramped c u (suc j)
  pub holds : 256 ≤ m.count

-- "15 leaves the state as an overflow would"
pub record StoppedAtFinish (c : Chain) (u : Run) (m : Losses) (x : Recorded) : Type 0 where
  pub before : ℕ
  pub full : FinishFull c u m before
  pub left : Run
  pub work : WorkFull c u before left
  pub is : x ≡ rec_full left m (u.clock + 1) (suc before)

-- "it ends clean": each node over threshold has its deadline, one works, and what it finishes fits or is noted
pub record RecCleaned (c : Chain) (u : Run) (m : Losses) (x : Recorded) : Type 0 where
  pub dated : Dated c u
  pub worker : ℕ
  pub works : Works c u worker
  pub room : (j : ℕ) → worker ≡ suc j → done_at u j + 1 ≡ work_of c j → Cramped c u (suc j) → m.count < 256
  pub work : WorkNoted c u m worker x.run x.losses
  pub is : x.outcome ≡ Clean

-- the three ways in which a tick goes on
abbrev pub GoesOn : Chain → Run → Losses → Run → Losses → Recorded → Type 0
GoesOn c s l u m x = RecLacked c s l u x ⊎ (StoppedAtFinish c u m x ⊎ RecCleaned c u m x)

-- the source's step was made, and the tick went on
pub record AfterSource (c : Chain) (s : Run) (l : Losses) (x : Recorded) : Type 0 where
  pub after : Run
  pub listed : Losses
  pub begun : Begun c s l after listed
  pub rest : GoesOn c s l after listed x

-- 15 at the source: the state and the list as before the tick
pub record StoppedAtSource (c : Chain) (s : Run) (l : Losses) (x : Recorded) : Type 0 where
  pub full : SourceFull c s l
  pub is : x ≡ rec_full s l s.clock 0

-- one of the four
abbrev pub RecOneTick : Chain → Run → Losses → Recorded → Type 0
RecOneTick c s l x = StoppedAtSource c s l x ⊎ AfterSource c s l x

-- they exclude each other, and each determines what it leaves
pub worker_only : {c : Chain} {u : Run} {i j : ℕ} → Works c u i → Works c u j → i ≡ j
worker_only {c} {u} {i} {j} a b = sym ((works_is c u i).1 a) ∙ (works_is c u j).1 b

module _ {c : Chain} {u : Run} {m : Losses} where
  pub finish_clean : {j : ℕ} {x : Recorded} → FinishFull c u m j → RecCleaned c u m x → ⊥
  finish_clean {j} a b = omega (arith, a.holds, b.room j (worker_only b.works a.works) a.all a.spills)

  full_only : {x y : Recorded} → StoppedAtFinish c u m x → StoppedAtFinish c u m y → x ≡ y
  full_only a b =
      let same : a.before ≡ b.before = let e = worker_only a.full.works b.full.works in omega arith in
      let left : a.left ≡ b.left = work_full_only (subst (λ (j : ℕ). WorkFull c u j a.left) same a.work) b.work in
      a.is ∙ (λ i. rec_full (left i) m (u.clock + 1) (suc (same i))) ∙ sym b.is

  clean_only : {x y : Recorded} → RecCleaned c u m x → RecCleaned c u m y → x ≡ y
  clean_only {x} {y} a b =
      let same = work_noted_only (subst (λ (w : ℕ). WorkNoted c u m w x.run x.losses) (worker_only a.works b.works) a.work) b.work in
      λ i. record { outcome = (a.is ∙ sym b.is) i; run = same.0 i; losses = same.1 i }

lacked_dated : {c : Chain} {s : Run} {l : Losses} {u : Run} {x : Recorded} → RecLacked c s l u x → Dated c u → ⊥
lacked_dated {c} {u = u} a d = lacking_dated c u a.node a.first d

goes_only : {c : Chain} {s : Run} {l : Losses} {u : Run} {m : Losses} {x y : Recorded} → GoesOn c s l u m x → GoesOn c s l u m y → x ≡ y
goes_only {c} {s} {l} {u} = ⊎_elim
    (λ a. ⊎_elim (λ b. a.is ∙ ap (rec_undated s l s.clock) (lacking_once c u a.node b.node a.first b.first) ∙ sym b.is)
    (⊎_elim (λ b. absurd (lacked_dated a b.full.dated)) (λ b. absurd (lacked_dated a b.dated))))
    (⊎_elim
    (λ a. ⊎_elim (λ b. absurd (lacked_dated b a.full.dated)) (⊎_elim (λ b. full_only a b) (λ b. absurd (finish_clean a.full b))))
    (λ a. ⊎_elim (λ b. absurd (lacked_dated b a.dated)) (⊎_elim (λ b. absurd (finish_clean b.full a)) (λ b. clean_only a b))))

module _ {c : Chain} {s : Run} {l : Losses} where
  pub source_after : {u : Run} {m : Losses} → SourceFull c s l → Begun c s l u m → ⊥
  source_after a b = omega (arith, a.holds, b.room a.due a.spills)

  after_only : {x y : Recorded} → AfterSource c s l x → AfterSource c s l y → x ≡ y
  after_only {x} a b =
      let e = source_noted_only a.begun.source b.begun.source in
      goes_only (subst (λ (m : Losses). GoesOn c s l b.after m x) e.1 (subst (λ (u : Run). GoesOn c s l u a.listed x) e.0 a.rest)) b.rest

pub rec_one_only : {c : Chain} {s : Run} {l : Losses} (x y : Recorded) → RecOneTick c s l x → RecOneTick c s l y → x ≡ y
rec_one_only x y = ⊎_elim
    (λ a. ⊎_elim (λ b. a.is ∙ sym b.is) (λ b. absurd (source_after a.full b.begun)))
    (λ a. ⊎_elim (λ b. absurd (source_after b.full a.begun)) (λ b. after_only a b))

-- 15 of a firing that is finished, after a source's step that did not find the list full; "an entry's tick is .. the finish instant for a node", and so is 15's
pub record FullTick (c : Chain) (s : Run) (l : Losses) (t q : ℕ) : Type 0 where
  pub after : Run
  pub listed : Losses
  pub before : ℕ
  pub begun : Begun c s l after listed
  pub full : FinishFull c after listed before
  pub tick : t ≡ s.clock + 1
  pub queue : q ≡ suc before

-- 13, after a source's step that did not find the list full
pub record LacksTick (c : Chain) (s : Run) (l : Losses) (i : ℕ) : Type 0 where
  pub after : Run
  pub listed : Losses
  pub begun : Begun c s l after listed
  pub first : FirstLacking c after i

-- "it ends clean": the source's step, and then one tick of work
pub record RecTickOnce (c : Chain) (s : Run) (l : Losses) (x : Recorded) : Type 0 where
  pub after : Run
  pub listed : Losses
  pub begun : Begun c s l after listed
  pub cleaned : RecCleaned c after listed x

-- 15 at a finish: "the source's step stands, the clock is t+1, work done e, count not raised, input not taken", and the list is that after the source's step
pub record FinishLeaves (c : Chain) (s : Run) (l : Losses) (q : ℕ) (v : Run) (m : Losses) : Type 0 where
  pub after : Run
  pub before : ℕ
  pub begun : Begun c s l after m
  pub work : WorkFull c after before v
  pub queue : q ≡ suc before

-- R holds of the state and the list that a clean tick of s and l leaves
pub record RecThen (c : Chain) (s : Run) (l : Losses) (R : Run → Losses → Type 0) : Type 0 where
  pub next : Run
  pub list : Losses
  pub tick : RecOneTick c s l (rec_clean next list)
  pub holds : R next list

-- an outcome that ends a run
pub record RecStopped (c : Chain) (s : Run) (l : Losses) (x : Recorded) : Type 0 where
  pub tick : RecOneTick c s l x
  pub ends : x.outcome ≡ Clean → ⊥

-- "a run of T ticks": an outcome that is not clean ends it, and a clean tick is followed by the others
unfoldable pub RecTicksTo : Chain → ℕ → Run → Losses → Recorded → Type 0
RecTicksTo c zero s l x = x ≡ rec_clean s l
RecTicksTo c (suc T) s l x = RecStopped c s l x ⊎ RecThen c s l (λ t m. RecTicksTo c T t m x)

pub rec_ticks_to_only : (c : Chain) (T : ℕ) (s : Run) (l : Losses) (x y : Recorded) → RecTicksTo c T s l x → RecTicksTo c T s l y → x ≡ y
unfolding RecTicksTo
rec_ticks_to_only c zero s l x y = λ a b. a ∙ sym b
rec_ticks_to_only c (suc T) s l x y = ⊎_elim
    (λ a. ⊎_elim (λ b. rec_one_only x y a.tick b.tick) (λ b. absurd (a.ends (ap (λ (z : Recorded). z.outcome) (rec_one_only x _ a.tick b.tick)))))
    (λ a. ⊎_elim (λ b. absurd (b.ends (ap (λ (z : Recorded). z.outcome) (rec_one_only y _ b.tick a.tick))))
    (λ b.
    let e = rec_one_only _ _ b.tick a.tick in
    rec_ticks_to_only c T a.next a.list x y a.holds (subst (λ (z : Recorded). RecTicksTo c T z.run z.losses y) e b.holds)))
