-- What the demands are said in: what the analysis reports, and manual firings from a fresh start, as their calls answer them (01, Firing).
--   c, j, i, k               a chain, a queue (N_j feeds it and N_(j+1) empties it), a node, a number of source firings
--   p_of c j, τ_of c j, c_of c j
--                            p, τ and c of queue j
--   Accepts c                the analysis does not refuse c: 01's accepted chain; accepts_is: which is Accepted
--   line c j                 what analyse answers of queue j: minimum is b, by the naming count, x and y its consumer's rate
--   rate_x c i, rate_y c i   N_i's rate as it is reported; the source's is 1 in a period
--   h                        a list of nodes to fire, in order
--   replay_from c r h        the answer after h, from the answer r on: the first refusal ends it, with the state as it then was
--   replay_answer c h        fresh, then fire for each node of h in turn
--   Fires c h                a permitted order: fresh and each fire accepts
--   Always c h P, Sometime c h P
--                            P holds of the state at every moment of h, at some moment of h; a moment is the end of what h begins with
--   AllSlots s               17 counts, 16 queues and 16 nodes' work, as every state has
--   Passes c s j             none of 17's reasons holds at queue j
--   Spent c s i              9's reason holds of N_i
--   Ample c i                queue i's capacity, if written, is not below its reported minimum
--   Low c s, LowAt c s i     in the state s no queue's consumer is over threshold, so that only the source may fire; queue i's is not
--   AtOnce c h               no node fires while the node that it feeds is over threshold
--   NearestOver c s i, NearestFirst c h
--                            N_i is the node nearest the sink that may fire in s, or the source where no other may; each firing of h is of that node
--   Runs c k                 the immediate run of k source firings is not refused
--   stopped, goes_on         after a refusal nothing is fired, and without one the next node is
--   Went c r h               what firings that end with no refusal were
--   fires_is                 h is such an order exactly when the chain is accepted and manual firing permits h
--   fires_state              and then the state is the one after h
--   fires_before             what it begins with is one, too
use Rattle.std.specs.Prelude.{◌≡◌, cond, ◌↔◌, ◌⊎◌, ℕ, zero, suc, ◌+◌, ◌*◌, ◌≤◌, ◌<◌, eqb, length, get_or}
use Rattle.std.proofs.Math.Path.{refl, ap, subst}
use Rattle.std.proofs.Common.{sym, ◌∙◌, eq-eqb, ne_eqb}
use Rattle.std.proofs.Math.Logic.{by_cases}
use mathlib.Core.List.{List, [], ◌∷◌, ◌++◌}
use Rattle.std.proofs.Math.Decide.{ℕ_discrete}
use Rattle.ardenquill.specs.Chains.{row_of, work_of}
use Rattle.ardenquill.specs.Analyses.{start, no_size, analyse_answer, Accepted, analyse_accepts}
use Rattle.ardenquill.specs.Runs.{count_at, held_at, done_at, fresh_run, answered, fresh_answer, fresh_state, fired, fire_answer, fire_accepted}
use Rattle.ardenquill.specs.Histories.{AtSome, after, Permitted, EachFiring, each_before}
use Rattle.ardenquill.specs.Immediate.{immediate_answer}
use Rattle.ardenquill.specs.Records.{Chain, QueueSize, Run, RunAnswer}

-- "a chain it doesn't refuse is accepted"
abbrev pub Accepts : Chain → Type 0
Accepts c = (analyse_answer c).number ≡ 0

-- p, τ and c of queue j
abbrev pub p_of : Chain → ℕ → ℕ
p_of c j = (row_of c j).produce

abbrev pub τ_of : Chain → ℕ → ℕ
τ_of c j = (row_of c j).threshold

abbrev pub c_of : Chain → ℕ → ℕ
c_of c j = (row_of c j).consume

-- queue j's line in analyse's own answer
abbrev pub line : Chain → ℕ → QueueSize
line c j = get_or (analyse_answer c).analysis.queues j no_size

-- "N_0 has x=1 and y the period", and N_(j+1) what the line of the queue before it says
abbrev pub rate_x : Chain → ℕ → ℕ
rate_x c zero = 1
rate_x c (suc j) = (line c j).x

abbrev pub rate_y : Chain → ℕ → ℕ
rate_y c zero = c.period
rate_y c (suc j) = (line c j).y

-- fire for each node of h in turn, as long as none is refused
unfoldable pub replay_from : Chain → RunAnswer → List ℕ → RunAnswer
unfolding fire_answer
replay_from c r [] = r
replay_from c r (i ∷ h) = cond (eqb r.number 0) (replay_from c (fire_answer c r.run i) h) r

-- "counted from a fresh start"
unfoldable pub replay_answer : Chain → List ℕ → RunAnswer
unfolding replay_from fresh_answer
replay_answer c h = replay_from c (fresh_answer c) h

-- "a permitted order is one in which every firing was accepted"
abbrev pub Fires : Chain → List ℕ → Type 0
Fires c h = (replay_answer c h).number ≡ 0

-- P holds of the state at every moment of h
abbrev pub Always : Chain → List ℕ → (Run → Type 0) → Type 0
Always c h P = (before later : List ℕ) → h ≡ before ++ later → P (replay_answer c before).run

-- P holds of the state at some moment of h
abbrev pub Sometime : Chain → List ℕ → (Run → Type 0) → Type 0
Sometime c h P = AtSome h (λ g. P (replay_answer c g).run)

-- "no capacity is below the reported minimum", of queue i
abbrev pub Ample : Chain → ℕ → Type 0
Ample c i = ((row_of c i).capacity ≡ 0) ⊎ ((line c i).minimum ≤ (row_of c i).capacity)

-- as the type of a state says
pub record AllSlots (s : Run) : Type 0 where
  pub counts : length s.counts ≡ 17
  pub held : length s.held ≡ 16
  pub done : length s.done ≡ 16

-- 17: "breaks the balance (p × producer's count − c × consumer's count is not what is held), passes a capacity, or has work done of e or more", none of it at queue j
pub record Passes (c : Chain) (s : Run) (j : ℕ) : Type 0 where
  pub balance : start (row_of c j) + p_of c j * count_at s j ≡ held_at s j + c_of c j * count_at s (suc j)
  pub capacity : held_at s j ≤ (line c j).capacity
  pub work : done_at s j < work_of c j

-- 9's "once its count is 4,294,967,295", of a node N_i
abbrev pub Spent : Chain → Run → ℕ → Type 0
Spent c s i = (i ≤ c.n) × (count_at s i ≡ 4294967295)

-- the node that N_i feeds, if any, is below threshold
abbrev pub LowAt : Chain → Run → ℕ → Type 0
LowAt c s i = i < c.n → held_at s i < τ_of c i

-- no node but the source is over threshold
abbrev pub Low : Chain → Run → Type 0
Low c s = (j : ℕ) → LowAt c s j

-- when N_i fires, the node that it feeds, if any, is below threshold
abbrev pub AtOnce : Chain → List ℕ → Type 0
AtOnce c h = (before later : List ℕ) (i : ℕ) → h ≡ before ++ (i ∷ later) → LowAt c (replay_answer c before).run i

-- "no source firing happens while another node may fire, and among those that may, the one nearest the sink goes first"
pub record NearestOver (c : Chain) (s : Run) (i : ℕ) : Type 0 where
  pub node : i ≤ c.n
  pub over : (j : ℕ) → i ≡ suc j → τ_of c j ≤ held_at s j
  pub nearest : (j : ℕ) → i ≤ j → LowAt c s j

-- of each firing
abbrev pub NearestFirst : Chain → List ℕ → Type 0
NearestFirst c h = (before later : List ℕ) (i : ℕ) → h ≡ before ++ (i ∷ later) → NearestOver c (replay_answer c before).run i

-- the immediate run of k source firings is not refused
abbrev pub Runs : Chain → ℕ → Type 0
Runs c k = (immediate_answer c k).number ≡ 0

-- accepted is every check of the analysis being silent
pub accepts_is : (c : Chain) → Accepts c ↔ Accepted c
unfolding analyse_answer
accepts_is c = analyse_accepts c

module _ (c : Chain) where
  -- a refusal stands
  pub stopped : (r : RunAnswer) (h : List ℕ) → (r.number ≡ 0 → ⊥) → replay_from c r h ≡ r
  unfolding replay_from
  stopped r [] n = refl
  stopped r (i ∷ h) n = simp (ne_eqb _ _ n)

  -- one firing more
  pub goes_on : (r : RunAnswer) (i : ℕ) (h : List ℕ) → r.number ≡ 0 → replay_from c r (i ∷ h) ≡ replay_from c (fire_answer c r.run i) h
  unfolding replay_from
  goes_on r i h z = simp (eq-eqb _ _ z)

  -- what firings that end with no refusal were
  pub record Went (r : RunAnswer) (h : List ℕ) : Type 0 where
    pub began : r.number ≡ 0
    pub permitted : Permitted c r.run h
    pub state : (replay_from c r h).run ≡ after c r.run h

  -- firings of which none is refused went so
  went : (r : RunAnswer) (h : List ℕ) → (replay_from c r h).number ≡ 0 → Went r h
  unfolding replay_from EachFiring after fire_answer answered
  went r [] z = record { began = z; permitted = tt; state = refl }
  went r (i ∷ h) z = by_cases (ℕ_discrete r.number 0)
      (λ y.
      let w : Went (fire_answer c r.run i) h = went (fire_answer c r.run i) h (ap (λ (a : RunAnswer). a.number) (sym (goes_on r i h y)) ∙ z) in
      let same : (fire_answer c r.run i).run ≡ fired c r.run i = fire_accepted c r.run i w.began in
      record {
        began = y;
        permitted = (w.began, subst (λ (s : Run). Permitted c s h) same w.permitted);
        state = ap (λ (a : RunAnswer). a.run) (goes_on r i h y) ∙ w.state ∙ ap (λ (s : Run). after c s h) same;
      })
      (λ n. absurd (n (ap (λ (a : RunAnswer). a.number) (sym (stopped r (i ∷ h) n)) ∙ z)))

  -- and firings that manual firing permits are not refused
  goes : (r : RunAnswer) (h : List ℕ) → r.number ≡ 0 → Permitted c r.run h → (replay_from c r h).number ≡ 0
  unfolding replay_from EachFiring fire_answer answered
  goes r [] z ok = z
  goes r (i ∷ h) z ok =
      ap (λ (a : RunAnswer). a.number) (goes_on r i h z)
      ∙ goes (fire_answer c r.run i) h ok.0 (subst (λ (s : Run). Permitted c s h) (sym (fire_accepted c r.run i ok.0)) ok.1)

  -- a permitted order, by the chain and by each firing
  pub fires_is : (h : List ℕ) → Fires c h ↔ (Accepted c × Permitted c (fresh_run c) h)
  unfolding replay_answer fresh_answer answered
  fires_is h = (
    λ z. let w : Went (fresh_answer c) h = went (fresh_answer c) h z in ((analyse_accepts c).0 w.began, subst (λ (s : Run). Permitted c s h) (fresh_state c w.began) w.permitted),
    λ a. let z = (analyse_accepts c).1 a.0 in goes (fresh_answer c) h z (subst (λ (s : Run). Permitted c s h) (sym (fresh_state c z)) a.1),
  )

  -- its state is the one that its firings lead to
  pub fires_state : (h : List ℕ) → Fires c h → (replay_answer c h).run ≡ after c (fresh_run c) h
  unfolding replay_answer fresh_answer answered
  fires_state h z = let w : Went (fresh_answer c) h = went (fresh_answer c) h z in w.state ∙ ap (λ (s : Run). after c s h) (fresh_state c w.began)

  -- what a permitted order begins with is one
  pub fires_before : (g h : List ℕ) → Fires c (g ++ h) → Fires c g
  fires_before g h z = let a = (fires_is (g ++ h)).0 z in (fires_is g).1 (a.0, each_before c _ (fresh_run c) g h a.1)
