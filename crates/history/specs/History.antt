-- A history: the nodes that fired, in order, with the instants of their firings or without (01, Firing, and demand 3).
--   Entry, nodes h           an instant and a node, and the nodes of a list of them, in order
--   times i h                how often N_i stands in h
--   after c s h              the state that the firings h lead to from s
--   EachFiring c P s h       P holds of each firing of h and of the state that it is made in
--   Permitted c s h          a permitted order: manual firing accepts each of its firings in turn
--   Prompt c s h             no node fires while the node that it feeds is over threshold
--   AtSome h P               P holds of what h begins with up to some moment
--   at_some                  and so does what follows from it
--   HasHeld c h j b, HeldExactly c h j b
--                            from a fresh start, queue j has held at least b, and exactly b, at some moment of h
--   after_append, each_append
--                            histories one after the other
--   each_before              what a history begins with
use Rattle.std.specs.Prelude.{◌≡◌, cond, ℕ, suc, ◌≤◌, ◌<◌, eqb}
use Rattle.std.proofs.Math.Path.{refl}
use mathlib.Core.List.{List, [], ◌∷◌, ◌++◌, map}
use Rattle.chain.specs.Refusals.{Silent}
use Rattle.chain.specs.Record.{row_of}
use Rattle.chain.specs.declared.Chain.{Chain}
use Rattle.state.specs.State.{held_at, fresh_run}
use Rattle.state.specs.Fired.{fired}
use Rattle.state.specs.Fire.{fire_refusal}
use Rattle.state.specs.declared.Run.{Run}

-- an instant, and the node whose firing takes effect then
abbrev pub Entry : Type 0
Entry = ℕ × ℕ

-- the nodes of such a list, in order
abbrev pub nodes : List Entry → List ℕ
nodes h = map (λ (e : Entry). e.1) h

-- how often N_i fires in h
unfoldable pub times : ℕ → List ℕ → ℕ
times i [] = 0
times i (j ∷ h) = cond (eqb j i) (suc (times i h)) (times i h)

-- the state after the firings h, from s on
unfoldable pub after : Chain → Run → List ℕ → Run
after c s [] = s
after c s (i ∷ h) = after c (fired c s i) h

-- P holds of each firing of h and of the state that it is made in, from s on
unfoldable pub EachFiring : Chain → (Run → ℕ → Type 0) → Run → List ℕ → Type 0
EachFiring c P s [] = Unit
EachFiring c P s (i ∷ h) = P s i × EachFiring c P (fired c s i) h

-- "a permitted order is one in which every firing was accepted"
abbrev pub Permitted : Chain → Run → List ℕ → Type 0
Permitted c = EachFiring c (λ s i. Silent (fire_refusal c s i))

-- each node fires only when the node that it feeds, if any, is below threshold
abbrev pub Prompt : Chain → Run → List ℕ → Type 0
Prompt c = EachFiring c (λ s i. i < c.n → held_at s i < (row_of c i).threshold)

-- at some moment of h, which is the end of what h begins with, P holds of that beginning
pub record AtSome (h : List ℕ) (P : List ℕ → Type 0) : Type 0 where
  pub before : List ℕ
  pub later : List ℕ
  pub parts : h ≡ before ++ later
  pub holds : P before

-- what follows from P at each moment holds at the moment at which P does
pub at_some : {h : List ℕ} {P Q : List ℕ → Type 0} → ((before later : List ℕ) → h ≡ before ++ later → P before → Q before) → AtSome h P → AtSome h Q
at_some f m = record { before = m.before; later = m.later; parts = m.parts; holds = f m.before m.later m.parts m.holds }

-- at some moment of h, queue j holds at least b
abbrev pub HasHeld : Chain → List ℕ → ℕ → ℕ → Type 0
HasHeld c h j b = AtSome h (λ g. b ≤ held_at (after c (fresh_run c) g) j)

-- at some moment of h, queue j holds exactly b
abbrev pub HeldExactly : Chain → List ℕ → ℕ → ℕ → Type 0
HeldExactly c h j b = AtSome h (λ g. held_at (after c (fresh_run c) g) j ≡ b)

module _ (c : Chain) where
  -- the state after one history and then another
  pub after_append : (s : Run) (g h : List ℕ) → after c s (g ++ h) ≡ after c (after c s g) h
  unfolding after
  after_append s [] h = refl
  after_append s (i ∷ g) h = after_append (fired c s i) g h

  -- what holds of each firing of one history and then of another holds of each firing of both
  pub each_append : (P : Run → ℕ → Type 0) (s : Run) (g h : List ℕ) → EachFiring c P s g → EachFiring c P (after c s g) h → EachFiring c P s (g ++ h)
  unfolding after EachFiring
  each_append P s [] h a b = b
  each_append P s (i ∷ g) h a b = (a.0, each_append P (fired c s i) g h a.1 b)

  -- and of each firing of what a history begins with
  pub each_before : (P : Run → ℕ → Type 0) (s : Run) (g h : List ℕ) → EachFiring c P s (g ++ h) → EachFiring c P s g
  unfolding EachFiring
  each_before P s [] h a = tt
  each_before P s (i ∷ g) h a = (a.0, each_before P (fired c s i) g h a.1)
