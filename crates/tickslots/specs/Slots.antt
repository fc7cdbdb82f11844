-- Lists, states and outcomes of which only the first slots are compared, and such of which only the others are (01, Firing: "the slots past n are
-- neither read nor changed").
--   AlikeLists n x y         two lists of as many slots that agree on the first n
--   KeptList n x y           y has as many slots as x, and x's slots from n on
--   set_same                 a slot that is written in lists of as many slots is the same
--   alike_set, kept_set      one slot written in both, and one of the first n written
--   AlikeStates n s t        two states of as many slots that differ in slots past n only
--   KeptSlots n s t          t has as many slots as s, and s's slots past n
--   AlikeTicked n x y        outcomes that are the same, with states that differ in slots past n only
-- What is named here and not declared stands in proofs/SlotsLaws.antt.
use Rattle.std.specs.Prelude.{◌≡◌, refl, List, [], ◌∷◌, ℕ, zero, suc, ◌≤◌, ◌<◌, length, get_or, set}
use Rattle.std.proofs.Common.{sym, ◌∙◌, arith, length-set, get_or-set_other}
use Rattle.std.proofs.Math.Logic.{by_cases}
use Rattle.std.proofs.Math.Decide.{ℕ_discrete}
use Rattle.state.specs.declared.Run.{Run}
use Rattle.instants.specs.declared.Ticked.{Ticked}

-- two lists that agree on the first n slots
pub record AlikeLists (n : ℕ) (x y : List ℕ) : Type 0 where
  pub long : length x ≡ length y
  pub slots : (i : ℕ) → i < n → get_or x i 0 ≡ get_or y i 0

-- a list that has another's slots from n on
pub record KeptList (n : ℕ) (x y : List ℕ) : Type 0 where
  pub long : length y ≡ length x
  pub slots : (i : ℕ) → n ≤ i → get_or y i 0 ≡ get_or x i 0

-- a slot that is written in both is the same, and so is one that neither has
pub set_same : {A : Type 0} (x y : List A) (i : ℕ) (v none : A) → length x ≡ length y → get_or (set x i v) i none ≡ get_or (set y i v) i none
set_same [] [] i v none e = refl
set_same [] (b ∷ y) i v none e = absurd (omega arith)
set_same (a ∷ x) [] i v none e = absurd (omega arith)
set_same (a ∷ x) (b ∷ y) zero v none e = refl
set_same (a ∷ x) (b ∷ y) (suc i) v none e = set_same x y i v none (omega arith)

-- one slot is written in both
pub alike_set : {n : ℕ} (x y : List ℕ) (i v w : ℕ) → AlikeLists n x y → v ≡ w → AlikeLists n (set x i v) (set y i w)
alike_set {n} x y i v w a e = rw (← e) (record { long = length-set x i v ∙ a.long ∙ sym (length-set y i v); slots = at })
  where
    at : (j : ℕ) → j < n → get_or (set x i v) j 0 ≡ get_or (set y i v) j 0
    at j l = by_cases (ℕ_discrete j i)
        (λ f. rw f (set_same x y i v 0 a.long))
        (λ ne. get_or-set_other x i j v 0 ne ∙ a.slots j l ∙ sym (get_or-set_other y i j v 0 ne))

-- two states that agree on all but the slots past n, and have as many slots
pub record AlikeStates (n : ℕ) (s t : Run) : Type 0 where
  pub clock : s.clock ≡ t.clock
  pub counts : AlikeLists (suc n) s.counts t.counts
  pub held : AlikeLists n s.held t.held
  pub done : AlikeLists n s.done t.done

-- a state that has another's slots past n, and as many slots
pub record KeptSlots (n : ℕ) (s t : Run) : Type 0 where
  pub counts : KeptList (suc n) s.counts t.counts
  pub held : KeptList n s.held t.held
  pub done : KeptList n s.done t.done

-- outcomes that are the same, with states that differ in slots past n only
pub record AlikeTicked (n : ℕ) (x y : Ticked) : Type 0 where
  pub outcome : x.outcome ≡ y.outcome
  pub state : AlikeStates n x.run y.run
