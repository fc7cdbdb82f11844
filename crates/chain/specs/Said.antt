-- What a call's result says: the refusal of its error, and the answer that C has of it.
--   code r               the number of a reason (01, Numbers a call may refuse with)
--   refusal e            an error as a refusal: its number with its place
--   said r               what a check's result says: nothing where it is Ok
--   code_bounds, code_alike
--                        a number from 1 to 17, and no two reasons have the same
--   refusal_alike        so an error is known by its refusal
--   speaks, said_silent  no error is silent, and a result says nothing exactly where it is Ok
--   chain_said r         the answer that a result makes which is a chain or an error
--   chain_alike          no two results have the same
--   chain_given, chain_refused
--                        it is `answered` of what the result says: the chain made, or no chain, whichever was made
use Rattle.std.specs.Prelude.{◌≡◌, ◌↔◌, List, [], ◌∷◌, ℕ, ◌≤◌, get_or, Result, IsOk}
use Rattle.std.proofs.Common.{Ok, Err, refl, sym, ap, ◌∙◌, true≢false, ne_eqb, arith}
use Rattle.chain.specs.Refusal.{Refusal}
use Rattle.chain.specs.Refusals.{refused, fine, Silent, number_of}
use Rattle.chain.specs.Record.{empty_chain, answered}
use Rattle.chain.specs.declared.Chain.{Chain}
use Rattle.chain.specs.declared.ChainAnswer.{ChainAnswer}
use Rattle.chain.specs.declared.reasons.Reason.{Reason}
use Rattle.chain.specs.declared.reasons.Reason.TheVariants.{FileLength, QueueCount, TablePlace, FieldRange, RowOrder, RateTooLarge, Overload, CapacityTooSmall}
use Rattle.chain.specs.declared.reasons.Reason.TheVariants.{RunTooLong, NoRoom, NodeNotReady, QueueFull, DeadlineTooLate, NoFactoryChain, BrokenState}
use Rattle.chain.specs.declared.reasons.Refused.{Refused}

-- the number of a reason
abbrev pub code : Reason → ℕ
code FileLength = 1
code QueueCount = 2
code TablePlace = 3
code FieldRange = 4
code RowOrder = 5
code RateTooLarge = 6
code Overload = 7
code CapacityTooSmall = 8
code RunTooLong = 9
code NoRoom = 10
code NodeNotReady = 11
code QueueFull = 12
code DeadlineTooLate = 13
code NoFactoryChain = 14
code BrokenState = 17

pub code_bounds : (r : Reason) → (1 ≤ code r) × (code r ≤ 17)
code_bounds FileLength = (omega arith, omega arith)
code_bounds QueueCount = (omega arith, omega arith)
code_bounds TablePlace = (omega arith, omega arith)
code_bounds FieldRange = (omega arith, omega arith)
code_bounds RowOrder = (omega arith, omega arith)
code_bounds RateTooLarge = (omega arith, omega arith)
code_bounds Overload = (omega arith, omega arith)
code_bounds CapacityTooSmall = (omega arith, omega arith)
code_bounds RunTooLong = (omega arith, omega arith)
code_bounds NoRoom = (omega arith, omega arith)
code_bounds NodeNotReady = (omega arith, omega arith)
code_bounds QueueFull = (omega arith, omega arith)
code_bounds DeadlineTooLate = (omega arith, omega arith)
code_bounds NoFactoryChain = (omega arith, omega arith)
code_bounds BrokenState = (omega arith, omega arith)

-- no two reasons have the same number: each is found at its number, where the numbers of none hold the first
pub code_alike : (r s : Reason) → code r ≡ code s → r ≡ s
code_alike r s e = sym (found r) ∙ ap (λ (n : ℕ). get_or reasons n FileLength) e ∙ found s
  where
    reasons : List Reason
    reasons =
        FileLength
        ∷ FileLength ∷ QueueCount ∷ TablePlace ∷ FieldRange ∷ RowOrder
        ∷ RateTooLarge ∷ Overload ∷ CapacityTooSmall ∷ RunTooLong ∷ NoRoom
        ∷ NodeNotReady ∷ QueueFull ∷ DeadlineTooLate ∷ NoFactoryChain
        ∷ FileLength ∷ FileLength ∷ BrokenState
        ∷ []

    found : (r : Reason) → get_or reasons (code r) FileLength ≡ r
    found FileLength = refl
    found QueueCount = refl
    found TablePlace = refl
    found FieldRange = refl
    found RowOrder = refl
    found RateTooLarge = refl
    found Overload = refl
    found CapacityTooSmall = refl
    found RunTooLong = refl
    found NoRoom = refl
    found NodeNotReady = refl
    found QueueFull = refl
    found DeadlineTooLate = refl
    found NoFactoryChain = refl
    found BrokenState = refl

-- an error as a refusal
abbrev pub refusal : Refused → Refusal
refusal e = refused (code e.reason) e.place

-- what a result says: the refusal of its error
abbrev pub said : {A : Type 0} → Result A Refused → Refusal
said (Ok a) = fine
said (Err e) = refusal e

-- an error is known by its refusal
pub refusal_alike : (e f : Refused) → refusal e ≡ refusal f → e ≡ f
refusal_alike e f h =
    let r = code_alike e.reason f.reason (number_of h) in
    λ i. record { reason = r i; place = (h i).place }

-- no error is silent
pub speaks : (e : Refused) → Silent (refusal e) → ⊥
speaks e z = let b = code_bounds e.reason in omega arith

-- a result says nothing exactly where it is Ok
pub said_silent : {A : Type 0} (r : Result A Refused) → Silent (said r) ↔ IsOk r
said_silent (Ok a) = (λ z. refl, λ k. refl)
said_silent (Err e) = (λ z. absurd (speaks e z), λ k. absurd (true≢false (sym k)))

-- "a refusal gives number and place, all other results zero"
abbrev pub chain_said : Result Chain Refused → ChainAnswer
chain_said (Ok c) = record { number = 0; place = 0; chain = c }
chain_said (Err e) = record { number = code e.reason; place = e.place; chain = empty_chain }

-- equal answers come from equal results
pub chain_alike : (r s : Result Chain Refused) → chain_said r ≡ chain_said s → r ≡ s
chain_alike (Ok c) (Ok d) e = ap Ok (ap (λ (x : ChainAnswer). x.chain) e)
chain_alike (Ok c) (Err f) e = absurd (speaks f (ap (λ (x : ChainAnswer). x.number) (sym e)))
chain_alike (Err d) (Ok c) e = absurd (speaks d (ap (λ (x : ChainAnswer). x.number) e))
chain_alike (Err d) (Err f) e = ap Err (refusal_alike d f (ap (λ (x : ChainAnswer). refused x.number x.place) e))

-- it is what `answered` makes of the refusal and the chain
pub chain_given : (c : Chain) → chain_said (Ok c) ≡ answered fine c
unfolding answered
chain_given c = refl

pub chain_refused : (e : Refused) (c : Chain) → chain_said (Err e) ≡ answered (refusal e) c
unfolding answered
chain_refused e c = simp (ne_eqb _ _ (speaks e))
