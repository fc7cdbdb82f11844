-- How a recording tick or run ends, by the number and the values that it is given, and what a list of losses holds, entry by entry (02, Item 2).
--   o, t, q, i, l, j         an outcome of a recording tick or run, an instant, a queue, a node, a list of losses, a queue
--   RecSays o N vs           the number of o is N, and its values are vs
--   RecCleanly o, RecUndatedAt o t i, FullAt o t q
--                            it ends clean; "with 13" at an instant, of a node; "the stopped list is outcome 15, place the queue", at an instant
--   rec_cleanly_is, rec_undated_is, full_is
--                            which are the three cases of an outcome
--   says_two                 an outcome with two values is not clean
--   zero_loss, zero_losses   an entry, and a list, of zeros
--   entry_slot               entry_at is the list's slot
--   entries_long, entries_at the entries are the first of the slots, as many as the count says
--   sum_is, sum_none, _own, _other
--                            "the sum of that queue's entries": lost l j is lost_in j of the entries, which is this sum
--   noted_is                 Noted l t q p m by the slots of both lists: one entry more, and every other slot as it was
use Rattle.std.specs.Prelude.{◌≡◌, refl, ◌↔◌, ◌≢◌, List, [], ◌∷◌, ℕ, ◌+◌, ◌<◌, length, get_or, replicate}
use Rattle.std.proofs.Common.{sym, ap, ◌∙◌, arith, eq-eqb, ne_eqb}
use Rattle.ardenquill.specs.Chains.{length_tab, tab_at}
use Rattle.ardenquill.specs.Losses.{rec_number_of, rec_values_of, entry_at, entries_in, lost_in, lost, Noted}
use Rattle.ardenquill.specs.Records.{Loss, Losses, RecordOutcome, RecordClean, RecordNoDeadline, ListFull}

-- the number and values of an outcome, in 01's way
abbrev pub RecSays : RecordOutcome → ℕ → List ℕ → Type 0
RecSays o N vs = (rec_number_of o ≡ N) × (rec_values_of o ≡ vs)

-- "It ends clean"
abbrev pub RecCleanly : RecordOutcome → Type 0
RecCleanly o = RecSays o 0 []

-- "or with 13 at the first instant when .., place the lowest such over-threshold node"
abbrev pub RecUndatedAt : RecordOutcome → ℕ → ℕ → Type 0
RecUndatedAt o t i = RecSays o 13 (t ∷ i ∷ [])

-- "the stopped list is outcome 15, place the queue"
abbrev pub FullAt : RecordOutcome → ℕ → ℕ → Type 0
FullAt o t q = RecSays o 15 (t ∷ q ∷ [])

-- an outcome says what an equal one does
says_as : {o p : RecordOutcome} → o ≡ p → RecSays o (rec_number_of p) (rec_values_of p)
says_as e = (ap rec_number_of e, ap rec_values_of e)

pub rec_cleanly_is : (o : RecordOutcome) → RecCleanly o ↔ (o ≡ RecordClean)
rec_cleanly_is RecordClean = (λ h. refl, says_as)
rec_cleanly_is (RecordNoDeadline t i) = (λ h. absurd (omega (arith, h.0)), says_as)
rec_cleanly_is (ListFull t q) = (λ h. absurd (omega (arith, h.0)), says_as)

pub rec_undated_is : (o : RecordOutcome) (t i : ℕ) → RecUndatedAt o t i ↔ (o ≡ RecordNoDeadline t i)
rec_undated_is RecordClean t i = (λ h. absurd (omega (arith, h.0)), says_as)
rec_undated_is (RecordNoDeadline u j) t i = (λ h. (λ k. RecordNoDeadline (get_or (h.1 k) 0 0) (get_or (h.1 k) 1 0)), says_as)
rec_undated_is (ListFull u q) t i = (λ h. absurd (omega (arith, h.0)), says_as)

pub full_is : (o : RecordOutcome) (t q : ℕ) → FullAt o t q ↔ (o ≡ ListFull t q)
full_is RecordClean t q = (λ h. absurd (omega (arith, h.0)), says_as)
full_is (RecordNoDeadline u i) t q = (λ h. absurd (omega (arith, h.0)), says_as)
full_is (ListFull u r) t q = (λ h. (λ k. ListFull (get_or (h.1 k) 0 0) (get_or (h.1 k) 1 0)), says_as)

-- an outcome with two values is not clean
pub says_two : (o : RecordOutcome) (N t at : ℕ) → RecSays o N (t ∷ at ∷ []) → o ≡ RecordClean → ⊥
says_two o N t at h e = let longer : ◌≡◌ {A = ℕ} 2 0 = ap length (sym h.1 ∙ ap rec_values_of e) in omega arith

-- a slot of no loss, and the list of a refused run
abbrev pub zero_loss : Loss
zero_loss = record { tick = 0; queue = 0; tokens = 0 }

abbrev pub zero_losses : Losses
zero_losses = record { count = 0; entries = replicate 256 zero_loss }

-- entry k is the number k of the list's slots
pub entry_slot : (l : Losses) (k : ℕ) → entry_at l k ≡ get_or l.entries k zero_loss
entry_slot l k = refl

-- there are as many entries as the count says, and they are the first slots
pub entries_long : (l : Losses) → length (entries_in l) ≡ l.count
entries_long l = length_tab l.count (entry_at l)

pub entries_at : (l : Losses) (k : ℕ) → k < l.count → get_or (entries_in l) k zero_loss ≡ get_or l.entries k zero_loss
entries_at l k h = tab_at l.count (entry_at l) k zero_loss h

-- m is l with one entry more in the slot behind its last, and every other slot is as it was
pub noted_is : (l : Losses) (t q p : ℕ) (m : Losses) → Noted l t q p m
    ↔ ((m.count ≡ l.count + 1) × ((get_or m.entries l.count zero_loss ≡ record { tick = t; queue = q; tokens = p })
    × (((k : ℕ) → k ≢ l.count → get_or m.entries k zero_loss ≡ get_or l.entries k zero_loss) × (length m.entries ≡ length l.entries))))
noted_is l t q p m = (λ n. (n.count, (n.entry, (n.others, n.long))), λ h. record { count = h.0; entry = h.1.0; others = h.1.1.0; long = h.1.1.1 })

-- "17's balance counts the entries": all of them, and nothing else
pub sum_is : (l : Losses) (j : ℕ) → lost l j ≡ lost_in j (entries_in l)
sum_is l j = refl

-- "the sum of that queue's entries": each that names queue j counts with its tokens, and no other does
pub sum_none : (j : ℕ) → lost_in j [] ≡ 0
unfolding lost_in
sum_none j = refl

pub sum_own : (j : ℕ) (e : Loss) (h : List Loss) → e.queue ≡ j → lost_in j (e ∷ h) ≡ e.tokens + lost_in j h
unfolding lost_in
sum_own j e h same = simp (eq-eqb e.queue j same)

pub sum_other : (j : ℕ) (e : Loss) (h : List Loss) → e.queue ≢ j → lost_in j (e ∷ h) ≡ lost_in j h
unfolding lost_in
sum_other j e h other = simp (ne_eqb e.queue j other) (omega arith)
