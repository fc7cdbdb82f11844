-- The list of losses (02, Item 2).
--   longest_list               how many entries it may have
--   loss t q p, no_loss        an entry, and a slot that holds none
--   empty_losses               no losses
--   entry_at l k, entries_in l  entry k, and the entries in order
--   noted l t q p              the list with one entry more
--   lost_in j h, lost l j      the tokens of the entries of h, and of the list, that name queue j
--   Listed l, listed_of        a list of 256 slots, of which no more are entries; listed_empty: the empty list is one
--   empty_slots                its slots are zero
--   Noted l t q p m            m is l with the entry (t, q, p) more, slot by slot; noted_only: no other list is that
--   Extends l m                m's first entries are l's, and from m's last entry on its slots are l's
--   extends_refl, _trans, _noted
--                              a list extends itself, from list to list, and by one entry
--   extends_same               one that extends a list by no entry is that list
-- What is named here and not declared stands in proofs/LossesLaws.antt.
use Rattle.std.specs.Prelude.{◌≡◌, refl, ◌≢◌, cond, List, [], ◌∷◌, ℕ, zero, suc, ◌+◌, ◌≤◌, ◌<◌, eqb, length, get_or, set, replicate}
use Rattle.std.proofs.Common.{sym, ◌∙◌, arith, ext_get_or}
use Rattle.std.proofs.Math.Logic.{by_cases}
use Rattle.std.proofs.Math.Decide.{ℕ_discrete, dec_lt}
use Rattle.std.proofs.lemmas.List.{length-replicate}
use Rattle.words.specs.Table.{tab}
use Rattle.losses.specs.declared.Loss.{Loss}
use Rattle.losses.specs.declared.Losses.{Losses}

-- "a list of at most 256 entries"
abbrev pub longest_list : ℕ
longest_list = 256

-- "its tick, queue and tokens"
abbrev pub loss : ℕ → ℕ → ℕ → Loss
loss t q p = record { tick = t; queue = q; tokens = p }

abbrev pub no_loss : Loss
no_loss = loss 0 0 0

abbrev pub empty_losses : Losses
empty_losses = record { count = 0; entries = replicate 256 no_loss }

-- entry k, and the entries in order
abbrev pub entry_at : Losses → ℕ → Loss
entry_at l k = get_or l.entries k no_loss

abbrev pub entries_in : Losses → List Loss
entries_in l = tab l.count (entry_at l)

-- "its tick, queue and tokens go into a list"
abbrev pub noted : Losses → ℕ → ℕ → ℕ → Losses
noted l t q p = record { count = l.count + 1; entries = set l.entries l.count (loss t q p) }

-- "the sum of that queue's entries"
unfoldable pub lost_in : ℕ → List Loss → ℕ
lost_in j [] = 0
lost_in j (e ∷ h) = cond (eqb e.queue j) e.tokens 0 + lost_in j h

abbrev pub lost : Losses → ℕ → ℕ
lost l j = lost_in j (entries_in l)

-- a list of 256 slots, of which no more are entries
pub record Listed (l : Losses) : Type 0 where
  pub long : length l.entries ≡ 256
  pub short : l.count ≤ 256

-- a list of 256 slots, of which no more are entries, is one, whatever stands in the others
pub listed_of : (l : Losses) → length l.entries ≡ 256 → l.count ≤ 256 → Listed l
listed_of l long short = record { long = long; short = short }

pub listed_empty : Listed empty_losses
listed_empty = record { long = length-replicate {A = Loss} 256 no_loss; short = omega arith }

-- every slot of the empty list is zero
pub empty_slots : (i : ℕ) → entry_at empty_losses i ≡ record { tick = 0; queue = 0; tokens = 0 }
empty_slots i = same 256 i
  where
    same : (n k : ℕ) → get_or (replicate n no_loss) k no_loss ≡ no_loss
    same zero k = refl
    same (suc n) zero = refl
    same (suc n) (suc k) = same n k

-- m has one entry more than l, at its end; every other slot is as it was
pub record Noted (l : Losses) (t q p : ℕ) (m : Losses) : Type 0 where
  pub count : m.count ≡ l.count + 1
  pub entry : entry_at m l.count ≡ loss t q p
  pub others : (k : ℕ) → k ≢ l.count → entry_at m k ≡ entry_at l k
  pub long : length m.entries ≡ length l.entries

-- and no other list is that
pub noted_only : {l : Losses} {t q p : ℕ} {m n : Losses} → Noted l t q p m → Noted l t q p n → m ≡ n
noted_only {l} {m = m} {n} a b = λ i. record { count = (a.count ∙ sym b.count) i; entries = same i }
  where
    same : m.entries ≡ n.entries
    same = ext_get_or no_loss m.entries n.entries (a.long ∙ sym b.long) (λ k h. by_cases (ℕ_discrete k l.count)
        (λ e. rw e (a.entry ∙ sym b.entry))
        (λ ne. a.others k ne ∙ sym (b.others k ne)))

-- m's first entries are l's, and the slots from m's last entry on are as they were
pub record Extends (l m : Losses) : Type 0 where
  pub more : l.count ≤ m.count
  pub before : (k : ℕ) → k < l.count → entry_at m k ≡ entry_at l k
  pub behind : (k : ℕ) → m.count ≤ k → entry_at m k ≡ entry_at l k
  pub long : length m.entries ≡ length l.entries

pub extends_refl : (l : Losses) → Extends l l
extends_refl l = record { more = omega arith; before = λ k h. refl; behind = λ k h. refl; long = refl }

pub extends_trans : {l m n : Losses} → Extends l m → Extends m n → Extends l n
extends_trans a b = record {
  more = omega (arith, a.more, b.more);
  before = λ k h. b.before k (omega (arith, a.more)) ∙ a.before k h;
  behind = λ k h. b.behind k h ∙ a.behind k (omega (arith, b.more));
  long = b.long ∙ a.long;
}

-- one that has no entry more is the list itself
pub extends_same : {l m : Losses} → Extends l m → m.count ≡ l.count → m ≡ l
extends_same {l} {m} a e = λ i. record { count = e i; entries = same i }
  where
    same : m.entries ≡ l.entries
    same = ext_get_or no_loss m.entries l.entries a.long (λ k h. by_cases (dec_lt k l.count) (a.before k) (λ past. a.behind k (omega (arith, past, e))))
