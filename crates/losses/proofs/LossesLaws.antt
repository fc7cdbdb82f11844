-- Laws of specs/Losses.antt that rest on a definition which an edit of must-fail/ changes.
-- The list of losses (02, Item 2).
--   is_noted, noted_slot, _slots, listed_noted, noted_entries
--                              what `noted` makes is such a list, slot by slot, has 256 slots again, and has the entries before and then this one
--   lost_append, lost_noted    the tokens of entries one after the other, and with one entry more
use Rattle.std.specs.Prelude.{◌≡◌, refl, ◌≢◌, cond, List, [], ◌∷◌, ◌++◌, ℕ, ◌+◌, ◌<◌, eqb, length, get_or}
use Rattle.std.proofs.Common.{ap, ◌∙◌, arith, length-set, get_or-set_same, get_or-set_other}
use Rattle.words.specs.Table.{tab_more, tab_alike}
use Rattle.losses.specs.declared.Loss.{Loss}
use Rattle.losses.specs.declared.Losses.{Losses}
use Rattle.losses.specs.Losses.{loss, no_loss, entry_at, entries_in, noted, lost_in, lost, Listed, Noted, Extends}

-- one entry more, in any list
module _ (l : Losses) (t q p : ℕ) where
  other : (i : ℕ) → i ≢ l.count → entry_at (noted l t q p) i ≡ entry_at l i
  other i ne = get_or-set_other l.entries l.count i (loss t q p) no_loss ne

  pub extends_noted : Extends l (noted l t q p)
  extends_noted = record {
    more = omega arith;
    before = λ m h. other m (λ e. omega arith);
    behind = λ m h. other m (λ e. omega arith);
    long = length-set l.entries l.count (loss t q p);
  }

-- and in one that has a slot for it
module _ {l : Losses} (k : Listed l) (room : l.count < 256) (t q p : ℕ) where
  slot : l.count < length l.entries
  slot = omega (arith, k.long)

  own : entry_at (noted l t q p) l.count ≡ loss t q p
  own = get_or-set_same l.entries l.count (loss t q p) no_loss slot

  pub is_noted : Noted l t q p (noted l t q p)
  is_noted = record {
    count = refl;
    entry = own;
    others = other l t q p;
    long = length-set l.entries l.count (loss t q p);
  }

  -- the slots themselves, whatever is said of one that there is not: the entry stands in the slot of its number, and every other slot is as it was
  pub noted_slot : (e : Loss) → get_or (noted l t q p).entries l.count e ≡ record { tick = t; queue = q; tokens = p }
  noted_slot e = get_or-set_same l.entries l.count (loss t q p) e slot

  pub noted_slots : (e : Loss) (i : ℕ) → i ≢ l.count → get_or (noted l t q p).entries i e ≡ get_or l.entries i e
  noted_slots e i ne = get_or-set_other l.entries l.count i (loss t q p) e ne

  pub listed_noted : Listed (noted l t q p)
  listed_noted = record { long = length-set l.entries l.count (loss t q p) ∙ k.long; short = omega arith }

  pub noted_entries : entries_in (noted l t q p) ≡ entries_in l ++ (loss t q p ∷ [])
  noted_entries =
      tab_more l.count (entry_at (noted l t q p))
      ∙ (λ i. tab_alike l.count (entry_at (noted l t q p)) (entry_at l) (λ m h. other l t q p m (λ e. omega arith)) i ++ (own i ∷ []))

-- the tokens of entries one after the other
pub lost_append : (j : ℕ) (g h : List Loss) → lost_in j (g ++ h) ≡ lost_in j g + lost_in j h
unfolding lost_in
lost_append j [] h = omega arith
lost_append j (e ∷ g) h = omega (arith, lost_append j g h)

-- and with one entry more
pub lost_noted : {l : Losses} → Listed l → l.count < 256 → (t q p j : ℕ) → lost (noted l t q p) j ≡ lost l j + cond (eqb q j) p 0
unfolding lost_in
lost_noted {l} k room t q p j =
    ap (lost_in j) (noted_entries k room t q p) ∙ lost_append j (entries_in l) (loss t q p ∷ []) ∙ omega arith
