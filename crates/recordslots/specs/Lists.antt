-- Lists of losses of which only the entries are compared, and what a recording tick leaves, of which only those and the first slots are (01, Firing: "the
-- slots past n are neither read nor changed"; 02, Item 2).
--   AlikeLosses l m          two lists of as many slots that differ in slots past the count only; alike_of: such lists are that
--   AlikeRecorded n x y      outcomes that are the same, with states and lists that differ in slots past n, and past the count, only
--   KeptRecorded n s l x     x's state has s's slots past n, and x's list has l's entries, and l's slots past its own count
--   rec_alike_clean, rec_kept_clean
--                            such states and lists, left clean
--   rec_alike_cond, rec_kept_cond
--                            of two of them one is taken
--   rec_alike_onward, rec_kept_onward
--                            one thing after the other
--   rec_kept_then            what is kept from a state and a list that were kept themselves
-- What is named here and not declared stands in proofs/ListsLaws.antt.
use Rattle.std.specs.Prelude.{◌≡◌, Bool, true, false, cond, ℕ, ◌<◌, length}
use Rattle.state.specs.declared.Run.{Run}
use Rattle.losses.specs.Losses.{entry_at, Extends, extends_refl, extends_trans}
use Rattle.losses.specs.declared.Losses.{Losses}
use Rattle.recordings.specs.Steps.{rec_clean, rec_onward}
use Rattle.recordings.proofs.RunsLaws.{rec_onward_elim}
use Rattle.recordings.specs.declared.Recorded.{Recorded}
use Rattle.tickslots.specs.Slots.{AlikeStates, KeptSlots}
use Rattle.tickslots.proofs.SlotsLaws.{kept_trans}

-- two lists that have the same entries, and as many slots
pub record AlikeLosses (l m : Losses) : Type 0 where
  pub count : l.count ≡ m.count
  pub long : length l.entries ≡ length m.entries
  pub entries : (k : ℕ) → k < l.count → entry_at l k ≡ entry_at m k

-- outcomes that are the same, with states that differ in slots past n only, and lists that differ in slots past the count only
pub record AlikeRecorded (n : ℕ) (x y : Recorded) : Type 0 where
  pub outcome : x.outcome ≡ y.outcome
  pub state : AlikeStates n x.run y.run
  pub losses : AlikeLosses x.losses y.losses

-- a state that has another's slots past n, and a list that went on from another, of which it has the slots past its own count
pub record KeptRecorded (n : ℕ) (s : Run) (l : Losses) (x : Recorded) : Type 0 where
  pub state : KeptSlots n s x.run
  pub losses : Extends l x.losses

-- and keeps the list
pub rec_kept_clean : {n : ℕ} {s u : Run} (l : Losses) → KeptSlots n s u → KeptRecorded n s l (rec_clean u l)
rec_kept_clean l k = record { state = k; losses = extends_refl l }

-- each of which keeps the slots of a state and of a list
pub rec_kept_cond : {n : ℕ} {s : Run} {l : Losses} (x y : Recorded) (b : Bool) → KeptRecorded n s l x → KeptRecorded n s l y → KeptRecorded n s l (cond b x y)
rec_kept_cond x y true h k = h
rec_kept_cond x y false h k = k

-- both of which keep the slots of a state and of a list
pub rec_kept_onward : {n : ℕ} {s : Run} {l : Losses} (x : Recorded) (f : Run → Losses → Recorded) → KeptRecorded n s l x
    → ((u : Run) (m : Losses) → KeptSlots n s u → Extends l m → KeptRecorded n s l (f u m)) → KeptRecorded n s l (rec_onward x f)
rec_kept_onward {n} {s} {l} x f k h = rec_onward_elim x f (KeptRecorded n s l) (λ ended. k) (λ went. h x.run x.losses k.state k.losses)

-- what keeps the slots of a state and of a list that have kept those of others
pub rec_kept_then : {n : ℕ} {s u : Run} {l m : Losses} {x : Recorded} → KeptSlots n s u → Extends l m → KeptRecorded n u m x → KeptRecorded n s l x
rec_kept_then k g h = record { state = kept_trans k h.state; losses = extends_trans g h.losses }
