-- Laws of specs/Lists.antt that rest on a definition which an edit of must-fail/ changes.
-- Lists of losses of which only the entries are compared, and what a recording tick leaves, of which only those and the first slots are (01, Firing: "the
-- slots past n are neither read nor changed"; 02, Item 2).
--   losses_refl              a list and itself
--   alike_noted              one entry more in both
--   same_losses              lists that differ in slots past the count only and went on from one list are equal
--   same_recorded            what is alike and kept the slots of one state and of one list is the same
--   rec_alike_clean, rec_kept_clean
--                            such states and lists, left clean
--   rec_alike_cond, rec_kept_cond
--                            of two of them one is taken
--   rec_alike_onward, rec_kept_onward
--                            one thing after the other
use Rattle.std.specs.Prelude.{◌≡◌, refl, Bool, true, false, cond, ℕ, ◌+◌, ◌<◌, length}
use Rattle.std.proofs.Common.{sym, ap, ◌∙◌, arith, ext_get_or}
use Rattle.std.proofs.Math.Logic.{by_cases}
use Rattle.std.proofs.Math.Decide.{ℕ_discrete, dec_lt}
use Rattle.state.specs.declared.Run.{Run}
use Rattle.losses.specs.Losses.{loss, no_loss, entry_at, noted, Extends}
use Rattle.losses.proofs.LossesLaws.{extends_noted}
use Rattle.losses.specs.declared.Losses.{Losses}
use Rattle.recordings.specs.Steps.{rec_clean, rec_goes, rec_onward}
use Rattle.recordings.specs.declared.RecordOutcome.{RecordOutcome}
use Rattle.recordings.specs.declared.RecordOutcome.TheVariants.{Clean, NoDeadline, ListFull}
use Rattle.recordings.specs.declared.Recorded.{Recorded}
use Rattle.tickslots.specs.Slots.{set_same, AlikeStates}
use Rattle.tickslots.proofs.SlotsLaws.{same_state}
use Rattle.recordslots.specs.Lists.{AlikeLosses, AlikeRecorded, KeptRecorded}

-- lists of as many slots with the same entries are alike, whatever stands in the other slots
pub alike_of : (l m : Losses) → l.count ≡ m.count → length l.entries ≡ length m.entries → ((k : ℕ) → k < l.count → entry_at l k ≡ entry_at m k) → AlikeLosses l m
alike_of l m count long entries = record { count = count; long = long; entries = entries }

-- a list and itself
pub losses_refl : (l : Losses) → AlikeLosses l l
losses_refl l = record { count = refl; long = refl; entries = λ k h. refl }

-- one entry more in both
pub alike_noted : {l m : Losses} → AlikeLosses l m → (t q : ℕ) {p r : ℕ} → p ≡ r → AlikeLosses (noted l t q p) (noted m t q r)
alike_noted {l} {m} a t q {p} e = rw (← e) (record {
  count = ap (λ (k : ℕ). k + 1) a.count;
  long = (extends_noted l t q p).long ∙ a.long ∙ sym (extends_noted m t q p).long;
  entries = λ k h. by_cases (ℕ_discrete k l.count)
      (λ f. rw (f, a.count) (set_same l.entries m.entries m.count (loss t q p) no_loss a.long))
      (λ ne. older k (omega (arith, ne)));
})
  where
    older : (k : ℕ) → k < l.count → entry_at (noted l t q p) k ≡ entry_at (noted m t q p) k
    older k h = (extends_noted l t q p).before k h ∙ a.entries k h ∙ sym ((extends_noted m t q p).before k (omega (arith, a.count)))

-- lists that have the same entries, and past them the slots of one list
pub same_losses : {l x y : Losses} → Extends l x → Extends l y → AlikeLosses x y → x ≡ y
same_losses {l} {x} {y} g h a = λ i. record { count = a.count i; entries = ext_get_or no_loss x.entries y.entries a.long each i }
  where
    each : (k : ℕ) → k < length x.entries → entry_at x k ≡ entry_at y k
    each k f = by_cases (dec_lt k x.count) (a.entries k) (λ past. g.behind k (omega (arith, past)) ∙ sym (h.behind k (omega (arith, past, a.count))))

-- what is alike, and has the slots of one state and of one list where it may differ, is the same
pub same_recorded : {n : ℕ} {s : Run} {l : Losses} {x y : Recorded} → KeptRecorded n s l x → KeptRecorded n s l y → AlikeRecorded n x y → x ≡ y
same_recorded h k a =
    let e = same_state h.state k.state a.state in
    let f = same_losses h.losses k.losses a.losses in
    λ i. record { outcome = a.outcome i; run = e i; losses = f i }

-- what is left clean
pub rec_alike_clean : {n : ℕ} {s t : Run} {l m : Losses} → AlikeStates n s t → AlikeLosses l m → AlikeRecorded n (rec_clean s l) (rec_clean t m)
rec_alike_clean r a = record { outcome = refl; state = r; losses = a }

-- one of two is taken
pub rec_alike_cond : {n : ℕ} {x y u v : Recorded} {b d : Bool} → b ≡ d → AlikeRecorded n x u → AlikeRecorded n y v → AlikeRecorded n (cond b x y) (cond d u v)
rec_alike_cond {n} {x} {y} {u} {v} {b} e h k = rw (← e) (by b)
  where
    by : (b : Bool) → AlikeRecorded n (cond b x y) (cond b u v)
    by true = h
    by false = k

-- one thing after the other
pub rec_alike_onward : {n : ℕ} {x y : Recorded} (f g : Run → Losses → Recorded) → AlikeRecorded n x y
    → ((u v : Run) (l m : Losses) → AlikeStates n u v → AlikeLosses l m → AlikeRecorded n (f u l) (g v m)) → AlikeRecorded n (rec_onward x f) (rec_onward y g)
unfolding rec_onward rec_goes
rec_alike_onward {n} {x} {y} f g a h = rw (← a.outcome) (by x.outcome)
  where
    by : (o : RecordOutcome) → AlikeRecorded n (rec_goes o x.run x.losses f) (rec_goes o y.run y.losses g)
    by Clean = h x.run y.run x.losses y.losses a.state a.losses
    by (NoDeadline t i) = record { outcome = refl; state = a.state; losses = a.losses }
    by (ListFull t q) = record { outcome = refl; state = a.state; losses = a.losses }
