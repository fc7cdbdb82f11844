-- Laws of specs/Sound.antt that rest on a definition which an edit of must-fail/ changes.
-- What a chain that the checks 2, 4 and 5 do not refuse is.
--   range_parts                     4 part by part: the period, the queue rows one by one, the node rows one by one
--   row_sound                       4 and 5 of a row are silent, wherever it stands, exactly when the row is sound
--   sound_is                        2, 4 and 5 are silent, the tables standing anywhere, exactly when the chain is sound
--   sound, sound_known              a record is not refused exactly when it is sound
use Rattle.std.proofs.Math.Logic.Iff
use Rattle.std.specs.Prelude.{◌≡◌, ◌↔◌, List, [], ◌∷◌, map, ℕ, ◌+◌, ◌*◌, ◌<◌}
use Rattle.std.proofs.Common.{ap, ap₂, ◌∙◌, arith}
use Rattle.std.proofs.lemmas.List.{map-append}
use Rattle.words.specs.Flat.{flat}
use Rattle.words.specs.Table.{tab}
use Rattle.words.specs.declared.Queue.{Queue}
use Rattle.chain.specs.Tests.{In}
use Rattle.chain.specs.Refusals.{first, or_else, Silent, Silents, silent_as, first_silent, first_append, first_flat, map_tab, or_silents, all_silent}
use Rattle.chain.specs.Record.{row_of, work_of}
use Rattle.chain.specs.Checks.{Field, field, ticks, row_fields, fields, out_of_range, overdrawn, count_check, range_check}
use Rattle.chain.specs.Checks.{order_check, chain_checks, chain_refusal, field_silent}
use Rattle.chain.proofs.ChecksLaws.{count_silent, row_silent}
use Rattle.chain.specs.Refusal.{Refusal}
use Rattle.chain.specs.declared.Chain.{Chain}
use Rattle.chain.specs.Sound.{row_range, node_range, SoundRow, Sound}

-- 4 part by part
pub range_parts : (c : Chain) (q w : ℕ)
    → range_check c q w ≡ or_else (out_of_range (ticks 4 c.period)) (or_else (first (tab c.n (λ i. row_range (row_of c i) (q + 20 * i)))) (first (tab c.n (λ i. node_range (work_of c i) (w + 4 * i)))))
unfolding range_check fields first row_range
range_parts c q w =
    ap (or_else (out_of_range (ticks 4 c.period)))
    (ap first (map-append out_of_range rows nodes) ∙ first_append (map out_of_range rows) (map out_of_range nodes)
    ∙ ap₂ or_else (first_flat out_of_range (λ i. row_fields (row_of c i) (q + 20 * i)) c.n) (ap first (map_tab out_of_range c.n (λ i. ticks (w + 4 * i) (work_of c i)))))
  where
    rows : List Field
    rows = flat (λ i. row_fields (row_of c i) (q + 20 * i)) c.n

    nodes : List Field
    nodes = tab c.n (λ i. ticks (w + 4 * i) (work_of c i))

-- a queue row passes 4 and 5, wherever it stands, exactly when it is sound
pub row_sound : (q : Queue) (at : ℕ) → (Silent (row_range q at) × Silent (overdrawn q at)) ↔ SoundRow q
unfolding row_range row_fields Silents
row_sound q at = (out, back)
  where
    fits : (p l m v : ℕ) → Silent (out_of_range (field p l m v)) ↔ In l m v
    fits p l m v = field_silent (field p l m v)

    out : Silent (row_range q at) × Silent (overdrawn q at) → SoundRow q
    out h =
        let s = (first_silent (map out_of_range (row_fields q at))).0 h.0 in
        record {
          produce = (fits _ _ _ _).0 s.0;
          threshold = (fits _ _ _ _).0 s.1.0;
          consume = (fits _ _ _ _).0 s.1.1.0;
          capacity = ((fits _ _ _ _).0 s.1.1.1.0).1;
          reserved = omega (arith, ((fits (at + 16) 0 0 q.reserved).0 s.1.1.1.1.0).1);
          order = (row_silent q at).0 h.1;
        }

    back : SoundRow q → Silent (row_range q at) × Silent (overdrawn q at)
    back s =
        let all : Silents (map out_of_range (row_fields q at)) = (
          (fits _ _ _ _).1 s.produce,
          (
            (fits _ _ _ _).1 s.threshold,
            ((fits _ _ _ _).1 s.consume, ((fits _ 0 1000000 q.capacity).1 (omega arith, s.capacity), ((fits _ 0 0 q.reserved).1 (omega arith, omega (arith, s.reserved)), tt))),
          ),
        ) in
        ((first_silent (map out_of_range (row_fields q at))).1 all, (row_silent q at).1 s.order)

range_silent : (c : Chain) (q w : ℕ) → Silent (range_check c q w)
    ↔ (In 1 1000000 c.period × (((i : ℕ) → i < c.n → Silent (row_range (row_of c i) (q + 20 * i))) × ((i : ℕ) → i < c.n → Silent (node_range (work_of c i) (w + 4 * i)))))
range_silent c q w = rw (range_parts c q w)
    (Iff.trans (or_silents _ _) (Iff.and (field_silent (ticks 4 c.period)) (Iff.trans (or_silents _ _) (Iff.and (all_silent _ c.n) (all_silent _ c.n)))))

-- a chain passes 2, 4 and 5, its tables standing anywhere, exactly when it is sound
pub sound_is : (c : Chain) (q w : ℕ) → Silents (count_check c.n ∷ range_check c q w ∷ order_check c q ∷ []) ↔ Sound c
unfolding Silents order_check
sound_is c q w = (out, back)
  where
    at_row : (i : ℕ) → (Silent (row_range (row_of c i) (q + 20 * i)) × Silent (overdrawn (row_of c i) (q + 20 * i))) ↔ SoundRow (row_of c i)
    at_row i = row_sound (row_of c i) (q + 20 * i)

    at_node : (i : ℕ) → Silent (node_range (work_of c i) (w + 4 * i)) ↔ In 1 1000000 (work_of c i)
    at_node i = field_silent (ticks (w + 4 * i) (work_of c i))

    out : Silents (count_check c.n ∷ range_check c q w ∷ order_check c q ∷ []) → Sound c
    out h =
        let r = (range_silent c q w).0 h.1.0 in
        let o = (all_silent (λ i. overdrawn (row_of c i) (q + 20 * i)) c.n).0 h.1.1.0 in
        record {
          count = (count_silent c.n).0 h.0;
          period = r.0;
          rows = λ i l. (at_row i).0 (r.1.0 i l, o i l);
          work = λ i l. (at_node i).0 (r.1.1 i l);
        }

    back : Sound c → Silents (count_check c.n ∷ range_check c q w ∷ order_check c q ∷ [])
    back s = (
      (count_silent c.n).1 s.count,
      (
        (range_silent c q w).1 (s.period, (λ i l. ((at_row i).1 (s.rows i l)).0, λ i l. (at_node i).1 (s.work i l))),
        ((all_silent (λ i. overdrawn (row_of c i) (q + 20 * i)) c.n).1 (λ i l. ((at_row i).1 (s.rows i l)).1), tt),
      ),
    )

pub sound : (c : Chain) → Silent (chain_refusal c) ↔ Sound c
unfolding chain_refusal
sound c = Iff.trans (first_silent (chain_checks c)) (sound_is c 20 (20 + 20 * c.n))

-- the same of an answer that code was given
pub sound_known : {r : Refusal} (c : Chain) → r ≡ chain_refusal c → Silent r → Sound c
sound_known c e z = (sound c).0 (silent_as e z)
