-- Where a refusal points.
--   There f fs     each field of the list is the word of f that stands at its place
--   field_there    the place of each field that check 4 looks at is the byte offset of its word
--   over_there     the place of check 5 is the byte offset of c
use Rattle.std.specs.Prelude.{◌≡◌}
use Rattle.std.proofs.Math.Path.{refl, ap}
use Rattle.std.proofs.Common.{sym, ◌∙◌, arith}
use mathlib.Core.List.{List, [], ◌∷◌, ◌++◌}
use Prim.Native.Nat.{ℕ, zero, suc, ◌+◌, ◌*◌, ◌<◌}
use Rattle.words.specs.Flat.{flat}
use Rattle.words.specs.Table.{tab, slot_used}
use Rattle.words.specs.Words.{word_at}
use Rattle.words.specs.Rows.{none, row_from, row_at}
use Rattle.words.proofs.RowsLaws.{row_there}
use Rattle.words.specs.declared.Queue.{Queue}
use Rattle.chain.specs.Record.{row_of, work_of}
use Rattle.chain.specs.Checks.{Field, ticks, row_fields, fields, FirstOver}
use Rattle.chainfile.specs.File.{count_of, queues_at, nodes_at, chain_of}
use Rattle.chainfile.specs.Accepted.{Placed}

-- each field of a list is the word that stands at its place
unfoldable pub There : List ℕ → List Field → Type 0
There f [] = Unit
There f (x ∷ xs) = (x.value ≡ word_at f x.place) × There f xs

there_append : (f : List ℕ) (a b : List Field) → There f a → There f b → There f (a ++ b)
unfolding There
there_append f [] b h k = k
there_append f (x ∷ a) b h k = (h.0, there_append f a b h.1 k)

there_flat : (f : List ℕ) (g : ℕ → List Field) (n : ℕ) → ((i : ℕ) → i < n → There f (g i)) → There f (flat g n)
unfolding There flat
there_flat f g zero h = tt
there_flat f g (suc n) h = there_append f (flat g n) (g n) (there_flat f g n (λ i l. h i (omega arith))) (h n (omega arith))

there_tab : (f : List ℕ) (g : ℕ → Field) (n : ℕ) → ((i : ℕ) → i < n → (g i).value ≡ word_at f (g i).place) → There f (tab n g)
unfolding There tab
there_tab f g zero h = tt
there_tab f g (suc n) h = (h 0 (omega arith), there_tab f (λ i. g (suc i)) n (λ i l. h (suc i) (omega arith)))

-- the rows and times of the record are those that stand in the file's tables
module _ (f : List ℕ) (p : Placed f) where
  row_is : (i : ℕ) → i < count_of f → row_of (chain_of f) i ≡ row_from f (queues_at f + 20 * i)
  unfolding chain_of
  row_is i l =
      slot_used (λ j. row_at f (queues_at f + 20 * j)) none 16 (count_of f) i none (omega (arith, p.count.1)) l
      ∙ row_there f (queues_at f + 20 * i) (omega (arith, p.queues.1.1))

  time_is : (i : ℕ) → i < count_of f → work_of (chain_of f) i ≡ word_at f (nodes_at f + 4 * i)
  unfolding chain_of
  time_is i l = slot_used (λ j. word_at f (nodes_at f + 4 * j)) 0 16 (count_of f) i 0 (omega (arith, p.count.1)) l

  pub field_there : There f (fields (chain_of f) (queues_at f) (nodes_at f))
  unfolding There fields row_fields chain_of
  field_there = (
    refl,
    there_append f (flat row (count_of f)) (tab (count_of f) time)
        (there_flat f row (count_of f) (λ i l. rw (row_is i l) (refl, (refl, (refl, (refl, (refl, tt))))))) (there_tab f time (count_of f) time_is),
  )
    where
      row : ℕ → List Field
      row i = row_fields (row_of (chain_of f) i) (queues_at f + 20 * i)

      time : ℕ → Field
      time i = ticks (nodes_at f + 4 * i) (work_of (chain_of f) i)

  pub over_there : {L : ℕ} (o : FirstOver (chain_of f) (queues_at f) L) → (row_of (chain_of f) o.row).consume ≡ word_at f L
  unfolding chain_of
  over_there o = ap (λ (q : Queue). q.consume) (row_is o.row o.inside) ∙ ap (word_at f) (sym o.place)
