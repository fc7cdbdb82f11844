-- What of a file the reader and the report look at: the length, the header, and the bytes of the two tables.
--   f, g                     the bytes of two files
--   o, p, v, a, b            lent bytes before a report and after it, and its answers
--   Word f at v, InQueues n q i, InNodes n w i
--                            the word of f at byte `at`; byte i is in the queue table, in the node table (FileInBytes)
--   header_decides           a file refused 1, 2 or 3 is refused for its length and its header alone
--   reads_alike              "Bytes in neither header nor table are ignored", of the reader
--   reports_alike            files that are read alike are reported on alike
--   report_ignored           so "Bytes in neither header nor table are ignored", of the report
use Rattle.std.specs.Prelude.{◌≡◌, refl, ◌⊎◌, List, ℕ, zero, suc, ◌+◌, ◌≤◌, ◌<◌, length, get_or}
use Rattle.std.proofs.Common.{sym, ap, subst, ◌∙◌, inl, inr, arith, ne_eqb}
use Rattle.std.proofs.Math.Logic.{by_cases}
use Rattle.std.proofs.Math.Decide.{ℕ_discrete}
use Rattle.ardenquill.specs.Chains.{refused, or_else, first, Silent, answered, refused_alike}
use Rattle.ardenquill.specs.Files.{word_at, word_alike, chain_of, read_refusal, read_answer, read_1, read_2, read_3, ignored, room_check, Output}
use Rattle.ardenquill.specs.Analyses.{analysis_of, size_checks}
use Rattle.ardenquill.specs.Reports.{text_of, report_text, size_refusal, report_refusal, report_parts, report_as_read}
use Rattle.ardenquill.specs.Records.{Refusal, Chain, ChainAnswer, LengthAnswer}
use Rattle.promises.specs.FileInBytes.{Word, InQueues, InNodes, word_out, read_says, answer_refusal, answer_chain}

-- files that are refused alike are answered alike
refused_answer : (f g : List ℕ) → read_refusal f ≡ read_refusal g → (Silent (read_refusal g) → ⊥) → read_answer f ≡ read_answer g
unfolding read_answer
refused_answer f g e n = ap (λ (r : Refusal). answered r (chain_of f)) e ∙ refused_alike (read_refusal g) (chain_of f) (chain_of g) n

-- files of one length
module _ (f g : List ℕ) (long : length f ≡ length g) where
  -- 1, 2 and 3 are of the length and "the header": a file that is refused so is answered as every other of its length that begins with the same 20 bytes
  pub header_decides : ((i : ℕ) → i < 20 → get_or f i 0 ≡ get_or g i 0) → 1 ≤ (read_answer f).number → (read_answer f).number ≤ 3 → read_answer f ≡ read_answer g
  header_decides same some few = by (read_answer f).number (read_answer f).place ((read_says f _ _).0 (refl, refl)) some few
    where
      word : (at : ℕ) → at + 4 ≤ 20 → word_at f at ≡ word_at g at
      word at l = word_alike f g at long (λ i m k. same i (omega arith))

      alike : (N L : ℕ) → read_refusal f ≡ refused N L → 1 ≤ N → read_refusal g ≡ refused N L → read_answer f ≡ read_answer g
      alike N L e some d = refused_answer f g (e ∙ sym d) (λ z. omega (arith, ap (λ (r : Refusal). r.number) d, z))

      by : (N L : ℕ) → read_refusal f ≡ refused N L → 1 ≤ N → N ≤ 3 → read_answer f ≡ read_answer g
      by zero L e a b = absurd (omega arith)
      by (suc zero) L e a b = alike 1 L e a ((read_1 g L).1 (rw (long, word 16 (omega arith)) at ((read_1 f L).0 e)))
      by (suc (suc zero)) L e a b = alike 2 L e a ((read_2 g L).1 (rw (long, word 0 (omega arith), word 16 (omega arith)) at ((read_2 f L).0 e)))
      by (suc (suc (suc zero))) L e a b = alike 3 L e a ((read_3 g L).1 (rw (long, word 0 (omega arith), word 8 (omega arith), word 12 (omega arith), word 16 (omega arith)) at ((read_3 f L).0 e)))
      by (suc (suc (suc (suc N)))) L e a b = absurd (omega arith)

  -- "Bytes in neither header nor table are ignored": files that agree in the others are read alike
  pub reads_alike : {n q w : ℕ} → Word f 0 n → Word f 8 q → Word f 12 w → ((i : ℕ) → (i < 20) ⊎ (InQueues n q i ⊎ InNodes n w i) → get_or f i 0 ≡ get_or g i 0) → read_answer f ≡ read_answer g
  reads_alike {n} {q} {w} count queues nodes same = ignored f g long (λ i l m. same i (inl m))
      (rw (word_out count, word_out queues) (λ i l m. same i (inr (inl (l, m)))))
      (rw (word_out count, word_out nodes) (λ i l m. same i (inr (inr (l, m)))))

-- a call that writes the same text under the same refusal answers and leaves the same
outputs_alike : {r s : Refusal} {t u o p v : List ℕ} {a b : LengthAnswer} → r ≡ s → t ≡ u → Output r t o p a → Output s u o v b → (a ≡ b) × (p ≡ v)
outputs_alike {r} {s} {t} {u} {o} {p} {v} {a} {b} e d x y =
    let z : Output s u o p a = subst (λ (k : Refusal). Output k u o p a) e (subst (λ (k : List ℕ). Output r k o p a) d x) in
    (z.answer ∙ sym y.answer, z.bytes ∙ sym y.bytes)

-- and so does one that is refused, whatever the text
refused_outputs : {r s : Refusal} {t u o p v : List ℕ} {a b : LengthAnswer} → r ≡ s → (Silent r → ⊥) → Output r t o p a → Output s u o v b → (a ≡ b) × (p ≡ v)
refused_outputs {r} {s} {t} {u} {o} {p} {v} {a} {b} e n x y =
    let z : Output r u o v b = subst (λ (k : Refusal). Output k u o v b) (sym e) y in
    (x.answer ∙ simp (ne_eqb _ _ n) (sym (z.answer ∙ simp (ne_eqb _ _ n))), x.bytes ∙ simp (ne_eqb _ _ n) (sym (z.bytes ∙ simp (ne_eqb _ _ n))))

-- what 6, 7 and 10 say of files that say the same chain
sizes_alike : (f g : List ℕ) (room : ℕ) → chain_of f ≡ chain_of g
    → or_else (size_refusal f) (room_check (length (report_text f)) room) ≡ or_else (size_refusal g) (room_check (length (report_text g)) room)
unfolding size_refusal
sizes_alike f g room e = ap (λ (c : Chain). or_else (first (size_checks c)) (room_check (length (text_of (analysis_of c))) room)) e

-- and files that are read alike are reported on alike, with the same answer and the same bytes
pub reports_alike : (f g o p v : List ℕ) (a b : LengthAnswer) → read_answer f ≡ read_answer g
    → Output (report_refusal f (length o)) (report_text f) o p a → Output (report_refusal g (length o)) (report_text g) o v b → (a ≡ b) × (p ≡ v)
reports_alike f g o p v a b e x y = by_cases (ℕ_discrete (read_refusal f).number 0)
    (λ z. let chains = same_chains z in outputs_alike (report_parts f room ∙ (λ i. or_else (refusals i) (sizes_alike f g room chains i)) ∙ sym (report_parts g room))
    (ap (λ (c : Chain). text_of (analysis_of c)) chains) x y)
    (λ n. refused_outputs (report_as_read f room n ∙ refusals ∙ sym (report_as_read g room (λ z. n (ap (λ (r : Refusal). r.number) refusals ∙ z))))
    (λ z. n (ap (λ (r : Refusal). r.number) (sym (report_as_read f room n)) ∙ z)) x y)
  where
    room : ℕ
    room = length o

    refusals : read_refusal f ≡ read_refusal g
    refusals = answer_refusal f ∙ ap (λ (a : ChainAnswer). refused a.number a.place) e ∙ sym (answer_refusal g)

    same_chains : Silent (read_refusal f) → chain_of f ≡ chain_of g
    same_chains z = ap (λ (a : ChainAnswer). a.chain) (sym (answer_chain f z) ∙ e ∙ answer_chain g (ap (λ (r : Refusal). r.number) (sym refusals) ∙ z))

-- "Bytes in neither header nor table are ignored", of the report
pub report_ignored : (f g o p v : List ℕ) (a b : LengthAnswer) {n q w : ℕ} → length f ≡ length g → Word f 0 n → Word f 8 q → Word f 12 w
    → ((i : ℕ) → (i < 20) ⊎ (InQueues n q i ⊎ InNodes n w i) → get_or f i 0 ≡ get_or g i 0)
    → Output (report_refusal f (length o)) (report_text f) o p a → Output (report_refusal g (length o)) (report_text g) o v b → (a ≡ b) × (p ≡ v)
report_ignored f g o p v a b long count queues nodes same = reports_alike f g o p v a b (reads_alike f g long count queues nodes same)
