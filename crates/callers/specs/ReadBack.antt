-- What a caller of `read_back` learns, from the contracts of the two calls alone.
--   c, o, p, r               a chain, lent bytes before and after, and the answer of read_back
--   answered e d             the answer of a call that makes a chain: the refusal e with an empty chain, or d where e is silent (Chains)
--   ReadBack c o p r         r is the writer's refusal, or the chain with its slots past n zero; o becomes p, the packed file first and every byte past it as it
--                            was, or stays as it was where the writer refuses
--   back_refused, back_read  the two cases, as code has them
use Rattle.std.specs.Prelude.{◌≡◌, cond, ◌≢◌, List, ◌++◌, ℕ, eqb, length, take, drop}
use Rattle.std.proofs.Math.Path.{sym, ap}
use Rattle.std.proofs.Common.{◌∙◌, ne_eqb}
use Rattle.ardenquill.specs.Chains.{fine, Silent, first_fine, empty_chain, trimmed, answered}
use Rattle.ardenquill.specs.Files.{read_answer, packed_length, packed, packed_length_law, write_checks, write_refusal, Output, output_fine}
use Rattle.ardenquill.specs.Records.{Refusal, Chain, ChainAnswer, LengthAnswer}
use Rattle.promises.specs.Demand2.{reads_back}

-- "Reading a written chain file gives the chain back"; "a refused call writes nothing in lent memory"
pub record ReadBack (c : Chain) (o p : List ℕ) (r : ChainAnswer) : Type 0 where
  pub answer : r ≡ answered (write_refusal c (length o)) (trimmed c)
  pub bytes : p ≡ cond (eqb (write_refusal c (length o)).number 0) (packed c ++ drop (length (packed c)) o) o

module _ (c : Chain) (o p : List ℕ) {a : LengthAnswer} (w : Output (write_refusal c (length o)) (packed c) o p a) where
  -- the writer refused
  pub back_refused : a.number ≢ 0 → ReadBack c o p (record { number = a.number; place = a.place; chain = empty_chain })
  unfolding answered
  back_refused n = record {
    answer = rw (ap (λ (x : LengthAnswer). x.number) w.answer, ap (λ (x : LengthAnswer). x.place) w.answer) (simp (ne_eqb _ _ (λ z. n (ap (λ (x : LengthAnswer). x.number) w.answer ∙ z))));
    bytes = w.bytes;
  }

  -- the writer did not, and what it wrote was read
  pub back_read : {r : ChainAnswer} → a.number ≡ 0 → r ≡ read_answer (take a.length p) → ReadBack c o p r
  unfolding answered write_refusal
  back_read z e =
      let quiet : Silent (write_refusal c (length o)) = sym (ap (λ (x : LengthAnswer). x.number) w.answer) ∙ z in
      let fine_is : write_refusal c (length o) ≡ fine = first_fine (write_checks c (length o)) quiet in
      let long : a.length ≡ packed_length c.n = ap (λ (x : LengthAnswer). x.length) (output_fine fine_is w).0 ∙ packed_length_law c in
      record { answer = e ∙ ap (λ (n : ℕ). read_answer (take n p)) long ∙ reads_back c o p a w z ∙ sym (ap (λ (x : Refusal). answered x (trimmed c)) fine_is); bytes = w.bytes }
