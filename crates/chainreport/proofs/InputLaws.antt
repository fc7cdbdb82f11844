-- Laws of specs/Input.antt that rest on a definition which an edit of must-fail/ changes.
-- How much of its input the program has to hold (01, Report program: "reads a chain file from standard input").
--   longest_passes   there is one of that length; of longer ones there is none (prints_too_long)
--   prints_too_long  of an input above that length the line of 1 at 0 is printed
--   front_enough     so a front above that length tells what is to be printed of the whole input
--   loses_nothing   what a read that fails leaves, byte by byte
--   answers_inputs   so a text answers exactly when it is what is to be printed of every input that was read into b so
use Rattle.std.specs.Prelude.{◌≡◌, refl, ◌↔◌, List, ◌∷◌, ◌++◌, ℕ, ◌+◌, ◌*◌, ◌≤◌, ◌<◌, min, length, get_or, take, replicate, ◌-◌, Some}
use Rattle.std.proofs.Common.{sym, ap, ◌∙◌, inl, inr, arith, lit≤, length-take, length-take-le, length-append, take_all, get_or-take, ext_get_or}
use Rattle.std.proofs.Math.Logic.{by_cases}
use Rattle.std.proofs.Math.ListN.{get_or-append}
use Rattle.std.proofs.lemmas.List.{get_or-append-add}
use Rattle.std.proofs.Math.Decide.{dec_lt}
use Rattle.promises.specs.FileInBytes.{Word, Header, read_length, header_known}
use Rattle.promises.specs.Columns.{IsRefusal, refusal_is}
use Rattle.chainreport.specs.Printed.{printed}
use Rattle.chainreport.proofs.PrintedInColumnsLaws.{prints_as_read}
use Rattle.chainreport.specs.Input.{longest_file, LetPass, Holds, LosesNothing, Answers, ReadInto}

-- zeros but for the total word, which is 4,096
pub longest_passes : LetPass longest_file
longest_passes = record { file = f; long = refl; not_1 = (header_known f).1 (record { n = 0; y = 0; q = 0; w = 0; is = record { long = (lit≤ tt, lit≤ tt); words = words } }) }
  where
    f : List ℕ
    f = replicate 17 0 ++ (16 ∷ replicate 4078 0)

    word : (at : ℕ) → at + 4 ≤ 4096 → Word f at (get_or f at 0 + 256 * get_or f (at + 1) 0 + 65536 * get_or f (at + 2) 0 + 16777216 * get_or f (at + 3) 0)
    word at l = record { inside = l; is = refl }

    words : Header f 0 0 0 0 4096
    words = record { count = word 0 (omega arith); period = word 4 (omega arith); queues = word 8 (omega arith); nodes = word 12 (omega arith); total = word 16 (omega arith) }

pub prints_too_long : (f : List ℕ) → longest_file < length f → IsRefusal 1 0 (printed f)
prints_too_long f l =
    let read = (read_length f 0).1 (inr (inl l), refl) in
    rw (← read.0, ← read.1) (prints_as_read f (λ z. omega (arith, sym read.0 ∙ z)))

pub front_enough : (i : List ℕ) (m : ℕ) → longest_file < m → printed (take m i) ≡ printed i
front_enough i m l = by_cases (dec_lt m (length i)) over (λ fits. ap printed (take_all m i (omega (arith, fits))))
  where
    over : m < length i → printed (take m i) ≡ printed i
    over k =
        let front = prints_too_long (take m i) (omega (arith, length-take-le m i (omega arith))) in
        (refusal_is 1 0 _).0 front ∙ sym ((refusal_is 1 0 _).0 (prints_too_long i (omega arith)))

-- which is what it is to hold an input
read_into_is : (i b : List ℕ) (n : ℕ) → n ≤ length b → Holds i b n ↔ ReadInto i b n
read_into_is i b n l = (out, back)
  where
    front : length (take n b) ≡ n
    front = length-take-le n b l

    room : length (take (length b) i) ≡ min (length b) (length i)
    room = length-take (length b) i

    out : Holds i b n → ReadInto i b n
    out h =
        let count : n ≡ min (length b) (length i) = sym front ∙ ap length h ∙ room in
        record {
          bytes = λ k m. sym (get_or-take n b k 0 m) ∙ ap (λ (t : List ℕ). get_or t k 0) h ∙ get_or-take (length b) i k 0 (omega arith);
          within = omega (arith, count);
          rest = λ m. omega (arith, count);
        }

    back : ReadInto i b n → Holds i b n
    back r =
        let count : n ≡ min (length b) (length i) =
        by_cases (dec_lt n (length i)) (λ m. omega (arith, r.rest m)) (λ all. omega (arith, r.within, all)) in
        ext_get_or 0 (take n b) (take (length b) i) (front ∙ count ∙ sym room)
        (λ k m. get_or-take n b k 0 (omega (arith, front)) ∙ r.bytes k (omega (arith, front)) ∙ sym (get_or-take (length b) i k 0 (omega (arith, front))))

pub answers_inputs : (b t : List ℕ) (n : ℕ) → n ≤ length b → Answers b n t ↔ ((i : List ℕ) → ReadInto i b n → t ≡ printed i)
answers_inputs b t n l = (λ a i r. a i ((read_into_is i b n l).1 r), λ a i h. a i ((read_into_is i b n l).0 h))

-- of a known input i, r is what is left behind a front, and that front stands byte by byte at the front of b
pub loses_nothing : (i r b : List ℕ) → LosesNothing (Some i) (Some r) b
    → (length r ≤ length i) × (((k : ℕ) → k + length r < length i → get_or i k 0 ≡ get_or b k 0) × ((k : ℕ) → get_or i ((length i - length r) + k) 0 ≡ get_or r k 0))
loses_nothing i r b (n, (fits, e)) = (omega (arith, long), (front, behind))
  where
    long : length i ≡ n + length r
    long = ap length e ∙ length-append (take n b) r ∙ ap (λ (m : ℕ). m + length r) (length-take-le n b fits)

    front : (k : ℕ) → k + length r < length i → get_or i k 0 ≡ get_or b k 0
    front k l =
        let inside : k < length (take n b) = omega (arith, long, length-take-le n b fits) in
        ap (λ (t : List ℕ). get_or t k 0) e ∙ get_or-append (take n b) r 0 k inside ∙ get_or-take n b k 0 (omega (arith, long))

    behind : (k : ℕ) → get_or i ((length i - length r) + k) 0 ≡ get_or r k 0
    behind k =
        let at : (length i - length r) + k ≡ length (take n b) + k = omega (arith, long, length-take-le n b fits) in
        ap (λ (m : ℕ). get_or i m 0) at ∙ ap (λ (t : List ℕ). get_or t (length (take n b) + k) 0) e ∙ get_or-append-add (take n b) r k 0
