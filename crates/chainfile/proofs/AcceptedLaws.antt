-- Laws of specs/Accepted.antt that rest on a definition which an edit of must-fail/ changes.
-- What the reader and the writer accept, both ways.
--   Placed f, placed       what 1, 2 and 3 leave to be known: the count, the length, the total word, where the tables stand
--   read_accepts           the reader accepts exactly such a file
--   read_fine, write_fine  a call that is silent answers number 0 with place 0
use Rattle.std.proofs.Math.Logic.Iff
use Rattle.std.specs.Prelude.{◌≡◌, refl, Bool, false, ◌↔◌, List, [], ◌∷◌, ℕ, ◌+◌, ◌*◌, length}
use Rattle.std.proofs.Common.{arith}
use Rattle.chain.specs.Refusals.{fine, test, first, Silent, Silents, silent_as, first_fine, first_silent, test_silent}
use Rattle.chain.specs.Checks.{count_check}
use Rattle.chain.proofs.ChecksLaws.{count_silent}
use Rattle.chain.specs.Sound.{Sound}
use Rattle.chain.proofs.SoundLaws.{sound_is}
use Rattle.chain.specs.Refusal.{Refusal}
use Rattle.chainfile.specs.File.{count_of, queues_at, nodes_at, chain_of, length_check, bad_table, offset_tests}
use Rattle.chainfile.specs.File.{offset_check, file_offsets, file_range, file_order, read_checks, header_refusal}
use Rattle.chainfile.specs.File.{read_refusal, length_silent, GoodTable}
use Rattle.chainfile.proofs.FileLaws.{good_table, overlap_false}
use Rattle.chainfile.specs.Accepted.{Placed, AcceptedFile}

pub placed : {r : Refusal} (f : List ℕ) → r ≡ header_refusal f → Silent r → Placed f
unfolding header_refusal Silents offset_check
placed f e z = record {
  count = (count_silent (count_of f)).0 h.1.0;
  long = ((length_silent f).0 h.0).0;
  total = ((length_silent f).0 h.0).1;
  queues = good 8 (queues_at f) (queues_at f + 20 * count_of f) o.0;
  nodes = good 12 (nodes_at f) (nodes_at f + 4 * count_of f) o.1.0;
}
  where
    h : Silents (length_check f ∷ count_check (count_of f) ∷ file_offsets f ∷ [])
    h = (first_silent (length_check f ∷ count_check (count_of f) ∷ file_offsets f ∷ [])).0 (silent_as e z)

    o : Silents (offset_tests (length f) (count_of f) (queues_at f) (nodes_at f))
    o = (first_silent (offset_tests (length f) (count_of f) (queues_at f) (nodes_at f))).0 h.1.1.0

    good : (P at end : ℕ) → Silent (test 3 P (bad_table (length f) at end)) → GoodTable (length f) at end
    good P at end s = (good_table (length f) at end).0 ((test_silent 3 P (λ e. omega arith) _).0 s)

pub read_accepts : (f : List ℕ) → Silent (read_refusal f) ↔ AcceptedFile f
unfolding read_refusal header_refusal offset_check chain_of Silents
read_accepts f = Iff.trans (first_silent (read_checks f)) (out, back)
  where
    offsets : List Refusal
    offsets = offset_tests (length f) (count_of f) (queues_at f) (nodes_at f)

    own : Silents (count_check (count_of f) ∷ file_range f ∷ file_order f ∷ []) ↔ Sound (chain_of f)
    own = sound_is (chain_of f) (queues_at f) (nodes_at f)

    passes : (P : ℕ) (wrong : Bool) → Silent (test 3 P wrong) ↔ (wrong ≡ false)
    passes P wrong = test_silent 3 P (λ e. omega arith) wrong

    good : (P at end : ℕ) → GoodTable (length f) at end → Silent (test 3 P (bad_table (length f) at end))
    good P at end g = (passes P _).1 ((good_table (length f) at end).1 g)

    out : Silents (read_checks f) → AcceptedFile f
    out h = record {
      places = placed f refl ((first_silent (length_check f ∷ count_check (count_of f) ∷ first offsets ∷ [])).1 (h.0, (h.1.0, (h.1.1.0, tt))));
      apart = (overlap_false (count_of f) (queues_at f) (nodes_at f)).0 ((passes 12 _).0 ((first_silent offsets).0 h.1.1.0).1.1.0);
      chain = own.0 (h.1.0, h.1.1.1);
    }

    back : AcceptedFile f → Silents (read_checks f)
    back a =
        let p = a.places in
        let s = own.1 a.chain in (
          (length_silent f).1 (p.long, p.total),
          (s.0, ((first_silent offsets).1 (good 8 _ _ p.queues, (good 12 _ _ p.nodes, ((passes 12 _).1 ((overlap_false (count_of f) (queues_at f) (nodes_at f)).1 a.apart), tt))), s.1)),
        )

-- a call that is silent answers number 0 with place 0
pub read_fine : (f : List ℕ) → Silent (read_refusal f) → read_refusal f ≡ fine
unfolding read_refusal
read_fine f z = first_fine (read_checks f) z
