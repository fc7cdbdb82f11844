-- What the reader and the writer accept, both ways.
--   Placed f, placed       what 1, 2 and 3 leave to be known: the count, the length, the total word, where the tables stand
--   AcceptedFile f         what a file that the reader accepts is
--   write_accepts          the writer accepts exactly a sound chain that fits
--   read_fine, write_fine  a call that is silent answers number 0 with place 0
-- What is named here and not declared stands in proofs/AcceptedLaws.antt.
use Rattle.std.proofs.Math.Logic.Iff
use Rattle.std.specs.Prelude.{◌≡◌, ◌↔◌, List, [], ◌∷◌, ℕ, ◌+◌, ◌*◌, ◌≤◌, length}
use Rattle.chain.specs.Tests.{In}
use Rattle.chain.specs.Refusals.{fine, Silent, Silents, first_fine, first_silent}
use Rattle.chain.specs.Checks.{count_check, record_range, record_order}
use Rattle.chain.specs.Sound.{Sound}
use Rattle.chain.proofs.SoundLaws.{sound_is}
use Rattle.chain.specs.declared.Chain.{Chain}
use Rattle.chainfile.specs.File.{count_of, queues_at, nodes_at, total_of, chain_of}
use Rattle.chainfile.specs.File.{GoodTable, Shared}
use Rattle.chainfile.specs.Packed.{packed_length, room_silent, write_checks, write_refusal}

-- what 1, 2 and 3 leave to be known: the count, the length, the total word and where the tables stand
pub record Placed (f : List ℕ) : Type 0 where
  pub count : In 1 16 (count_of f)
  pub long : In 20 4096 (length f)
  pub total : total_of f ≡ length f
  pub queues : GoodTable (length f) (queues_at f) (queues_at f + 20 * count_of f)
  pub nodes : GoodTable (length f) (nodes_at f) (nodes_at f + 4 * count_of f)

-- what a file that the reader accepts is: its tables stand well and apart, and what it says is a sound chain
pub record AcceptedFile (f : List ℕ) : Type 0 where
  pub places : Placed f
  pub apart : Shared (queues_at f) (queues_at f + 20 * count_of f) (nodes_at f) (nodes_at f + 4 * count_of f) → ⊥
  pub chain : Sound (chain_of f)

pub write_accepts : (c : Chain) (room : ℕ) → Silent (write_refusal c room) ↔ (Sound c × (packed_length c.n ≤ room))
unfolding write_refusal Silents
write_accepts c room = Iff.trans (first_silent (write_checks c room)) (out, back)
  where
    own : Silents (count_check c.n ∷ record_range c ∷ record_order c ∷ []) ↔ Sound c
    own = sound_is c 20 (20 + 20 * c.n)

    out : Silents (write_checks c room) → Sound c × (packed_length c.n ≤ room)
    out h = (own.0 (h.0, (h.1.0, (h.1.1.0, tt))), (room_silent (packed_length c.n) room).0 h.1.1.1.0)

    back : Sound c × (packed_length c.n ≤ room) → Silents (write_checks c room)
    back h = let s = own.1 h.0 in (s.0, (s.1.0, (s.1.1.0, ((room_silent (packed_length c.n) room).1 h.1, tt))))

pub write_fine : (c : Chain) (room : ℕ) → Silent (write_refusal c room) → write_refusal c room ≡ fine
unfolding write_refusal
write_fine c room z = first_fine (write_checks c room) z
