-- The writer's ways out, as its code has them, and how header and tables written one after the other make the packed file.
use mathlib.Core.Path.{◌≡◌, refl, ap, ◌∙◌}
use mathlib.Core.List.{List}
use Prim.Native.Nat.{ℕ, ◌+◌, ◌≤◌}
use native.Mathlib.Omega.{arith}
use borrow.Author.Tests.{ne_eqb}
use lib.ListN.{length}
use Rattle.std.proofs.lemmas.List.{length-take}
use Rattle.std.specs.Prelude.{Result}
use Rattle.std.proofs.Common.{Ok, Err}
use Rattle.words.specs.Put.{Puts, put_front}
use Rattle.words.specs.Writer.{Wrote, nothing, next}
use Rattle.words.specs.declared.Writer.{Writer}
use Rattle.words.specs.Flat.{flat, flat_more}
use Rattle.words.specs.Words.{bytes_of}
use Rattle.words.proofs.WordsLaws.{bytes_append, bytes_length}
use Rattle.chain.specs.Refusals.{fine, or_else, silent_as}
use Rattle.chain.specs.Checks.{chain_checks, chain_refusal}
use Rattle.chain.specs.Refusal.{Refusal}
use Rattle.chain.specs.Said.{refusal, speaks}
use Rattle.chain.proofs.SoundLaws.{sound_known}
use Rattle.chain.specs.declared.reasons.Refused.{Refused}
use Rattle.chain.specs.declared.Chain.{Chain}
use Rattle.chainfile.specs.Packed.{packed_length, header, rows, nodes, packed, packed_parts, rows_length, nodes_length, room_check, room_silent, room_last, write_refusal, length_said, written, Output}

-- a call that writes refuses, or has written
pub output_refused : {s : Refusal} {e : Refused} {r : Result ℕ Refused} (t o : List ℕ) → r ≡ Err e → refusal e ≡ s → Output s t o o (length_said r)
output_refused {s} {e} t o is h = rw (is, ← h) (record { answer = simp (ne_eqb _ _ (speaks e)); bytes = simp (ne_eqb _ _ (speaks e)) })

pub output_done : {s : Refusal} {t o p : List ℕ} {k : ℕ} → fine ≡ s → length t ≤ length o → Puts o 0 t p k → Output s t o p (length_said (Ok k))
output_done {s} {t} {o} e l w = rw (← e) (record { answer = ap written (omega (arith, w.next)); bytes = w.holds ∙ put_front o t l })

pub write_parts : (c : Chain) (room : ℕ) → write_refusal c room ≡ or_else (chain_refusal c) (room_check (packed_length c.n) room)
unfolding write_refusal chain_refusal
write_parts c room = room_last (chain_checks c) (packed_length c.n) room

-- what the checks of a call that has gone on leave to be known
pub few_known : (c : Chain) → fine ≡ chain_refusal c → c.n ≤ 16
few_known c e = (sound_known c e refl).count.1

pub room_known : (need room : ℕ) → fine ≡ room_check need room → need ≤ room
room_known need room e = (room_silent need room).0 (silent_as e refl)

-- a table written row by row
pub table_start : (w : Writer) (f : ℕ → List ℕ) → Wrote w (bytes_of (flat f 0)) w
unfolding flat bytes_of
table_start w f = nothing w

pub table_put : {u v w : Writer} (f : ℕ → List ℕ) (i : ℕ) → Wrote u (bytes_of (flat f i)) v → Wrote v (bytes_of (f i)) w → Wrote u (bytes_of (flat f (i + 1))) w
table_put f i p q = rw (flat_more f i, bytes_append (flat f i) (f i)) (next p q)

-- by these the check proves that there is room for what is still to be written
pub ruleset tables = (table_start, bytes_length, rows_length, nodes_length, length-take)

-- header, queue table and node table written one after the other are the packed file
pub file_put : {u v w x : Writer} (c : Chain) → Wrote u (bytes_of (header c.n c.period)) v → Wrote v (bytes_of (rows c c.n)) w → Wrote w (bytes_of (nodes c c.n)) x → Wrote u (packed c) x
file_put c p q r = rw (packed_parts c) (next p (next q r))
