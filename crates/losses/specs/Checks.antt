-- 17 of a list of losses (02, Item 2), before the balance of any queue.
--   long_check l               the list is longer than 256
--   stray_test n l k, stray_check n l
--                              entry k names no queue of a chain of n, and the first such
--   list_check n l             both
--   Stray, Named n l           one of the entries names no queue, or each names one
--   LongOrStray n l            17 of the list in words
use Rattle.std.specs.Prelude.{◌⊎◌, ℕ, ◌≤◌, ◌<◌, leb, ltb}
use Rattle.words.specs.Table.{tab}
use Rattle.chain.specs.Refusals.{test, first, or_else}
use Rattle.chain.specs.Refusal.{Refusal}
use Rattle.losses.specs.Losses.{longest_list, entry_at}
use Rattle.losses.specs.declared.Losses.{Losses}

-- "a list longer than 256 .. is 17 before the balance, place 0"
abbrev pub long_check : Losses → Refusal
long_check l = test 17 0 (ltb longest_list l.count)

-- "or an entry that names no queue of the chain", of entry k
abbrev pub stray_test : ℕ → Losses → ℕ → Refusal
stray_test n l k = test 17 0 (leb n (entry_at l k).queue)

-- of the entries
unfoldable pub stray_check : ℕ → Losses → Refusal
unfolding first tab
stray_check n l = first (tab l.count (stray_test n l))

-- the length before the entries
unfoldable pub list_check : ℕ → Losses → Refusal
unfolding or_else stray_check
list_check n l = or_else (long_check l) (stray_check n l)

-- an entry names no queue of the chain
pub record Stray (n : ℕ) (l : Losses) : Type 0 where
  pub entry : ℕ
  pub listed : entry < l.count
  pub names : n ≤ (entry_at l entry).queue

-- each names one
abbrev pub Named : ℕ → Losses → Type 0
Named n l = (k : ℕ) → k < l.count → (entry_at l k).queue < n

-- 17 of the list in words
abbrev pub LongOrStray : ℕ → Losses → Type 0
LongOrStray n l = (256 < l.count) ⊎ ((l.count ≤ 256) × Stray n l)
