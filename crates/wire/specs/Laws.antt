-- What holds of every book and of every 480 bytes. Proved as `laws` in `proofs/Laws.antt`.
-- Assumes nothing.
use Rattle.std.specs.Prelude.{ℕ, ◌-◌, ◌*◌, ◌≤◌, List, ◌≡◌, length, take, drop}
use Rattle.strings.specs.Number.{Bytes}
use Rattle.book.specs.declared.Book.{Book}
use Rattle.book.specs.Entry.{meaning}
use Rattle.book.specs.Book.{slots, in_slot, IsBook}
use Rattle.wire.specs.Bytes.{entry_bytes, book_bytes, book_from}

-- 480 bytes
pub record Sent (s : List ℕ) : Type 0 where
  pub long : length s ≡ 480
  pub bytes : Bytes s

pub record Laws : Type 0 where
  -- every book is 480 bytes
  pub long : (b : Book) → length b.entries ≡ slots → Sent (book_bytes b)
  -- nothing is lost, and what was sent is read back
  pub back : (b : Book) → IsBook b → book_from (book_bytes b) ≡ b
  -- any 480 bytes have a meaning, and no two the same
  pub means : (s : List ℕ) → Sent s → IsBook (book_from s)
  pub forth : (s : List ℕ) → Sent s → book_bytes (book_from s) ≡ s
  -- slot k has its twenty bytes behind those of the slots before it
  pub slot : (b : Book) (k : ℕ) → length b.entries ≡ slots → 1 ≤ k → k ≤ slots → take 20 (drop ((k - 1) * 20) (book_bytes b)) ≡ entry_bytes (meaning (in_slot b k))
