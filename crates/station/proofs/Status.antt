-- C of an entry, the top bit of its even half, where it stands in the struct.
-- Assumes nothing.
use mathlib.Core.Path.{◌≡◌, sym, ap, ◌∙◌}
use Prim.Native.Nat.{ℕ, ◌*◌, ◌/◌, ◌%◌, ◌^◌, ◌<◌}
use lib.Pow.{high, shl-shr, shr-shr}
use Rattle.strings.specs.Number.{word_of}
use Rattle.book.specs.declared.Entry.{Entry}
use Rattle.book.specs.Entry.{meaning}
use Rattle.station.specs.Queries.{status_of}

-- bit 80 of the even string is the highest of etop's eight bits, where the other part keeps its width
pub status_is : (e : Entry) → e.even < 2 ^ 64 → status_of (meaning e) ≡ e.etop / 128 % 2
unfolding word_of
status_is e h =
    let n = (meaning e).even in
    ap (λ (x : ℕ). x % 2)
    (sym (shr-shr (n * 2 ^ 8) 8 71) ∙ ap (λ (x : ℕ). x / 2 ^ 71) (shl-shr n 8) ∙ sym (shr-shr n 64 7) ∙ ap (λ (x : ℕ). x / 2 ^ 7) (high e.etop 64 h))
