-- The encoder's answers, test by test: "Encoder (plain form, checked): 12, 11, 10".
-- Assumes nothing.
use mathlib.Core.Path.{◌≡◌, refl, ap, ◌∙◌}
use mathlib.Core.Bool.{true, false, not}
use mathlib.Core.List.{List}
use Prim.Native.Nat.{ℕ}
use lib.ListN.{length}
use borrow.Author.Tests.{eq-eqb, ne_eqb}
use Rattle.strings.specs.declared.Refusal.TheVariants.{Room, Place, Range}
use Rattle.std.specs.Prelude.{Ok, Err}
use Rattle.strings.specs.Number.{bytes_of_string}
use Rattle.strings.proofs.Shape.{has_room_lem, no_room_lem}
use Rattle.strings.proofs.Answer.{refuses, goes_on, takes}
use Rattle.records.specs.declared.named.Record.{Record}
use Rattle.layout.specs.Layout.{layout, of_kind}
use Rattle.words.specs.Values.{first_bad}
use Rattle.records.specs.Records.{kind_of, list_of}
use Rattle.words.specs.Calls.{Writes, string_of}

module _ (m : ℕ) (r : Record) (out : List ℕ) where
  pub write_no_room : (length out ≡ 11 → ⊥) → Writes m r out (Err Room) out
  unfolding Writes
  write_no_room h = refuses 11 (no_room_lem out h)

  module _ (h : length out ≡ 11) where
    pub write_no_place : of_kind (kind_of r) m ≡ false → Writes m r out (Err Place) out
    unfolding Writes
    write_no_place o = goes_on 12 (has_room_lem out h) (refuses 10 (ap not o))

    module _ (o : of_kind (kind_of r) m ≡ true) where
      pub write_no_range : (p : ℕ) → p ≡ first_bad (layout (kind_of r)) (list_of r) → (p ≡ 0 → ⊥) → Writes m r out (Err (Range p)) out
      unfolding Writes
      write_no_range p e z =
          rw e (goes_on 12 (has_room_lem out h) (goes_on 11 (ap not o) (refuses 9 (ap not (ne_eqb _ 0 (λ q. z (e ∙ q)))))))

      pub write_done : first_bad (layout (kind_of r)) (list_of r) ≡ 0 → Writes m r out (Ok tt) (bytes_of_string (string_of m r))
      unfolding Writes
      write_done e = goes_on 12 (has_room_lem out h) (goes_on 11 (ap not o) (goes_on 10 (ap not (eq-eqb _ 0 e)) (takes refl refl)))
