-- `halves::even_words` meets its contract: the three additions write the number (half-number), and its words are read. Assumes nothing.
use mathlib.Core.Path.{ap, ◌∙◌}
use native.Mathlib.Omega.{arith}
use Prim.Native.Nat.{ℕ}
use Rattle.records.specs.declared.kinds.Kind.TheVariants.{Even}
use Rattle.layout.specs.Layout.{layout}
use Rattle.words.specs.Values.{values_of}
use Rattle.records.specs.Records.{even_of}
use Rattle.book.specs.Entry.{even_words}
use Rattle.book.proofs.Additions.{half_number}
use Rattle.book.proofs.halves.even_words.Goals as goal

pub returns : goal.returns
unfolding even_words
returns c =
    let e = c.args.e in
    -- the widths of the fields, in their order
    let w = c.struct_known-1.given in
    let n =
    half_number 8 e.etop e.even _ _ _ (omega arith) w.1.1.1.0.fits w.0.fits
    c.add_at.ensures c.add_at-2.ensures c.add_at-3.ensures in
    c.even_of.ensures ∙ ap even_of (c.values_in.ensures ∙ ap (λ (x : ℕ). values_of x (layout Even)) n)
