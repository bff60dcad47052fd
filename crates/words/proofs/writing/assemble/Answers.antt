-- `writing::assemble` meets its contract. Assumes nothing.
use mathlib.Core.Path.{◌≡◌, ap, ◌∙◌}
use mathlib.Core.List.{List}
use Prim.Native.Nat.{ℕ, ◌+◌, ◌*◌, ◌^◌}
use native.Mathlib.Omega.{arith}
use Rattle.strings.specs.Number.{value_of, bytes_of, bytes_of_string}
use Rattle.layout.specs.Layout.{layout}
use Rattle.words.specs.Values.{data_of}
use Rattle.words.proofs.Carrying.{bytes_add}
use Rattle.words.proofs.writing.assemble.Goals as goal

pub returns : goal.returns
unfolding bytes_of_string
returns c =
    let a = c.args in
    let d = data_of (layout a.k) a.v in
    let e : 0 + a.m * 2 ^ 83 + d * 8 ≡ (a.m * 2 ^ 80 + d) * 8 = omega arith in
    c.put_words.ensures
    ∙ ap (λ (o : List ℕ). bytes_of 11 (value_of o + d * 8)) c.add_at.ensures
    ∙ bytes_add 11 (0 + a.m * 2 ^ 83) (d * 8) ∙ ap (bytes_of 11) e
