-- A taken offer's numbers, packed from the parts that `telling` makes. Assumes nothing.
use Prim.Native.Nat.{ℕ, ◌+◌, ◌*◌}
use native.Mathlib.Omega.{arith}
use mathlib.Core.Path.{◌≡◌}
use Rattle.strings.specs.declared.Verdict.{Verdict}
use Rattle.strings.specs.declared.Verdict.TheVariants.{Clean, Repaired}
use Rattle.strings.specs.Numbers.{verdict_paper}
use Rattle.channel.specs.declared.News.{News}
use Rattle.relative.specs.declared.Polarity.{Polarity}
use Rattle.relative.specs.Polarity.{polarity_number}
use Rattle.channel.specs.Offers.{news_number, answer_paper, took}
use Rattle.told.specs.Told.{packed}

-- a verdict has two
pub taken_packed : (m : ℕ) (v : Verdict) (w : News) (p : Polarity)
    → 256 * m + 65536 * packed (verdict_paper v) + 4294967296 * news_number w + 1099511627776 * polarity_number p ≡ packed (answer_paper (took m v w p))
taken_packed m Clean w p = omega arith
taken_packed m (Repaired i) w p = omega arith
