-- `seeing::see` meets its contract: the string is not heard, or its verdict and its number are. Assumes nothing.
use mathlib.Core.Path.{◌≡◌, ap, ap₂, subst, ◌∙◌}
use mathlib.Core.List.{List}
use Prim.Native.Nat.{ℕ}
use Rattle.words.specs.Calls.{number_in}
use Rattle.strings.specs.declared.Refusal.{Refusal}
use Rattle.strings.specs.declared.Verdict.{Verdict}
use Rattle.std.specs.Prelude.{Result}
use Rattle.hearing.specs.Hears.{Hears}
use Rattle.hearing.proofs.Hearing.{heard_not, heard_clear, heard_number, heard_verdict}
use Rattle.seen.specs.Seen.{bit_in, seen, seen_in}
use Rattle.seen.proofs.seeing.see.Goals as goal

heard_as : (s out out' : List ℕ) {x y : Result Verdict Refusal} → x ≡ y → Hears s out x out' → Hears s out y out'
heard_as s out out' e a = subst (λ (z : Result Verdict Refusal). Hears s out z out') e a

pub returns-in-Err : goal.returns-in-Err
unfolding seen_in
returns-in-Err c =
    let h = heard_as _ _ _ c.in-Err.is c.hear-heard.ensures in
    rw (heard_not _ _ _ _ h) c.nothing.ensures

pub returns-in-Ok : goal.returns-in-Ok
unfolding seen_in
returns-in-Ok c =
    let h = heard_as _ _ _ c.in-Ok.is c.hear-heard.ensures in
    rw (heard_clear _ _ _ _ h) (ap₂ (λ (bit m : ℕ). seen bit m 0) (c.bit_in.ensures ∙ ap bit_in (heard_verdict _ _ _ _ h)) (c.number_in.ensures ∙ ap number_in (heard_number _ _ _ _ h)))
