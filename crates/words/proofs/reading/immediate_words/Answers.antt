-- `reading::immediate_words` meets its contract: each record is that of the values in its eleven bytes. Assumes nothing.
use mathlib.Core.Path.{◌≡◌, ap, ap₂, ◌∙◌}
use Rattle.records.specs.declared.named.String1.{String1}
use Rattle.records.specs.declared.named.String2.{String2}
use Rattle.records.specs.declared.named.String3.{String3}
use Rattle.records.specs.declared.named.String4.{String4}
use Rattle.records.specs.declared.named.ImmediateWords.{ImmediateWords}
use Rattle.records.specs.Records.{string1_of, string2_of, string3_of, string4_of}
use Rattle.words.specs.Immediate.{immediate_of}
use Rattle.words.proofs.reading.immediate_words.Goals as goal

abbrev together : String1 → String2 → String3 → String4 → ImmediateWords
together a b c d = record { one = a; two = b; three = c; four = d }

together_same : {a a' : String1} {b b' : String2} {c c' : String3} {d d' : String4} → a ≡ a' → b ≡ b' → c ≡ c' → d ≡ d'
    → together a b c d ≡ together a' b' c' d'
together_same {a' = a'} {b' = b'} {c = c} {d = d} p q r s =
    ap₂ (λ (x : String1) (y : String2). together x y c d) p q ∙ ap₂ (λ (x : String3) (y : String4). together a' b' x y) r s

pub returns : goal.returns
unfolding immediate_of
returns c =
    together_same
    (c.string1_of.ensures ∙ ap string1_of c.values_in.ensures)
    (c.string2_of.ensures ∙ ap string2_of c.values_in-2.ensures)
    (c.string3_of.ensures ∙ ap string3_of c.values_in-3.ensures)
    (c.string4_of.ensures ∙ ap string4_of c.values_in-4.ensures)
