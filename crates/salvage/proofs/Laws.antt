-- All that `specs/Laws.antt` says of a salvage. Assumes nothing.
use mathlib.Core.Path.{◌≡◌, sym, ◌∙◌}
use mathlib.Core.List.{List}
use Prim.Native.Nat.{ℕ}
use Rattle.salvage.specs.declared.Salvaged.{Salvaged}
use Rattle.salvage.specs.Writing.{Salvages}
use Rattle.salvage.specs.Laws.{Laws}
use Rattle.salvage.proofs.Rules.{rules, by_rules}
use Rattle.salvage.proofs.Ends.{end}
use Rattle.salvage.proofs.Parts.{parts, within, all_parts}
use Rattle.salvage.proofs.Apart.{apart, never_44, never_45}
use Rattle.salvage.proofs.Written.{sound, calls, undamaged}
use Rattle.salvage.proofs.Moved.{rest_told, goes_on, gets_on}

once : (file out list : List ℕ) (r q : Salvaged) (out' out'' list' list'' : List ℕ) → Salvages file out list r out' list'
    → Salvages file out list q out'' list'' → (r ≡ q) × ((out' ≡ out'') × (list' ≡ list''))
once file out list r q out' out'' list' list'' a b =
    (a.answer ∙ sym b.answer, (a.output ∙ sym b.output, a.listed ∙ sym b.listed))

pub laws : Laws
laws =
    record {
      rules = rules;
      by_rules = by_rules;
      within = within;
      parts = parts;
      all_parts = all_parts;
      undamaged = undamaged;
      sound = sound;
      calls = calls;
      apart = apart;
      end = end;
      never_44 = never_44;
      never_45 = never_45;
      rest = rest_told;
      goes_on = goes_on;
      gets_on = gets_on;
      once = once;
    }
