-- `emptying::spineyarrow_fresh` meets its contract: the rows are filled with an empty one, and the book and the summary are stored. Assumes nothing.
use mathlib.Core.Path.{◌≡◌, ap₂, ◌∙◌}
use borrow.Author.Rules.{rules}
use lib.ListN.{length, replicate}
use Prim.Native.Nat.{ℕ}
use Rattle.station.specs.Station.{channels}
use Rattle.channel.specs.declared.Row.{Row}
use Rattle.lent_sites.proofs.Loops.{emptied_all}
use Rattle.lent_sites.proofs.emptying.spineyarrow_fresh.Goals as goal

pub returns : goal.returns
returns c =
    let long : length c.args.st.now.rows ≡ channels = search rules in
    let all = c.fill.ensures.after (λ y e. e) ∙ ap₂ (λ (n : ℕ) (r : Row). replicate n r) long c.empty_row.ensures in
    record { station = emptied_all c.fill.new.self c.empty_book-st.result all c.empty_book-st.ensures }
