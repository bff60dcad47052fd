-- `taking::spineyarrow_field` meets its contract: what the field asks is read from the block; where that is a call, the station is lent again to
-- `spineyarrow_offer` or to `spineyarrow_reset`, whose answer stands above the lowest byte, and fits there.
-- Assumes nothing.
use Prim.Native.Nat.{ℕ, ◌<◌, ◌^◌}
use mathlib.Core.List.{List}
use mathlib.Core.Path.{◌≡◌, subst}
use native.Mathlib.Omega.{arith}
use Rattle.lent.proofs.Laws.{laws}
use Rattle.lent_blocks.specs.declared.asking.Asked.{Asked}
use Rattle.lent_blocks.specs.Asking.{Asks}
use Rattle.lent_blocks.proofs.Told.{lent_offer, lent_reset, lent_none}
use Rattle.lent_blocks.proofs.taking.spineyarrow_field.Goals as goal

-- what is asked, in the variant that it is
as_asked : {block : List ℕ} {at : ℕ} {x y : Asked} → x ≡ y → Asks block at x → Asks block at y
as_asked {block} {at} e a = subst (λ (r : Asked). Asks block at r) e a

six : (c : goal.After-spineyarrow_offer) → c.spineyarrow_offer.result < 2 ^ 48
six c =
    let a = c.args in
    laws.six_bytes a.st.now a.card _ _ c.symbols_at.result.now c.spineyarrow_offer.new.st c.spineyarrow_offer.result c.spineyarrow_offer.ensures

pub overflow_mul-result : goal.overflow_mul-result
overflow_mul-result c = omega (arith, six c)

pub overflow_add-result : goal.overflow_add-result
overflow_add-result c = omega (arith, six c)

pub returns-in-Offer : goal.returns-in-Offer
returns-in-Offer c = lent_offer (as_asked c.in-Offer.is c.asked_at-asked.ensures) c.symbols_at.ensures c.spineyarrow_offer.ensures

pub returns-in-Reset : goal.returns-in-Reset
returns-in-Reset c = lent_reset (as_asked c.in-Reset.is c.asked_at-asked.ensures) c.spineyarrow_reset.ensures

pub returns-in-No : goal.returns-in-No
returns-in-No c = lent_none (as_asked c.in-No.is c.asked_at-asked.ensures)
