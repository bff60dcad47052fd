-- The months of four years, the first of them a leap year, as the code has them in its table: on which day each begins, counted from 0. That it is the
-- calendar's is proved from the lengths of the months (proofs/Months.antt).
-- Assumes nothing.
use Rattle.std.specs.Prelude.{ℕ, suc, ◌≤◌, ◌<◌, List, [], ◌∷◌, get_or}

unfoldable pub starts : List ℕ
starts =
    0 ∷ 31 ∷ 60 ∷ 91 ∷ 121 ∷ 152 ∷ 182 ∷ 213 ∷ 244 ∷ 274 ∷ 305 ∷ 335
    ∷ 366 ∷ 397 ∷ 425 ∷ 456 ∷ 486 ∷ 517 ∷ 547 ∷ 578 ∷ 609 ∷ 639 ∷ 670 ∷ 700
    ∷ 731 ∷ 762 ∷ 790 ∷ 821 ∷ 851 ∷ 882 ∷ 912 ∷ 943 ∷ 974 ∷ 1004 ∷ 1035 ∷ 1065
    ∷ 1096 ∷ 1127 ∷ 1155 ∷ 1186 ∷ 1216 ∷ 1247 ∷ 1277 ∷ 1308 ∷ 1339 ∷ 1369 ∷ 1400 ∷ 1430
    ∷ 1461 ∷ []

abbrev pub start_of : ℕ → ℕ
start_of i = get_or starts i 0

-- month i of the 48 has this day
pub record IsMonth (day i : ℕ) : Type 0 where
  pub one_of_48 : i < 48
  pub from : start_of i ≤ day
  pub before_next : day < start_of (suc i)
