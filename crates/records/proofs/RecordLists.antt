-- A record is its kind and the list of its values: what is made of a list is of the kind asked, and a record written as its list is made of it again.
-- Assumes nothing.
use mathlib.Core.Path.{◌≡◌, refl}
use mathlib.Core.List.{List}
use lib.IntN.{ℤ}
use lib.ListN.{length}
use Rattle.records.specs.declared.kinds.Kind.{Kind}
use Rattle.records.specs.declared.kinds.Kind.TheVariants.{One, Two, Three, Four, Five, Even, Odd, Fourteen}
use Rattle.records.specs.declared.named.Record.{Record}
use Rattle.records.specs.declared.named.Record.TheVariants.{One as One', Two as Two', Three as Three', Four as Four', Five as Five', Even as Even', Odd as Odd', Fourteen as Fourteen'}
use Rattle.records.specs.Records.{kind_of, list_of, record_of}

pub list_long : (r : Record) → length (list_of r) ≡ 8
unfolding list_of
list_long (One' r) = refl
list_long (Two' r) = refl
list_long (Three' r) = refl
list_long (Four' r) = refl
list_long (Five' r) = refl
list_long (Even' r) = refl
list_long (Odd' r) = refl
list_long (Fourteen' r) = refl

pub record_list : (r : Record) → record_of (kind_of r) (list_of r) ≡ r
unfolding list_of record_of
record_list (One' r) = refl
record_list (Two' r) = refl
record_list (Three' r) = refl
record_list (Four' r) = refl
record_list (Five' r) = refl
record_list (Even' r) = refl
record_list (Odd' r) = refl
record_list (Fourteen' r) = refl

pub record_kind : (k : Kind) (v : List ℤ) → kind_of (record_of k v) ≡ k
unfolding record_of
record_kind One v = refl
record_kind Two v = refl
record_kind Three v = refl
record_kind Four v = refl
record_kind Five v = refl
record_kind Even v = refl
record_kind Odd v = refl
record_kind Fourteen v = refl
